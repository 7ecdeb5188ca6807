-- The types of operands and of what operators give.
use Rattle.std.specs.Prelude.{Option, Some, None}
use Rattle.lam_operators.specs.declared.BinaryOp.{BinaryOp}
use Rattle.lam_operators.specs.declared.BinaryOp.TheVariants.{Or, And, Eq, Ne, Add, Sub, Mul, Div, Rem}
use Rattle.lam_operators.specs.declared.UnaryOp.{UnaryOp}
use Rattle.lam_operators.specs.declared.UnaryOp.TheVariants.{Not, Neg}
use Rattle.lam_builtins.specs.Types.{TypeBy, int, bool}

-- the type of an operator's operands; `==` and `!=` compare
abbrev pub operand : {C : Type 0} → BinaryOp → Option (TypeBy C)
operand Or = Some bool
operand And = Some bool
operand Eq = None
operand Ne = None
operand _ = Some int

-- the type of its result
abbrev pub operator_type : {C : Type 0} → BinaryOp → TypeBy C
operator_type Add = int
operator_type Sub = int
operator_type Mul = int
operator_type Div = int
operator_type Rem = int
operator_type _ = bool

-- of a prefix operator, both
abbrev pub unary_type : {C : Type 0} → UnaryOp → TypeBy C
unary_type Not = bool
unary_type Neg = int
