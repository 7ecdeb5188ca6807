-- What a code that is written down is.
use Rattle.std.specs.Prelude.{ℕ, suc, true, List, [], ◌∷◌, map}
use Rattle.std.specs.Borrow.{Bor}
use Rattle.lam_value.specs.declared.shapes.Kind.{Kind}
use Rattle.lam_value.specs.declared.values.Value.{Value}
use Rattle.lam_value.specs.declared.values.Value.TheVariants.{Int, Bool, Bytes, Nothing}
use Rattle.lam_bytecode.specs.Codes.{CodeTree}
use Rattle.lam_bytecode.specs.declared.unit.CodeUnit.{CodeUnit}
use Rattle.lam_bytecode.specs.declared.unit.UnitKind.{UnitKind}
use Rattle.lam_bytecode.specs.declared.unit.UnitKind.TheVariants as kind
use Rattle.written_code.specs.declared.Constant.{Constant}
use Rattle.written_code.specs.declared.Constant.TheVariants as constant
use Rattle.written_code.specs.declared.UnitHead.{UnitHead}
use Rattle.written_code.specs.declared.UnitHead.TheVariants.{Function, Region}
use Rattle.written_code.specs.declared.Unit.{Unit}
use Rattle.written_code.specs.declared.Written.{Written}

-- the next region gets the number n
abbrev pub kind_of : ℕ → UnitHead → UnitKind
kind_of n (Function name takes) = kind.Function name.now takes.now true
kind_of n (Region captures catch_at) = kind.Region n captures catch_at

abbrev pub unit_of : ℕ → Unit → CodeUnit
unit_of n u = record { kind = kind_of n u.head; locals = u.locals; ops = u.ops.now }

abbrev pub number_after : ℕ → UnitHead → ℕ
number_after n (Function name takes) = n
number_after n (Region captures catch_at) = suc n

abbrev pub units_from : ℕ → List Unit → List CodeUnit
units_from n [] = []
units_from n (u ∷ us) = unit_of n u ∷ units_from (number_after n u.head) us

abbrev pub constant_of : Constant → Value
constant_of (constant.Int n) = Int n
constant_of (constant.Bool b) = Bool b
constant_of (constant.Bytes text) = Bytes text.now
constant_of constant.Nothing = Nothing

abbrev pub classes_of : List (Bor (List Kind)) → List (List Kind)
classes_of classes = map (λ (kinds : Bor (List Kind)). kinds.now) classes

-- the code that is written down: the functions give numbers, and the regions are numbered as they come
abbrev pub code_of : Written → CodeTree
code_of w = record { units = units_from 0 w.units.now; constants = map constant_of w.constants.now; classes = classes_of w.classes.now }
