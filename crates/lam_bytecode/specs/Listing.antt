-- The text of a code: unit by unit, one operation a line.
--
-- For a function `f` of no locals that returns 1:
--   unit 0 f locals 0
--   0 const 1
--   1 ret
use Rattle.std.specs.Prelude.{ℕ, ◌+◌, List, [], ◌∷◌, ◌++◌, codes, decimal, Option, Some, None, slice_get}
use Rattle.lam_value.specs.TwoLists.{Text}
use Rattle.lam_value.specs.declared.values.Value.{Value}
use Rattle.lam_value.specs.declared.shapes.Kind.{Kind}
use Rattle.lam_value.specs.declared.shapes.Kind.TheVariants.{Int, Bool, Null}
use Rattle.lam_value.specs.Texts.{value_text}
use Rattle.lam_builtins.specs.Builtins.{row}
use Rattle.lam_bytecode.specs.declared.op.Op.{Op}
use Rattle.lam_bytecode.specs.declared.op.Op.TheVariants.{Const, Load, Store, Pop, Add, Sub, Mul, Div, Rem, Neg, Not, Eq, Ne, Lt, Le, Gt, Ge, Jump, JumpIfFalse, Call, Return, Throw, ReadBarrier, WriteBarrier, GetField, PutField, GetElement, PutElement, NewObject, NewArray, MakeLabel, NoCaps, WithPlus, WithMinus, System, EnterMonitor, LeaveMonitor, EnterRegion, LeaveRegion, Spawn}
use Rattle.lam_bytecode.specs.declared.unit.CodeUnit.{CodeUnit}
use Rattle.lam_bytecode.specs.declared.unit.UnitKind.{UnitKind}
use Rattle.lam_bytecode.specs.declared.unit.UnitKind.TheVariants.{Function, Region}
use Rattle.lam_bytecode.specs.Codes.{CodeTree}

-- a space, and what follows it
abbrev pub then_text : Text → Text
then_text t = 32 ∷ t

abbrev pub then_number : ℕ → Text
then_number n = then_text (decimal n)

abbrev pub kind_text : Kind → Text
kind_text Int = codes "int"
kind_text Bool = codes "bool"
kind_text Null = codes "null"

-- the text of a constant, if there is one of that number
abbrev pub constant_text : Option Value → Text
constant_text None = []
constant_text (Some v) = value_text [] v

-- the word of an operation
abbrev pub op_word : Op → Text
op_word (Const k) = codes "const"
op_word (Load n) = codes "load"
op_word (Store n) = codes "store"
op_word Pop = codes "pop"
op_word Add = codes "add"
op_word Sub = codes "sub"
op_word Mul = codes "mul"
op_word Div = codes "div"
op_word Rem = codes "rem"
op_word Neg = codes "neg"
op_word Not = codes "not"
op_word Eq = codes "eq"
op_word Ne = codes "ne"
op_word Lt = codes "lt"
op_word Le = codes "le"
op_word Gt = codes "gt"
op_word Ge = codes "ge"
op_word (Jump a) = codes "jump"
op_word (JumpIfFalse a) = codes "jumpf"
op_word (Call u) = codes "call"
op_word Return = codes "ret"
op_word Throw = codes "throw"
op_word (ReadBarrier d) = codes "rbar"
op_word (WriteBarrier d) = codes "wbar"
op_word (GetField f) = codes "get"
op_word (PutField f) = codes "put"
op_word GetElement = codes "geta"
op_word PutElement = codes "puta"
op_word (NewObject c) = codes "new"
op_word (NewArray k) = codes "newa"
op_word (MakeLabel p q) = codes "label"
op_word NoCaps = codes "caps0"
op_word WithPlus = codes "capp"
op_word WithMinus = codes "capm"
op_word (System b) = codes "sys"
op_word EnterMonitor = codes "menter"
op_word LeaveMonitor = codes "mleave"
op_word (EnterRegion r) = codes "enter"
op_word LeaveRegion = codes "leave"
op_word (Spawn u) = codes "spawn"

-- its operands, each after a space; of a constant its text
abbrev pub operands_text : List Value → Op → Text
operands_text cs (Const k) = then_text (constant_text (slice_get cs k))
operands_text cs (Load n) = then_number n
operands_text cs (Store n) = then_number n
operands_text cs (Jump a) = then_number a
operands_text cs (JumpIfFalse a) = then_number a
operands_text cs (Call u) = then_number u
operands_text cs (ReadBarrier d) = then_number d
operands_text cs (WriteBarrier d) = then_number d
operands_text cs (GetField f) = then_number f
operands_text cs (PutField f) = then_number f
operands_text cs (NewObject c) = then_number c
operands_text cs (NewArray k) = then_text (kind_text k)
operands_text cs (MakeLabel p q) = then_number p ++ then_number q
operands_text cs (System b) = then_text (row b).name
operands_text cs (EnterRegion r) = then_number r
operands_text cs (Spawn u) = then_number u
operands_text cs op = []

-- the line of an operation: address, word, operands
abbrev pub op_line : List Value → ℕ → Op → Text
op_line cs a op = decimal a ++ then_text (op_word op) ++ operands_text cs op ++ 10 ∷ []

abbrev pub op_lines : List Value → ℕ → List Op → Text
op_lines cs a [] = []
op_lines cs a (op ∷ ops) = op_line cs a op ++ op_lines cs (a + 1) ops

-- the first line of a unit
abbrev pub head_text : UnitKind → ℕ → Text
head_text (Function name takes gives_int) locals = then_text name ++ then_text (codes "locals") ++ then_number locals
head_text (Region region captures catch_at) locals =
    then_text (codes "region") ++ then_number region ++ then_text (codes "locals") ++ then_number locals ++ then_text (codes "catch") ++ then_number catch_at

abbrev pub unit_lines : List Value → ℕ → CodeUnit → Text
unit_lines cs n u = codes "unit" ++ then_number n ++ head_text u.kind u.locals ++ 10 ∷ op_lines cs 0 u.ops

abbrev pub units_from : List Value → ℕ → List CodeUnit → Text
units_from cs n [] = []
units_from cs n (u ∷ us) = unit_lines cs n u ++ units_from cs (n + 1) us

abbrev pub listing_text : CodeTree → Text
listing_text c = units_from c.constants 0 c.units
