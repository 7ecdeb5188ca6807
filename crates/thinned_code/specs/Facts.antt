-- What is proved of thinned code, for every code.
use Rattle.std.specs.Prelude.{◌≡◌, ◌≤◌, ℕ, List, Some, length, slice_get}
use Rattle.lam_bytecode.specs.Codes.{CodeTree, IsCode, unit_named}
use Rattle.lam_bytecode.specs.declared.unit.CodeUnit.{CodeUnit}
use Rattle.lam_bytecode.specs.declared.unit.UnitKind.{UnitKind}
use Rattle.lam_bytecode.specs.declared.unit.UnitKind.TheVariants.{Function, Region}
use Rattle.guarded_code.specs.Breaks.{IsGuarded}
use Rattle.thinned_code.specs.Thinned.{thinned}

-- thinned code has no break where the code has none
abbrev pub StaysGuarded : Type 0
StaysGuarded = (code : CodeTree) → IsGuarded code → IsGuarded (thinned code)

-- and keeps what every code keeps
abbrev pub StaysCode : Type 0
StaysCode = (code : CodeTree) → IsCode code → IsCode (thinned code)

-- the same function, or the same region with its catch block at some address
abbrev pub IsSameKind : UnitKind → UnitKind → Type 0
IsSameKind (Function name takes gives_int) kind = kind ≡ Function name takes gives_int
IsSameKind (Region region captures catch_at) kind = (to : ℕ) × (kind ≡ Region region captures to)

-- v is u but for its operations, of which it has no more, and the place of its catch block
pub record IsThinner (u v : CodeUnit) : Type 0 where
  pub kind : IsSameKind u.kind v.kind
  pub locals : v.locals ≡ u.locals
  pub fewer : length v.ops ≤ length u.ops

-- each unit stands by its number, beside the same constants and classes
pub record HasThinnerUnits (code thin : CodeTree) : Type 0 where
  pub count : length thin.units ≡ length code.units
  pub each : (n : ℕ) (u : CodeUnit) → slice_get code.units n ≡ Some u → (v : CodeUnit) × (slice_get thin.units n ≡ Some v) × IsThinner u v
  pub constants : thin.constants ≡ code.constants
  pub classes : thin.classes ≡ code.classes

abbrev pub KeepsUnits : Type 0
KeepsUnits = (code : CodeTree) → HasThinnerUnits code (thinned code)

-- and each function by its name
abbrev pub KeepsNames : Type 0
KeepsNames = (code : CodeTree) (name : List ℕ) → unit_named name (thinned code).units ≡ unit_named name code.units

abbrev pub ThinnedOnce : Type 0
ThinnedOnce = (code : CodeTree) → IsGuarded code → thinned (thinned code) ≡ thinned code
