-- What is seen of units in the making.
use Rattle.std.specs.Prelude.{ℕ, ◌*◌, ◌≤◌, List, [], ◌∷◌, length, Option, Some, None, Ok, Err}
use Rattle.lam_value.specs.declared.values.Value.{Value}
use Rattle.lam_bytecode.specs.declared.unit.CodeUnit.{CodeUnit}
use Rattle.lam_bytecode.specs.declared.unit.UnitKind.{UnitKind}
use Rattle.lam_meaning.specs.Scheme.{Draft}
use Rattle.barrier_compiler_ops.specs.Emits.{State}
use Rattle.barrier_compiler_units.specs.declared.units.Halt.{Halt}
use Rattle.barrier_compiler_units.specs.Adds.{Stage, made_of, IsDraft, Adds, most_units}
use Rattle.lam_meaning.specs.Long.{most_operations}

abbrev pub stage_of : List CodeUnit → List Value → Option Halt → Stage
stage_of us vs None = Ok (made_of us vs)
stage_of us vs (Some why) = Err why

-- where they go on, the constants are no more than the operations
abbrev pub HasRoomBy : List CodeUnit → List Value → Option Halt → Type 0
HasRoomBy us vs None = length vs ≤ most_operations * length us
HasRoomBy us vs (Some why) = Unit {0}

pub record HasRoom (us : List CodeUnit) (vs : List Value) (fault : Option Halt) : Type 0 where
  pub units : length us ≤ most_units
  pub constants : HasRoomBy us vs fault

-- a unit of this code was added, or not for this reason
pub record AddsUnit (us : List CodeUnit) (vs : List Value) (new : List CodeUnit) (values : List Value) (fault : Option Halt) (code : State) (kind : UnitKind) (locals : ℕ) : Type 0 where
  pub adds : (d : Draft) → IsDraft code kind locals d → Adds (Ok (made_of us vs)) (stage_of new values fault) (d ∷ [])
  pub room : HasRoom new values fault
