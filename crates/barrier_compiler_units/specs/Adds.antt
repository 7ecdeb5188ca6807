-- What a call adds to the units of a program.
use Rattle.std.specs.Prelude.{◌≡◌, ℕ, ◌+◌, ◌^◌, ◌<◌, ◌≤◌, Bool, true, false, ◌&&◌, nat_lt, ◌⊎◌, List, [], ◌∷◌, ◌++◌, length, map, Some, None, Result, Ok, Err, refl}
use Rattle.std.specs.Coded.{Coded, code_by, coded×, coded_list, coded_result}
use Rattle.lam_value.specs.declared.values.Value.{Value}
use Rattle.lam_value.specs.contracts.values.Value as value
use Rattle.lam_bytecode.specs.declared.unit.CodeUnit.{CodeUnit}
use Rattle.lam_bytecode.specs.declared.unit.UnitKind.{UnitKind}
use Rattle.lam_bytecode.specs.declared.unit.UnitKind.TheVariants.{Function, Region}
use Rattle.lam_bytecode.specs.contracts.unit.CodeUnit as code_unit
use Rattle.lam_meaning.specs.Pieces.{Flat, an_op, a_constant, is_in}
use Rattle.lam_meaning.specs.Scheme.{Draft, all_constants, unit_of}
use Rattle.lam_meaning.specs.Long.{long_from, most_operations}
use Rattle.barrier_compiler_ops.specs.declared.buffer.Stop.TheVariants.{TooLong as too_long, Wide as too_wide, NoMemory as no_room}
use Rattle.barrier_compiler_ops.specs.Emits.{State, named_by}
use Rattle.barrier_compiler_units.specs.declared.units.Halt.{Halt}
use Rattle.barrier_compiler_units.specs.declared.units.Halt.TheVariants.{TooLong, Wide, NoMemory}
use Rattle.barrier_compiler_units.specs.contracts.units.Halt as halt

-- the most units of a program
abbrev pub most_units : ℕ
most_units = 65536

-- units, and their constants
pub record Made : Type 0 where
  pub units : List CodeUnit
  pub constants : List Value

abbrev pub made_of : List CodeUnit → List Value → Made
made_of us vs = record { units = us; constants = vs }

-- the units so far, or why they are given up
abbrev pub Stage : Type 0
Stage = Result Made Halt

abbrev pub coded_stage : Coded Stage
coded_stage =
    coded_result (code_by (List CodeUnit × List Value) (coded× (coded_list code_unit.the_row.coded) (coded_list value.the_row.coded)) (λ m. (m.units, m.constants)) (λ p. record { units = p.0; constants = p.1 }) (λ _. refl)) halt.the_row.coded

-- ---- numbers of 32 bits

abbrev pub flat_narrow : Flat → Bool
flat_narrow (an_op o) = nat_lt (named_by o) (2 ^ 32)
flat_narrow (a_constant v) = true

abbrev pub code_narrow : List Flat → Bool
code_narrow [] = true
code_narrow (f ∷ fs) = flat_narrow f && code_narrow fs

abbrev pub kind_narrow : UnitKind → Bool
kind_narrow (Function name takes gives_int) = true
kind_narrow (Region region captures catch_at) = nat_lt region (2 ^ 32) && nat_lt captures (2 ^ 32)

abbrev pub draft_narrow : Draft → Bool
draft_narrow d = nat_lt d.locals (2 ^ 32) && (kind_narrow d.kind && code_narrow d.code)

-- each number of these units is of 32 bits
abbrev pub drafts_narrow : List Draft → Bool
drafts_narrow [] = true
drafts_narrow (d ∷ ds) = draft_narrow d && drafts_narrow ds

-- ---- what is added

-- these are what a unit is, so many locals and its code, or there is this reason why not
abbrev pub IsDraftBy : State → UnitKind → ℕ → Draft → Type 0
IsDraftBy (Ok code) kind locals d = (kind ≡ d.kind) × (locals ≡ d.locals) × (code ≡ d.code)
IsDraftBy (Err too_long) kind locals d = most_operations < length d.code
IsDraftBy (Err too_wide) kind locals d = draft_narrow d ≡ false
IsDraftBy (Err no_room) kind locals d = Unit {0}

pub record IsDraft (s : State) (kind : UnitKind) (locals : ℕ) (d : Draft) : Type 0 where
  pub by : IsDraftBy s kind locals d

-- each constant of the code is among these
abbrev pub AreIn : List Value → List Flat → Type 0
AreIn vs [] = Unit {0}
AreIn vs (an_op o ∷ fs) = AreIn vs fs
AreIn vs (a_constant v ∷ fs) = (is_in v vs ≡ true) × AreIn vs fs

abbrev pub AllIn : List Value → List Draft → Type 0
AllIn vs [] = Unit {0}
AllIn vs (d ∷ ds) = AreIn vs d.code × AllIn vs ds

-- the units of these drafts stand behind those before, and the new constants behind the old
pub record Adds_units (old new : Made) (ds : List Draft) : Type 0 where
  pub constants : new.constants ≡ all_constants old.constants ds
  pub units : new.units ≡ old.units ++ map (unit_of new.constants) ds
  pub short : long_from (length old.units) ds ≡ None
  pub all_in : AllIn new.constants ds

-- Or they are given up: at the first draft that is too long, or where a number is too wide or the units too many. What
-- was given up stays given up.
abbrev pub AddsBy : Stage → Stage → List Draft → Type 0
AddsBy (Err h) new ds = new ≡ Err h
AddsBy (Ok old) (Ok new) ds = Adds_units old new ds
AddsBy (Ok old) (Err (TooLong unit)) ds = long_from (length old.units) ds ≡ Some unit
AddsBy (Ok old) (Err Wide) ds = (drafts_narrow ds ≡ false) ⊎ (most_units ≤ length old.units + length ds)
AddsBy (Ok old) (Err NoMemory) ds = Unit {0}

pub record Adds (old new : Stage) (ds : List Draft) : Type 0 where
  pub by : AddsBy old new ds

-- ---- a list of things, of which some are done

-- whatever adds the rest, adds all from the first on
pub record Goes (first here : Stage) (all rest : List Draft) : Type 0 where
  pub by : (new : Stage) → Adds here new rest → Adds first new all
