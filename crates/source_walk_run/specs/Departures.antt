-- Where the threads of a run depart from their source.
use Rattle.std.specs.Prelude.{◌≡◌, ◌+◌, ◌≤◌, ◌⊎◌, ℕ, List, length, Option, Some, slice_get}
use Rattle.lam_asks.specs.declared.answer.What.{What}
use Rattle.lam_bytecode.specs.Codes.{CodeTree}
use Rattle.lam_resolve_tree.specs.Tree.{ResolvedTree}
use Rattle.lam_machine_terms.specs.Limits.{most_threads}
use Rattle.lam_machine_terms.specs.Worlds.{World}
use Rattle.lam_machine_terms.specs.Turns.{Moment, moments}
use Rattle.lam_machine_laws.specs.Own.{done_by}
use Rattle.source_walk_terms.specs.Walks.{IsEntry}
use Rattle.source_walk_state.specs.declared.Beginning.{Beginning}
use Rattle.source_walk_meets.specs.Walks.{asks_in}
use Rattle.source_walk_meets.specs.Births.{births}
use Rattle.source_walk_follow.specs.Followed.{IsFollowed}
use Rattle.source_walk_run.specs.declared.departures.Departures.{Departures}
use Rattle.source_walk_run.specs.Beginnings.{all_begun}

-- at is the place where a thread that began as b and did this departs from its source with n units, or None. One that
-- began at no entry departs at 0.
abbrev pub IsMet : ResolvedTree → ℕ → Beginning → List What → Option ℕ → Type 0
IsMet r n b did at = (IsEntry r b.function b.args × IsFollowed r n b.function b.args b.caps did at) ⊎ ((IsEntry r b.function b.args → ⊥) × (at ≡ Some 0))

-- the threads of moments depart at these places, where those of the start began so
pub record AreDepartures (r : ResolvedTree) (starts : List Beginning) (ms : List Moment) (d : Departures) : Type 0 where
  pub many : length d.places.items ≡ length starts + length (births ms)
  pub each : (u : ℕ) (b : Beginning) (at : Option ℕ) → slice_get (all_begun starts ms) u ≡ Some b → slice_get d.places.items u ≡ Some at → IsMet r (length (done_by u ms)) b (done_by u ms) at
  pub asks : d.asks ≡ asks_in ms

-- where the threads depart in these turns of a start, of no more threads than a run can have
abbrev pub DeparturesOf : ResolvedTree → List Beginning → CodeTree → List ℕ → World → Departures → Type 0
DeparturesOf r starts code turns start d = AreDepartures r starts (moments code turns start) d × (length d.places.items ≤ most_threads)
