-- What a walk over the source says of a run.
use Rattle.std.specs.Prelude.{◌≡◌, ◌<◌, ◌⊎◌, ℕ, List, length, map, Some, slice_get}
use Rattle.capabilities.specs.declared.Caps.{Caps}
use Rattle.lam_value.specs.declared.values.Value.{Value}
use Rattle.lam_builtins.specs.Types.{int}
use Rattle.lam_asks.specs.declared.ask.Ask.{Ask}
use Rattle.lam_asks.specs.declared.answer.What.{What}
use Rattle.lam_bytecode.specs.Codes.{CodeTree}
use Rattle.lam_resolve_tree.specs.Tree.{ResolvedFunction, ResolvedTree}
use Rattle.thread_steps.specs.Threads.{Thread}
use Rattle.thread_steps.specs.Next.{started}
use Rattle.lam_meaning.specs.Plays.{asks_made}
use Rattle.lam_machine_means.specs.Kinds.{AreOf}
use Rattle.lam_machine_means.specs.Acts.{AreFirst}
use Rattle.lam_machine_means.specs.Worlds.{World}
use Rattle.lam_machine_means.specs.Turns.{Moment, moments, replay}
use Rattle.lam_machine_means.specs.Own.{done_by}
use Rattle.lam_machine_means.specs.Runs.{asked_in, answers_in, Began, WasSpawned}
use Rattle.source_walk_terms.specs.declared.Walked.{Walked}
use Rattle.source_walk_terms.specs.declared.Walked.TheVariants.{Same, Departs}
use Rattle.source_walk_terms.specs.Departs.{DepartsAt}

-- ---- how a thread begins

-- f is a function of the program whose result is a number, and the arguments are of the sorts of its parameters
pub record IsEntry (r : ResolvedTree) (f : ℕ) (vs : List Value) : Type 0 where
  pub function : ResolvedFunction
  pub found : slice_get r.functions f ≡ Some function
  pub result : function.result ≡ Some int
  pub sorts : AreOf function.params vs

-- a thread stands where a function of the program begins
pub record StandsAtEntry (r : ResolvedTree) (code : CodeTree) (th : Thread) : Type 0 where
  pub function : ℕ
  pub args : List Value
  pub caps : Caps
  pub it : th ≡ started code function args caps
  pub entry : IsEntry r function args

-- each of these threads stands at an entry
abbrev pub AreAtEntries : ResolvedTree → CodeTree → List Thread → Type 0
AreAtEntries r code ths = (u : ℕ) (th : Thread) → slice_get ths u ≡ Some th → StandsAtEntry r code th

-- what a walk takes of a start
abbrev pub ThreadsAtEntries : ResolvedTree → CodeTree → World → Type 0
ThreadsAtEntries r code w = AreAtEntries r code w.threads

-- ---- one thread

-- what the source makes of function f with these arguments and capabilities, with as many units as the thread took
-- turns and the answers that it got
abbrev pub source_asks : ResolvedTree → ℕ → List Value → Caps → List What → List Ask
source_asks r f vs k did = asks_made r (length did) f vs k (answers_in did)

-- thread u began at an entry, and its asks are the first ones of its source
pub record KeepsToSource (r : ResolvedTree) (code : CodeTree) (w : World) (ms : List Moment) (u : ℕ) : Type 0 where
  pub function : ℕ
  pub args : List Value
  pub caps : Caps
  pub began : Began code w ms u function args caps
  pub entry : IsEntry r function args
  pub asks : AreFirst (asked_in (done_by u ms)) (source_asks r function args caps (done_by u ms))

-- thread u began at an entry and leaves its source at a place, or it was spawned elsewhere and leaves it at once
abbrev pub LeavesAt : ResolvedTree → CodeTree → World → List Moment → ℕ → ℕ → List Value → Caps → ℕ → Type 0
LeavesAt r code w ms u f vs k place =
    (Began code w ms u f vs k × IsEntry r f vs × DepartsAt (asked_in (done_by u ms)) (source_asks r f vs k (done_by u ms)) place) ⊎
    (WasSpawned ms u f vs k × (IsEntry r f vs → ⊥) × (place ≡ 0))

pub record LeavesItsSource (r : ResolvedTree) (code : CodeTree) (w : World) (ms : List Moment) (u place : ℕ) : Type 0 where
  pub function : ℕ
  pub args : List Value
  pub caps : Caps
  pub leaves : LeavesAt r code w ms u function args caps place

-- ---- a run

-- how many asks there are
abbrev pub asks_in : List Moment → ℕ
asks_in ms = length (asked_in (map (λ (m : Moment). m.event.what) ms))

-- The answer of a walk, where these are the moments of a run from w and the last world has so many threads. Each thread
-- keeps to its source; or one does not, and each before it does.
abbrev pub IsWalkedOf : ResolvedTree → CodeTree → World → List Moment → ℕ → Walked → Type 0
IsWalkedOf r code w ms threads (Same asks) = ((u : ℕ) → u < threads → KeepsToSource r code w ms u) × (asks ≡ asks_in ms)
IsWalkedOf r code w ms threads (Departs thread ask) =
    (thread < threads) × ((u : ℕ) → u < thread → KeepsToSource r code w ms u) × LeavesItsSource r code w ms thread ask

abbrev pub IsWalked : ResolvedTree → CodeTree → World → List ℕ → Walked → Type 0
IsWalked r code w turns answer = IsWalkedOf r code w (moments code turns w) (length (replay code turns w).threads) answer
