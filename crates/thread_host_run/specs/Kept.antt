-- The list of the ready threads with what is known of each thread, and what a turn leaves known.
use Rattle.std.specs.Prelude.{◌≡◌, ◌≤◌, ◌⊎◌, ℕ, List, Some, slice_get, vec_capacity, false}
use Rattle.lam_value.specs.declared.names.Name.{Name}
use Rattle.lam_value.specs.declared.values.Value.{Value}
use Rattle.lam_asks.specs.declared.ask.Ask.{Ask}
use Rattle.lam_asks.specs.declared.ask.Ask.TheVariants.{MonEnter, MonLeave}
use Rattle.lam_asks.specs.declared.answer.What.{What}
use Rattle.lam_asks.specs.declared.answer.What.TheVariants.{Private, Asked}
use Rattle.lam_bytecode.specs.Codes.{CodeTree}
use Rattle.lam_machine_terms.specs.Worlds.{World}
use Rattle.lam_machine_terms.specs.Limits.{most_threads}
use Rattle.thread_host_run.specs.ReadyLists.{ready_threads}
use Rattle.thread_host_run.specs.Waiting.{AllTell, TellsBut}
use Rattle.thread_host_run.specs.declared.waits.Prospect.{Prospect}
use Rattle.thread_host_run.specs.declared.waits.Awaits.TheVariants.{Unknown}
use Rattle.thread_host_run.specs.declared.waits.Touched.{Touched}
use Rattle.thread_host_run.specs.declared.ready_list.ReadyList.{ReadyList}

-- the ready threads, and what each thread waits for
pub record ListsBy (code : CodeTree) (w : World) (names : List Name) (ps : List Prospect) (threads : List ℕ) : Type 0 where
  pub threads_are : threads ≡ ready_threads code w
  pub tell : AllTell code w names ps

abbrev pub Lists : CodeTree → World → ReadyList → Type 0
Lists code w l = ListsBy code w l.names.keys l.prospects.items l.threads.items

-- for every thread of a run
pub record HasRoom (l : ReadyList) : Type 0 where
  pub threads : most_threads ≤ vec_capacity l.threads
  pub prospects : most_threads ≤ vec_capacity l.prospects

-- of each thread, but for what was touched
abbrev pub AllTellBut : Touched → CodeTree → World → List Name → List Prospect → Type 0
AllTellBut touched code w names ps = (u : ℕ) (p : Prospect) → slice_get ps u ≡ Some p → TellsBut touched code w names u p

-- of each thread but one
abbrev pub OthersTell : Touched → CodeTree → World → List Name → ℕ → List Prospect → Type 0
OthersTell touched code w names t ps = (u : ℕ) (p : Prospect) → (u ≡ t → ⊥) → slice_get ps u ≡ Some p → TellsBut touched code w names u p

-- nothing is known of a thread
abbrev pub unknown : Prospect
unknown = record { awaits = Unknown; ready = false }

-- at one place this, and at each other what was there
abbrev pub AreBut : ℕ → Prospect → List Prospect → List Prospect → Type 0
AreBut t x before after = (u : ℕ) (p : Prospect) → slice_get after u ≡ Some p → ((u ≡ t) × (p ≡ x)) ⊎ ((u ≡ t → ⊥) × (slice_get before u ≡ Some p))

-- at each place what was there, or nothing is known
abbrev pub AreOld : List Prospect → List Prospect → Type 0
AreOld before after = (u : ℕ) (p : Prospect) → slice_get after u ≡ Some p → (slice_get before u ≡ Some p) ⊎ (p ≡ unknown)

-- ---- turns

-- the turn was this ask
abbrev pub IsAsk : Ask → What → Type 0
IsAsk a Private = ⊥
IsAsk a (Asked b x) = b ≡ a

-- it entered or left the monitor of this thing, or was to
abbrev pub IsOfMonitor : Value → What → Type 0
IsOfMonitor r (Asked (MonEnter q) x) = q ≡ r
IsOfMonitor r (Asked (MonLeave q) x) = q ≡ r
IsOfMonitor r e = ⊥
