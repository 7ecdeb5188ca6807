-- What workers share under a lock: a course, and what is kept of its moments. `AreKept` says of moments, from the start of a
-- run on, what is kept of them.
use Rattle.std.specs.Prelude.{◌≡◌, ◌≤◌, ℕ, Bool, true, false, List, length, Option, Some, None}
use Rattle.lam_asks.specs.declared.answer.Event.{Event}
use Rattle.lam_bytecode.specs.Codes.{CodeTree}
use Rattle.lam_machine_terms.specs.Worlds.{World}
use Rattle.lam_machine_terms.specs.Turns.{Moment, moments}
use Rattle.lam_machine_replay.specs.Keeping.{KeepsEvent, LeavesPrivate}
use Rattle.thread_host_run.specs.Courses.{Progress, IsCourse}

-- it is so, unless what was kept is lost
abbrev pub Unless : Bool → Type 0 → Type 0
Unless true P = Unit {0}
Unless false P = P

-- a course of this code from this start within the budget, and what is kept of its moments so far, unless that is lost
pub record IsShared {X : Type 0} (AreKept : List Moment → X → Type 0) (code : CodeTree) (start : World) (budget : ℕ) (p : Progress) (lost : Bool) (kept : X) : Type 0 where
  pub course : IsCourse code start p
  pub within : length p.turns ≤ budget
  pub keeps : Unless lost (AreKept (moments code p.turns start) kept)

-- what was kept of so many moments, and what is kept of them and of a turn, which is the same where the turn is private
abbrev pub KeepsTaken : {X : Type 0} → (List Moment → X → Type 0) → ℕ → Option Event → World → X → X → Type 0
KeepsTaken AreKept n None after before kept = LeavesPrivate AreKept × (kept ≡ before)
KeepsTaken AreKept n (Some e) after before kept = KeepsEvent AreKept n e after before kept

-- both say the same of what is kept
abbrev pub Agree : {X : Type 0} → (List Moment → X → Type 0) → (List Moment → X → Type 0) → Type 0
Agree {X} A B = (ms : List Moment) (kept : X) → (A ms kept → B ms kept) × (B ms kept → A ms kept)
