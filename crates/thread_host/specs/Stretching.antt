-- What a worker does to a course where it takes private turns outside the lock: how it begins under it, and how it ends.
use Rattle.std.specs.Prelude.{◌≡◌, ◌+◌, ◌<◌, ◌≤◌, ◌⊎◌, ℕ, true, Some, length}
use Rattle.lam_bytecode.specs.Codes.{CodeTree}
use Rattle.lam_machine_terms.specs.Worlds.{thread_at}
use Rattle.lam_machine_terms.specs.Turns as turns
use Rattle.thread_core_stretches.specs.declared.stretch.Stretch.{Stretch}
use Rattle.thread_core_stretches.specs.Stretches.{StretchStands}
use Rattle.thread_host_run.specs.Courses.{Progress}
use Rattle.thread_host_run.specs.Stretched.{StretchFits, WentOn, checked_in}
use Rattle.thread_host.specs.declared.visits.Visit.{Visit}
use Rattle.thread_host.specs.declared.visits.Visit.TheVariants as visit
use Rattle.thread_host.specs.declared.stretches.Opening.{Opening}
use Rattle.thread_host.specs.declared.stretches.Opening.TheVariants as opening
use Rattle.thread_host.specs.Visits.{EndsAs, TookReady, Visits}

-- a stretch is of a thread as it is in a course, and stands with the code
abbrev pub StretchOf : CodeTree → Progress → Stretch → Type 0
StretchOf code p s = (thread_at p.world s.thread ≡ Some s.before) × StretchStands code s

-- a thread is ready, the budget leaves a turn, and private turns of the thread are to be taken; the course is as it was
pub record GoesOut (code : CodeTree) (budget : ℕ) (p q : Progress) (s : Stretch) : Type 0 where
  pub same : q ≡ p
  pub ready : turns.ready code p.world s.thread ≡ true
  pub left : length p.turns < budget
  pub of : StretchOf code p s

-- a thread was ready and took private turns, within the budget
pub record WentReady (code : CodeTree) (budget : ℕ) (p q : Progress) (t : ℕ) : Type 0 where
  pub ready : turns.ready code p.world t ≡ true
  pub count : ℕ
  pub within : length p.turns + count ≤ budget
  pub went : WentOn code t count p q

-- private turns of a thread are to be taken, or a turn was taken, or private turns were, or there is nothing to do now, or the
-- run had ended
abbrev pub Begins : CodeTree → ℕ → Progress → Progress → Opening → Type 0
Begins code budget p q (opening.Out s most) = GoesOut code budget p q s
Begins code budget p q (opening.Took t) = TookReady code budget p q t
Begins code budget p q (opening.Along t) = WentReady code budget p q t
Begins code budget p q opening.Away = q ≡ p
Begins code budget p q (opening.Ended how) = (q ≡ p) × EndsAs code budget p how

-- where private turns are to be taken, it is by this code
abbrev pub GoesBy : CodeTree → Opening → Type 0
GoesBy code (opening.Out s most) = StretchStands code s
GoesBy code (opening.Took t) = Unit {0}
GoesBy code (opening.Along t) = Unit {0}
GoesBy code opening.Away = Unit {0}
GoesBy code (opening.Ended how) = Unit {0}

-- a stretch has some turns, they are within the budget, and its thread is still what it was
abbrev pub StretchKeepsTo : ℕ → Progress → Stretch → Type 0
StretchKeepsTo budget p s = (0 < s.count) × (length p.turns + s.count ≤ budget) × StretchFits p s

-- it was checked in
pub record CheckedIn (budget : ℕ) (p q : Progress) (s : Stretch) (v : Visit) : Type 0 where
  pub keeps : StretchKeepsTo budget p s
  pub after : q ≡ checked_in p s
  pub took : v ≡ visit.Took s.thread

-- it was dropped, and there was one visit instead
pub record Dropped (code : CodeTree) (budget : ℕ) (p q : Progress) (s : Stretch) (v : Visit) : Type 0 where
  pub fits_not : StretchKeepsTo budget p s → ⊥
  pub visits : Visits code budget p q v

-- a stretch was checked in exactly where that keeps to the budget; else it was dropped for one visit
abbrev pub EndsStretch : CodeTree → ℕ → Stretch → Progress → Progress → Visit → Type 0
EndsStretch code budget s p q v = CheckedIn budget p q s v ⊎ Dropped code budget p q s v
