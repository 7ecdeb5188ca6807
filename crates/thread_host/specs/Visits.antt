-- What a worker does to a course in one visit under the lock.
use Rattle.std.specs.Prelude.{◌≡◌, ◌<◌, ◌⊎◌, ℕ, true, length}
use Rattle.lam_bytecode.specs.Codes.{CodeTree}
use Rattle.lam_machine_terms.specs.Turns as turns
use Rattle.lam_machine_runs.specs.declared.How.{How}
use Rattle.lam_machine_runs.specs.Ends.{SomeReady, HasEnded}
use Rattle.thread_host_run.specs.Courses.{Progress, one_more}
use Rattle.thread_host.specs.declared.visits.Visit.{Visit}
use Rattle.thread_host.specs.declared.visits.Visit.TheVariants.{Took, Ended}

-- some thread is ready, and the budget leaves a turn
pub record GoesOn (code : CodeTree) (budget : ℕ) (p : Progress) : Type 0 where
  pub some : SomeReady code p.world
  pub left : length p.turns < budget

-- it has ended in this way
abbrev pub EndsAs : CodeTree → ℕ → Progress → How → Type 0
EndsAs code budget p how = HasEnded code p.world (length p.turns) budget how

-- a thread was ready and took a turn, within the budget
pub record TookReady (code : CodeTree) (budget : ℕ) (p q : Progress) (t : ℕ) : Type 0 where
  pub ready : turns.ready code p.world t ≡ true
  pub left : length p.turns < budget
  pub after : q ≡ one_more p t q.world

-- a turn was taken, or the run had ended and is as it was
abbrev pub Visits : CodeTree → ℕ → Progress → Progress → Visit → Type 0
Visits code budget p q (Took t) = TookReady code budget p q t
Visits code budget p q (Ended how) = (q ≡ p) × EndsAs code budget p how

-- where memory was refused: it is as it was, or a thread was ready and took a turn, of which what is kept is lost
abbrev pub MayHaveTaken : CodeTree → ℕ → Progress → Progress → Type 0
MayHaveTaken code budget p q = (q ≡ p) ⊎ ((t : ℕ) × TookReady code budget p q t)
