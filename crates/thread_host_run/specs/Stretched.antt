-- A stretch of private turns, checked in to a course: what it was taken from is still there, and so its turns are some of the
-- course.
use Rattle.std.specs.Prelude.{◌≡◌, ℕ, ◌+◌, ◌≤◌, ◌++◌, Some, length, replicate}
use Rattle.lam_bytecode.specs.Codes.{CodeTree}
use Rattle.lam_machine_terms.specs.Worlds.{thread_at, with_thread}
use Rattle.thread_core_stretches.specs.declared.stretch.Stretch.{Stretch}
use Rattle.thread_core_stretches.specs.Stretches.{StretchStands}
use Rattle.thread_host_run.specs.Courses.{Progress}
use Rattle.turn_book.specs.Limits.{most_turns}

-- there is room for its turns, and its thread is there as it was when the stretch began
abbrev pub StretchFits : Progress → Stretch → Type 0
StretchFits p s = (length p.turns + s.count ≤ most_turns) × (thread_at p.world s.thread ≡ Some s.before)

-- as many turns of its thread more, and the thread as the stretch left it; all else stays
abbrev pub checked_in : Progress → Stretch → Progress
checked_in p s = record { turns = p.turns ++ replicate s.count s.thread; world = with_thread p.world s.thread s.after }

-- so many private turns of a thread were taken, as by a stretch of them that began there
pub record WentOn (code : CodeTree) (t n : ℕ) (p q : Progress) : Type 0 where
  pub stretch : Stretch
  pub thread : stretch.thread ≡ t
  pub count : stretch.count ≡ n
  pub stands : StretchStands code stretch
  pub there : thread_at p.world stretch.thread ≡ Some stretch.before
  pub after : q ≡ checked_in p stretch
