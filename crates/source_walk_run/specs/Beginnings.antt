-- How the threads of a run began, in the order of their numbers.
use Rattle.std.specs.Prelude.{Bool, true, false, List, ◌++◌, map}
use Rattle.lam_value.specs.declared.values.Value.TheVariants.{Thread}
use Rattle.lam_asks.specs.declared.answer.Answer.{Answer}
use Rattle.lam_asks.specs.declared.answer.Answer.TheVariants.{Val}
use Rattle.lam_machine_terms.specs.Turns.{Moment}
use Rattle.source_walk_meets.specs.Births.{Birth, births}
use Rattle.source_walk_state.specs.declared.Beginning.{Beginning}

-- a thread is given
abbrev pub is_thread : Answer → Bool
is_thread (Val (Thread u)) = true
is_thread x = false

-- how a thread that was started began
abbrev pub beginning_of : Birth → Beginning
beginning_of b = record { function = b.function; args = b.args; caps = b.caps }

-- those of the start come first, and then those that moments started
abbrev pub all_begun : List Beginning → List Moment → List Beginning
all_begun starts ms = starts ++ map beginning_of (births ms)
