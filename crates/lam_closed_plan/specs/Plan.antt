-- What a call of given words does with given files, and how it ends, where nothing fails.
use Rattle.std.specs.Prelude.{◌≡◌, ℕ, List, Option, Some, None, Result, Ok, Err}
use Rattle.lam_io.specs.Outside.{Files}
use Rattle.closed_terms.specs.declared.End.{End}
use Rattle.closed_terms.specs.declared.End.TheVariants.{Done as all_ended}
use Rattle.lam_main_words.specs.Words.{Text}
use Rattle.lam_main_plan.specs.Refusals as refusals
use Rattle.lam_main_plan.specs.Reading.{WithFile, program_limit}
use Rattle.lam_main_plan.specs.Replays.{an_observer}
use Rattle.lam_closed_words.specs.Words.{Request, run, check, help, request_of, commands, help_lines}
use Rattle.lam_closed_plan.specs.declared.Status.{Status}
use Rattle.lam_closed_plan.specs.declared.Status.TheVariants.{Words, Program, World, Book, Missing}
use Rattle.lam_closed_plan.specs.Outcome.{Plan, ended_plan, EndsSo}
use Rattle.lam_closed_plan.specs.Closes.{observer_word, Closes}
use Rattle.lam_closed_plan.specs.Checks.{Checks}

-- a plan of `lam` where there is no run to end
abbrev pub plain : refusals.Plan → Plan
plain plan = ended_plan all_ended plan

abbrev pub prints : Text → Plan
prints text = plain (refusals.prints text)

abbrev pub no_word : ℕ → Plan
no_word index = plain (refusals.no_word index)

-- ---- every command, in the order of reading: words, program, and then what the program is read for

abbrev pub IsPlanOf : Result Request ℕ → Files → Plan → Type 0
IsPlanOf (Err index) files plan = plan ≡ no_word index
IsPlanOf (Ok (run program world observer out base turns)) files plan =
    (e : End) × EndsSo e (WithFile (files program) program program_limit (Closes files (record { world = world; out = out }) (record { reader = an_observer observer_word observer; base = base; turns = turns }) e)) plan
IsPlanOf (Ok (check program world book base)) files plan =
    EndsSo all_ended (WithFile (files program) program program_limit (Checks files (record { world = world; book = book }) base)) plan
IsPlanOf (Ok help) files plan = plan ≡ prints (help_lines commands)

-- the plan of words and files
abbrev pub IsPlan : List Text → Files → Plan → Type 0
IsPlan ws files plan = IsPlanOf (request_of ws) files plan

-- the name of the file that is asked to be written
abbrev pub written_by : Result Request ℕ → Option Text
written_by (Ok (run program world observer out base turns)) = Some out
written_by request = None

-- there is at most one plan of words and files
abbrev pub PlansAreOne : Type 0
PlansAreOne = (ws : List Text) (files : Files) (p q : Plan) → IsPlan ws files p → IsPlan ws files q → p ≡ q

-- the statuses of refusals
abbrev pub IsRefused : Status → Type 0
IsRefused Words = Unit {0}
IsRefused Program = Unit {0}
IsRefused World = Unit {0}
IsRefused Book = Unit {0}
IsRefused Missing = Unit {0}
IsRefused status = ⊥
