-- What is read next, and what is done with it: a file, and the code of the program in it.
use Rattle.std.specs.Prelude.{◌≡◌, ◌<◌, ◌≤◌, ℕ, length, Option, Some, None, Result, Ok, Err}
use Rattle.lam_front.specs.declared.fault.ProgramFault.{ProgramFault}
use Rattle.lam_front.specs.Programs.{IsBroken}
use Rattle.lam_bytecode.specs.Codes.{CodeTree}
use Rattle.thinned_code.specs.Thinned.{thinned}
pub use Rattle.run_inputs.specs.Inputs.{IsCompiled, IsRunCode}
use Rattle.lam_main_words.specs.Words.{Text}
use Rattle.lam_main_plan.specs.Refusals.{Plan, no_program, no_code, absent, too_long}
use Rattle.world_save_terms.specs.Document.{most_document}

-- the most bytes of a script, of a program, of the document of a world, and of a book
abbrev pub script_limit : ℕ
script_limit = 1048576

abbrev pub program_limit : ℕ
program_limit = 1048576

abbrev pub world_limit : ℕ
world_limit = most_document

abbrev pub book_limit : ℕ
book_limit = 16777216

-- the plan where a file that is read next, of a name and with a limit, is not there or too long
abbrev pub IsUnread : Option Text → Text → ℕ → Plan → Type 0
IsUnread None name limit plan = plan ≡ absent name
IsUnread (Some bytes) name limit plan = (limit < length bytes) × (plan ≡ too_long name)

-- it is there and not too long, and this holds of its bytes
pub record HasFile (found : Option Text) (limit : ℕ) (Is : Text → Type 0) : Type 0 where
  pub bytes : Text
  pub there : found ≡ Some bytes
  pub short : length bytes ≤ limit
  pub follows : Is bytes

-- the plan where it can't be read, or that of its bytes
pub data WithFile (found : Option Text) (name : Text) (limit : ℕ) (IsOf : Text → Plan → Type 0) (plan : Plan) : Type 0 where
  unread : IsUnread found name limit plan → WithFile found name limit IsOf plan
  of_file : HasFile found limit (λ bytes. IsOf bytes plan) → WithFile found name limit IsOf plan

-- no plan at all: only what comes before has one
abbrev pub Never : {X : Type 0} → X → Plan → Type 0
Never x plan = ⊥

-- the plan of what a program is compiled to
abbrev pub ByCode : (CodeTree → Plan → Type 0) → Result CodeTree ℕ → Plan → Type 0
ByCode IsOf (Ok tree) plan = IsOf tree plan
ByCode IsOf (Err unit) plan = plan ≡ no_code unit

-- the plan of the code of the program that the bytes spell, of its first unit that is too long, or of the bytes' first
-- fault
pub data Compiles (IsOf : CodeTree → Plan → Type 0) (bytes : Text) (plan : Plan) : Type 0 where
  fine : (made : Result CodeTree ℕ) → IsCompiled bytes made → ByCode IsOf made plan → Compiles IsOf bytes plan
  broken : (f : ProgramFault) → IsBroken bytes f → plan ≡ no_program f → Compiles IsOf bytes plan

-- the plan of the code that is run of the program that the bytes spell: what it is compiled to, without the barriers that test
-- again
abbrev pub Thins : (CodeTree → Plan → Type 0) → Text → Plan → Type 0
Thins IsOf bytes plan = Compiles (λ code. IsOf (thinned code)) bytes plan
