-- The forms of the words of `lam_closed`, as a table, and what each asks.
-- Examples stand at the end.
use Rattle.std.specs.Prelude.{◌≡◌, ℕ, ◌≤◌, List, [], ◌∷◌, Result, Ok, Err, codes, string_bytes, refl}
use Rattle.turn_book.specs.Limits.{most_turns}
use Rattle.lam_main_words.specs.Forms.{Text, word, number, form_in, asks_by, command_lines}
use Rattle.lam_main_words.specs.Words.{usual_turns}
use Rattle.lam_main_words.specs.declared.word_forms.Literal.TheVariants as literal
use Rattle.lam_main_words.specs.declared.word_forms.Kind.{Kind}
use Rattle.lam_main_words.specs.declared.word_forms.Kind.TheVariants as kind
use Rattle.lam_closed_words.specs.declared.Form.{Form}
use Rattle.lam_closed_words.specs.declared.Form.TheVariants as form
use Rattle.lam_closed_words.specs.declared.Command.{Command}
use Rattle.lam_closed_words.specs.declared.Command.TheVariants as command

-- the base where the words name none
abbrev pub usual_base : Text
usual_base = codes "{}/{}"

-- the commands as a reader of the help text sees them
abbrev pub commands : List Text
commands = codes "run P W OBS BOOKOUT [--base LABEL] [--turns N]" ∷ codes "check P W BOOK [--base LABEL]" ∷ codes "help" ∷ []

-- a line for each command
abbrev pub help_lines : List Text → Text
help_lines = command_lines (codes "lam_closed ")

-- the words of `run` and of `check` before their options
abbrev pub run_kinds : List Kind → List Kind
run_kinds options = kind.Literal literal.Run ∷ kind.File ∷ kind.File ∷ kind.Observer ∷ kind.File ∷ options

abbrev pub check_kinds : List Kind → List Kind
check_kinds options = kind.Literal literal.Check ∷ kind.File ∷ kind.File ∷ kind.File ∷ options

-- an option and its word
abbrev pub base_option : List Kind → List Kind
base_option options = kind.Literal literal.Base ∷ kind.Base ∷ options

abbrev pub turns_option : List Kind → List Kind
turns_option options = kind.Literal literal.Turns ∷ kind.Number 1 most_turns ∷ options

-- the table: the words of each form
abbrev pub kinds : Form → List Kind
kinds form.Run = run_kinds []
kinds form.RunOnBase = run_kinds (base_option [])
kinds form.RunOfTurns = run_kinds (turns_option [])
kinds form.RunOfBoth = run_kinds (base_option (turns_option []))
kinds form.Check = check_kinds []
kinds form.CheckOnBase = check_kinds (base_option [])
kinds form.Help = kind.Literal literal.Help ∷ []

abbrev pub forms : List Form
forms = form.Run ∷ form.RunOnBase ∷ form.RunOfTurns ∷ form.RunOfBoth ∷ form.Check ∷ form.CheckOnBase ∷ form.Help ∷ []

-- what words ask
pub data Request : Type 0 where
  run : (program world observer out base : Text) (turns : ℕ) → Request
  check : (program world book base : Text) → Request
  help : Request

-- the base and the open turns that words ask, of which each may be left out
abbrev pub base_in : List Text → Form → Text
base_in ws form.RunOnBase = word ws 6
base_in ws form.RunOfBoth = word ws 6
base_in ws form.CheckOnBase = word ws 5
base_in ws f = usual_base

abbrev pub turns_in : List Text → Form → ℕ
turns_in ws form.RunOfTurns = number ws 6 1 most_turns
turns_in ws form.RunOfBoth = number ws 8 1 most_turns
turns_in ws f = usual_turns

abbrev pub asks_run : List Text → Form → Request
asks_run ws f = run (word ws 1) (word ws 2) (word ws 3) (word ws 4) (base_in ws f) (turns_in ws f)

abbrev pub asks_check : List Text → Form → Request
asks_check ws f = check (word ws 1) (word ws 2) (word ws 3) (base_in ws f)

abbrev pub requested : List Text → Form → Request
requested ws form.Run = asks_run ws form.Run
requested ws form.RunOnBase = asks_run ws form.RunOnBase
requested ws form.RunOfTurns = asks_run ws form.RunOfTurns
requested ws form.RunOfBoth = asks_run ws form.RunOfBoth
requested ws form.Check = asks_check ws form.Check
requested ws form.CheckOnBase = asks_check ws form.CheckOnBase
requested ws form.Help = help

-- what words ask by their form, or the index at which they are in no form
abbrev pub request_of : List Text → Result Request ℕ
request_of ws = asks_by (requested ws) (form_in kinds forms ws)

-- a command as what it asks
abbrev pub asked : Command → Request
asked (command.Run program world observer out base turns) = run (string_bytes program) (string_bytes world) (string_bytes observer) (string_bytes out) (string_bytes base) turns
asked (command.Check program world book base) = check (string_bytes program) (string_bytes world) (string_bytes book) (string_bytes base)
asked command.Help = help

-- the open turns of `run`
pub record TurnsInRange (turns : ℕ) : Type 0 where
  pub some : 1 ≤ turns
  pub most : turns ≤ most_turns

-- the number of a request is in its range
abbrev pub InRange : Request → Type 0
InRange (run program world observer out base turns) = TurnsInRange turns
InRange request = Unit

-- ---- worked examples
no_words : request_of [] ≡ Err 0
no_words = refl

words_of_run : request_of (codes "run" ∷ codes "p" ∷ codes "w" ∷ codes "{a}/{}" ∷ codes "b" ∷ []) ≡ Ok (run (codes "p") (codes "w") (codes "{a}/{}") (codes "b") (codes "{}/{}") 100000)
words_of_run = refl

base_of_run : request_of (codes "run" ∷ codes "p" ∷ codes "w" ∷ codes "{a}/{t}" ∷ codes "b" ∷ codes "--base" ∷ codes "{b,a}/{}" ∷ []) ≡ Ok (run (codes "p") (codes "w") (codes "{a}/{t}") (codes "b") (codes "{b,a}/{}") 100000)
base_of_run = refl

turns_of_run : request_of (codes "run" ∷ codes "p" ∷ codes "w" ∷ codes "{}/{}" ∷ codes "b" ∷ codes "--turns" ∷ codes "1000000" ∷ []) ≡ Ok (run (codes "p") (codes "w") (codes "{}/{}") (codes "b") (codes "{}/{}") 1000000)
turns_of_run = refl

both_of_run : request_of (codes "run" ∷ codes "p" ∷ codes "w" ∷ codes "{}/{}" ∷ codes "b" ∷ codes "--base" ∷ codes "{a}/{}" ∷ codes "--turns" ∷ codes "65" ∷ []) ≡ Ok (run (codes "p") (codes "w") (codes "{}/{}") (codes "b") (codes "{a}/{}") 65)
both_of_run = refl

other_order_of_run : request_of (codes "run" ∷ codes "p" ∷ codes "w" ∷ codes "{}/{}" ∷ codes "b" ∷ codes "--turns" ∷ codes "65" ∷ codes "--base" ∷ codes "{a}/{}" ∷ []) ≡ Err 7
other_order_of_run = refl

base_with_integrity : request_of (codes "run" ∷ codes "p" ∷ codes "w" ∷ codes "{}/{}" ∷ codes "b" ∷ codes "--base" ∷ codes "{a}/{b}" ∷ []) ≡ Err 6
base_with_integrity = refl

no_base : request_of (codes "check" ∷ codes "p" ∷ codes "w" ∷ codes "b" ∷ codes "--base" ∷ codes "{a,}/{}" ∷ []) ≡ Err 5
no_base = refl

no_open_turn : request_of (codes "run" ∷ codes "p" ∷ codes "w" ∷ codes "{}/{}" ∷ codes "b" ∷ codes "--turns" ∷ codes "0" ∷ []) ≡ Err 6
no_open_turn = refl

too_many_turns : request_of (codes "run" ∷ codes "p" ∷ codes "w" ∷ codes "{}/{}" ∷ codes "b" ∷ codes "--turns" ∷ codes "1000001" ∷ []) ≡ Err 6
too_many_turns = refl

words_of_check : request_of (codes "check" ∷ codes "p" ∷ codes "w" ∷ codes "b" ∷ []) ≡ Ok (check (codes "p") (codes "w") (codes "b") (codes "{}/{}"))
words_of_check = refl

base_of_check : request_of (codes "check" ∷ codes "p" ∷ codes "w" ∷ codes "b" ∷ codes "--base" ∷ codes "{a}/{}" ∷ []) ≡ Ok (check (codes "p") (codes "w") (codes "b") (codes "{a}/{}"))
base_of_check = refl

no_turns_of_check : request_of (codes "check" ∷ codes "p" ∷ codes "w" ∷ codes "b" ∷ codes "--turns" ∷ codes "1" ∷ []) ≡ Err 4
no_turns_of_check = refl

word_too_many_of_help : request_of (codes "help" ∷ codes "me" ∷ []) ≡ Err 1
word_too_many_of_help = refl

-- the help text
text_of_help : help_lines commands ≡ codes "lam_closed run P W OBS BOOKOUT [--base LABEL] [--turns N]\nlam_closed check P W BOOK [--base LABEL]\nlam_closed help\n"
text_of_help = refl
