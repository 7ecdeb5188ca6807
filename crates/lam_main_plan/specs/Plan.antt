-- What a call of given words does with given files, and how it ends, where nothing fails.
use Rattle.std.specs.Prelude.{◌≡◌, ◌≤◌, ℕ, Bool, true, false, List, [], ◌∷◌, length, Option, Some, None, Result, Ok, Err, chars, codes, refl}
use Rattle.flow_labels.specs.LabelText.{label_of}
use Rattle.flow_labels.specs.declared.Label.{Label}
use Rattle.flow_labels.specs.declared.texts.LabelFault.{LabelFault}
use Rattle.lam_io.specs.Outside.{Files}
use Rattle.play_script.specs.Script.{Play, read_script}
use Rattle.play_run.specs.Lines.{play_lines}
use Rattle.play_run.specs.Isolation.{IsolatedFrom}
use Rattle.lam_syntax.specs.Tree.{ProgramTree}
use Rattle.lam_syntax.specs.Unplaced.{unplaced}
use Rattle.lam_lexer.specs.declared.token.Token.{Token}
use Rattle.lam_lexer.specs.Lexed.{Lexed}
use Rattle.lam_grammar.specs.Program.{SpellsProgram}
use Rattle.lam_print_laws.specs.Law.{NoneTooDeep}
use Rattle.lam_print.specs.Canon.{canon}
use Rattle.lam_front.specs.declared.fault.ProgramFault.{ProgramFault}
use Rattle.lam_front.specs.Programs.{IsSpelt, IsMisspelt}
use Rattle.lam_bytecode.specs.Listing.{listing_text}
use Rattle.lam_main_words.specs.Words.{Text, Request, play, check, format, code, replay, run, audit, make, help, next, pair, walk, request_of, commands, help_lines}
use Rattle.lam_main_plan.specs.declared.Status.{Status}
use Rattle.lam_main_plan.specs.declared.Status.TheVariants.{Words, Program, World, Book, Missing}
use Rattle.lam_main_plan.specs.Refusals.{Plan, prints, no_word, no_script, no_program, absent}
use Rattle.lam_main_plan.specs.Reading.{WithFile, unread, script_limit, program_limit, Compiles}
use Rattle.lam_main_plan.specs.Replays.{an_observer, an_auditor, Runs}
use Rattle.lam_main_plan.specs.Threads.{RunsThreads, Makes}
use Rattle.lam_main_plan.specs.Pairs.{Pairs}
use Rattle.lam_main_plan.specs.Saves.{TakesWholeNumbers, Saves}
use Rattle.lam_main_plan.specs.Walks.{Walks}

-- ---- `play`

-- the observer is the word of index 2
abbrev pub seen_by : Play → Result Label LabelFault → Plan
seen_by script (Ok observer) = prints (play_lines script observer)
seen_by script (Err fault) = no_word 2

abbrev pub played : Result Play ℕ → Text → Plan
played (Ok script) observer = seen_by script (label_of script.tags observer)
played (Err line) observer = no_script line

abbrev pub Plays : Text → Text → Plan → Type 0
Plays observer bytes plan = plan ≡ played (read_script bytes) observer

-- ---- `format`

-- the canonical text of the program that the bytes spell, or their first fault
pub data Formats (bytes : Text) (plan : Plan) : Type 0 where
  canonical : (p : ProgramTree) → IsSpelt bytes p → plan ≡ prints (canon p) → Formats bytes plan
  misspelt : (f : ProgramFault) → IsMisspelt bytes f → plan ≡ no_program f → Formats bytes plan

-- ---- `check` and `code`

-- `ok`, where there is code
abbrev pub Checks : Text → Plan → Type 0
Checks bytes plan = Compiles (λ tree p. p ≡ prints (codes "ok\n")) bytes plan

-- the listing of the code
abbrev pub Lists : Text → Plan → Type 0
Lists bytes plan = Compiles (λ tree p. p ≡ prints (listing_text tree)) bytes plan

-- ---- every command

abbrev pub IsPlanOf : Result Request ℕ → Files → Plan → Type 0
IsPlanOf (Err index) files plan = plan ≡ no_word index
IsPlanOf (Ok (play file observer)) files plan = WithFile (files file) file script_limit (Plays observer) plan
IsPlanOf (Ok (check file)) files plan = WithFile (files file) file program_limit Checks plan
IsPlanOf (Ok (format file)) files plan = WithFile (files file) file program_limit Formats plan
IsPlanOf (Ok (code file)) files plan = WithFile (files file) file program_limit Lists plan
IsPlanOf (Ok (replay program world book label)) files plan = WithFile (files program) program program_limit (Runs files (record { world = world; book = book }) (an_observer 4 label)) plan
IsPlanOf (Ok (run program world label out workers budget)) files plan = WithFile (files program) program program_limit (RunsThreads files (record { world = world; out = out }) budget (an_observer 3 label)) plan
IsPlanOf (Ok (audit program world book)) files plan = WithFile (files program) program program_limit (Runs files (record { world = world; book = book }) an_auditor) plan
IsPlanOf (Ok (make seed threads out)) files plan = Makes seed threads out plan
IsPlanOf (Ok help) files plan = plan ≡ prints (help_lines commands)
IsPlanOf (Ok (next program world book out)) files plan = WithFile (files program) program program_limit (Saves files (record { world = world; book = book }) out) plan
IsPlanOf (Ok (pair program first_world first_book second_world second_book label)) files plan = WithFile (files program) program program_limit (Pairs files (record { world = first_world; book = first_book }) (record { world = second_world; book = second_book }) 6 label) plan
IsPlanOf (Ok (walk program world book)) files plan = WithFile (files program) program program_limit (Walks files (record { world = world; book = book })) plan

-- the plan of words and files, in the order of reading: words, file, and then what the file is read for
abbrev pub IsPlan : List Text → Files → Plan → Type 0
IsPlan ws files plan = IsPlanOf (request_of ws) files plan

-- whether what is asked starts threads, whose turns words and files do not tell
abbrev pub starts_threads : Result Request ℕ → Bool
starts_threads (Ok (run program world label out workers budget)) = true
starts_threads (Ok (make seed threads out)) = true
starts_threads request = false

-- Words and files leave no digits to the writer of a world: what is asked writes none, or what it takes from an older document
-- has no number but whole ones of 64 bits. Of another number the library gives the digits.
abbrev pub LeavesNoDigits : Result Request ℕ → Files → Type 0
LeavesNoDigits (Ok (next program world book out)) files = (old : Text) → files world ≡ Some old → TakesWholeNumbers old
LeavesNoDigits request files = Unit {0}

-- words and files tell all of a plan: no turns are left to threads, and no digits to the writer of a world
pub record TellAll (request : Result Request ℕ) (files : Files) : Type 0 where
  pub turns : starts_threads request ≡ false
  pub digits : LeavesNoDigits request files

-- the name of the file that is asked to be written
abbrev pub written_by : Result Request ℕ → Option Text
written_by (Ok (run program world label out workers budget)) = Some out
written_by (Ok (make seed threads out)) = Some out
written_by (Ok (next program world book out)) = Some out
written_by request = None

-- there is at most one plan where words and files tell all of it
abbrev pub PlansAreOne : Type 0
PlansAreOne = (ws : List Text) (files : Files) (p q : Plan) → TellAll (request_of ws) files → IsPlan ws files p → IsPlan ws files q → p ≡ q

-- the statuses of refusals
abbrev pub IsRefused : Status → Type 0
IsRefused Words = Unit {0}
IsRefused Program = Unit {0}
IsRefused World = Unit {0}
IsRefused Book = Unit {0}
IsRefused Missing = Unit {0}
IsRefused status = ⊥

-- where a refusal is planned nothing else is, also where threads would be started or digits are left to the writer of a world
abbrev pub RefusalsAreOne : Type 0
RefusalsAreOne = (ws : List Text) (files : Files) (p q : Plan) → IsRefused p.status → IsPlan ws files p → IsPlan ws files q → p ≡ q

-- the words and the files name this script and this observer
pub record PlaysScript (ws : List Text) (files : Files) (script : Play) (observer : Label) : Type 0 where
  pub file : Text
  pub bytes : Text
  pub label : Text
  pub asks : request_of ws ≡ Ok (play file label)
  pub found : files file ≡ Some bytes
  pub short : length bytes ≤ script_limit
  pub reads : read_script bytes ≡ Ok script
  pub observes : label_of script.tags label ≡ Ok observer

-- what is printed is what the observer sees of the script, which tells it nothing of the cells that it does not
-- see, but for the releases past it
abbrev pub PlaysIsolated : List Text → Files → Type 0
PlaysIsolated ws files = (script : Play) (observer : Label) → PlaysScript ws files script observer → IsPlan ws files (prints (play_lines script observer)) × IsolatedFrom script observer

-- the words ask for the canonical text of this program
pub record IsFormatted (ws : List Text) (files : Files) (p : ProgramTree) : Type 0 where
  pub file : Text
  pub bytes : Text
  pub asks : request_of ws ≡ Ok (format file)
  pub found : files file ≡ Some bytes
  pub short : length bytes ≤ program_limit
  pub spelt : IsSpelt bytes p

-- The text has tokens. Unless the depth sum passes its limit at one of them, they spell the program again, but for its
-- positions, and that is printed as this text.
pub record IsReadAgain (text : Text) (p : ProgramTree) : Type 0 where
  pub tokens : List Token
  pub lexed : Lexed (chars text) tokens
  pub again : NoneTooDeep tokens → (q : ProgramTree) × SpellsProgram tokens q × (unplaced q ≡ unplaced p) × (canon q ≡ text)

-- what `format` prints is read as the same program
abbrev pub FormatIsSteady : List Text → Files → Type 0
FormatIsSteady ws files = (p : ProgramTree) → IsFormatted ws files p → IsPlan ws files (prints (canon p)) × IsReadAgain (canon p) p

-- a file that is not there, and a script whose second line is broken
not_there : IsPlan (codes "play" ∷ codes "none" ∷ codes "{}/{}" ∷ []) (λ name. None) (absent (codes "none"))
not_there = unread refl

broken_line : Plays (codes "{}/{}") (codes "tag a\ncell c {}/{} 01\n") (no_script 2)
broken_line = refl
