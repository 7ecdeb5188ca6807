-- The forms of the words, as a table, and what each asks.
-- Examples stand at the end.
use Rattle.std.specs.Prelude.{◌≡◌, ℕ, ◌^◌, ◌<◌, ◌≤◌, List, [], ◌∷◌, Result, Ok, Err, codes, string_bytes, refl}
use Rattle.lam_main_words.specs.declared.word_forms.Kind.{Kind}
use Rattle.lam_main_words.specs.declared.word_forms.Kind.TheVariants.{Literal, File, Observer, Number}
use Rattle.lam_main_words.specs.declared.word_forms.Literal.TheVariants as literal
use Rattle.lam_main_words.specs.declared.Form.{Form}
use Rattle.lam_main_words.specs.declared.Form.TheVariants.{Play as play_form, Check as check_form, Format as format_form, Code as code_form, Replay as replay_form, Run as run_form, Audit as audit_form, Make as make_form, Help as help_form, Next as next_form, Pair as pair_form, Walk as walk_form}
use Rattle.lam_main_words.specs.declared.Options.{Options}
use Rattle.lam_main_words.specs.declared.Options.TheVariants.{Neither, Workers, Turns, Both}
use Rattle.lam_main_words.specs.declared.Command.{Command}
use Rattle.lam_main_words.specs.declared.Command.TheVariants.{Play, Check, Format, Code, Replay, Run, Audit, Make, Help, Next, Pair, Walk}
pub use Rattle.lam_main_words.specs.Forms.{Text, in_range, number_in, word, number}
use Rattle.lam_main_words.specs.Forms.{form_in, asks_by, command_lines}
use Rattle.turn_book.specs.Limits.{most_turns, most_workers}
use Rattle.lam_make.specs.Made.{most_made_threads}

-- as many workers and turns as there are where the words do not say
abbrev pub usual_workers : ℕ
usual_workers = 4

abbrev pub usual_turns : ℕ
usual_turns = 100000

-- the greatest seed of `make`
abbrev pub most_seed : ℕ
most_seed = 18446744073709551615

-- the commands as a reader of the help text sees them
abbrev pub commands : List Text
commands = codes "play FILE OBS" ∷ codes "check P" ∷ codes "format P" ∷ codes "code P" ∷ codes "replay P W BOOK OBS" ∷ codes "run P W OBS BOOKOUT [--workers N] [--turns N]" ∷ codes "audit P W BOOK" ∷ codes "make SEED THREADS BOOKOUT" ∷ codes "help" ∷ codes "next P W BOOK W2" ∷ codes "pair P W1 BOOK1 W2 BOOK2 OBS" ∷ codes "walk P W BOOK" ∷ []

-- a line for each command
abbrev pub help_lines : List Text → Text
help_lines = command_lines (codes "lam ")

-- the words of `run`, by its options
abbrev pub run_kinds : Options → List Kind
run_kinds Neither = Literal literal.Run ∷ File ∷ File ∷ Observer ∷ File ∷ []
run_kinds Workers = Literal literal.Run ∷ File ∷ File ∷ Observer ∷ File ∷ Literal literal.Workers ∷ Number 1 most_workers ∷ []
run_kinds Turns = Literal literal.Run ∷ File ∷ File ∷ Observer ∷ File ∷ Literal literal.Turns ∷ Number 1 most_turns ∷ []
run_kinds Both = Literal literal.Run ∷ File ∷ File ∷ Observer ∷ File ∷ Literal literal.Workers ∷ Number 1 most_workers ∷ Literal literal.Turns ∷ Number 1 most_turns ∷ []

-- the table: the words of each form
abbrev pub kinds : Form → List Kind
kinds play_form = Literal literal.Play ∷ File ∷ Observer ∷ []
kinds check_form = Literal literal.Check ∷ File ∷ []
kinds format_form = Literal literal.Format ∷ File ∷ []
kinds code_form = Literal literal.Code ∷ File ∷ []
kinds replay_form = Literal literal.Replay ∷ File ∷ File ∷ File ∷ Observer ∷ []
kinds (run_form options) = run_kinds options
kinds audit_form = Literal literal.Audit ∷ File ∷ File ∷ File ∷ []
kinds make_form = Literal literal.Make ∷ Number 0 most_seed ∷ Number 1 most_made_threads ∷ File ∷ []
kinds help_form = Literal literal.Help ∷ []
kinds next_form = Literal literal.Next ∷ File ∷ File ∷ File ∷ File ∷ []
kinds pair_form = Literal literal.Pair ∷ File ∷ File ∷ File ∷ File ∷ File ∷ Observer ∷ []
kinds walk_form = Literal literal.Walk ∷ File ∷ File ∷ File ∷ []

abbrev pub forms : List Form
forms = play_form ∷ check_form ∷ format_form ∷ code_form ∷ replay_form ∷ run_form Neither ∷ run_form Workers ∷ run_form Turns ∷ run_form Both ∷ audit_form ∷ make_form ∷ help_form ∷ next_form ∷ pair_form ∷ walk_form ∷ []

-- what words ask
pub data Request : Type 0 where
  play : (file observer : Text) → Request
  check : (program : Text) → Request
  format : (program : Text) → Request
  code : (program : Text) → Request
  replay : (program world book observer : Text) → Request
  run : (program world observer out : Text) (workers turns : ℕ) → Request
  audit : (program world book : Text) → Request
  make : (seed threads : ℕ) (out : Text) → Request
  help : Request
  next : (program world book out : Text) → Request
  pair : (program first_world first_book second_world second_book observer : Text) → Request
  walk : (program world book : Text) → Request

-- the workers and the turns that words of `run` ask, of which each may be left out
abbrev pub workers_in : List Text → Options → ℕ
workers_in ws Neither = usual_workers
workers_in ws Workers = number ws 6 1 most_workers
workers_in ws Turns = usual_workers
workers_in ws Both = number ws 6 1 most_workers

abbrev pub turns_in : List Text → Options → ℕ
turns_in ws Neither = usual_turns
turns_in ws Workers = usual_turns
turns_in ws Turns = number ws 6 1 most_turns
turns_in ws Both = number ws 8 1 most_turns

abbrev pub requested : List Text → Form → Request
requested ws play_form = play (word ws 1) (word ws 2)
requested ws check_form = check (word ws 1)
requested ws format_form = format (word ws 1)
requested ws code_form = code (word ws 1)
requested ws replay_form = replay (word ws 1) (word ws 2) (word ws 3) (word ws 4)
requested ws (run_form options) = run (word ws 1) (word ws 2) (word ws 3) (word ws 4) (workers_in ws options) (turns_in ws options)
requested ws audit_form = audit (word ws 1) (word ws 2) (word ws 3)
requested ws make_form = make (number ws 1 0 most_seed) (number ws 2 1 most_made_threads) (word ws 3)
requested ws help_form = help
requested ws next_form = next (word ws 1) (word ws 2) (word ws 3) (word ws 4)
requested ws pair_form = pair (word ws 1) (word ws 2) (word ws 3) (word ws 4) (word ws 5) (word ws 6)
requested ws walk_form = walk (word ws 1) (word ws 2) (word ws 3)

-- what words ask by their form, or the index at which they are in no form
abbrev pub request_of : List Text → Result Request ℕ
request_of ws = asks_by (requested ws) (form_in kinds forms ws)

-- a command as what it asks
abbrev pub asked : Command → Request
asked (Play file observer) = play (string_bytes file) (string_bytes observer)
asked (Check program) = check (string_bytes program)
asked (Format program) = format (string_bytes program)
asked (Code program) = code (string_bytes program)
asked (Replay program world book observer) = replay (string_bytes program) (string_bytes world) (string_bytes book) (string_bytes observer)
asked (Run program world observer out workers turns) = run (string_bytes program) (string_bytes world) (string_bytes observer) (string_bytes out) workers turns
asked (Audit program world book) = audit (string_bytes program) (string_bytes world) (string_bytes book)
asked (Make seed threads out) = make seed threads (string_bytes out)
asked Help = help
asked (Next program world book out) = next (string_bytes program) (string_bytes world) (string_bytes book) (string_bytes out)
asked (Pair program first_world first_book second_world second_book observer) = pair (string_bytes program) (string_bytes first_world) (string_bytes first_book) (string_bytes second_world) (string_bytes second_book) (string_bytes observer)
asked (Walk program world book) = walk (string_bytes program) (string_bytes world) (string_bytes book)

-- the workers and turns of `run`
pub record RunsInRange (workers turns : ℕ) : Type 0 where
  pub some_worker : 1 ≤ workers
  pub workers_most : workers ≤ most_workers
  pub some_turn : 1 ≤ turns
  pub turns_most : turns ≤ most_turns

-- the seed and the threads of `make`
pub record MakesInRange (seed threads : ℕ) : Type 0 where
  pub seed_most : seed < 2 ^ 64
  pub some_thread : 1 ≤ threads
  pub threads_most : threads ≤ most_made_threads

-- the numbers of a request are in their ranges
abbrev pub InRange : Request → Type 0
InRange (run program world observer out workers turns) = RunsInRange workers turns
InRange (make seed threads out) = MakesInRange seed threads
InRange request = Unit

-- no words; a word is wanting; a word too many; and words in a form
no_words : request_of [] ≡ Err 0
no_words = refl

word_wanting : request_of (codes "play" ∷ codes "s" ∷ []) ≡ Err 2
word_wanting = refl

word_too_many : request_of (codes "play" ∷ codes "s" ∷ codes "{}/{}" ∷ codes "x" ∷ []) ≡ Err 3
word_too_many = refl

words_of_play : request_of (codes "play" ∷ codes "s" ∷ codes "{a}/{}" ∷ []) ≡ Ok (play (codes "s") (codes "{a}/{}"))
words_of_play = refl

words_of_check : request_of (codes "check" ∷ codes "p" ∷ []) ≡ Ok (check (codes "p"))
words_of_check = refl

word_too_many_of_format : request_of (codes "format" ∷ codes "p" ∷ codes "x" ∷ []) ≡ Err 2
word_too_many_of_format = refl

words_of_replay : request_of (codes "replay" ∷ codes "p" ∷ codes "w" ∷ codes "b" ∷ codes "{}/{}" ∷ []) ≡ Ok (replay (codes "p") (codes "w") (codes "b") (codes "{}/{}"))
words_of_replay = refl

no_label_of_replay : request_of (codes "replay" ∷ codes "p" ∷ codes "w" ∷ codes "b" ∷ codes "{}" ∷ []) ≡ Err 4
no_label_of_replay = refl

words_of_audit : request_of (codes "audit" ∷ codes "p" ∷ codes "w" ∷ codes "b" ∷ []) ≡ Ok (audit (codes "p") (codes "w") (codes "b"))
words_of_audit = refl

words_of_run : request_of (codes "run" ∷ codes "p" ∷ codes "w" ∷ codes "{}/{}" ∷ codes "b" ∷ []) ≡ Ok (run (codes "p") (codes "w") (codes "{}/{}") (codes "b") 4 100000)
words_of_run = refl

workers_of_run : request_of (codes "run" ∷ codes "p" ∷ codes "w" ∷ codes "{}/{}" ∷ codes "b" ∷ codes "--workers" ∷ codes "16" ∷ []) ≡ Ok (run (codes "p") (codes "w") (codes "{}/{}") (codes "b") 16 100000)
workers_of_run = refl

turns_of_run : request_of (codes "run" ∷ codes "p" ∷ codes "w" ∷ codes "{}/{}" ∷ codes "b" ∷ codes "--turns" ∷ codes "1000000" ∷ []) ≡ Ok (run (codes "p") (codes "w") (codes "{}/{}") (codes "b") 4 1000000)
turns_of_run = refl

both_of_run : request_of (codes "run" ∷ codes "p" ∷ codes "w" ∷ codes "{}/{}" ∷ codes "b" ∷ codes "--workers" ∷ codes "2" ∷ codes "--turns" ∷ codes "5" ∷ []) ≡ Ok (run (codes "p") (codes "w") (codes "{}/{}") (codes "b") 2 5)
both_of_run = refl

other_order_of_run : request_of (codes "run" ∷ codes "p" ∷ codes "w" ∷ codes "{}/{}" ∷ codes "b" ∷ codes "--turns" ∷ codes "5" ∷ codes "--workers" ∷ codes "2" ∷ []) ≡ Err 7
other_order_of_run = refl

no_book_of_run : request_of (codes "run" ∷ codes "p" ∷ codes "w" ∷ codes "{}/{}" ∷ []) ≡ Err 4
no_book_of_run = refl

number_wanting_of_run : request_of (codes "run" ∷ codes "p" ∷ codes "w" ∷ codes "{}/{}" ∷ codes "b" ∷ codes "--workers" ∷ []) ≡ Err 6
number_wanting_of_run = refl

no_worker : request_of (codes "run" ∷ codes "p" ∷ codes "w" ∷ codes "{}/{}" ∷ codes "b" ∷ codes "--workers" ∷ codes "0" ∷ []) ≡ Err 6
no_worker = refl

too_many_workers : request_of (codes "run" ∷ codes "p" ∷ codes "w" ∷ codes "{}/{}" ∷ codes "b" ∷ codes "--workers" ∷ codes "17" ∷ []) ≡ Err 6
too_many_workers = refl

leading_zero : request_of (codes "run" ∷ codes "p" ∷ codes "w" ∷ codes "{}/{}" ∷ codes "b" ∷ codes "--workers" ∷ codes "04" ∷ []) ≡ Err 6
leading_zero = refl

too_many_turns : request_of (codes "run" ∷ codes "p" ∷ codes "w" ∷ codes "{}/{}" ∷ codes "b" ∷ codes "--turns" ∷ codes "1000001" ∷ []) ≡ Err 6
too_many_turns = refl

words_of_make : request_of (codes "make" ∷ codes "18446744073709551615" ∷ codes "64" ∷ codes "b" ∷ []) ≡ Ok (make 18446744073709551615 64 (codes "b"))
words_of_make = refl

no_book_of_make : request_of (codes "make" ∷ codes "1" ∷ codes "2" ∷ []) ≡ Err 3
no_book_of_make = refl

seed_too_large : request_of (codes "make" ∷ codes "18446744073709551616" ∷ codes "2" ∷ codes "b" ∷ []) ≡ Err 1
seed_too_large = refl

no_thread : request_of (codes "make" ∷ codes "0" ∷ codes "0" ∷ codes "b" ∷ []) ≡ Err 2
no_thread = refl

word_too_many_of_help : request_of (codes "help" ∷ codes "me" ∷ []) ≡ Err 1
word_too_many_of_help = refl

words_of_next : request_of (codes "next" ∷ codes "p" ∷ codes "w" ∷ codes "b" ∷ codes "v" ∷ []) ≡ Ok (next (codes "p") (codes "w") (codes "b") (codes "v"))
words_of_next = refl

no_world_of_next : request_of (codes "next" ∷ codes "p" ∷ codes "w" ∷ codes "b" ∷ []) ≡ Err 4
no_world_of_next = refl

words_of_pair : request_of (codes "pair" ∷ codes "p" ∷ codes "v" ∷ codes "b" ∷ codes "w" ∷ codes "c" ∷ codes "{}/{}" ∷ []) ≡ Ok (pair (codes "p") (codes "v") (codes "b") (codes "w") (codes "c") (codes "{}/{}"))
words_of_pair = refl

no_label_of_pair : request_of (codes "pair" ∷ codes "p" ∷ codes "v" ∷ codes "b" ∷ codes "w" ∷ codes "c" ∷ codes "{}" ∷ []) ≡ Err 6
no_label_of_pair = refl

words_of_walk : request_of (codes "walk" ∷ codes "p" ∷ codes "w" ∷ codes "b" ∷ []) ≡ Ok (walk (codes "p") (codes "w") (codes "b"))
words_of_walk = refl

word_too_many_of_walk : request_of (codes "walk" ∷ codes "p" ∷ codes "w" ∷ codes "b" ∷ codes "{}/{}" ∷ []) ≡ Err 4
word_too_many_of_walk = refl

-- the help text
text_of_help : help_lines commands ≡ codes "lam play FILE OBS\nlam check P\nlam format P\nlam code P\nlam replay P W BOOK OBS\nlam run P W OBS BOOKOUT [--workers N] [--turns N]\nlam audit P W BOOK\nlam make SEED THREADS BOOKOUT\nlam help\nlam next P W BOOK W2\nlam pair P W1 BOOK1 W2 BOOK2 OBS\nlam walk P W BOOK\n"
text_of_help = refl

-- an empty word fits nothing
empty_word : request_of (codes "play" ∷ [] ∷ codes "{}/{}" ∷ []) ≡ Err 1
empty_word = refl
