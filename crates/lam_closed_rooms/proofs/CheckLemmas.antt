-- What is said of the turns of a book, one part after another.
use Rattle.std.proofs.Common.{◌≡◌, ℕ, List, Option, None, Result, Ok, Err, String, string_bytes, refl, sym, ap, subst, ◌∙◌}
use Rattle.std.specs.declared.alloc.Global.{Global}
use Rattle.flow_labels.specs.LabelText.{label_of}
use Rattle.flow_labels.specs.declared.Label.{Label}
use Rattle.lam_io.specs.Outside.{Files, AllStay}
use Rattle.lam_bytecode.specs.Codes.{CodeTree}
use Rattle.lam_machine_terms.specs.Worlds.{World}
use Rattle.lam_machine_runs.specs.Stops.{NotReady, stopped_at}
use Rattle.turn_book.specs.Reading.{turns_of}
use Rattle.world_doc_terms.specs.Start.{start_of}
use Rattle.closed_terms.specs.declared.Departure.{Departure}
use Rattle.closed_terms.specs.Departures.{departure}
use Rattle.lam_main_words.specs.Words.{Text}
use Rattle.lam_main_replay.specs.Stops.{IsStop}
use Rattle.lam_main_replay.specs.RunFault.{RunFault}
use Rattle.lam_main_replay.specs.RunFault.TheVariants.{NotReady as not_ready, NoMemory as no_memory_of_run}
use Rattle.lam_main_replay.specs.Refusals.{Plan, prints, no_turn}
use Rattle.lam_main_replay.specs.Reading.{HasFile, WithFile, Never, Compiles, IsRunCode, program_limit, world_limit, book_limit}
use Rattle.lam_main_replay.specs.Replays.{RunFiles, NoStart}
use Rattle.lam_main_replay.specs.Books.{WithRun, ByLabel, NoTurns, WhereReady}
use Rattle.lam_main_replay.proofs.ReadLemmas.{same_files, thin_program_then, no_thin_program_then}
use Rattle.lam_main_replay.proofs.BookLemmas.{start_then, no_start_then, label_then, no_label_then, run_then, no_turns_then, ready_then, stop_then}
use Rattle.lam_main_replay.specs.declared.halt.Halt.{Halt}
use Rattle.lam_main_replay.specs.declared.halt.Halt.TheVariants.{ShelfFailed}
use Rattle.lam_main_replay.specs.Halts.{Finds, Says, Gives}
use Rattle.lam_main_replay.specs.Asked.{halt_of_run}
use Rattle.lam_main_replay.proofs.FileLemmas.{says_map, not_found, gives_of}
use Rattle.lam_closed_plan.specs.Checks.{base_word, departure_line, IsOfDeparture, ChecksFrom, ChecksCode, Checks}

-- ---- the turns

module _ (code : CodeTree) (start : World) (b : Label) (turns : List ℕ) where
  pub departure_says : (text : String Global) (d : Option Departure) → d ≡ departure b code turns start → string_bytes text ≡ departure_line d → stopped_at code turns start ≡ None → Says (Ok text) (WhereReady (IsOfDeparture code start b turns) (stopped_at code turns start))
  departure_says text d is says whole =
      ready_then (IsOfDeparture code start b turns) (prints (string_bytes text)) (stopped_at code turns start) whole (ap prints (says ∙ ap departure_line is))

fault_says : (Is : Plan → Type 0) (f : RunFault) (stop : Option NotReady) → IsStop f stop → Says (Err (halt_of_run f)) (WhereReady Is stop)
fault_says Is (not_ready turn thread) stop h = stop_then Is (no_turn (record { turn = turn; thread = thread })) stop (record { turn = turn; thread = thread }) h refl
fault_says Is no_memory_of_run stop h = tt

-- turns that are no run are refused
pub no_run_says : (Is : Plan → Type 0) (f : RunFault) (halt : Halt) (stop : Option NotReady) → IsStop f stop → halt ≡ halt_of_run f → Says (Err halt) (WhereReady Is stop)
no_run_says Is f halt stop h is = subst (λ (x : Halt). Says (Err x) (WhereReady Is stop)) (sym is) (fault_says Is f stop h)

-- no fault of turns is one of the shelf
pub no_shelf_run : (f : RunFault) (halt : Halt) → halt ≡ halt_of_run f → halt ≡ ShelfFailed → ⊥
no_shelf_run (not_ready turn thread) halt is e = cc
no_shelf_run no_memory_of_run halt is e = cc

-- ---- the book

module _ (files : Files) (book : Text) (code : CodeTree) (start : World) (IsOf : List ℕ → Plan → Type 0) where
  pub turns_say : (turns : List ℕ) (answer : Result (String Global) Halt) → HasFile (files book) book_limit (λ bytes. turns_of bytes ≡ Ok turns) → Says answer (WhereReady (IsOf turns) (stopped_at code turns start)) → Says answer (WithRun files book code start IsOf)
  turns_say turns answer has h = says_map (WhereReady (IsOf turns) (stopped_at code turns start)) (WithRun files book code start IsOf) (λ p k. run_then files book code start IsOf p turns has k) answer h

  pub no_turns_say : {X : Type 0} (IsIt : X → Type 0) (halt : Halt) → Finds {X = X} (Err halt) IsIt (WithFile (files book) book book_limit NoTurns) → Says (Err halt) (WithRun files book code start IsOf)
  no_turns_say IsIt halt h = not_found IsIt (WithFile (files book) book book_limit NoTurns) (WithRun files book code start IsOf) (λ p k. no_turns_then files book code start IsOf p k) halt h

-- ---- the base

module _ (files : Files) (book base : Text) (code : CodeTree) (start : World) (names : List Text) (same : names ≡ start.names) (text : Text) (is : text ≡ base) where
  abbrev Over : Label → Plan → Type 0
  Over b p = WithRun files book code start (IsOfDeparture code start b) p

  same_label : label_of names text ≡ label_of start.names base
  same_label = ap (label_of names) is ∙ ap (λ (ns : List Text). label_of ns base) same

  pub base_says : (b : Label) (answer : Result (String Global) Halt) → label_of names text ≡ Ok b → Says answer (Over b) → Says answer (ChecksFrom files book base code start)
  base_says b answer reads h =
      says_map (Over b) (ChecksFrom files book base code start) (λ p k. label_then base_word Over p (label_of start.names base) b (sym same_label ∙ reads) k) answer h

  pub no_base_says : {X : Type 0} (IsIt : X → Type 0) (halt : Halt) → Finds {X = X} (Err halt) IsIt (ByLabel base_word Never (label_of names text)) → Says (Err halt) (ChecksFrom files book base code start)
  no_base_says IsIt halt h =
      not_found IsIt (ByLabel base_word Never (label_of names text)) (ChecksFrom files book base code start)
      (λ p k. no_label_then base_word Over p (label_of start.names base) (subst (λ r. ByLabel base_word Never r p) same_label k)) halt h

-- ---- the start and the program

module _ (files : Files) (run : RunFiles) (base : Text) (code : CodeTree) where
  pub start_says : (between : Files) (start : World) (answer : Result (String Global) Halt) → AllStay files between → HasFile (files run.world) world_limit (λ bytes. start_of bytes code ≡ Ok start) → Says answer (ChecksFrom between run.book base code start) → Says answer (ChecksCode files run base code)
  start_says between start answer stay has h =
      says_map (ChecksFrom between run.book base code start) (ChecksCode files run base code)
      (λ p k. start_then files run.world code (ChecksFrom files run.book base code) p start has (subst (λ (fs : Files). ChecksFrom fs run.book base code start p) (same_files files between stay) k)) answer h

  pub no_start_says : {X : Type 0} (IsIt : X → Type 0) (halt : Halt) → Finds {X = X} (Err halt) IsIt (WithFile (files run.world) run.world world_limit (NoStart code)) → Says (Err halt) (ChecksCode files run base code)
  no_start_says IsIt halt h =
      not_found IsIt (WithFile (files run.world) run.world world_limit (NoStart code)) (ChecksCode files run base code)
      (λ p k. no_start_then files run.world code (ChecksFrom files run.book base code) p k) halt h

module _ (files : Files) (program : Text) (run : RunFiles) (base : Text) (new : Files) where
  pub program_gives : (between : Files) (code : CodeTree) (answer : Result (String Global) Halt) → AllStay files between → AllStay files new → HasFile (files program) program_limit (λ bytes. IsRunCode bytes code) → Says answer (ChecksCode between run base code) → Gives answer (WithFile (files program) program program_limit (Checks files run base)) files new
  program_gives between code answer stay kept has h =
      gives_of (WithFile (files program) program program_limit (Checks files run base)) files new answer kept
      (says_map (ChecksCode between run base code) (WithFile (files program) program program_limit (Checks files run base))
      (λ p k. thin_program_then (files program) program (ChecksCode files run base) p code has (subst (λ (fs : Files). ChecksCode fs run base code p) (same_files files between stay) k)) answer h)

  pub no_program_gives : {X : Type 0} (IsIt : X → Type 0) (halt : Halt) → AllStay files new → Finds {X = X} (Err halt) IsIt (WithFile (files program) program program_limit (Compiles Never)) → Gives (Err halt) (WithFile (files program) program program_limit (Checks files run base)) files new
  no_program_gives IsIt halt kept h =
      gives_of (WithFile (files program) program program_limit (Checks files run base)) files new (Err halt) kept
      (not_found IsIt (WithFile (files program) program program_limit (Compiles Never)) (WithFile (files program) program program_limit (Checks files run base))
      (λ p k. no_thin_program_then (files program) program (ChecksCode files run base) p k) halt h)
