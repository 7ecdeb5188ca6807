-- What is found, and what is shown, of the parts of a run.
use Rattle.std.proofs.Common.{◌≡◌, ℕ, List, Option, None, Result, Ok, Err, String, string_bytes, IfOk, IfErr, refl, sym, ap, subst, ◌∙◌}
use Rattle.std.specs.declared.alloc.Global.{Global}
use Rattle.flow_labels.specs.LabelText.{label_of}
use Rattle.flow_labels.specs.declared.Label.{Label}
use Rattle.flow_labels.specs.declared.texts.LabelFault.{LabelFault}
use Rattle.lam_io.specs.Outside.{Files, AllStay}
use Rattle.lam_bytecode.specs.Codes.{CodeTree}
use Rattle.lam_machine_terms.specs.Worlds.{World}
use Rattle.lam_machine_terms.specs.Turns.{Moment, moments}
use Rattle.world_doc_terms.specs.Breaks.{Break, break_seen, Reading}
use Rattle.world_doc_terms.specs.Start.{start_of}
use Rattle.turn_book.specs.Reading.{turns_of}
use Rattle.turn_book.specs.Reading as book_reading
use Rattle.turn_book.specs.declared.BookFault.{BookFault}
use Rattle.turn_book.specs.declared.BookFault.TheVariants.{BadHead, BadLine, SameThread, TooMany, NoMemory as no_memory_of_book}
use Rattle.lam_main_plan.specs.InputFault.{InputFault}
use Rattle.lam_main_plan.specs.InputFault.TheVariants as input
use Rattle.lam_main_plan.specs.Inputs.{NoStart as NoStartOf}
use Rattle.lam_machine_runs.specs.Stops.{NotReady, stopped_at}
use Rattle.audit_log_lines.specs.Stops.{IsStop}
use Rattle.audit_log_lines.specs.RunFault.{RunFault}
use Rattle.audit_log_lines.specs.RunFault.TheVariants.{NotReady as not_ready, NoMemory as no_memory_of_run}
use Rattle.lam_main_words.specs.Words.{Text}
use Rattle.lam_main_plan.specs.Refusals.{Plan, prints, no_world, no_book}
use Rattle.lam_main_plan.specs.Reading.{HasFile, WithFile, Never, Compiles, IsRunCode, program_limit, world_limit, book_limit, of_file}
use Rattle.lam_main_plan.specs.Replays.{Reader, an_observer, RunFiles, view_by, read_by, by_turns, by_book, IsOfTurns, IsOfBook, ByReader, ByWorld, NoStart, Replays, Starts, Runs}
use Rattle.lam_main_plan.specs.Books.{ByLabel, ByTurns, NoTurns}
use Rattle.lam_main_plan.proofs.ReadLemmas.{file_map, same_files, thin_program_then, no_thin_program_then, start_then, no_start_then, reader_then, no_reader_then}
use Rattle.lam_main_replay.specs.declared.halt.Refusal.TheVariants.{NotReady as not_ready_at}
use Rattle.lam_main_replay.specs.declared.halt.Halt.{Halt}
use Rattle.lam_main_replay.specs.declared.halt.Halt.TheVariants.{Refused, NoMemory, ShelfFailed}
use Rattle.lam_main_replay.specs.Halts.{refuses, halt_of_input, Finds, Says, Gives}
use Rattle.lam_main_replay.proofs.FileLemmas.{says_map, not_found, gives_of}
use Rattle.lam_main_replay.specs.declared.viewer.Viewer.{Viewer}
use Rattle.lam_main_replay.specs.Asked.{lines_for, halt_of_book, halt_of_run, HaltsAt}

-- ---- the start

by_break : (read : Reading World) (b : Break) → read ≡ Err b → ByWorld Never read (no_world b)
by_break read b is = subst (λ (r : Reading World). ByWorld Never r (no_world b)) (sym is) refl

module _ {X : Type 0} (IsIt : X → Type 0) (tree : CodeTree) (bytes : Text) where
  no_start : (f : InputFault) → NoStartOf tree bytes f → Finds {X = X} (Err (halt_of_input f)) IsIt (NoStart tree bytes)
  no_start input.NotUtf8 h = absurd h
  no_start (input.Flawed flaw at) h = absurd h
  no_start (input.CodeTooLong unit) h = absurd h
  no_start (input.World breach) h = by_break (start_of bytes tree) (break_seen breach) h
  no_start input.NoMemory h = tt

  -- a document that gives no start is refused as planned
  pub no_start_found : (f : InputFault) (halt : Halt) → NoStartOf tree bytes f → halt ≡ halt_of_input f → Finds {X = X} (Err halt) IsIt (NoStart tree bytes)
  no_start_found f halt h is = subst (λ (x : Halt). Finds {X = X} (Err x) IsIt (NoStart tree bytes)) (sym is) (no_start f h)

-- ---- who reads

by_label : (index : ℕ) (names : List Text) (p : Plan) (read : Result Label LabelFault) → ByLabel index Never read p → ByReader Never (view_by index names read) p
by_label index names p (Ok o) h = absurd h
by_label index names p (Err fault) h = h

-- what is no label names no reader
pub no_label_reads : (index : ℕ) (names : List Text) (text : Text) (halt : Halt) → Finds {X = Label} (Err halt) (λ o. label_of names text ≡ Ok o) (ByLabel index Never (label_of names text)) → Finds {X = Viewer} (Err halt) (λ who. read_by (an_observer index text) names ≡ Ok (lines_for who names)) (ByReader Never (read_by (an_observer index text) names))
no_label_reads index names text (Refused refusal) h = by_label index names (refuses refusal) (label_of names text) h
no_label_reads index names text NoMemory h = tt
no_label_reads index names text ShelfFailed h = tt

-- ---- the turns

module _ (tree : CodeTree) (start : World) (shown : List Moment → Text) where
  -- the text of a run's lines
  pub run_says : (turns : List ℕ) (lines : Text) (answer : Result (String Global) Halt) → IfOk answer (λ text. string_bytes text ≡ lines) → IfErr answer (λ halt. halt ≡ NoMemory) → lines ≡ shown (moments tree turns start) → stopped_at tree turns start ≡ None → Says answer (IsOfTurns tree start shown turns)
  run_says turns lines (Ok text) h k is whole = ap prints (h ∙ is) ∙ sym (ap (λ (stop : Option NotReady). by_turns stop (shown (moments tree turns start))) whole)
  run_says turns lines (Err (Refused refusal)) h k is whole = absurd (let no : ⊥ = cc in no)
  run_says turns lines (Err NoMemory) h k is whole = tt
  run_says turns lines (Err ShelfFailed) h k is whole = tt

  pub no_run_says : (turns : List ℕ) (halt : Halt) → HaltsAt halt (stopped_at tree turns start) → Says (Err halt) (IsOfTurns tree start shown turns)
  no_run_says turns (Refused (not_ready_at turn thread)) h = sym (ap (λ (stop : Option NotReady). by_turns stop (shown (moments tree turns start))) h)
  no_run_says turns (Refused refusal) h = absurd h
  no_run_says turns NoMemory h = tt
  no_run_says turns ShelfFailed h = tt

-- ---- the book

broken_book : {X : Type 0} (IsIt : X → Type 0) (bytes : Text) (f : BookFault) → book_reading.Fails f (turns_of bytes) → Finds {X = X} (Err (halt_of_book f)) IsIt (NoTurns bytes)
broken_book IsIt bytes BadHead h = subst (λ (r : Result (List ℕ) BookFault). ByTurns Never r (no_book BadHead)) (sym h) refl
broken_book IsIt bytes (BadLine number) h = subst (λ (r : Result (List ℕ) BookFault). ByTurns Never r (no_book (BadLine number))) (sym h) refl
broken_book IsIt bytes (SameThread number) h = subst (λ (r : Result (List ℕ) BookFault). ByTurns Never r (no_book (SameThread number))) (sym h) refl
broken_book IsIt bytes (TooMany number) h = subst (λ (r : Result (List ℕ) BookFault). ByTurns Never r (no_book (TooMany number))) (sym h) refl
broken_book IsIt bytes no_memory_of_book h = tt

pub no_turns_found : {X : Type 0} (IsIt : X → Type 0) (bytes : Text) (f : BookFault) (halt : Halt) → book_reading.Fails f (turns_of bytes) → halt ≡ halt_of_book f → Finds {X = X} (Err halt) IsIt (NoTurns bytes)
no_turns_found IsIt bytes f halt h is = subst (λ (x : Halt). Finds {X = _} (Err x) IsIt (NoTurns bytes)) (sym is) (broken_book IsIt bytes f h)

module _ (tree : CodeTree) (start : World) (shown : List Moment → Text) (found : Option Text) (name : Text) where
  -- what is shown of the turns of a book is what is shown of the book
  pub turns_say : (turns : List ℕ) (answer : Result (String Global) Halt) → HasFile found book_limit (λ bytes. turns_of bytes ≡ Ok turns) → Says answer (IsOfTurns tree start shown turns) → Says answer (WithFile found name book_limit (IsOfBook tree start shown))
  turns_say turns answer h says =
      says_map (IsOfTurns tree start shown turns) (WithFile found name book_limit (IsOfBook tree start shown))
      (λ p k. of_file (record { bytes = h.bytes; there = h.there; short = h.short; follows = k ∙ sym (ap (by_book tree start shown) h.follows) })) answer says

  no_turns : (p : Plan) (read : Result (List ℕ) BookFault) → ByTurns Never read p → p ≡ by_book tree start shown read
  no_turns p (Ok turns) h = absurd h
  no_turns p (Err fault) h = h

  pub no_turns_say : (halt : Halt) → Finds {X = List ℕ} (Err halt) (λ turns. HasFile found book_limit (λ bytes. turns_of bytes ≡ Ok turns)) (WithFile found name book_limit NoTurns) → Says (Err halt) (WithFile found name book_limit (IsOfBook tree start shown))
  no_turns_say halt h =
      not_found (λ turns. HasFile found book_limit (λ bytes. turns_of bytes ≡ Ok turns)) (WithFile found name book_limit NoTurns) (WithFile found name book_limit (IsOfBook tree start shown))
      (λ p k. file_map found name book_limit NoTurns (IsOfBook tree start shown) p (λ bytes. no_turns p (turns_of bytes)) k) halt h

pub no_shelf_book : (f : BookFault) (halt : Halt) → halt ≡ halt_of_book f → halt ≡ ShelfFailed → ⊥
no_shelf_book BadHead halt is e = cc
no_shelf_book (BadLine number) halt is e = cc
no_shelf_book (SameThread number) halt is e = cc
no_shelf_book (TooMany number) halt is e = cc
no_shelf_book no_memory_of_book halt is e = cc

pub no_shelf_run : (halt : Halt) (stop : Option NotReady) → HaltsAt halt stop → halt ≡ ShelfFailed → ⊥
no_shelf_run (Refused refusal) stop h e = cc
no_shelf_run NoMemory stop h e = cc
no_shelf_run ShelfFailed stop h e = h

stop_halts : (f : RunFault) (stop : Option NotReady) → IsStop f stop → HaltsAt (halt_of_run f) stop
stop_halts (not_ready turn thread) stop h = h
stop_halts no_memory_of_run stop h = tt

pub fault_halts : (f : RunFault) (halt : Halt) (stop : Option NotReady) → IsStop f stop → halt ≡ halt_of_run f → HaltsAt halt stop
fault_halts f halt stop h is = subst (λ (x : Halt). HaltsAt x stop) (sym is) (stop_halts f stop h)

-- ---- one part after another

module _ (files : Files) (book : Text) (reader : Reader) (tree : CodeTree) (start : World) (names : List Text) (same : names ≡ start.names) where
  pub reader_says : (shown : List Moment → Text) (answer : Result (String Global) Halt) → read_by reader names ≡ Ok shown → Says answer (WithFile (files book) book book_limit (IsOfBook tree start shown)) → Says answer (Replays files book reader tree start)
  reader_says shown answer is h = says_map (WithFile (files book) book book_limit (IsOfBook tree start shown)) (Replays files book reader tree start) (λ p k. reader_then files book reader tree start p shown (sym (ap (read_by reader) same) ∙ is) k) answer h

  pub no_reader_says : {X : Type 0} (IsIt : X → Type 0) (halt : Halt) → Finds {X = X} (Err halt) IsIt (ByReader Never (read_by reader names)) → Says (Err halt) (Replays files book reader tree start)
  no_reader_says IsIt halt h =
      not_found IsIt (ByReader Never (read_by reader names)) (Replays files book reader tree start)
      (λ p k. no_reader_then files book reader tree start p (subst (λ (ns : List Text). ByReader Never (read_by reader ns) p) same k)) halt h

module _ (files : Files) (run : RunFiles) (reader : Reader) (tree : CodeTree) where
  pub start_says : (between : Files) (start : World) (answer : Result (String Global) Halt) → AllStay files between → HasFile (files run.world) world_limit (λ bytes. start_of bytes tree ≡ Ok start) → Says answer (Replays between run.book reader tree start) → Says answer (Starts files run reader tree)
  start_says between start answer stay has h = says_map (Replays between run.book reader tree start) (Starts files run reader tree) (λ p k. start_then files run reader tree p start has (subst (λ (fs : Files). Replays fs run.book reader tree start p) (same_files files between stay) k)) answer h

  pub no_start_says : {X : Type 0} (IsIt : X → Type 0) (halt : Halt) → Finds {X = X} (Err halt) IsIt (WithFile (files run.world) run.world world_limit (NoStart tree)) → Says (Err halt) (Starts files run reader tree)
  no_start_says IsIt halt h = not_found IsIt (WithFile (files run.world) run.world world_limit (NoStart tree)) (Starts files run reader tree) (λ p k. no_start_then files run reader tree p k) halt h

module _ (files : Files) (program : Text) (run : RunFiles) (reader : Reader) (new : Files) where
  pub program_gives : (between : Files) (tree : CodeTree) (answer : Result (String Global) Halt) → AllStay files between → AllStay files new → HasFile (files program) program_limit (λ bytes. IsRunCode bytes tree) → Says answer (Starts between run reader tree) → Gives answer (WithFile (files program) program program_limit (Runs files run reader)) files new
  program_gives between tree answer stay kept has h =
      gives_of (WithFile (files program) program program_limit (Runs files run reader)) files new answer kept
      (says_map (Starts between run reader tree) (WithFile (files program) program program_limit (Runs files run reader)) (λ p k. thin_program_then (files program) program (Starts files run reader) p tree has (subst (λ (fs : Files). Starts fs run reader tree p) (same_files files between stay) k)) answer h)

  pub no_program_gives : (halt : Halt) → AllStay files new → Finds {X = CodeTree} (Err halt) (λ tree. HasFile (files program) program_limit (λ bytes. IsRunCode bytes tree)) (WithFile (files program) program program_limit (Compiles Never)) → Gives (Err halt) (WithFile (files program) program program_limit (Runs files run reader)) files new
  no_program_gives halt kept h =
      gives_of (WithFile (files program) program program_limit (Runs files run reader)) files new (Err halt) kept
      (not_found (λ tree. HasFile (files program) program_limit (λ bytes. IsRunCode bytes tree)) (WithFile (files program) program program_limit (Compiles Never)) (WithFile (files program) program program_limit (Runs files run reader)) (λ p k. no_thin_program_then (files program) program (Starts files run reader) p k) halt h)
