-- The turns that threads took, and what is made of them.
use Rattle.std.proofs.Common.{◌≡◌, ◌≤◌, ℕ, List, [], length, Option, Some, None, Result, Ok, Err, String, string_bytes, IfOk, refl, sym, ap, subst, ◌∙◌}
use Rattle.std.specs.declared.alloc.Global.{Global}
use Rattle.want_of_memory.specs.declared.NoMemory.{NoMemory as NoMem}
use Rattle.lam_bytecode.specs.Codes.{CodeTree, IsCode}
use Rattle.lam_machine_terms.specs.Worlds.{World}
use Rattle.lam_machine_terms.specs.Turns.{Moment, moments}
use Rattle.lam_machine_terms.specs.Valid.{IsValid}
use Rattle.world_doc_terms.specs.Breaks.{Reading}
use Rattle.world_doc_terms.specs.Start.{start_of}
use Rattle.turn_book.specs.Book.{AreTurns, book}
use Rattle.lam_machine_runs.specs.Ends.{HasEnded, Runs}
use Rattle.lam_machine_runs.specs.declared.How.{How}
use Rattle.thread_host.specs.Runs.{Ran, IsWhole}
use Rattle.thread_host.specs.declared.Finished.{Finished}
use Rattle.lam_make.specs.Made.{program_text, world_text}
use Rattle.audit_log_notes.specs.Sums.{summary_lines}
use Rattle.lam_main_words.specs.Words.{Text}
use Rattle.lam_main_replay.specs.Refusals.{Plan, prints}
use Rattle.lam_main_replay.specs.Reading.{Never, Compiles, IsRunCode}
use Rattle.lam_main_replay.specs.Replays.{by_turns, IsOfTurns, ByReader, ByWorld}
use Rattle.lam_main_replay.specs.Threads.{status_of, IsOfThreads, made_budget, Makes}
use Rattle.lam_main_replay.proofs.ReadLemmas.{thin_then, no_thin_then, by_no_world, by_this_world, by_no_reader, by_this_reader}
use Rattle.world_doc_terms.specs.declared.breaks.WorldBreak.TheVariants.{NotJson, NoMember, BadMember, NoTag, BadPath, PathTwice}
use Rattle.lam_main_replay.specs.declared.halt.Refusal.{Refusal}
use Rattle.lam_main_replay.specs.declared.halt.Refusal.TheVariants.{Word, Script, NotUtf8, Flawed, CodeTooLong, World as OfWorld, Unnamed, BadText, TooBig, Book, NotReady as NotReadyAt, Absent, TooLong}
use Rattle.lam_main_replay.specs.declared.halt.Halt.{Halt}
use Rattle.lam_main_replay.specs.declared.halt.Halt.TheVariants.{Refused, NoMemory, ShelfFailed}
use Rattle.lam_main_replay.specs.Halts.{refuses, Finds, Says}
use Rattle.lam_main_replay.specs.declared.viewer.Viewer.{Viewer}
use Rattle.lam_main_replay.specs.declared.viewer.Viewer.TheVariants.{Observer, Auditor}
use Rattle.lam_main_replay.specs.Asked.{lines_for}
use Rattle.lam_main_threads.specs.declared.parts.Ended.{Ended}
use Rattle.lam_main_threads.specs.declared.texts.Taken.{Taken}
use Rattle.lam_main_threads.specs.Taken.{IsParted, IsEndedRun, HasBook, IsShown, planned, Offers}

-- ---- the turns

whole_runs : (r : Ran) (budget : ℕ) (how : How) → IsWhole r → length r.turns ≤ budget → HasEnded r.code r.world (length r.turns) budget how → Runs r.code r.start budget r.turns how
whole_runs r budget how w few ended = record { run = w.run; within = few; ended = subst (λ (x : World). HasEnded r.code x (length r.turns) budget how) w.world ended }

same_runs : (a code : CodeTree) (b start : World) (budget : ℕ) (ts turns : List ℕ) (h how : How) → a ≡ code → b ≡ start → turns ≡ ts → how ≡ h → Runs a b budget ts h → Runs code start budget turns how
same_runs a code b start budget ts turns h how code_is start_is turns_are how_is runs =
    subst (λ (x : CodeTree). Runs x start budget turns how) code_is
    (subst (λ (x : World). Runs a x budget turns how) start_is
    (subst (λ (x : List ℕ). Runs a b budget x how) (sym turns_are)
    (subst (λ (x : How). Runs a b budget ts x) (sym how_is) runs)))

module _ (finished : Finished) (ended : Ended) (parted : IsParted finished ended) where
  pub parted_run : (code : CodeTree) (start : World) (budget : ℕ) → (finished.run.code ≡ code) × (finished.run.start ≡ start) → length finished.run.turns ≤ budget → HasEnded finished.run.code finished.run.world (length finished.run.turns) budget finished.how → IsEndedRun code start budget ended
  parted_run code start budget same few how =
      record {
        code_is = parted.code ∙ same.0;
        start_is = parted.start ∙ same.1;
        runs = same_runs finished.run.code code finished.run.start start budget finished.run.turns ended.parts.turns.items finished.how ended.how same.0 same.1 parted.turns parted.how (whole_runs finished.run budget finished.how parted.whole few how);
      }

  pub parted_book : HasBook ended
  parted_book = subst AreTurns (sym parted.turns) parted.whole.book

  -- what was kept of the run is kept of its parts
  pub parted_kept : {X : Type 0} (AreKept : List Moment → X → Type 0) (kept : X) → AreKept (moments finished.run.code finished.run.turns finished.run.start) kept → AreKept (moments ended.parts.code ended.parts.turns.items ended.parts.start) kept
  parted_kept AreKept kept h =
      subst (λ (x : CodeTree). AreKept (moments x ended.parts.turns.items ended.parts.start) kept) (sym parted.code)
      (subst (λ (x : World). AreKept (moments finished.run.code ended.parts.turns.items x) kept) (sym parted.start)
      (subst (λ (x : List ℕ). AreKept (moments finished.run.code x finished.run.start) kept) (sym parted.turns) h))

-- ---- what is made of them

abbrev pub plan_of : Text → How → Text → Text → Plan
plan_of out how text bytes = record { status = status_of how; text = text; writes = Some (out, bytes) }

pub same_plan : (out : Text) (a b : How) (s t u v : Text) → a ≡ b → s ≡ t → u ≡ v → plan_of out a s u ≡ plan_of out b t v
same_plan out a b s t u v how text bytes = ap (λ (h : How). plan_of out h s u) how ∙ ap (λ (x : Text). plan_of out b x u) text ∙ ap (λ (x : Text). plan_of out b t x) bytes

module _ (code : CodeTree) (start : World) (budget : ℕ) (shown : List Moment → Text) (ended : Ended) (taken : Taken) where
  same_text : IsEndedRun code start budget ended → shown (moments ended.parts.code ended.parts.turns.items ended.parts.start) ≡ shown (moments code ended.parts.turns.items start)
  same_text run =
      ap (λ (c : CodeTree). shown (moments c ended.parts.turns.items ended.parts.start)) run.code_is
      ∙ ap (λ (s : World). shown (moments code ended.parts.turns.items s)) run.start_is

  pub of_threads : IsEndedRun code start budget ended → IsShown (shown (moments ended.parts.code ended.parts.turns.items ended.parts.start)) ended taken → (out : Text) → IsOfThreads code start out budget shown (planned out taken)
  of_threads run is out =
      record {
        turns = ended.parts.turns.items;
        ended = ended.how;
        runs = run.runs;
        is = same_plan out taken.how ended.how (string_bytes taken.text) (shown (moments code ended.parts.turns.items start)) taken.book.items (book ended.parts.turns.items) is.how_is (is.text_is ∙ same_text run) is.book_is;
      }

-- of no turns nothing is shown
pub none_shown : (who : Viewer) (names : List Text) → [] ≡ lines_for who names []
none_shown (Observer label) names = refl
none_shown Auditor names = refl

-- the text is what is shown
pub shown_as : (ended : Ended) (text shown : Text) (answer : Result Taken NoMem) → text ≡ shown → IfOk answer (λ taken. IsShown text ended taken) → IfOk answer (λ taken. IsShown shown ended taken)
shown_as ended text shown answer is h = subst (λ (t : Text). IfOk answer (λ taken. IsShown t ended taken)) is h

-- what is made of the turns, where memory does not run out
pub threads_shown : (code : CodeTree) (start : World) (budget : ℕ) (shown : List Moment → Text) (ended : Ended) (answer : Result Taken NoMem) → IsEndedRun code start budget ended → IfOk answer (λ taken. IsShown (shown (moments ended.parts.code ended.parts.turns.items ended.parts.start)) ended taken) → IfOk answer (λ taken. (out : Text) → IsOfThreads code start out budget shown (planned out taken))
threads_shown code start budget shown ended (Ok taken) run is = of_threads code start budget shown ended taken run is
threads_shown code start budget shown ended (Err error) run is = tt

-- ---- offers

-- what is planned stays so where more is planned
pub offers_map : (P Q : Text → Plan → Type 0) → ((out : Text) (p : Plan) → P out p → Q out p) → (answer : Result Taken Halt) → Offers answer P → Offers answer Q
offers_map P Q f (Ok taken) h = λ out. f out (planned out taken) (h out)
offers_map P Q f (Err (Refused refusal)) h = λ out. f out (refuses refusal) (h out)
offers_map P Q f (Err NoMemory) h = tt
offers_map P Q f (Err ShelfFailed) h = tt

-- what is not found is refused as planned, whatever the name of the book
pub not_offered : {X : Type 0} (IsIt : X → Type 0) (P : Plan → Type 0) (Q : Text → Plan → Type 0) → ((out : Text) (p : Plan) → P p → Q out p) → (halt : Halt) → Finds {X = X} (Err halt) IsIt P → Offers (Err halt) Q
not_offered IsIt P Q f (Refused refusal) h = λ out. f out (refuses refusal) h
not_offered IsIt P Q f NoMemory h = tt
not_offered IsIt P Q f ShelfFailed h = tt

module _ (IsOf : Text → (List Moment → Text) → Plan → Type 0) (read : Result (List Moment → Text) ℕ) where
  pub reader_offers : (shown : List Moment → Text) (taken : Taken) → read ≡ Ok shown → ((out : Text) → IsOf out shown (planned out taken)) → Offers (Ok taken) (λ out. ByReader (IsOf out) read)
  reader_offers shown taken is h = λ out. by_this_reader (IsOf out) read shown (planned out taken) is (h out)

  pub no_reader_offers : {X : Type 0} (IsIt : X → Type 0) (halt : Halt) → Finds {X = X} (Err halt) IsIt (ByReader Never read) → Offers (Err halt) (λ out. ByReader (IsOf out) read)
  no_reader_offers IsIt halt h = not_offered IsIt (ByReader Never read) (λ out. ByReader (IsOf out) read) (λ out p k. by_no_reader (IsOf out) read p k) halt h

module _ (IsOf : Text → World → Plan → Type 0) (read : Reading World) where
  pub world_offers : (start : World) (taken : Taken) → read ≡ Ok start → ((out : Text) → IsOf out start (planned out taken)) → Offers (Ok taken) (λ out. ByWorld (IsOf out) read)
  world_offers start taken is h = λ out. by_this_world (IsOf out) read start (planned out taken) is (h out)

  pub no_world_offers : {X : Type 0} (IsIt : X → Type 0) (halt : Halt) → Finds {X = X} (Err halt) IsIt (ByWorld Never read) → Offers (Err halt) (λ out. ByWorld (IsOf out) read)
  no_world_offers IsIt halt h = not_offered IsIt (ByWorld Never read) (λ out. ByWorld (IsOf out) read) (λ out p k. by_no_world (IsOf out) read p k) halt h

-- ---- what is made of a number

module _ (seed threads : ℕ) (bytes : Text) (same : bytes ≡ program_text) where
  abbrev OfCode : Text → CodeTree → Plan → Type 0
  OfCode out code plan = ByWorld (λ start. IsOfThreads code start out made_budget (summary_lines seed threads)) (start_of (world_text seed threads) code) plan

  pub made_offers : (world : Text) (code : CodeTree) (answer : Result Taken Halt) → world ≡ world_text seed threads → IsRunCode bytes code → Offers answer (λ out. ByWorld (λ start. IsOfThreads code start out made_budget (summary_lines seed threads)) (start_of world code)) → Offers answer (Makes seed threads)
  made_offers world code answer made is h =
      offers_map (λ out. ByWorld (λ start. IsOfThreads code start out made_budget (summary_lines seed threads)) (start_of world code)) (Makes seed threads)
      (λ out p k. thin_then (OfCode out) program_text p code (subst (λ (b : Text). IsRunCode b code) same is) (subst (λ (w : Text). ByWorld (λ start. IsOfThreads code start out made_budget (summary_lines seed threads)) (start_of w code) p) made k)) answer h

  pub no_made_offers : (halt : Halt) → Finds {X = CodeTree} (Err halt) (λ code. IsRunCode bytes code) (Compiles Never bytes) → Offers (Err halt) (Makes seed threads)
  no_made_offers halt h =
      not_offered {X = CodeTree} (λ code. IsRunCode bytes code) (Compiles Never bytes) (Makes seed threads)
      (λ out p k. no_thin_then (OfCode out) program_text p (subst (λ (b : Text). Compiles Never b p) same k)) halt h
