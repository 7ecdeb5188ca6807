-- What is made of the end of a run, and what is reported of it after the parts that were read.
use Rattle.std.proofs.Common.{◌≡◌, ℕ, List, Option, Some, None, Vec, Result, Ok, Err, string_bytes, refl, sym, ap, subst, ◌∙◌}
use Rattle.std.specs.declared.alloc.Global.{Global}
use Rattle.lam_io.specs.Outside.{Files, AllStay, OthersStay}
use Rattle.capabilities.specs.declared.Caps.{Caps}
use Rattle.labelled_files.specs.Trees.{Tree}
use Rattle.lam_bytecode.specs.Codes.{CodeTree}
use Rattle.lam_machine_terms.specs.Worlds.{World}
use Rattle.lam_machine_runs.specs.Stops.{NotReady, stopped_at}
use Rattle.lam_machine_runs.specs.declared.How.TheVariants.{Done as all_ended}
use Rattle.world_save.specs.Runs.{Ran}
use Rattle.world_save.specs.Books.{IsRunBy}
use Rattle.turn_book.specs.Reading.{turns_of}
use Rattle.world_doc_terms.specs.Breaks.{Reading}
use Rattle.world_doc_terms.specs.Start.{start_of}
use Rattle.world_forest.specs.Forest.{IsForest}
use Rattle.world_save_files.specs.Saved.{IsSavedText, IsSaveFault}
use Rattle.world_save_files.specs.declared.document.SaveFault.{SaveFault}
use Rattle.world_save_files.specs.declared.document.SaveFault.TheVariants as fault
use Rattle.world_save_files.specs.declared.document.Saved.{Saved}
use Rattle.lam_main_words.specs.Words.{Text}
use Rattle.lam_main_replay.specs.Status.TheVariants.{Done}
use Rattle.lam_main_replay.specs.Refusals.{Plan, no_turn}
use Rattle.lam_main_replay.specs.Answer.{OthersKept}
use Rattle.lam_main_replay.specs.Reading.{HasFile, WithFile, unread, of_file, Never, Compiles, IsRunCode, program_limit, world_limit, book_limit}
use Rattle.lam_main_replay.specs.Replays.{RunFiles, ByWorld}
use Rattle.lam_main_replay.specs.Books.{WithRun, NoTurns, WhereReady}
use Rattle.lam_main_replay.specs.Saves.{saved_line, IsOfFiles, saved, unnamed, untold, too_long, IsOfEnd, SavesRun, Saves}
use Rattle.lam_main_replay.proofs.ReadLemmas.{same_files, thin_program_then, no_thin_program_then, by_no_world, by_this_world}
use Rattle.lam_main_replay.proofs.BookLemmas.{run_then, no_turns_then, ready_then, stop_then}
use Rattle.lam_main_replay.specs.declared.report.Report.{Report}
use Rattle.lam_main_replay.specs.declared.halt.Refusal.TheVariants.{NotReady as not_ready_at}
use Rattle.lam_main_replay.specs.declared.halt.Halt.{Halt}
use Rattle.lam_main_replay.specs.declared.halt.Halt.TheVariants.{Refused, NoMemory, ShelfFailed}
use Rattle.lam_main_replay.specs.Halts.{refuses, Finds, Reports, IsRead}
use Rattle.lam_main_replay.proofs.ReportLemmas.{reports_map, reports_later, not_reported}
use Rattle.lam_main_next.specs.declared.run_end.Ending.{Ending}
use Rattle.lam_main_next.specs.Endings.{planned, Offers, IsToldOf, halt_of_save}

-- ---- what is made of the files at the end

-- what is planned stays so where more is planned
offers_map : (P Q : Text → Plan → Type 0) → ((out : Text) (p : Plan) → P out p → Q out p) → (answer : Result Ending Halt) → Offers answer P → Offers answer Q
offers_map P Q f (Ok ending) h = λ out. f out (planned out ending) (h out)
offers_map P Q f (Err (Refused refusal)) h = λ out. f out (refuses refusal) (h out)
offers_map P Q f (Err NoMemory) h = tt
offers_map P Q f (Err ShelfFailed) h = tt

-- a text that is printed, and a file that is written
abbrev plan_of : Text → Text → Text → Plan
plan_of out text bytes = record { status = Done; text = text; writes = Some (out, bytes) }

module _ (old : Text) (names : List Text) (public : Caps) (t : Tree) where
  pub saved_offered : (it : Saved) (ending : Ending) → IsSavedText names public t old it.text.items it.items → IsToldOf it ending → Offers (Ok ending) (λ out. IsOfFiles out old names public t)
  saved_offered it ending h told out =
      saved it.text.items it.items h
      (ap (λ (text : Text). plan_of out text ending.document.items) told.text_is ∙ ap (λ (bytes : Text). plan_of out (saved_line it.items) bytes) told.document_is)

  fault_offered : (f : SaveFault) → IsSaveFault names public t old f → Offers (Err (halt_of_save f)) (λ out. IsOfFiles out old names public t)
  fault_offered (fault.Unnamed tag) h = λ out. unnamed tag h refl
  fault_offered (fault.BadText item) h = λ out. untold item h refl
  fault_offered (fault.TooBig bytes) h = λ out. too_long bytes h refl
  fault_offered fault.NoMemory h = tt

  pub not_saved_offered : (f : SaveFault) (halt : Halt) → IsSaveFault names public t old f → halt ≡ halt_of_save f → Offers (Err halt) (λ out. IsOfFiles out old names public t)
  not_saved_offered f halt h is = subst (λ (x : Halt). Offers (Err x) (λ out. IsOfFiles out old names public t)) (sym is) (fault_offered f h)

-- that nothing is saved is no fault of the shelf
pub no_shelf_save : (f : SaveFault) (halt : Halt) → halt ≡ halt_of_save f → halt ≡ ShelfFailed → ⊥
no_shelf_save (fault.Unnamed tag) halt is e = cc
no_shelf_save (fault.BadText item) halt is e = cc
no_shelf_save (fault.TooBig bytes) halt is e = cc
no_shelf_save fault.NoMemory halt is e = cc

-- ---- the end of turns

module _ (old : Text) (tree : CodeTree) (start : World) (turns : List ℕ) where
  abbrev OfEnd : Text → Plan → Type 0
  OfEnd out p = WhereReady (IsOfEnd out tree old start turns) (stopped_at tree turns start) p

  pub stop_offered : (turn thread : ℕ) → stopped_at tree turns start ≡ Some (record { turn = turn; thread = thread }) → Offers (Err (Refused (not_ready_at turn thread))) OfEnd
  stop_offered turn thread is out =
      let at : NotReady = record { turn = turn; thread = thread } in
      stop_then (IsOfEnd out tree old start turns) (no_turn at) (stopped_at tree turns start) at is refl

  module _ (run : Ran) (ran : IsRunBy tree start turns run) where
    pub run_begins : start_of old tree ≡ Ok start → start_of old run.code ≡ Ok run.start
    run_begins h = subst (λ (r : Ran). start_of old r.code ≡ Ok r.start) (sym ran.is) h

    pub run_forest : IsForest start.files → IsForest run.start.files
    run_forest h = subst (λ (r : Ran). IsForest r.start.files) (sym ran.is) h

    pub end_offered : (answer : Result Ending Halt) → Offers answer (λ out. IsOfFiles out old run.start.names run.start.public run.world.files) → Offers answer OfEnd
    end_offered answer h =
        offers_map (λ out. IsOfFiles out old run.start.names run.start.public run.world.files) OfEnd
        (λ out p k. ready_then (IsOfEnd out tree old start turns) p (stopped_at tree turns start) ran.unstopped
        (subst (λ (r : Ran). IsOfFiles out old r.start.names r.start.public r.world.files p) ran.is k)) answer h

-- ---- the document is written

-- it was written, and the line is reported
pub document_reported : (ending : Ending) (name wanted bytes : Text) (old new : Files) → name ≡ wanted → bytes ≡ ending.document.items → new name ≡ Some bytes → OthersStay old new name → Reports (Ok (record { how = all_ended; text = ending.text })) (λ p. p ≡ planned wanted ending) old new
document_reported ending name wanted bytes old new same wrote set others = (
  Some (wanted, ending.document.items),
  refl,
  (subst (λ (n : Text). new n ≡ Some ending.document.items) same (set ∙ ap (λ (b : Text). Some b) wrote), subst (λ (n : Text). OthersStay old new n) same others),
)

module _ (IsPlan : Text → Plan → Type 0) (out : Text) (old new : Files) where
  pub offer_reported : (ending : Ending) (answer : Result Report Halt) → Offers (Ok ending) IsPlan → Reports answer (λ p. p ≡ planned out ending) old new → Reports answer (IsPlan out) old new
  offer_reported ending answer offers h = reports_map (λ p. p ≡ planned out ending) (IsPlan out) old new (λ p e. subst (IsPlan out) (sym e) (offers out)) answer h

  pub no_offer_reported : (halt : Halt) → AllStay old new → Offers (Err halt) IsPlan → Reports (Err halt) (IsPlan out) old new
  no_offer_reported (Refused refusal) stay h = (h out, stay)
  no_offer_reported NoMemory stay h = tt
  no_offer_reported ShelfFailed stay h = tt

-- ---- one part after another

module _ (files : Files) (book out old : Text) (tree : CodeTree) (start : World) (new : Files) where
  abbrev OfTurns : List ℕ → Plan → Type 0
  OfTurns turns p = IsOfEnd out tree old start turns p

  pub turns_reported : (between : Files) (turns : List ℕ) (answer : Result Report Halt) → AllStay files between → HasFile (files book) book_limit (λ bytes. turns_of bytes ≡ Ok turns) → Reports answer (WhereReady (OfTurns turns) (stopped_at tree turns start)) between new → Reports answer (WithRun files book tree start OfTurns) files new
  turns_reported between turns answer stay has h =
      reports_later (WhereReady (OfTurns turns) (stopped_at tree turns start)) (WithRun files book tree start OfTurns) files between new stay
      (λ p k. run_then files book tree start OfTurns p turns has k) answer h

  pub no_turns_reported : {X : Type 0} (IsIt : X → Type 0) (halt : Halt) → AllStay files new → Finds {X = X} (Err halt) IsIt (WithFile (files book) book book_limit NoTurns) → Reports (Err halt) (WithRun files book tree start OfTurns) files new
  no_turns_reported IsIt halt stay h =
      not_reported IsIt (WithFile (files book) book book_limit NoTurns) (WithRun files book tree start OfTurns) files new stay
      (λ p k. no_turns_then files book tree start OfTurns p k) halt h

module _ (IsOf : World → Plan → Type 0) (read : Reading World) (files new : Files) where
  pub world_reported : (start : World) (answer : Result Report Halt) → read ≡ Ok start → Reports answer (IsOf start) files new → Reports answer (ByWorld IsOf read) files new
  world_reported start answer is h = reports_map (IsOf start) (ByWorld IsOf read) files new (λ p k. by_this_world IsOf read start p is k) answer h

  pub no_world_reported : {X : Type 0} (IsIt : X → Type 0) (halt : Halt) → AllStay files new → Finds {X = X} (Err halt) IsIt (ByWorld Never read) → Reports (Err halt) (ByWorld IsOf read) files new
  no_world_reported IsIt halt stay h = not_reported IsIt (ByWorld Never read) (ByWorld IsOf read) files new stay (λ p k. by_no_world IsOf read p k) halt h

module _ (files : Files) (run : RunFiles) (out : Text) (tree : CodeTree) (new : Files) where
  abbrev OfStart : Files → Text → World → Plan → Type 0
  OfStart fs old start p = WithRun fs run.book tree start (IsOfEnd out tree old start) p

  pub old_reported : (between : Files) (old : Vec ℕ Global) (answer : Result Report Halt) → AllStay files between → IsRead (Ok old) (files run.world) run.world world_limit → Reports answer (ByWorld (OfStart between old.items) (start_of old.items tree)) between new → Reports answer (SavesRun files run out tree) files new
  old_reported between old answer stay read h =
      reports_later (ByWorld (OfStart between old.items) (start_of old.items tree)) (SavesRun files run out tree) files between new stay
      (λ p k. of_file (record { bytes = old.items; there = read.0; short = read.1; follows = subst (λ (fs : Files). ByWorld (OfStart fs old.items) (start_of old.items tree) p) (same_files files between stay) k })) answer h

  pub no_old_reported : (halt : Halt) → AllStay files new → IsRead (Err halt) (files run.world) run.world world_limit → Reports (Err halt) (SavesRun files run out tree) files new
  no_old_reported (Refused refusal) stay h = (unread h, stay)
  no_old_reported NoMemory stay h = tt
  no_old_reported ShelfFailed stay h = tt

module _ (files : Files) (program : Text) (run : RunFiles) (out : Text) (new : Files) where
  pub program_reported : (between : Files) (tree : CodeTree) (answer : Result Report Halt) → AllStay files between → HasFile (files program) program_limit (λ bytes. IsRunCode bytes tree) → Reports answer (SavesRun between run out tree) between new → Reports answer (WithFile (files program) program program_limit (Saves files run out)) files new
  program_reported between tree answer stay has h =
      reports_later (SavesRun between run out tree) (WithFile (files program) program program_limit (Saves files run out)) files between new stay
      (λ p k. thin_program_then (files program) program (SavesRun files run out) p tree has (subst (λ (fs : Files). SavesRun fs run out tree p) (same_files files between stay) k)) answer h

  pub no_program_reported : {X : Type 0} (IsIt : X → Type 0) (halt : Halt) → AllStay files new → Finds {X = X} (Err halt) IsIt (WithFile (files program) program program_limit (Compiles Never)) → Reports (Err halt) (WithFile (files program) program program_limit (Saves files run out)) files new
  no_program_reported IsIt halt stay h =
      not_reported IsIt (WithFile (files program) program program_limit (Compiles Never)) (WithFile (files program) program program_limit (Saves files run out)) files new stay
      (λ p k. no_thin_program_then (files program) program (SavesRun files run out) p k) halt h
