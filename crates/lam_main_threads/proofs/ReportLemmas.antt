-- What is reported after the parts that were read, and what became of the files.
use Rattle.std.proofs.Common.{◌≡◌, ℕ, Some, Result, Ok, Err, String, string_bytes, refl, sym, ap, subst, ◌∙◌}
use Rattle.std.specs.declared.alloc.Global.{Global}
use Rattle.lam_io.specs.Outside.{Files, AllStay, OthersStay}
use Rattle.lam_bytecode.specs.Codes.{CodeTree}
use Rattle.lam_machine_terms.specs.Worlds.{World}
use Rattle.world_doc_terms.specs.Start.{start_of}
use Rattle.lam_main_words.specs.Words.{Text}
use Rattle.lam_main_replay.specs.Refusals.{Plan}
use Rattle.lam_main_replay.specs.Reading.{HasFile, WithFile, of_file, Never, Compiles, IsRunCode, program_limit, world_limit}
use Rattle.lam_main_replay.specs.Replays.{Reader, ByWorld, NoStart}
use Rattle.lam_main_replay.specs.Threads.{ThreadFiles, TakesTurns, StartsThreads, RunsThreads}
use Rattle.lam_main_replay.proofs.ReadLemmas.{same_files, file_map, thin_program_then, no_thin_program_then, by_no_world, by_this_world}
use Rattle.lam_main_replay.specs.declared.report.Report.{Report}
use Rattle.lam_main_replay.specs.declared.halt.Halt.{Halt}
use Rattle.lam_main_replay.specs.declared.halt.Halt.TheVariants.{Refused, NoMemory, ShelfFailed}
use Rattle.lam_main_replay.specs.Halts.{Finds, Reports}
use Rattle.lam_main_replay.proofs.ReportLemmas.{reports_map, reports_later, not_reported}
use Rattle.lam_main_threads.specs.declared.texts.Taken.{Taken}
use Rattle.lam_main_threads.specs.Taken.{planned, Offers}
use Rattle.lam_main_threads.proofs.TakenLemmas.{same_plan}

-- ---- the book

-- the book was written, and the rest is reported
pub book_reported : (taken : Taken) (report : Report) (name wanted bytes : Text) (old new : Files) → report.how ≡ taken.how → report.text ≡ taken.text → name ≡ wanted → bytes ≡ taken.book.items → new name ≡ Some bytes → OthersStay old new name → Reports (Ok report) (λ p. p ≡ planned wanted taken) old new
book_reported taken report name wanted bytes old new how text same wrote set others = (
  Some (wanted, taken.book.items),
  same_plan wanted report.how taken.how (string_bytes report.text) (string_bytes taken.text) taken.book.items taken.book.items how (ap (λ (t : String Global). string_bytes t) text) refl,
  (subst (λ (n : Text). new n ≡ Some taken.book.items) same (set ∙ ap (λ (b : Text). Some b) wrote), subst (λ (n : Text). OthersStay old new n) same others),
)

module _ (IsPlan : Text → Plan → Type 0) (out : Text) (old new : Files) where
  pub offer_reported : (taken : Taken) (answer : Result Report Halt) → Offers (Ok taken) IsPlan → Reports answer (λ p. p ≡ planned out taken) old new → Reports answer (IsPlan out) old new
  offer_reported taken answer offers h = reports_map (λ p. p ≡ planned out taken) (IsPlan out) old new (λ p e. subst (IsPlan out) (sym e) (offers out)) answer h

  pub no_offer_reported : (halt : Halt) → AllStay old new → Offers (Err halt) IsPlan → Reports (Err halt) (IsPlan out) old new
  no_offer_reported (Refused refusal) stay h = (h out, stay)
  no_offer_reported NoMemory stay h = tt
  no_offer_reported ShelfFailed stay h = tt

-- ---- one part after another

module _ (files : Files) (run : ThreadFiles) (budget : ℕ) (reader : Reader) (tree : CodeTree) (new : Files) where
  start_then : (start : World) (p : Plan) → HasFile (files run.world) world_limit (λ bytes. start_of bytes tree ≡ Ok start) → TakesTurns run.out budget reader tree start p → StartsThreads files run budget reader tree p
  start_then start p h k = of_file (record { bytes = h.bytes; there = h.there; short = h.short; follows = by_this_world (TakesTurns run.out budget reader tree) (start_of h.bytes tree) start p h.follows k })

  no_start_then : (p : Plan) → WithFile (files run.world) run.world world_limit (NoStart tree) p → StartsThreads files run budget reader tree p
  no_start_then p h = file_map (files run.world) run.world world_limit (NoStart tree) (λ bytes. ByWorld (TakesTurns run.out budget reader tree) (start_of bytes tree)) p (λ bytes. by_no_world (TakesTurns run.out budget reader tree) (start_of bytes tree) p) h

  pub start_reported : (between : Files) (start : World) (answer : Result Report Halt) → AllStay files between → HasFile (files run.world) world_limit (λ bytes. start_of bytes tree ≡ Ok start) → Reports answer (TakesTurns run.out budget reader tree start) between new → Reports answer (StartsThreads files run budget reader tree) files new
  start_reported between start answer stay has h = reports_later (TakesTurns run.out budget reader tree start) (StartsThreads files run budget reader tree) files between new stay (λ p k. start_then start p has k) answer h

  pub no_start_reported : {X : Type 0} (IsIt : X → Type 0) (halt : Halt) → AllStay files new → Finds {X = X} (Err halt) IsIt (WithFile (files run.world) run.world world_limit (NoStart tree)) → Reports (Err halt) (StartsThreads files run budget reader tree) files new
  no_start_reported IsIt halt stay h = not_reported IsIt (WithFile (files run.world) run.world world_limit (NoStart tree)) (StartsThreads files run budget reader tree) files new stay (λ p k. no_start_then p k) halt h

module _ (files : Files) (program : Text) (run : ThreadFiles) (budget : ℕ) (reader : Reader) (new : Files) where
  pub program_reported : (between : Files) (tree : CodeTree) (answer : Result Report Halt) → AllStay files between → HasFile (files program) program_limit (λ bytes. IsRunCode bytes tree) → Reports answer (StartsThreads between run budget reader tree) between new → Reports answer (WithFile (files program) program program_limit (RunsThreads files run budget reader)) files new
  program_reported between tree answer stay has h =
      reports_later (StartsThreads between run budget reader tree) (WithFile (files program) program program_limit (RunsThreads files run budget reader)) files between new stay
      (λ p k. thin_program_then (files program) program (StartsThreads files run budget reader) p tree has (subst (λ (fs : Files). StartsThreads fs run budget reader tree p) (same_files files between stay) k)) answer h

  pub no_program_reported : {X : Type 0} (IsIt : X → Type 0) (halt : Halt) → AllStay files new → Finds {X = X} (Err halt) IsIt (WithFile (files program) program program_limit (Compiles Never)) → Reports (Err halt) (WithFile (files program) program program_limit (RunsThreads files run budget reader)) files new
  no_program_reported IsIt halt stay h =
      not_reported IsIt (WithFile (files program) program program_limit (Compiles Never)) (WithFile (files program) program program_limit (RunsThreads files run budget reader)) files new stay
      (λ p k. no_thin_program_then (files program) program (StartsThreads files run budget reader) p k) halt h
