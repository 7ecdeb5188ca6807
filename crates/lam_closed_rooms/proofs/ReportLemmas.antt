-- What is reported after the parts that were read, and what became of the files.
use Rattle.std.proofs.Common.{◌≡◌, ℕ, Some, Result, Ok, Err, IfErr, string_bytes, subst, sym, ap, ◌∙◌}
use Rattle.lam_io.specs.Outside.{Files, AllStay, OthersStay, Rose}
use Rattle.lam_bytecode.specs.Codes.{CodeTree}
use Rattle.lam_machine_terms.specs.Worlds.{World}
use Rattle.world_doc_terms.specs.Start.{start_of}
use Rattle.closed_terms.specs.declared.End.{End}
use Rattle.lam_main_words.specs.Words.{Text}
use Rattle.lam_main_replay.specs.Status.TheVariants.{Done}
use Rattle.lam_main_replay.specs.Refusals.{Plan}
use Rattle.lam_main_replay.specs.Reading.{HasFile, WithFile, Never, Compiles, IsRunCode, program_limit, world_limit}
use Rattle.lam_main_replay.specs.Replays.{NoStart}
use Rattle.lam_main_replay.specs.Threads.{ThreadFiles}
use Rattle.lam_main_replay.proofs.ReadLemmas.{same_files, thin_program_then, no_thin_program_then}
use Rattle.lam_main_replay.proofs.BookLemmas.{start_then, no_start_then}
use Rattle.lam_main_replay.specs.declared.halt.Halt.{Halt}
use Rattle.lam_main_replay.specs.declared.halt.Halt.TheVariants.{Refused, NoMemory, ShelfFailed}
use Rattle.lam_main_replay.specs.Halts.{refuses, Finds}
use Rattle.lam_closed_plan.specs.Closes.{Asked, ClosesFrom, ClosesCode, Closes}
use Rattle.lam_closed_rooms.specs.declared.Report.{Report}
use Rattle.lam_closed_rooms.specs.declared.texts.Taken.{Taken}
use Rattle.lam_closed_rooms.specs.Reports.{Reports}
use Rattle.lam_closed_rooms.specs.Taken.{planned, Offers}

-- ---- reports

-- what is planned stays so where more is planned
reports_map : (P Q : End → Plan → Type 0) (old new : Files) → ((e : End) (p : Plan) → P e p → Q e p) → (answer : Result Report Halt) → Reports answer P old new → Reports answer Q old new
reports_map P Q old new f (Ok report) h = (h.0, f report.end _ h.1, h.2)
reports_map P Q old new f (Err (Refused refusal)) h = (λ e. f e (refuses refusal) (h.0 e), h.1)
reports_map P Q old new f (Err NoMemory) h = tt
reports_map P Q old new f (Err ShelfFailed) h = tt

-- the files were read before, and none of them changed
reports_later : (P Q : End → Plan → Type 0) (old between new : Files) → AllStay old between → ((e : End) (p : Plan) → P e p → Q e p) → (answer : Result Report Halt) → Reports answer P between new → Reports answer Q old new
reports_later P Q old between new stay f answer h = reports_map P Q old new f answer (subst (λ (fs : Files). Reports answer P fs new) (same_files old between stay) h)

-- what is not found is refused as planned, and no file changed
not_reported : {X : Type 0} (IsIt : X → Type 0) (P : Plan → Type 0) (Q : End → Plan → Type 0) (old new : Files) → AllStay old new → ((e : End) (p : Plan) → P p → Q e p) → (halt : Halt) → Finds {X = X} (Err halt) IsIt P → Reports (Err halt) Q old new
not_reported IsIt P Q old new stay f (Refused refusal) h = (λ e. f e (refuses refusal) h, stay)
not_reported IsIt P Q old new stay f NoMemory h = tt
not_reported IsIt P Q old new stay f ShelfFailed h = tt

-- ---- want of memory

-- so many files stay as they were, unless a write was refused for want of memory
abbrev Spares : Result Report Halt → (old new : Files) → (before now : ℕ) → Type 0
Spares answer old new before now = IfErr answer (λ halt. halt ≡ NoMemory → ¬ Rose before now → AllStay old new)

-- the files were read before, and no write was refused by then
pub spared_later : (answer : Result Report Halt) (old between new : Files) (a b c : ℕ) → AllStay old between → b ≡ a → Spares answer between new b c → Spares answer old new a c
spared_later (Ok report) old between new a b c stay same h = tt
spared_later (Err halt) old between new a b c stay same h = λ e calm. subst (λ (fs : Files). AllStay fs new) (same_files old between stay) (h e (λ rose. calm (subst (λ (n : ℕ). Rose n c) same rose)))

-- ---- the book

-- the book was written, and the rest is reported
pub book_reported : (taken : Taken) (report : Report) (name wanted bytes : Text) (old new : Files) → report.end ≡ taken.end → report.text ≡ taken.text → name ≡ wanted → bytes ≡ taken.book.items → new name ≡ Some bytes → OthersStay old new name → Reports (Ok report) (λ e p. (e ≡ taken.end) × (p ≡ planned wanted taken)) old new
book_reported taken report name wanted bytes old new ended text same wrote set others = (
  Some (wanted, taken.book.items),
  (ended, ap (λ t. let plan : Plan = record { status = Done; text = string_bytes t; writes = Some (wanted, taken.book.items) } in plan) text),
  (subst (λ (n : Text). new n ≡ Some taken.book.items) same (set ∙ ap (λ (b : Text). Some b) wrote), subst (λ (n : Text). OthersStay old new n) same others),
)

module _ (IsPlan : Text → End → Plan → Type 0) (out : Text) (old new : Files) where
  pub offer_reported : (taken : Taken) (answer : Result Report Halt) → Offers (Ok taken) IsPlan → Reports answer (λ e p. (e ≡ taken.end) × (p ≡ planned out taken)) old new → Reports answer (IsPlan out) old new
  offer_reported taken answer offers h =
      reports_map (λ e p. (e ≡ taken.end) × (p ≡ planned out taken)) (IsPlan out) old new
      (λ e p same. subst (λ (x : End). IsPlan out x p) (sym same.0) (subst (IsPlan out taken.end) (sym same.1) (offers out))) answer h

  pub no_offer_reported : (halt : Halt) → AllStay old new → Offers (Err halt) IsPlan → Reports (Err halt) (IsPlan out) old new
  no_offer_reported (Refused refusal) stay h = (h out, stay)
  no_offer_reported NoMemory stay h = tt
  no_offer_reported ShelfFailed stay h = tt

-- ---- one part after another

module _ (files : Files) (run : ThreadFiles) (asked : Asked) (code : CodeTree) (new : Files) where
  pub start_reported : (between : Files) (start : World) (answer : Result Report Halt) → AllStay files between → HasFile (files run.world) world_limit (λ bytes. start_of bytes code ≡ Ok start) → Reports answer (λ e. ClosesFrom run.out asked e code start) between new → Reports answer (λ e. ClosesCode files run asked e code) files new
  start_reported between start answer stay has h =
      reports_later (λ e. ClosesFrom run.out asked e code start) (λ e. ClosesCode files run asked e code) files between new stay
      (λ e p k. start_then files run.world code (ClosesFrom run.out asked e code) p start has k) answer h

  pub no_start_reported : {X : Type 0} (IsIt : X → Type 0) (halt : Halt) → AllStay files new → Finds {X = X} (Err halt) IsIt (WithFile (files run.world) run.world world_limit (NoStart code)) → Reports (Err halt) (λ e. ClosesCode files run asked e code) files new
  no_start_reported IsIt halt stay h =
      not_reported IsIt (WithFile (files run.world) run.world world_limit (NoStart code)) (λ e. ClosesCode files run asked e code) files new stay
      (λ e p k. no_start_then files run.world code (ClosesFrom run.out asked e code) p k) halt h

module _ (files : Files) (program : Text) (run : ThreadFiles) (asked : Asked) (new : Files) where
  pub program_reported : (between : Files) (code : CodeTree) (answer : Result Report Halt) → AllStay files between → HasFile (files program) program_limit (λ bytes. IsRunCode bytes code) → Reports answer (λ e. ClosesCode between run asked e code) between new → Reports answer (λ e. WithFile (files program) program program_limit (Closes files run asked e)) files new
  program_reported between code answer stay has h =
      reports_later (λ e. ClosesCode between run asked e code) (λ e. WithFile (files program) program program_limit (Closes files run asked e)) files between new stay
      (λ e p k. thin_program_then (files program) program (ClosesCode files run asked e) p code has (subst (λ (fs : Files). ClosesCode fs run asked e code p) (same_files files between stay) k)) answer h

  pub no_program_reported : {X : Type 0} (IsIt : X → Type 0) (halt : Halt) → AllStay files new → Finds {X = X} (Err halt) IsIt (WithFile (files program) program program_limit (Compiles Never)) → Reports (Err halt) (λ e. WithFile (files program) program program_limit (Closes files run asked e)) files new
  no_program_reported IsIt halt stay h =
      not_reported IsIt (WithFile (files program) program program_limit (Compiles Never)) (λ e. WithFile (files program) program program_limit (Closes files run asked e)) files new stay
      (λ e p k. no_thin_program_then (files program) program (ClosesCode files run asked e) p k) halt h
