-- What is reported after files were read, where a command writes a file, and what became of the files.
use Rattle.std.proofs.Common.{◌≡◌, ◌≤◌, ℕ, ◌+◌, ◌-◌, ◌^◌, min, Some, Result, Ok, Err, IfErr, refl, subst, arith}
use Rattle.lam_io.specs.Outside.{Files, AllStay, Rose}
use Rattle.lam_main_words.specs.Words.{Text}
use Rattle.lam_main_plan.specs.Refusals.{Plan}
use Rattle.lam_main_plan.specs.Answer.{OthersKept}
use Rattle.lam_main_plan.proofs.ReadLemmas.{same_files}
use Rattle.lam_main_replay.specs.declared.report.Report.{Report}
use Rattle.lam_main_replay.specs.declared.halt.Halt.{Halt}
use Rattle.lam_main_replay.specs.declared.halt.Halt.TheVariants.{Refused, NoMemory, ShelfFailed}
use Rattle.lam_main_replay.specs.Halts.{refuses, Finds, Reports}

-- ---- reports

-- what is planned stays so where more is planned
pub reports_map : (P Q : Plan → Type 0) (old new : Files) → ((p : Plan) → P p → Q p) → (answer : Result Report Halt) → Reports answer P old new → Reports answer Q old new
reports_map P Q old new f (Ok report) h = (h.0, f _ h.1, h.2)
reports_map P Q old new f (Err (Refused refusal)) h = (f (refuses refusal) h.0, h.1)
reports_map P Q old new f (Err NoMemory) h = tt
reports_map P Q old new f (Err ShelfFailed) h = tt

-- the files were read before, and none of them changed
pub reports_later : (P Q : Plan → Type 0) (old between new : Files) → AllStay old between → ((p : Plan) → P p → Q p) → (answer : Result Report Halt) → Reports answer P between new → Reports answer Q old new
reports_later P Q old between new stay f answer h = reports_map P Q old new f answer (subst (λ (fs : Files). Reports answer P fs new) (same_files old between stay) h)

-- what is not found is refused as planned, and no file changed
pub not_reported : {X : Type 0} (IsIt : X → Type 0) (P Q : Plan → Type 0) (old new : Files) → AllStay old new → ((p : Plan) → P p → Q p) → (halt : Halt) → Finds {X = X} (Err halt) IsIt P → Reports (Err halt) Q old new
not_reported IsIt P Q old new stay f (Refused refusal) h = (f (refuses refusal) h, stay)
not_reported IsIt P Q old new stay f NoMemory h = tt
not_reported IsIt P Q old new stay f ShelfFailed h = tt

-- ---- files

pub kept_of_all : (old new : Files) (name : Text) → AllStay old new → OthersKept (Some name) old new
kept_of_all old new name stay = λ other differs. stay other

pub kept_later : (old between new : Files) (name : Text) → AllStay old between → OthersKept (Some name) between new → OthersKept (Some name) old new
kept_later old between new name stay kept = subst (λ (fs : Files). OthersKept (Some name) fs new) (same_files old between stay) kept

pub all_stay : (files : Files) → AllStay files files
all_stay files = λ name. refl

-- ---- want of memory

-- so many files stay as they were, unless a write was refused for want of memory
abbrev pub Spares : Result Report Halt → (old new : Files) → (before now : ℕ) → Type 0
Spares answer old new before now = IfErr answer (λ halt. halt ≡ NoMemory → ¬ Rose before now → AllStay old new)

-- the files were read before, and no write was refused by then
pub spared_later : (answer : Result Report Halt) (old between new : Files) (a b c : ℕ) → AllStay old between → b ≡ a → Spares answer between new b c → Spares answer old new a c
spared_later (Ok report) old between new a b c stay same h = tt
spared_later (Err halt) old between new a b c stay same h = λ e calm. subst (λ (fs : Files). AllStay fs new) (same_files old between stay) (h e (λ rose. calm (subst (λ (n : ℕ). Rose n c) same rose)))

-- ---- faults of the shelf

later_rose : (a b c most : ℕ) → a ≤ b → min (b + 1) most ≤ c → min (a + 1) most ≤ c
later_rose a b c most h k = omega arith

-- a fault of a later call
pub failed_later : {X : Type 0} (answer : Result X Halt) (a b c : ℕ) → a ≤ b → IfErr answer (λ halt. halt ≡ ShelfFailed → Rose b c) → IfErr answer (λ halt. halt ≡ ShelfFailed → Rose a c)
failed_later (Ok x) a b c h k = tt
failed_later (Err halt) a b c h k = λ e. later_rose a b c (2 ^ 64 - 1) h (k e)
