-- From what a command answers that writes no file to what is reported of it.
use Rattle.std.proofs.Common.{◌≡◌, Result, Ok, Err, IfErr, String, Global, sym, subst}
use Rattle.lam_io.specs.Outside.{Files, AllStay}
use Rattle.lam_main_plan.specs.Refusals.{Plan}
use Rattle.lam_main_replay.specs.declared.report.Report.{Report}
use Rattle.lam_main_replay.specs.declared.halt.Halt.{Halt}
use Rattle.lam_main_replay.specs.declared.halt.Halt.TheVariants.{Refused, NoMemory, ShelfFailed}
use Rattle.lam_main_replay.specs.Halts.{Gives, Reports, done}

reported_done : (r : Result (String Global) Halt) (IsPlan : Plan → Type 0) (old new : Files) → Gives r IsPlan old new → Reports (done r) IsPlan old new
reported_done (Ok text) IsPlan old new h = h
reported_done (Err (Refused refusal)) IsPlan old new h = h
reported_done (Err NoMemory) IsPlan old new h = tt
reported_done (Err ShelfFailed) IsPlan old new h = tt

pub reported : (result : Result Report Halt) (r : Result (String Global) Halt) (IsPlan : Plan → Type 0) (old new : Files) → result ≡ done r → Gives r IsPlan old new → Reports result IsPlan old new
reported result r IsPlan old new e h = subst (λ (it : Result Report Halt). Reports it IsPlan old new) (sym e) (reported_done r IsPlan old new h)

halted_done : (r : Result (String Global) Halt) (P : Halt → Type 0) → IfErr r P → IfErr (done r) P
halted_done (Ok text) P h = tt
halted_done (Err halt) P h = h

pub halted : (result : Result Report Halt) (r : Result (String Global) Halt) (P : Halt → Type 0) → result ≡ done r → IfErr r P → IfErr result P
halted result r P e h = subst (λ (it : Result Report Halt). IfErr it P) (sym e) (halted_done r P h)

-- no file changed, so none did at want of memory
pub spared : (result : Result Report Halt) (Risen : Type 0) (old new : Files) → AllStay old new → IfErr result (λ halt. halt ≡ NoMemory → ¬ Risen → AllStay old new)
spared (Ok report) Risen old new stay = tt
spared (Err halt) Risen old new stay = λ e n. stay
