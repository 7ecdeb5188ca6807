-- From what a command answers to what is reported of it.
use Rattle.std.proofs.Common.{◌≡◌, Result, Ok, Err, IfErr, String, refl, sym, subst}
use Rattle.std.specs.declared.alloc.Global.{Global}
use Rattle.lam_io.specs.Outside.{Files, AllStay}
use Rattle.closed_terms.specs.declared.End.{End}
use Rattle.closed_terms.specs.declared.End.TheVariants.{Done as all_ended}
use Rattle.lam_main_plan.specs.Refusals.{Plan as LamPlan}
use Rattle.lam_main_replay.specs.declared.halt.Halt.{Halt}
use Rattle.lam_main_replay.specs.declared.halt.Halt.TheVariants.{Refused, NoMemory, ShelfFailed}
use Rattle.lam_main_replay.specs.Halts.{refuses, Says, Gives}
use Rattle.lam_closed_plan.specs.Outcome.{Plan, EndsSo}
use Rattle.lam_closed_plan.specs.Plan.{plain}
use Rattle.lam_closed_rooms.specs.Reports as rooms
use Rattle.lam_closed_rooms.specs.declared.Report.{Report}
use Rattle.lam_closed_main.specs.Ends.{done, Reports}

-- a report of a closed run
pub run_reported : (answer : Result Report Halt) (IsPlan : End → LamPlan → Type 0) (old new : Files) → rooms.Reports answer IsPlan old new → Reports answer (λ plan. (e : End) × EndsSo e (IsPlan e) plan) old new
run_reported (Ok report) IsPlan old new h = (h.0, (report.end, record { of_lam = _; is = h.1; same = refl }), h.2)
run_reported (Err (Refused refusal)) IsPlan old new h = ((all_ended, record { of_lam = refuses refusal; is = h.0 all_ended; same = refl }), h.1)
run_reported (Err NoMemory) IsPlan old new h = tt
run_reported (Err ShelfFailed) IsPlan old new h = tt

-- a text of a command that takes no run to its end
text_reported : (r : Result (String Global) Halt) (IsPlan : LamPlan → Type 0) (old new : Files) → Gives r IsPlan old new → Reports (done r) (EndsSo all_ended IsPlan) old new
text_reported (Ok text) IsPlan old new h = (h.0, record { of_lam = _; is = h.1; same = refl }, h.2)
text_reported (Err (Refused refusal)) IsPlan old new h = (record { of_lam = refuses refusal; is = h.0; same = refl }, h.1)
text_reported (Err NoMemory) IsPlan old new h = tt
text_reported (Err ShelfFailed) IsPlan old new h = tt

pub reported : (result : Result Report Halt) (r : Result (String Global) Halt) (IsPlan : LamPlan → Type 0) (old new : Files) → result ≡ done r → Gives r IsPlan old new → Reports result (EndsSo all_ended IsPlan) old new
reported result r IsPlan old new e h = subst (λ (it : Result Report Halt). Reports it (EndsSo all_ended IsPlan) old new) (sym e) (text_reported r IsPlan old new h)

reports_map : (P Q : Plan → Type 0) (old new : Files) → ((p : Plan) → P p → Q p) → (answer : Result Report Halt) → Reports answer P old new → Reports answer Q old new
reports_map P Q old new f (Ok report) h = (h.0, f _ h.1, h.2)
reports_map P Q old new f (Err (Refused refusal)) h = (f _ h.0, h.1)
reports_map P Q old new f (Err NoMemory) h = tt
reports_map P Q old new f (Err ShelfFailed) h = tt

-- no file was read
gives_said : (r : Result (String Global) Halt) (plan : LamPlan) (files : Files) → Says r (λ p. p ≡ plan) → Gives r (λ p. p ≡ plan) files files
gives_said (Ok text) plan files h = (_, h, λ name. refl)
gives_said (Err (Refused refusal)) plan files h = (h, λ name. refl)
gives_said (Err NoMemory) plan files h = tt
gives_said (Err ShelfFailed) plan files h = tt

pub help_reported : (result : Result Report Halt) (r : Result (String Global) Halt) (plan : LamPlan) (files : Files) → result ≡ done r → Says r (λ p. p ≡ plan) → Reports result (λ p. p ≡ plain plan) files files
help_reported result r plan files e h =
    reports_map (EndsSo all_ended (λ p. p ≡ plan)) (λ p. p ≡ plain plan) files files (λ p so. subst (λ (it : LamPlan). p ≡ plain it) so.is so.same) result
    (reported result r (λ p. p ≡ plan) files files e (gives_said r plan files h))

halted_done : (r : Result (String Global) Halt) (P : Halt → Type 0) → IfErr r P → IfErr (done r) P
halted_done (Ok text) P h = tt
halted_done (Err halt) P h = h

pub halted : (result : Result Report Halt) (r : Result (String Global) Halt) (P : Halt → Type 0) → result ≡ done r → IfErr r P → IfErr result P
halted result r P e h = subst (λ (it : Result Report Halt). IfErr it P) (sym e) (halted_done r P h)

-- no file changed, so none did at want of memory
pub spared : (result : Result Report Halt) (Risen : Type 0) (old new : Files) → AllStay old new → IfErr result (λ halt. halt ≡ NoMemory → ¬ Risen → AllStay old new)
spared (Ok report) Risen old new stay = tt
spared (Err halt) Risen old new stay = λ e n. stay
