-- From what became of a plan to how the call answers to it.
use Rattle.std.proofs.Common.{◌≡◌, [], Option, Some, None, subst}
use Rattle.lam_io.specs.Outside.{Files, AllStay, Took}
use Rattle.lam_main_words.specs.Words.{Text}
use Rattle.lam_main_plan.specs.declared.Status.{Status}
use Rattle.lam_main_plan.specs.declared.Status.TheVariants.{NoMemory, ShelfFault, SinkFault}
use Rattle.lam_main_plan.specs.Refusals.{Plan}
use Rattle.lam_main_plan.specs.Answer.{Outside, IsPrinted, whole, front, IsWritten, OthersKept, AsPlanned, IsAnswer, as_planned, out_of_memory, shelf_failed, IsPlanned, by_plan, without_memory, without_shelf}

-- where no file changed, no other did
pub stay_kept : (name : Option Text) (old new : Files) → AllStay old new → OthersKept name old new
stay_kept None old new stay = stay
stay_kept (Some name) old new stay = λ other differs. stay other

pub no_file_written : (writes : Option (Text × Text)) (old new : Files) → writes ≡ None → AllStay old new → IsWritten writes old new
no_file_written writes old new none stay = subst (λ (w : Option (Text × Text)). IsWritten w old new) (let back : None ≡ writes = cc in back) stay

-- the call answers to the one plan
pub answers_to : (asked : Option Text) (status : Status) (IsPlan : Plan → Type 0) (old new : Outside) (plan : Plan) → ((p : Plan) → IsPlan p → p ≡ plan) → (status ≡ NoMemory → Took old.taken new.taken []) → (status ≡ ShelfFault → Took old.taken new.taken []) → OthersKept asked old.files new.files → IsPlanned status IsPlan old new → IsAnswer asked status plan old new
answers_to asked status IsPlan old new plan one memory shelf kept (by_plan p is does) = as_planned (subst (λ (q : Plan). AsPlanned status q old new) (one p is) does)
answers_to asked status IsPlan old new plan one memory shelf kept (without_memory e) = out_of_memory e (memory e) kept
answers_to asked status IsPlan old new plan one memory shelf kept (without_shelf e) = shelf_failed e (shelf e) kept

printed_status : (status planned : Status) (text : Text) (old new : Option Text) → (status ≡ SinkFault → ⊥) → IsPrinted status planned text old new → status ≡ planned
printed_status status planned text old new sink (whole e t) = e
printed_status status planned text old new sink (front e t) = absurd (sink e)

-- a call that met no fault ended as planned
pub status_of : (asked : Option Text) (status : Status) (plan : Plan) (old new : Outside) → (status ≡ NoMemory → ⊥) → (status ≡ ShelfFault → ⊥) → (status ≡ SinkFault → ⊥) → IsAnswer asked status plan old new → status ≡ plan.status
status_of asked status plan old new memory shelf sink (as_planned does) = printed_status status plan.status plan.text old.taken new.taken sink does.printed
status_of asked status plan old new memory shelf sink (out_of_memory e t k) = absurd (memory e)
status_of asked status plan old new memory shelf sink (shelf_failed e t k) = absurd (shelf e)
