-- The answer of each ask is that of its first rule that fails, of its fault, or it is done.
use Rattle.std.proofs.Common.{◌≡◌, Option, Some, None, refl, sym, ap, subst}
use Rattle.flow_labels.specs.declared.Denied.{Denied}
use Rattle.flow_labels.specs.Failing.{first_failing}
use Rattle.capabilities.specs.declared.Caps.{Caps}
use Rattle.lam_asks.specs.declared.fault.Fault.{Fault}
use Rattle.lam_asks.specs.declared.ask.Ask.{Ask}
use Rattle.lam_asks.specs.declared.ask.Ask.TheVariants as ask
use Rattle.thread_steps.specs.Threads.{Context}
use Rattle.lam_machine_laws.specs.Worlds.{World}
use Rattle.lam_machine_laws.specs.Serves.{Served}
use Rattle.lam_machine_laws.specs.Serving.{publicly, serve}
use Rattle.lam_machine_laws.specs.Tests.{tests_of}
use Rattle.lam_machine_laws.specs.Judged.{fault_by, deed_by, IsJudged}
use Rattle.lam_machine_laws.proofs.JudgedLemmas.{are_judged}
use Rattle.lam_machine_valid.specs.Faults.{IsDone, Says, AnswersFollowTheRows}

is_done : (w : World) (c : Context) (a : Ask) → IsDone (deed_by w c a).answer
is_done w c ask.Leave = tt
is_done w c a = tt

-- public capabilities have no part in a fault
same_fault : (w : World) (c : Context) (public : Caps) (a : Ask) → fault_by w (publicly public c) a ≡ fault_by w c a
same_fault w c public ask.Leave = refl
same_fault w c public a = refl

says_judged : (x : Option Denied) (f : Option Fault) (done d : Served) → IsDone done.answer → IsJudged x f done d → Says x f d.answer
says_judged (Some x) f done d h e = ap (λ (k : Served). k.answer) e
says_judged None (Some f) done d h e = ap (λ (k : Served). k.answer) e
says_judged None None done d h e = subst (λ (k : Served). IsDone k.answer) (sym e) h

pub follow_the_rows : AnswersFollowTheRows
follow_the_rows w c a =
    let p = publicly w.public c in
    let says = says_judged (first_failing (tests_of w p a)) (fault_by w p a) (deed_by w p a) (serve w c a) (is_done w p a) (are_judged w p a) in
    subst (λ f. Says (first_failing (tests_of w p a)) f (serve w c a).answer) (same_fault w c w.public a) says
