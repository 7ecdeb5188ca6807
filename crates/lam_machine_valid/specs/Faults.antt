-- What an ask is answered, by its tests and its fault.
use Rattle.std.specs.Prelude.{◌≡◌, Option, Some, None}
use Rattle.flow_labels.specs.declared.Denied.{Denied}
use Rattle.flow_labels.specs.Failing.{first_failing}
use Rattle.lam_asks.specs.declared.fault.Fault.{Fault}
use Rattle.lam_asks.specs.declared.answer.Answer.{Answer}
use Rattle.lam_asks.specs.declared.answer.Answer.TheVariants.{Done, Entered, Val, Refused, Failed}
use Rattle.lam_asks.specs.declared.ask.Ask.{Ask}
use Rattle.thread_steps.specs.Threads.{Context}
use Rattle.lam_machine_laws.specs.Worlds.{World}
use Rattle.lam_machine_laws.specs.Tests.{tests_of}
use Rattle.lam_machine_laws.specs.Judged.{fault_by}
use Rattle.lam_machine_laws.specs.Serving.{publicly, serve}

-- neither refused nor failed
abbrev pub IsDone : Answer → Type 0
IsDone Done = Unit {0}
IsDone Entered = Unit {0}
IsDone (Val v) = Unit {0}
IsDone (Refused denied) = ⊥
IsDone (Failed f) = ⊥

-- what an answer is, by the rule that fails and the fault
abbrev pub Says : Option Denied → Option Fault → Answer → Type 0
Says (Some denied) f x = x ≡ Refused denied
Says None (Some f) x = x ≡ Failed f
Says None None x = IsDone x

abbrev pub AnswersFollowTheRows : Type 0
AnswersFollowTheRows = (w : World) (c : Context) (a : Ask) → Says (first_failing (tests_of w (publicly w.public c) a)) (fault_by w c a) (serve w c a).answer
