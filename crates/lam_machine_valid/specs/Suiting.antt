-- Answers suit the asks that contexts make.
use Rattle.std.specs.Prelude.{◌≡◌, true}
use Rattle.flow_labels.specs.declared.Denied.{Denied}
use Rattle.lam_value.specs.declared.values.Value.{Value}
use Rattle.lam_asks.specs.declared.fault.Fault.TheVariants.{Child}
use Rattle.lam_asks.specs.declared.answer.Answer.{Answer}
use Rattle.lam_asks.specs.declared.answer.Answer.TheVariants.{Val, Refused, Failed}
use Rattle.lam_asks.specs.declared.ask.Ask.{Ask}
use Rattle.lam_asks.specs.declared.ask.Ask.TheVariants.{Read, Join}
use Rattle.lam_asks.specs.Suits.{Sort, suits}
use Rattle.lam_bytecode.specs.Codes.{CodeTree}
use Rattle.thread_steps.specs.Threads.{Inside, Context}
use Rattle.thread_steps.specs.Next.{asks, next_of}
use Rattle.lam_machine_laws.specs.Worlds.{World}
use Rattle.lam_machine_laws.specs.Serving.{serve}

-- what a join is answered, where nothing is known of how threads end
pub data Joined : Answer → Type 0 where
  with_value : (v : Value) → Joined (Val v)
  forbidden : (denied : Denied) → Joined (Refused denied)
  without_value : Joined (Failed Child)

-- An answer suits its ask, whatever sort of value the place wants. The sort of what is read hangs on what stands in the
-- slot, and that of what is joined on how the thread ended.
abbrev pub Suits : Ask → Answer → Type 0
Suits (Read r at) x = (v : Value) × (x ≡ Val v)
Suits (Join t) x = Joined x
Suits a x = (s : Sort) → suits s a x ≡ true

abbrev pub AnswersSuit : CodeTree → Type 0
AnswersSuit code = (c : Context) (a : Ask) (after : Inside) → next_of code c ≡ asks a after → (w : World) → Suits a (serve w c a).answer
