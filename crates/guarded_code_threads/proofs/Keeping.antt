-- Threads stay described: at their start, by private turns, and by asks with any answer of their form.
use Rattle.std.proofs.Common.{List, ◌∷◌, subst}
use Rattle.std.specs.List.{AllByRecursion}
use Rattle.flow_labels.specs.Flow.{public_label}
use Rattle.lam_value.specs.declared.values.Value.{Value}
use Rattle.lam_value.specs.declared.values.Value.TheVariants.{Tag, CapV}
use Rattle.lam_asks.specs.declared.fault.Fault.{Fault}
use Rattle.lam_asks.specs.declared.fault.Fault.TheVariants as fault
use Rattle.lam_asks.specs.declared.answer.Answer.{Answer}
use Rattle.lam_asks.specs.declared.answer.Answer.TheVariants.{Done, Entered, Val, Refused, Failed}
use Rattle.lam_asks.specs.declared.ask.Ask.{Ask}
use Rattle.lam_asks.specs.declared.ask.Ask.TheVariants as ask
use Rattle.lam_asks.specs.Suits.{Given, is_value}
use Rattle.lam_bytecode.specs.Codes.{CodeTree}
use Rattle.thread_steps.specs.Threads.{Inside, Context}
use Rattle.thread_steps.specs.Next.{with_inside, faulted, given, gains, done, entered, answered}
use Rattle.guarded_code_threads.specs.Described.{IsDescribedContext}
use Rattle.guarded_code_threads.specs.Answers.{IsOfForm, given_by, Answers}
use Rattle.guarded_code_threads.specs.Laws.{StartsDescribed, PrivateTurnsKeep, AnswersKeep}
use Rattle.guarded_code_threads.proofs.Addresses.{function_taking, entry_agrees}
use Rattle.guarded_code_threads.proofs.Turning.{GivenKeeps, AskKeeps, NextKeeps, next_keeps}

pub starts_described : (code : CodeTree) → StartsDescribed code
starts_described code is guarded unit args caps t =
    let k = function_taking code is unit args t in
    (record { acting = entry_agrees code guarded public_label unit k.unit args k.it k.fits; waiting = tt; body = tt }, tt)

pub private_turns_keep : (code : CodeTree) → PrivateTurnsKeep code
private_turns_keep code is guarded c i h e = subst (λ n. NextKeeps code c n) e (next_keeps code is guarded c h)

-- ---- an answer

module _ (code : CodeTree) (c : Context) (rest : List Context) (i : Inside) (h : IsDescribedContext code c) (below : AllByRecursion (IsDescribedContext code) rest) where
  abbrev All : List Context → Type 0
  All cs = AllByRecursion (IsDescribedContext code) cs

  faulted_keeps : (f : Fault) → All (with_inside c (faulted c.inside f) ∷ rest)
  faulted_keeps f = (record { acting = tt; waiting = h.waiting; body = h.body }, below)

  done_keeps : (a : Ask) → AskKeeps code c i a → Answers a Done → All (done code c rest i a)
  done_keeps ask.Leave k f = below
  done_keeps (ask.Barred d) k f = faulted_keeps fault.Denied
  done_keeps (ask.Caught g) k f = (k, below)
  done_keeps (ask.Suppressed g) k f = below
  done_keeps (ask.End r) k f = below
  done_keeps (ask.MonEnter r) k f = (k, below)
  done_keeps (ask.MonLeave r) k f = (k, below)
  done_keeps (ask.Write r at v) k f = (k, below)
  done_keeps (ask.Remove dir text) k f = (k, below)
  done_keeps (ask.Append file bytes) k f = (k, below)
  done_keeps (ask.Cut file len) k f = (k, below)
  done_keeps (ask.Send pipe bytes) k f = (k, below)
  done_keeps (ask.SendCaps pipe caps) k f = (k, below)
  done_keeps (ask.Say bytes) k f = (k, below)
  done_keeps a k f = absurd f

  entered_keeps : (a : Ask) → AskKeeps code c i a → Answers a Entered → All (entered code c rest i a)
  entered_keeps (ask.Enter l caps r vs) k f = (k.1, (k.0, below))
  entered_keeps a k f = absurd f

  gains_keeps : (a : Ask) (v : Value) (d : Context) → IsDescribedContext code d → IsDescribedContext code (gains a v d)
  gains_keeps ask.Mint (Tag t) d k = k
  gains_keeps (ask.ReceiveCaps p) (CapV plus minus) d k = k
  gains_keeps a v d k = k

  given_keeps : (w : Given) → GivenKeeps code c.label c.phase i w → (v : Value) → IsOfForm w (Val v) → IsDescribedContext code (given c i v)
  given_keeps (is_value sort) k v f = k v
  given_keeps w k v f = absurd f

  value_keeps : (a : Ask) (v : Value) → AskKeeps code c i a → Answers a (Val v) → IsDescribedContext code (given c i v)
  value_keeps ask.Leave v k f = absurd f
  value_keeps (ask.Barred d) v k f = absurd f
  value_keeps (ask.Caught g) v k f = absurd f
  value_keeps (ask.Suppressed g) v k f = absurd f
  value_keeps (ask.End r) v k f = absurd f
  value_keeps (ask.Enter l caps r vs) v k f = absurd f
  value_keeps (ask.Spawn u vs caps) v k f = k.0 v
  value_keeps a v k f = given_keeps (given_by a) k v f

  answer_keeps : (a : Ask) (x : Answer) → AskKeeps code c i a → Answers a x → All (answered code c rest i a x)
  answer_keeps a Done k f = done_keeps a k f
  answer_keeps a Entered k f = entered_keeps a k f
  answer_keeps a (Val v) k f = (gains_keeps a v (given c i v) (value_keeps a v k f), below)
  answer_keeps a (Refused d) k f = faulted_keeps fault.Denied
  answer_keeps a (Failed g) k f = faulted_keeps g

pub answers_keep : (code : CodeTree) → AnswersKeep code
answers_keep code is guarded th c rest i a x h list e f =
    let all = subst (λ cs. AllByRecursion (IsDescribedContext code) cs) list h in
    answer_keeps code c rest i all.0 all.1 a x (subst (λ n. NextKeeps code c n) e (next_keeps code is guarded c all.0)) f
