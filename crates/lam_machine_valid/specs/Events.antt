-- A test that fails, of an ask and of a barrier, is an event that names the first rule, and raises Denied.
use Rattle.std.specs.Prelude.{◌≡◌, ℕ, List, ◌∷◌, Some}
use Rattle.flow_labels.specs.declared.Denied.{Denied}
use Rattle.flow_labels.specs.Failing.{first_failing}
use Rattle.lam_asks.specs.declared.fault.Fault.TheVariants as fault
use Rattle.lam_asks.specs.declared.answer.Answer.{Answer}
use Rattle.lam_asks.specs.declared.answer.Answer.TheVariants.{Done, Refused}
use Rattle.lam_asks.specs.declared.answer.What.TheVariants.{Asked}
use Rattle.lam_asks.specs.declared.ask.Ask.{Ask}
use Rattle.lam_asks.specs.declared.ask.Ask.TheVariants as ask
use Rattle.lam_bytecode.specs.Codes.{CodeTree}
use Rattle.lam_bytecode.specs.declared.op.Op.{Op}
use Rattle.thread_steps.specs.Threads.{Inside, Context}
use Rattle.thread_steps.specs.Next.{asks, next_of}
use Rattle.lam_machine_laws.specs.Worlds.{World, contexts_at}
use Rattle.lam_machine_laws.specs.Serving.{publicly}
use Rattle.lam_machine_laws.specs.Turns.{Moment, step}
use Rattle.lam_machine_valid.specs.Laws.{IsBarred, StandsAt}
use Rattle.lam_machine_laws.specs.Tests.{tests_of, OnlyFaults}

-- the thread's turn is this ask with this answer, and all that it does is to raise Denied in the acting context
abbrev pub IsDenied : CodeTree → World → ℕ → Ask → Answer → Type 0
IsDenied code w t a x = (m : Moment) × (step code w t ≡ Some m) × (m.event.what ≡ Asked a x) × OnlyFaults w t fault.Denied m

pub record FailingTestsAreEvents (code : CodeTree) : Type 0 where
  pub of_asks :
      (w : World) (t : ℕ) (c : Context) (rest : List Context) (a : Ask) (after : Inside) (d : Denied) →
      contexts_at w t ≡ c ∷ rest → next_of code c ≡ asks a after → first_failing (tests_of w (publicly w.public c) a) ≡ Some d →
      IsDenied code w t a (Refused d)
  pub of_barriers :
      (w : World) (t : ℕ) (c : Context) (rest : List Context) (op : Op) (d : Denied) →
      contexts_at w t ≡ c ∷ rest → StandsAt code c op → IsBarred c.label c.inside.frame.stack d op →
      IsDenied code w t (ask.Barred d) Done
