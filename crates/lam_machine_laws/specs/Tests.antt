-- What it means that a test of an ask fails.
use Rattle.std.specs.Prelude.{◌≡◌, ◌↔◌, ℕ, List, ◌∷◌, Some, None}
use Rattle.flow_labels.specs.declared.Denied.{Denied}
use Rattle.flow_labels.specs.Failing.{Test, first_failing}
use Rattle.lam_machine_effects.specs.Fault.{Fault}
use Rattle.lam_machine_effects.specs.Fault.TheVariants as fault
use Rattle.lam_machine_effects.specs.Answer.TheVariants.{Refused, Failed}
use Rattle.lam_machine_effects.specs.What.TheVariants.{Asked}
use Rattle.lam_machine_effects.specs.Ask.{Ask}
use Rattle.lam_machine_effects.specs.Codes.{CodeTree}
use Rattle.lam_machine_effects.specs.Threads.{Context, Thread}
use Rattle.lam_machine_effects.specs.Next.{with_inside, faulted}
use Rattle.lam_machine_effects.specs.Worlds.{World, thread_at, with_thread}
use Rattle.lam_machine_effects.specs.Serving.{row, publicly, serve}
use Rattle.lam_machine_effects.specs.Turns.{Moment, step}

-- the tests of an ask, joined in their order
abbrev pub tests_of : World → Context → Ask → Test
tests_of w c a = (row w c a).tests

-- an ask is refused exactly where a test of it fails for a context that holds the public capabilities beside its own, and the answer is the first rule that does, with its least tag
abbrev pub RefusalsNameTheFirst : Type 0
RefusalsNameTheFirst = (w : World) (c : Context) (a : Ask) (x : Denied) → ((serve w c a).answer ≡ Refused x) ↔ (first_failing (tests_of w (publicly w.public c) a) ≡ Some x)

-- the acting context has a fault, and nothing else changed
pub record OnlyFaults (w : World) (t : ℕ) (f : Fault) (m : Moment) : Type 0 where
  pub thread : Thread
  pub top : Context
  pub rest : List Context
  pub at : thread_at w t ≡ Some thread
  pub list : thread.contexts ≡ top ∷ rest
  pub made : m.made ≡ None
  pub world : m.world ≡ with_thread w t (record { contexts = with_inside top (faulted top.inside f) ∷ rest; result = thread.result })

-- a refusal raises Denied, a failure its fault, and nothing else changes
pub record RefusalsChangeNothing (code : CodeTree) : Type 0 where
  pub refused : (w : World) (t : ℕ) (m : Moment) (a : Ask) (x : Denied) → step code w t ≡ Some m → m.event.what ≡ Asked a (Refused x) → OnlyFaults w t fault.Denied m
  pub failed : (w : World) (t : ℕ) (m : Moment) (a : Ask) (f : Fault) → step code w t ≡ Some m → m.event.what ≡ Asked a (Failed f) → OnlyFaults w t f m
