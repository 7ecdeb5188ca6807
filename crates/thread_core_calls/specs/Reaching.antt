-- What accesses do without a test of their own.
--
-- The rule is tested for an element outside the length alone: there nothing is reached, and an access whose rule fails
-- raises nothing.
use Rattle.std.specs.Prelude.{ℕ, ℤ, pos, negsuc, nat_lt, if◌then◌else◌, List, ◌∷◌, Option}
use Rattle.flow_labels.specs.declared.Label.{Label}
use Rattle.flow_labels.specs.declared.Denied.{Denied}
use Rattle.lam_value.specs.declared.values.Value.{Value}
use Rattle.lam_value.specs.declared.values.Value.TheVariants.{Obj, Arr}
use Rattle.lam_asks.specs.declared.fault.Fault.TheVariants as fault
use Rattle.lam_asks.specs.declared.ask.Ask.TheVariants as ask
use Rattle.thread_steps.specs.Ops.{Did, wants, fails, breaks, unless_denied, may_read, may_write}

abbrev pub reads_field : ℕ → List Value → Did
reads_field f (Obj n ∷ s) = wants (ask.Read (Obj n) f) s
reads_field f s = breaks

abbrev pub writes_field : ℕ → Value → List Value → Did
writes_field f v (Obj n ∷ s) = wants (ask.Write (Obj n) f v) s
writes_field f v s = breaks

-- a place within the length is reached; outside, Index is raised where the rule holds
abbrev pub reaches : Option Denied → ℤ → ℕ → (ℕ → Did) → Did
reaches denied (pos i) len go = if nat_lt i len then go i else unless_denied denied (fails fault.Index)
reaches denied (negsuc i) len go = unless_denied denied (fails fault.Index)

abbrev pub reads_element : Label → ℤ → List Value → Did
reads_element p i (Arr n len ∷ s) = reaches (may_read p n.own) i len (λ at. wants (ask.Read (Arr n len) at) s)
reads_element p i s = breaks

abbrev pub writes_element : Label → ℤ → Value → List Value → Did
writes_element p i v (Arr n len ∷ s) = reaches (may_write p n.own) i len (λ at. wants (ask.Write (Arr n len) at v) s)
writes_element p i v s = breaks
