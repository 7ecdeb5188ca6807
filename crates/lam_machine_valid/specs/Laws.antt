-- What a context asks next.
use Rattle.std.specs.Prelude.{◌≡◌, ℕ, true, List, ◌∷◌, drop, Option, Some, None, slice_get}
use Rattle.flow_labels.specs.declared.Label.{Label}
use Rattle.flow_labels.specs.declared.Denied.{Denied}
use Rattle.flow_labels.specs.Failing.{first_failing, read_test, write_test}
use Rattle.lam_value.specs.declared.names.Name.{Name}
use Rattle.lam_value.specs.declared.values.Value.{Value}
use Rattle.lam_value.specs.declared.values.Value.TheVariants.{Obj, Arr}
use Rattle.lam_asks.specs.declared.answer.Answer.TheVariants.{Val}
use Rattle.lam_asks.specs.declared.ask.Ask.{Ask}
use Rattle.lam_asks.specs.declared.ask.Ask.TheVariants as ask
use Rattle.lam_bytecode.specs.Codes.{CodeTree}
use Rattle.lam_bytecode.specs.declared.op.Op.{Op}
use Rattle.lam_bytecode.specs.declared.op.Op.TheVariants.{ReadBarrier, WriteBarrier}
use Rattle.thread_steps.specs.Threads.{Inside, Context}
use Rattle.thread_steps.specs.Next.{goes, asks, past, next_of, ops_of}
use Rattle.lam_machine_laws.specs.Worlds.{World}
use Rattle.lam_machine_laws.specs.Serves.{sets_slot, answers, does}
use Rattle.lam_machine_laws.specs.Serving.{slot_at, serve}
use Rattle.lam_machine_laws.specs.Turns.{may_ask}

-- a context asks only what it may ask
abbrev pub AsksWhatItMay : CodeTree → Type 0
AsksWhatItMay code = (c : Context) (a : Ask) (after : Inside) → next_of code c ≡ asks a after → may_ask c a ≡ true

-- ---- barriers

-- the top operand is a reference to this thing
abbrev pub IsTop : List Value → Name → Type 0
IsTop (Obj m ∷ s) n = m ≡ n
IsTop (Arr m len ∷ s) n = m ≡ n
IsTop s n = ⊥

-- a barrier's reference, so many operands below the top, leads to a thing whose label the barrier's rule forbids
abbrev pub IsBarred : Label → List Value → Denied → Op → Type 0
IsBarred p s d (ReadBarrier depth) = (n : Name) × IsTop (drop depth s) n × (first_failing (read_test p n.own) ≡ Some d)
IsBarred p s d (WriteBarrier depth) = (n : Name) × IsTop (drop depth s) n × (first_failing (write_test p n.own) ≡ Some d)
IsBarred p s d op = ⊥

-- the operation at hand of a context
abbrev pub op_at : CodeTree → Context → Option Op
op_at code c = slice_get (ops_of code c.inside.frame.unit) c.inside.frame.at

-- a barrier's reference leads to a thing whose label the barrier's rule allows
abbrev pub IsPassed : Label → List Value → Op → Type 0
IsPassed p s (ReadBarrier depth) = (n : Name) × IsTop (drop depth s) n × (first_failing (read_test p n.own) ≡ None)
IsPassed p s (WriteBarrier depth) = (n : Name) × IsTop (drop depth s) n × (first_failing (write_test p n.own) ≡ None)
IsPassed p s op = ⊥

-- a context without a fault that stands at an operation
pub record StandsAt (code : CodeTree) (c : Context) (op : Op) : Type 0 where
  pub fault : c.inside.fault ≡ None
  pub at : op_at code c ≡ Some op

pub record BarriersTest (code : CodeTree) : Type 0 where
  -- a context is barred at a barrier alone, by the first rule that fails
  pub named :
      (c : Context) (d : Denied) (after : Inside) → next_of code c ≡ asks (ask.Barred d) after →
      (op : Op) × (op_at code c ≡ Some op) × IsBarred c.label c.inside.frame.stack d op
  -- it is barred wherever a rule fails, and goes past the barrier wherever none does
  pub barred :
      (c : Context) (op : Op) (d : Denied) → StandsAt code c op → IsBarred c.label c.inside.frame.stack d op →
      next_of code c ≡ asks (ask.Barred d) (past c.inside c.inside.frame.stack)
  pub passed :
      (c : Context) (op : Op) → StandsAt code c op → IsPassed c.label c.inside.frame.stack op → next_of code c ≡ goes (past c.inside c.inside.frame.stack)

-- ---- accesses

-- a reference leads to this thing
abbrev pub LeadsTo : Value → Name → Type 0
LeadsTo (Obj m) n = m ≡ n
LeadsTo (Arr m len) n = m ≡ n
LeadsTo v n = ⊥

abbrev pub IsRead : Label → Value → Type 0
IsRead p r = (n : Name) × LeadsTo r n × (first_failing (read_test p n.own) ≡ None)

abbrev pub IsWritten : Label → Value → Type 0
IsWritten p r = (n : Name) × LeadsTo r n × (first_failing (write_test p n.own) ≡ None)

-- in every world a read gives what stands in the slot, and a write sets it; none refuses or fails them
abbrev pub GivesSlot : Context → Value → ℕ → Type 0
GivesSlot c r at = (w : World) (n : Name) → LeadsTo r n → serve w c (ask.Read r at) ≡ answers (Val (slot_at w.heap n at))

abbrev pub SetsSlot : Context → Value → ℕ → Value → Type 0
SetsSlot c r at v = (w : World) (n : Name) → LeadsTo r n → serve w c (ask.Write r at v) ≡ does (sets_slot n at v)

-- what is read may be read, and what is written may be written
pub record AccessesPass (code : CodeTree) : Type 0 where
  pub reads : (c : Context) (r : Value) (at : ℕ) (after : Inside) → next_of code c ≡ asks (ask.Read r at) after → IsRead c.label r × GivesSlot c r at
  pub writes : (c : Context) (r v : Value) (at : ℕ) (after : Inside) → next_of code c ≡ asks (ask.Write r at v) after → IsWritten c.label r × SetsSlot c r at v
