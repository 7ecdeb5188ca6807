-- Trees of asks: what a piece of a program does.
use Rattle.std.specs.Prelude.{ℕ, zero, suc, true, false, List, Option, Some, None, slice_get, slice_set}
use Rattle.flow_labels.specs.declared.Label.{Label}
use Rattle.flow_labels.specs.declared.Denied.{Denied as Denial}
use Rattle.thread_steps.specs.Caps.{Caps}
use Rattle.thread_steps.specs.Changes.{with_both, joined}
use Rattle.thread_steps.specs.Name.{Name}
use Rattle.thread_steps.specs.Value.{Value}
use Rattle.thread_steps.specs.Value.TheVariants.{Bool as Truth, Nothing, Obj, Arr, Tag, Lab, CapV}
use Rattle.thread_steps.specs.Fault.{Fault}
use Rattle.thread_steps.specs.Fault.TheVariants.{Denied, Null}
use Rattle.thread_steps.specs.Answer.{Answer}
use Rattle.thread_steps.specs.Answer.TheVariants.{Done, Entered, Val, Refused, Failed}
use Rattle.thread_steps.specs.Ask.{Ask}
use Rattle.thread_steps.specs.Ask.TheVariants as ask
use Rattle.thread_steps.specs.Suits.{Sort, numbers, Want, want_of}
use Rattle.thread_steps.specs.Operators as operators
use Rattle.thread_steps.specs.Operators.{Pure, fine, faults}

-- what a context has of its own: its unit's locals, and its capabilities
pub record Own : Type 0 where
  pub locals : List Value
  pub caps : Caps

abbrev pub with_locals : Own → List Value → Own
with_locals o ls = record { locals = ls; caps = o.caps }

abbrev pub with_local : Own → ℕ → Value → Own
with_local o x v = with_locals o (slice_set o.locals x v)

abbrev pub with_caps : Own → Caps → Own
with_caps o c = record { locals = o.locals; caps = c }

abbrev pub value_or_null : Option Value → Value
value_or_null None = Nothing
value_or_null (Some v) = v

abbrev pub local : Own → ℕ → Value
local o x = value_or_null (slice_get o.locals x)

-- an ask as a program makes it: with what may be answered at its place
pub record Asked : Type 0 where
  pub ask : Ask
  pub want : Want

abbrev pub asked : Sort → Ask → Asked
asked s a = record { ask = a; want = want_of s a }

-- how a piece of a program ends, with the units that are left
pub data End (A : Type 0) : Type 0 where
  goes : (a : A) (left : ℕ) (own : Own) → End A
  raises : (fault : Fault) (left : ℕ) (own : Own) → End A
  -- by a `return`
  leaves : (v : Value) (left : ℕ) (own : Own) → End A

pub data Tree (A : Type 0) : Type 0 where
  ends : (e : End A) → Tree A
  -- no unit was left for a turn of a loop or for a call
  spent : Tree A
  -- an operand of another kind than its place, which no typed program has, or an answer that does not suit
  broken : Tree A
  asks : (q : Asked) (go : Answer → Tree A) → Tree A

-- what comes after a piece, by how it ends. The only recursion over trees
unfoldable pub on_end : {A B : Type 0} → Tree A → (End A → Tree B) → Tree B
on_end (ends e) go = go e
on_end spent go = spent
on_end broken go = broken
on_end (asks q k) go = asks q (λ x. on_end (k x) go)

abbrev pub next : {A B : Type 0} → (A → ℕ → Own → Tree B) → End A → Tree B
next go (goes a n o) = go a n o
next go (raises f n o) = ends (raises f n o)
next go (leaves v n o) = ends (leaves v n o)

-- one piece and then another
abbrev pub and_then : {A B : Type 0} → Tree A → (A → ℕ → Own → Tree B) → Tree B
and_then t go = on_end t (next go)

abbrev pub gives : {A : Type 0} → A → ℕ → Own → Tree A
gives a n o = ends (goes a n o)

abbrev pub fails : {A : Type 0} → Fault → ℕ → Own → Tree A
fails f n o = ends (raises f n o)

abbrev pub done : ℕ → Own → Tree (Unit {0})
done n o = gives tt n o

-- uses one unit
abbrev pub spend : {A : Type 0} → ℕ → (ℕ → Tree A) → Tree A
spend zero go = spent
spend (suc n) go = go n

abbrev pub purely : ℕ → Own → Pure → Tree Value
purely n o (fine v) = gives v n o
purely n o (faults f) = fails f n o
purely n o operators.wrong = broken

-- ---- asks

-- a refusal raises Denied, a failure its fault
abbrev pub value_reply : (Value → Own → Own) → ℕ → Own → Answer → Tree Value
value_reply gains n o (Val v) = gives v n (gains v o)
value_reply gains n o (Refused d) = fails Denied n o
value_reply gains n o (Failed f) = fails f n o
value_reply gains n o Done = broken
value_reply gains n o Entered = broken

abbrev pub nothing_gained : Value → Own → Own
nothing_gained v o = o

-- an ask whose answer is a value
abbrev pub ask_value : Asked → ℕ → Own → Tree Value
ask_value q n o = asks q (λ x. value_reply nothing_gained n o x)

abbrev pub done_reply : {A : Type 0} → A → ℕ → Own → Answer → Tree A
done_reply a n o Done = gives a n o
done_reply a n o (Refused d) = fails Denied n o
done_reply a n o (Failed f) = fails f n o
done_reply a n o (Val v) = broken
done_reply a n o Entered = broken

-- an ask that is done and has no value
abbrev pub ask_done : {A : Type 0} → Ask → A → ℕ → Own → Tree A
ask_done a it n o = asks (asked numbers a) (λ x. done_reply it n o x)

abbrev pub ask_unit : Ask → ℕ → Own → Tree (Unit {0})
ask_unit a n o = ask_done a tt n o

-- ---- operands

-- a test of the label rule before an access: what fails is told, and raises Denied
abbrev pub unless_denied : {A : Type 0} → Option Denial → ℕ → Own → Tree A → Tree A
unless_denied None n o t = t
unless_denied (Some d) n o t = and_then (ask_unit (ask.Barred d) n o) (λ _ n o. fails Denied n o)

abbrev pub on_object : {A : Type 0} → Value → ℕ → Own → (Name → Tree A) → Tree A
on_object (Obj r) n o go = go r
on_object Nothing n o go = fails Null n o
on_object v n o go = broken

abbrev pub on_array : {A : Type 0} → Value → ℕ → Own → (Name → ℕ → Tree A) → Tree A
on_array (Arr r len) n o go = go r len
on_array Nothing n o go = fails Null n o
on_array v n o go = broken

-- an object or an array, and the reference itself
abbrev pub on_thing : {A : Type 0} → Value → ℕ → Own → (Value → Tree A) → Tree A
on_thing (Obj r) n o go = go (Obj r)
on_thing (Arr r len) n o go = go (Arr r len)
on_thing Nothing n o go = fails Null n o
on_thing v n o go = broken

abbrev pub on_truth : {A : Type 0} → Value → Tree A → Tree A → Tree A
on_truth (Truth true) a b = a
on_truth (Truth false) a b = b
on_truth v a b = broken

abbrev pub on_caps : {A : Type 0} → Value → ℕ → Own → (Caps → Tree A) → Tree A
on_caps (CapV p m) n o go = go (record { plus = p; minus = m })
on_caps Nothing n o go = fails Null n o
on_caps v n o go = broken

-- a label and capabilities
abbrev pub on_region : {A : Type 0} → Value → Value → ℕ → Own → (Label → Caps → Tree A) → Tree A
on_region (Lab l) c n o go = on_caps c n o (λ k. go l k)
on_region Nothing (CapV p m) n o go = fails Null n o
on_region Nothing Nothing n o go = fails Null n o
on_region l c n o go = broken

-- what a value brings to the context: a minted tag both of its capabilities, received capabilities themselves
abbrev pub gained : Ask → Value → Own → Own
gained ask.Mint (Tag t) o = with_caps o (with_both o.caps t)
gained (ask.ReceiveCaps p) (CapV plus minus) o = with_caps o (joined o.caps (record { plus = plus; minus = minus }))
gained a v o = o
