-- What nested code does with a list of answers: its operands change, the asks are gathered along the way.
use Rattle.std.specs.Prelude.{ℕ, zero, suc, ◌-◌, true, false, List, [], ◌∷◌, ◌++◌, length, replicate, Option, Some, None, slice_get}
use Rattle.flow_labels.specs.declared.Label.{Label}
use Rattle.flow_labels.specs.Flow.{public_label}
use Rattle.capabilities.specs.declared.Caps.{Caps}
use Rattle.lam_value.specs.declared.names.Name.{Name}
use Rattle.lam_value.specs.declared.values.Value.{Value}
use Rattle.lam_value.specs.declared.values.Value.TheVariants.{Int, Bool as Truth, Nothing}
use Rattle.lam_asks.specs.declared.fault.Fault.{Fault}
use Rattle.lam_asks.specs.declared.fault.Fault.TheVariants.{Denied}
use Rattle.lam_asks.specs.Faults.{fault_number}
use Rattle.lam_asks.specs.declared.answer.Outcome.TheVariants as outcome
use Rattle.lam_asks.specs.declared.answer.Answer.{Answer}
use Rattle.lam_asks.specs.declared.answer.Answer.TheVariants.{Done, Entered, Val, Refused, Failed}
use Rattle.lam_asks.specs.declared.ask.Ask.{Ask}
use Rattle.lam_asks.specs.declared.ask.Ask.TheVariants as ask
use Rattle.lam_bytecode.specs.Codes.{CodeTree}
use Rattle.lam_bytecode.specs.declared.op.Op.{Op}
use Rattle.lam_bytecode.specs.declared.op.Op.TheVariants.{EnterRegion}
use Rattle.thread_steps.specs.Ops as ops
use Rattle.thread_steps.specs.Ops.{Did, Around, effect}
use Rattle.thread_steps.specs.Next.{held_by, without}
use Rattle.lam_resolve_tree.specs.Tree.{ResolvedFunction, ResolvedTree}
use Rattle.lam_meaning_typed.specs.Trees as tree
use Rattle.lam_meaning_typed.specs.Trees.{Own, gained}
use Rattle.lam_meaning_typed.specs.Means.{At, inside, deeper, first_locals}
use Rattle.lam_meaning_typed.specs.Plays.{How, has_ended, waits, is_spent, is_broken}
use Rattle.lam_meaning_typed.specs.Scheme.{scheme}
use Rattle.lam_meaning_typed.specs.Nested.{Nested, no_code, does, puts, both, when, either, loops, enters, block_code}

-- what goes along: what the context owns, the answers to come and the asks so far
pub record Along : Type 0 where
  pub own : Own
  pub answers : List Answer
  pub asks : List Ask

abbrev pub with_own : Along → Own → Along
with_own st o = record { own = o; answers = st.answers; asks = st.asks }

abbrev pub with_locals : Along → List Value → Along
with_locals st ls = with_own st (tree.with_locals st.own ls)

-- after an ask
abbrev pub answered : Along → List Answer → Ask → Along
answered st rest a = record { own = st.own; answers = rest; asks = st.asks ++ a ∷ [] }

-- how code ends, with the units that are left and the monitors that the context has. A fault takes those back
pub data Out (A : Type 0) : Type 0 where
  gone : (a : A) (units : ℕ) (held : List Name) (st : Along) → Out A
  raised : (fault : Fault) (units : ℕ) (st : Along) → Out A
  -- by a `return`
  returned : (v : Value) (units : ℕ) (held : List Name) (st : Along) → Out A
  -- it makes no ask after these
  stops : (how : How) (asks : List Ask) → Out A

abbrev pub broken : {A : Type 0} → Along → Out A
broken st = stops is_broken st.asks

abbrev pub and_on : {A B : Type 0} → Out A → (A → ℕ → List Name → Along → Out B) → Out B
and_on (gone a n held st) go = go a n held st
and_on (raised f n st) go = raised f n st
and_on (returned v n held st) go = returned v n held st
and_on (stops how asks) go = stops how asks

-- what code does at a place, with units, from these operands and monitors on
abbrev pub Does : Type 0
Does = At → ℕ → List Value → List Name → Along → Out (List Value)

-- a function with its arguments
abbrev pub Caller : Type 0
Caller = ℕ → List Value → At → ℕ → List Name → Along → Out Value

-- a region that was entered, at a label with capabilities and captures
abbrev pub Enters : Type 0
Enters = Label → Caps → List Value → ℕ → List Name → Along → Out (Unit {0})

abbrev pub never_enters : Enters
never_enters l k vs n held st = broken st

-- ---- asks

-- that an ask was done, above these operands
abbrev pub done : Ask → List Value → ℕ → List Name → Along → Out (List Value)
done (ask.Barred d) s n held st = raised Denied n st
done (ask.MonEnter r) s n held st = gone s n (held_by r (λ m. m ∷ held) held) st
done (ask.MonLeave r) s n held st = gone s n (held_by r (λ m. without m held) held) st
done ask.Leave s n held st = broken st
done (ask.Caught f) s n held st = broken st
done (ask.Suppressed f) s n held st = broken st
done (ask.End r) s n held st = broken st
done a s n held st = gone s n held st

abbrev pub entered : Enters → Ask → List Value → ℕ → List Name → Along → Out (List Value)
entered enter (ask.Enter l k number vs) s n held st = and_on (enter l k vs n held st) (λ _ n held st. gone s n held st)
entered enter a s n held st = broken st

abbrev pub replied : Enters → Ask → List Value → Answer → ℕ → List Name → Along → Out (List Value)
replied enter a s Done n held st = done a s n held st
replied enter a s Entered n held st = entered enter a s n held st
replied enter a s (Val v) n held st = gone (v ∷ s) n held (with_own st (gained a v st.own))
replied enter a s (Refused d) n held st = raised Denied n st
replied enter a s (Failed f) n held st = raised f n st

abbrev pub awaits : Enters → Ask → List Value → List Answer → ℕ → List Name → Along → Out (List Value)
awaits enter a s [] n held st = stops waits (st.asks ++ a ∷ [])
awaits enter a s (x ∷ rest) n held st = replied enter a s x n held (answered st rest a)

-- ---- operations

abbrev pub did : Caller → Enters → Did → At → ℕ → List Name → Along → Out (List Value)
did call enter (ops.gives s) p n held st = gone s n held st
did call enter (ops.sets ls s) p n held st = gone s n held (with_locals st ls)
did call enter (ops.jumps to s) p n held st = broken st
did call enter (ops.calls u vs s) p n held st = and_on (call u vs p n held st) (λ v n held st. gone (v ∷ s) n held st)
did call enter (ops.returns v) p n held st = returned v n held st
did call enter (ops.fails f) p n held st = raised f n st
did call enter (ops.wants a s) p n held st = awaits enter a s st.answers n held st
did call enter ops.leaves p n held st = broken st
did call enter ops.breaks p n held st = broken st

-- no operation of nested code reads the number of operations of its unit
abbrev pub around : CodeTree → At → List Name → Along → Around
around code p held st = record { code = code; label = p.label; caps = st.own.caps; held = held; locals = st.own.locals; size = 0; frames = p.calls }

abbrev pub op_does : CodeTree → Caller → Enters → Op → Does
op_does code call enter op p n s held st = did call enter (effect (around code p held st) s op) p n held st

-- ---- regions

-- the last ask of a region: what the context around owns is as it was
abbrev pub ends_by : Ask → Own → List Name → List Answer → ℕ → Along → Out (Unit {0})
ends_by a outer held [] n st = stops waits (st.asks ++ a ∷ [])
ends_by a outer held (Done ∷ rest) n st = gone tt n held (with_own (answered st rest a) outer)
ends_by a outer held (_ ∷ rest) n st = broken st

abbrev pub after_catch : {A : Type 0} → Own → List Name → Out A → Out (Unit {0})
after_catch outer held (gone a n h st) = ends_by ask.Leave outer held st.answers n st
after_catch outer held (raised f n st) = ends_by (ask.Suppressed f) outer held st.answers n st
after_catch outer held (returned v n h st) = broken st
after_catch outer held (stops how asks) = stops how asks

abbrev pub caught : List Answer → Fault → Along → (Along → Out (Unit {0})) → Out (Unit {0})
caught [] f st go = stops waits (st.asks ++ ask.Caught f ∷ [])
caught (Done ∷ rest) f st go = go (answered st rest (ask.Caught f))
caught (_ ∷ rest) f st go = broken st

-- the catch block finds the fault's number
abbrev pub after_body : {A : Type 0} → Own → List Name → (List Value → ℕ → Along → Out A) → Out A → Out (Unit {0})
after_body outer held handler (gone a n h st) = ends_by ask.Leave outer held st.answers n st
after_body outer held handler (raised f n st) = caught st.answers f st (λ st. after_catch outer held (handler (Int (fault_number f) ∷ []) n st))
after_body outer held handler (returned v n h st) = broken st
after_body outer held handler (stops how asks) = stops how asks

-- its own locals, capabilities and monitors
abbrev pub region_by : ℕ → Does → Does → Enters
region_by slots body handler l k vs n held st =
    after_body st.own held (λ s n st. handler (inside l) n s [] st) (body (inside l) n [] [] (with_own st (record { locals = vs ++ replicate (slots - length vs) Nothing; caps = k })))

-- ---- nested code

-- by the top operand
abbrev pub picks : {A : Type 0} → List Value → Along → (List Value → Out A) → (List Value → Out A) → Out A
picks (Truth true ∷ s) st a b = a s
picks (Truth false ∷ s) st a b = b s
picks s st a b = broken st

-- uses one unit
abbrev pub use_unit : {A : Type 0} → ℕ → Along → (ℕ → Out A) → Out A
use_unit zero st go = stops is_spent st.asks
use_unit (suc n) st go = go n

-- `again` is the rest of a loop
abbrev pub acts : CodeTree → Caller → (Nested → Does) → Nested → Does
acts code call again no_code p n s held st = gone s n held st
acts code call again (does op) p n s held st = op_does code call never_enters op p n s held st
acts code call again (puts v) p n s held st = gone (v ∷ s) n held st
acts code call again (both a b) p n s held st = and_on (acts code call again a p n s held st) (λ s n held st. acts code call again b p n s held st)
acts code call again (when a) p n s held st = picks s st (λ s. acts code call again a p n s held st) (λ s. gone s n held st)
acts code call again (either a b) p n s held st = picks s st (λ s. acts code call again a p n s held st) (λ s. acts code call again b p n s held st)
acts code call again (loops t b) p n s held st =
    and_on (acts code call again t p n s held st)
    (λ s n held st. picks s st (λ s. use_unit n st (λ n. and_on (acts code call again b p n s held st) (λ s n held st. again (loops t b) p n s held st))) (λ s. gone s n held st))
acts code call again (enters number captures slots body handler) p n s held st =
    op_does code call
    (region_by slots (λ p n s held st. acts code call again body p n s held st) (λ p n s held st. acts code call again handler p n s held st))
    (EnterRegion number) p n s held st

-- ---- calls

-- the caller's locals are as they were
abbrev pub call_result : {A : Type 0} → List Value → Out A → Out Value
call_result ls (gone a n held st) = gone Nothing n held (with_locals st ls)
call_result ls (raised f n st) = raised f n (with_locals st ls)
call_result ls (returned v n held st) = gone v n held (with_locals st ls)
call_result ls (stops how asks) = stops how asks

abbrev pub body_does : (Nested → Does) → Option ResolvedFunction → List Value → At → ℕ → List Name → Along → Out (List Value)
body_does again None vs p n held st = broken st
body_does again (Some f) vs p n held st = again (block_code [] f.body) p n [] held (with_locals st (first_locals f vs))

abbrev pub called : ResolvedTree → (Nested → Does) → Caller
called r again f vs p n held st = use_unit n st (λ n. call_result st.own.locals (body_does again (slice_get r.functions f) vs (deeper p) n held st))

-- loops and calls go at most b deep
abbrev pub acts_to : ResolvedTree → ℕ → Nested → Does
acts_to r zero c p n s held st = stops is_spent st.asks
acts_to r (suc b) c p n s held st = acts (scheme r) (called r (acts_to r b)) (acts_to r b) c p n s held st

-- ---- a thread

-- the last ask
abbrev pub closing : {A : Type 0} → Out A → Out (Unit {0})
closing (gone a n held st) = ends_by (ask.End (outcome.Value Nothing)) st.own [] st.answers n st
closing (raised f n st) = ends_by (ask.End (outcome.Failed f)) st.own [] st.answers n st
closing (returned v n held st) = ends_by (ask.End (outcome.Value v)) st.own [] st.answers n st
closing (stops how asks) = stops how asks

pub record Final : Type 0 where
  pub how : How
  pub asks : List Ask

abbrev pub final_of : {A : Type 0} → Out A → Final
final_of (gone a n held st) = record { how = has_ended; asks = st.asks }
final_of (raised f n st) = record { how = has_ended; asks = st.asks }
final_of (returned v n held st) = record { how = has_ended; asks = st.asks }
final_of (stops how asks) = record { how = how; asks = asks }

abbrev pub first_along : List Answer → Caps → Along
first_along xs k = record { own = record { locals = []; caps = k }; answers = xs; asks = [] }

-- what the nested code of function f does at the public label, with n units
abbrev pub body_acts : ResolvedTree → ℕ → ℕ → List Value → Caps → List Answer → Out (List Value)
body_acts r n f vs k xs = body_does (acts_to r (suc n)) (slice_get r.functions f) vs (record { label = public_label; calls = 1 }) n [] (first_along xs k)

abbrev pub thread_acts : ResolvedTree → ℕ → ℕ → List Value → Caps → List Answer → Final
thread_acts r n f vs k xs = final_of (closing (body_acts r n f vs k xs))
