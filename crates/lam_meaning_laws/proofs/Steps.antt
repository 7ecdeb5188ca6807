-- Single operations, as the flat machine does them.
use Rattle.std.proofs.Common.{◌≡◌, ℕ, ◌+◌, ◌<◌, ◌≤◌, Bool, true, false, List, [], ◌∷◌, ◌++◌, Option, Some, None, refl, ap, ◌∙◌, arith}
use Rattle.std.proofs.lemmas.Bool.Decides.{nat_tests}
use Rattle.std.specs.Prelude.{if◌then◌else◌, nat_lt, drop, slice_get}
use Rattle.flow_labels.specs.declared.Label.{Label}
use Rattle.flow_labels.specs.declared.Denied.{Denied as Denial}
use Rattle.lam_value.specs.declared.names.Name.{Name}
use Rattle.lam_value.specs.declared.values.Value.{Value}
use Rattle.lam_value.specs.declared.values.Value.TheVariants.{Nothing, Obj, Arr, Tag, CapV}
use Rattle.lam_asks.specs.declared.fault.Fault.TheVariants.{Denied}
use Rattle.lam_asks.specs.declared.answer.Outcome.{Outcome}
use Rattle.lam_asks.specs.declared.answer.Answer.{Answer}
use Rattle.lam_asks.specs.declared.answer.Answer.TheVariants.{Done, Entered, Val, Refused, Failed}
use Rattle.lam_asks.specs.declared.ask.Ask.{Ask}
use Rattle.lam_asks.specs.declared.ask.Ask.TheVariants as ask
use Rattle.lam_bytecode.specs.Codes.{CodeTree}
use Rattle.lam_bytecode.specs.declared.op.Op.{Op}
use Rattle.lam_bytecode.specs.declared.op.Op.TheVariants.{Const, Jump, JumpIfFalse, ReadBarrier, WriteBarrier}
use Rattle.thread_steps.specs.Threads.{Context}
use Rattle.thread_steps.specs.Ops as ops
use Rattle.thread_steps.specs.Ops.{Did, effect, barrier, on_thing, on_truth, on_constant}
use Rattle.thread_steps.specs.Next as machine
use Rattle.thread_steps.specs.Next.{next_by, past, called, gains}
use Rattle.lam_meaning_typed.specs.Trees.{Own, gained}
use Rattle.lam_meaning_laws.specs.Gathers.{Along, with_locals, gone, and_on, Caller, never_enters, awaits, did, around, op_does}
use Rattle.lam_meaning_laws.specs.Lone.{Lone, runs, asked, done, turns}
use Rattle.lam_meaning_laws.proofs.Turns.{Kept, context, thread_of, at, place_of, op_at, around_at, Ends, step, one_goes, one_raises, one_waits}

no_address : (to : ℕ) → nat_lt to 0 ≡ false
no_address to = grind (arith, nat_tests)

gains_same : (kp : Kept) (pc : ℕ) (s : List Value) (held : List Name) (a : Ask) (v : Value) (o : Own) → gains a v (context kp pc s held o) ≡ context kp pc s held (gained a v o)
gains_same kp pc s held ask.Mint (Tag t) o = refl
gains_same kp pc s held (ask.ReceiveCaps p) (CapV plus minus) o = refl
gains_same kp pc s held a v o = refl

module _ (code : CodeTree) (C : ℕ) where
  -- an answer, where no region is entered
  wants_run : (kp : Kept) (s0 : Lone) (n w pc w1 : ℕ) (old s : List Value) (held : List Name) (o : Own) (xs : List Answer) (made : List Ask) (res : Option Outcome) (a : Ask) → turns code 1 s0 ≡ asked code (thread_of kp res (context kp pc old held o)) (context kp pc old held o) kp.below (past (context kp pc old held o).inside s) a xs made w1 → w ≤ w1 → Ends code C kp s0 n w (pc + 1) 1 (awaits never_enters a s xs n held (record { own = o; answers = xs; asks = made }))
  wants_run kp s0 n w pc w1 old s held o [] made res a e le = one_waits code C kp s0 n w (pc + 1) w1 1 (made ++ a ∷ []) e (omega arith)
  wants_run kp s0 n w pc w1 old s held o (Val v ∷ xs) made res a e le =
      one_goes code C kp s0 n w (pc + 1) w1 1 (v ∷ s) held (record { own = gained a v o; answers = xs; asks = made ++ a ∷ [] }) (machine.result_after res a)
      (e ∙ ap (λ (c : Context). runs (record { contexts = c ∷ kp.below; result = machine.result_after res a }) xs (made ++ a ∷ []) w1) (gains_same kp (pc + 1) (v ∷ s) held a v o)) le (omega arith)
  wants_run kp s0 n w pc w1 old s held o (Refused d ∷ xs) made res a e le = one_raises code C kp s0 n w (pc + 1) pc w1 1 Denied old held (record { own = o; answers = xs; asks = made ++ a ∷ [] }) (machine.result_after res a) e le (omega arith)
  wants_run kp s0 n w pc w1 old s held o (Failed f ∷ xs) made res a e le = one_raises code C kp s0 n w (pc + 1) pc w1 1 f old held (record { own = o; answers = xs; asks = made ++ a ∷ [] }) (machine.result_after res a) e le (omega arith)
  wants_run kp s0 n w pc w1 old s held o (Entered ∷ xs) made res (ask.Enter l k number vs) e le = tt
  wants_run kp s0 n w pc w1 old s held o (Entered ∷ xs) made res a e le = tt
  wants_run kp s0 n w pc w1 old s held o (Done ∷ xs) made res (ask.Barred d) e le = one_raises code C kp s0 n w (pc + 1) pc w1 1 Denied old held (record { own = o; answers = xs; asks = made ++ ask.Barred d ∷ [] }) res e le (omega arith)
  wants_run kp s0 n w pc w1 old s held o (Done ∷ xs) made res (ask.MonEnter r) e le =
      one_goes code C kp s0 n w (pc + 1) w1 1 s (machine.held_by r (λ m. m ∷ held) held) (record { own = o; answers = xs; asks = made ++ ask.MonEnter r ∷ [] }) res e le (omega arith)
  wants_run kp s0 n w pc w1 old s held o (Done ∷ xs) made res (ask.MonLeave r) e le =
      one_goes code C kp s0 n w (pc + 1) w1 1 s (machine.held_by r (λ m. machine.without m held) held) (record { own = o; answers = xs; asks = made ++ ask.MonLeave r ∷ [] }) res e le (omega arith)
  wants_run kp s0 n w pc w1 old s held o (Done ∷ xs) made res ask.Leave e le = tt
  wants_run kp s0 n w pc w1 old s held o (Done ∷ xs) made res (ask.Caught f) e le = tt
  wants_run kp s0 n w pc w1 old s held o (Done ∷ xs) made res (ask.Suppressed f) e le = tt
  wants_run kp s0 n w pc w1 old s held o (Done ∷ xs) made res (ask.End r) e le = tt
  wants_run kp s0 n w pc w1 old s held o (Done ∷ xs) made res a e le = one_goes code C kp s0 n w (pc + 1) w1 1 s held (record { own = o; answers = xs; asks = made ++ a ∷ [] }) res e le (omega arith)

  -- a turn that calls
  abbrev pub CallTurn : Kept → ℕ → List Value → List Name → Along → Option Outcome → ℕ → ℕ → ℕ → List Value → List Value → Type 0
  CallTurn kp pc s held st res w w1 u vs s' = turns code 1 (at kp pc s held st res w) ≡ done code (thread_of kp res (context kp pc s held st.own)) (context kp pc s held st.own) kp.below st.answers st.asks w w1 (machine.goes (called code (context kp pc s held st.own).inside u vs s'))

  -- what one operation does
  did_runs : (caller : Caller) (kp : Kept) (n w pc w1 : ℕ) (s : List Value) (held : List Name) (st : Along) (res : Option Outcome) (o : Op) (d : Did) → op_at code C kp.unit pc ≡ Some o → effect (around_at code C kp held st) s o ≡ d → turns code 1 (at kp pc s held st res w) ≡ done code (thread_of kp res (context kp pc s held st.own)) (context kp pc s held st.own) kp.below st.answers st.asks w w1 (next_by code kp.phase (context kp pc s held st.own).inside d) → w ≤ w1 → ((u : ℕ) (vs s' : List Value) → d ≡ ops.calls u vs s' → CallTurn kp pc s held st res w w1 u vs s' → Ends code C kp (at kp pc s held st res w) n w (pc + 1) 1 (and_on (caller u vs (place_of kp) n held st) (λ v n held st. gone (v ∷ s') n held st))) → Ends code C kp (at kp pc s held st res w) n w (pc + 1) 1 (did caller never_enters d (place_of kp) n held st)
  did_runs caller kp n w pc w1 s held st res o (ops.gives s') at_op does e le h = one_goes code C kp _ n w (pc + 1) w1 1 s' held st res e le (omega arith)
  did_runs caller kp n w pc w1 s held st res o (ops.sets ls s') at_op does e le h = one_goes code C kp _ n w (pc + 1) w1 1 s' held (with_locals st ls) res e le (omega arith)
  did_runs caller kp n w pc w1 s held st res o (ops.jumps to s') at_op does e le h = tt
  did_runs caller kp n w pc w1 s held st res o (ops.calls u vs s') at_op does e le h = h u vs s' refl e
  did_runs caller kp n w pc w1 s held st res o (ops.returns v) at_op does e le h =
      record { pc = pc; stack = s; res = res; work = w; op = o; here = at_op; does = does; reach = record { count = 0; same = refl; few = omega arith; work = omega arith; less = omega arith } }
  did_runs caller kp n w pc w1 s held st res o (ops.fails f) at_op does e le h = one_raises code C kp _ n w (pc + 1) pc w1 1 f s held st res e le (omega arith)
  did_runs caller kp n w pc w1 s held st res o (ops.wants a s') at_op does e le h = wants_run kp _ n w pc w1 s s' held st.own st.answers st.asks res a e le
  did_runs caller kp n w pc w1 s held st res o ops.leaves at_op does e le h = tt
  did_runs caller kp n w pc w1 s held st res o ops.breaks at_op does e le h = tt

  -- ---- operations

  -- nothing stands round a single operation, so it has no address to go to
  jump_ends : (caller : Caller) (kp : Kept) (s0 : Lone) (n w pc : ℕ) (d : Did) (b : Bool) (held : List Name) (st : Along) → b ≡ false → Ends code C kp s0 n w pc 1 (did caller never_enters (if b then d else ops.breaks) (place_of kp) n held st)
  jump_ends caller kp s0 n w pc d true held st e = absurd cc
  jump_ends caller kp s0 n w pc d false held st e = tt

  barrier_calls : (s : List Value) (d : Option Denial) (u : ℕ) (vs s' : List Value) → barrier s d ≡ ops.calls u vs s' → ⊥
  barrier_calls s None u vs s' e = cc
  barrier_calls s (Some d) u vs s' e = cc

  tested_calls : (t s : List Value) (rule : Label → Option Denial) (u : ℕ) (vs s' : List Value) → on_thing t (λ n rest. barrier s (rule n.own)) ≡ ops.calls u vs s' → ⊥
  tested_calls (Obj n ∷ t) s rule u vs s' e = barrier_calls s (rule n.own) u vs s' e
  tested_calls (Arr n len ∷ t) s rule u vs s' e = barrier_calls s (rule n.own) u vs s' e
  tested_calls (Nothing ∷ t) s rule u vs s' e = cc
  tested_calls t s rule u vs s' e = cc

  -- a caller, of which calls are turns
  abbrev pub CallsRun : Caller → ℕ → Type 0
  CallsRun caller b =
      (kp : Kept) (pc n w u : ℕ) (s vs s' : List Value) (held : List Name) (st : Along) (res : Option Outcome) → n < b → CallTurn kp pc s held st res w (w + 1) u vs s' →
      Ends code C kp (at kp pc s held st res w) n w (pc + 1) 1 (and_on (caller u vs (place_of kp) n held st) (λ v n held st. gone (v ∷ s') n held st))

  pub op_runs : (caller : Caller) (b : ℕ) → CallsRun caller b → (kp : Kept) (n w pc : ℕ) (s : List Value) (held : List Name) (st : Along) (res : Option Outcome) (o : Op) → n < b → op_at code C kp.unit pc ≡ Some o → Ends code C kp (at kp pc s held st res w) n w (pc + 1) 1 (op_does code caller never_enters o (place_of kp) n s held st)
  unfolding effect
  op_runs caller b calls kp n w pc s held st res (Jump to) lt at_op = jump_ends caller kp _ n w (pc + 1) (ops.jumps to s) (nat_lt to 0) held st (no_address to)
  op_runs caller b calls kp n w pc s held st res (JumpIfFalse to) lt at_op =
      jump_ends caller kp _ n w (pc + 1) (on_truth s (λ b s. if b then ops.gives s else ops.jumps to s)) (nat_lt to 0) held st (no_address to)
  op_runs caller b calls kp n w pc s held st res (ReadBarrier d) lt at_op =
      did_runs caller kp n w pc (w + 0) s held st res (ReadBarrier d) _ at_op refl (step code C kp pc w s held st res (ReadBarrier d) at_op) (omega arith) (λ u vs s' e t. absurd (tested_calls (drop d s) s (ops.may_read kp.label) u vs s' e))
  op_runs caller b calls kp n w pc s held st res (WriteBarrier d) lt at_op =
      did_runs caller kp n w pc (w + 0) s held st res (WriteBarrier d) _ at_op refl (step code C kp pc w s held st res (WriteBarrier d) at_op) (omega arith) (λ u vs s' e t. absurd (tested_calls (drop d s) s (ops.may_write kp.label) u vs s' e))
  op_runs caller b calls kp n w pc s held st res o lt at_op =
      did_runs caller kp n w pc (w + 1) s held st res o (effect (around code (place_of kp) held st) s o) at_op refl (step code C kp pc w s held st res o at_op) (omega arith) (λ u vs s' e t. calls kp pc n w u s vs s' held st res lt t)

  pub const_turn : (kp : Kept) (pc w k : ℕ) (v : Value) (s : List Value) (held : List Name) (st : Along) (res : Option Outcome) → op_at code C kp.unit pc ≡ Some (Const k) → slice_get code.constants k ≡ Some v → turns code 1 (at kp pc s held st res w) ≡ at kp (pc + 1) (v ∷ s) held st res (w + 1)
  unfolding effect
  const_turn kp pc w k v s held st res at_op there =
      step code C kp pc w s held st res (Const k) at_op ∙
      ap (λ m. done code (thread_of kp res (context kp pc s held st.own)) (context kp pc s held st.own) kp.below st.answers st.asks w (w + 1) (next_by code kp.phase (context kp pc s held st.own).inside (on_constant s m))) there

  pub put_runs : (kp : Kept) (n w pc k : ℕ) (v : Value) (s : List Value) (held : List Name) (st : Along) (res : Option Outcome) → op_at code C kp.unit pc ≡ Some (Const k) → slice_get code.constants k ≡ Some v → Ends code C kp (at kp pc s held st res w) n w (pc + 1) 1 (gone (v ∷ s) n held st)
  put_runs kp n w pc k v s held st res at_op there = one_goes code C kp _ n w (pc + 1) (w + 1) 1 (v ∷ s) held st res (const_turn kp pc w k v s held st res at_op there) (omega arith) (omega arith)
