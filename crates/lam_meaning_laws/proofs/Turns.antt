-- Where a thread stands that runs alone, and how many turns lead from one place to another.
use Rattle.std.proofs.Common.{◌≡◌, ℕ, zero, suc, ◌+◌, ◌*◌, ◌<◌, ◌≤◌, List, [], ◌∷◌, length, Option, Some, None, refl, ap, ◌∙◌, subst, arith}
use Rattle.std.specs.Prelude.{slice_get}
use Rattle.flow_labels.specs.declared.Label.{Label}
use Rattle.lam_value.specs.declared.names.Name.{Name}
use Rattle.lam_value.specs.declared.values.Value.{Value}
use Rattle.lam_asks.specs.declared.fault.Fault.{Fault}
use Rattle.lam_asks.specs.declared.answer.Outcome.{Outcome}
use Rattle.lam_asks.specs.declared.ask.Ask.{Ask}
use Rattle.lam_bytecode.specs.Codes.{CodeTree}
use Rattle.lam_bytecode.specs.declared.op.Op.{Op}
use Rattle.thread_steps.specs.Threads.{Frame, Phase, Context, Thread}
use Rattle.thread_steps.specs.Ops.{returns, Around, effect}
use Rattle.thread_steps.specs.Next.{ops_of, next_by, next_op, next_of}
use Rattle.lam_meaning_typed.specs.Trees.{Own}
use Rattle.lam_meaning_typed.specs.Means.{At}
use Rattle.lam_meaning_typed.specs.Plays.{has_ended, waits, is_spent, is_broken}
use Rattle.lam_meaning_laws.specs.Gathers.{Along, Out, gone, raised, returned, stops, and_on}
use Rattle.lam_meaning_laws.specs.Lone.{Lone, runs, op_work, done, turn, turns, asks_in, work_done, NotStuck}
use Rattle.lam_meaning_laws.specs.Lone as lone

-- what stands of a context that does not change until it is left
pub record Kept : Type 0 where
  pub unit : ℕ
  pub label : Label
  pub depth : ℕ
  pub phase : Phase
  pub callers : List Frame
  pub below : List Context

abbrev pub frame_of : ℕ → ℕ → List Value → List Value → Frame
frame_of u pc s locals = record { unit = u; at = pc; locals = locals; stack = s }

abbrev pub context : Kept → ℕ → List Value → List Name → Own → Context
context kp pc s held o =
    record { label = kp.label; caps = o.caps; depth = kp.depth; phase = kp.phase; held = held; inside = record { frame = frame_of kp.unit pc s o.locals; callers = kp.callers; fault = None } }

abbrev pub thread_of : Kept → Option Outcome → Context → Thread
thread_of kp res c = record { contexts = c ∷ kp.below; result = res }

-- at a place, with operands and monitors
abbrev pub at : Kept → ℕ → List Value → List Name → Along → Option Outcome → ℕ → Lone
at kp pc s held st res w = runs (thread_of kp res (context kp pc s held st.own)) st.answers st.asks w

-- the outermost frame
abbrev pub base_unit : ℕ → List Frame → ℕ
base_unit u [] = u
base_unit u (f ∷ fs) = base_unit f.unit fs

abbrev pub base_locals : List Value → List Frame → List Value
base_locals ls [] = ls
base_locals ls (f ∷ fs) = base_locals f.locals fs

-- where a fault was raised, in whatever frames above those that are kept
pub record Spot : Type 0 where
  pub unit : ℕ
  pub pc : ℕ
  pub stack : List Value
  pub locals : List Value
  pub callers : List Frame
  pub held : List Name
  pub res : Option Outcome
  pub work : ℕ

abbrev pub fault_context : Kept → Spot → Fault → Own → Context
fault_context kp x f o =
    record { label = kp.label; caps = o.caps; depth = kp.depth; phase = kp.phase; held = x.held; inside = record { frame = frame_of x.unit x.pc x.stack x.locals; callers = x.callers; fault = Some f } }

abbrev pub faulty : Kept → Spot → Fault → Along → Lone
faulty kp x f st = runs (thread_of kp x.res (fault_context kp x f st.own)) st.answers st.asks x.work

abbrev pub place_of : Kept → At
place_of kp = record { label = kp.label; calls = length kp.callers + 1 }

module _ (code : CodeTree) (C : ℕ) where
  abbrev pub op_at : ℕ → ℕ → Option Op
  op_at u pc = slice_get (ops_of code u) pc

  -- what an operation reads there
  abbrev pub around_at : Kept → List Name → Along → Around
  around_at kp held st = record { code = code; label = kp.label; caps = st.own.caps; held = held; locals = st.own.locals; size = length (ops_of code kp.unit); frames = length kp.callers + 1 }

  -- from s, with n units and work w, to s', at a cost of c turns and of C for each unit
  pub record Reaches (s : Lone) (n w c : ℕ) (s' : Lone) (n' w' : ℕ) : Type 0 where
    pub count : ℕ
    pub same : turns code count s ≡ s'
    pub few : count + n' * C ≤ c + n * C
    pub work : w + n ≤ w' + n'
    pub less : n' ≤ n

  -- it stays there, and is not stuck
  pub record Halts (s : Lone) (made : List Ask) (n c : ℕ) : Type 0 where
    pub count : ℕ
    pub last : Lone
    pub same : turns code count s ≡ last
    pub still : turn code last ≡ last
    pub asked : asks_in last ≡ made
    pub fine : NotStuck code last
    pub few : count ≤ c + n * C

  -- more work than units
  pub record Works (s : Lone) (made : List Ask) (n w c : ℕ) : Type 0 where
    pub count : ℕ
    pub asked : asks_in (turns code count s) ≡ made
    pub work : w + n < work_done (turns code count s)
    pub few : count ≤ c + n * C

  pub record FailsAs (kp : Kept) (s : Lone) (n w c : ℕ) (f : Fault) (n' : ℕ) (st : Along) : Type 0 where
    pub spot : Spot
    pub same_unit : base_unit spot.unit spot.callers ≡ base_unit kp.unit kp.callers
    pub same_locals : base_locals spot.locals spot.callers ≡ base_locals st.own.locals kp.callers
    pub reach : Reaches s n w c (faulty kp spot f st) n' spot.work

  -- at an operation that returns
  pub record ReturnsAt (kp : Kept) (s : Lone) (n w c : ℕ) (v : Value) (n' : ℕ) (held : List Name) (st : Along) : Type 0 where
    pub pc : ℕ
    pub stack : List Value
    pub res : Option Outcome
    pub work : ℕ
    pub op : Op
    pub here : op_at kp.unit pc ≡ Some op
    pub does : effect (around_at kp held st) stack op ≡ returns v
    pub reach : Reaches s n w c (at kp pc stack held st res work) n' work

  pub record Goes (kp : Kept) (s : Lone) (n w pc c : ℕ) (stack : List Value) (n' : ℕ) (held : List Name) (st : Along) : Type 0 where
    pub res : Option Outcome
    pub work : ℕ
    pub reach : Reaches s n w c (at kp pc stack held st res work) n' work

  -- what the thread does from s where nested code in a context does this
  abbrev pub Ends : Kept → Lone → ℕ → ℕ → ℕ → ℕ → Out (List Value) → Type 0
  Ends kp s n w pc c (gone stack n' held st) = Goes kp s n w pc c stack n' held st
  Ends kp s n w pc c (raised f n' st) = FailsAs kp s n w c f n' st
  Ends kp s n w pc c (returned v n' held st) = ReturnsAt kp s n w c v n' held st
  Ends kp s n w pc c (stops has_ended made) = Halts s made n c
  Ends kp s n w pc c (stops waits made) = Halts s made n c
  Ends kp s n w pc c (stops is_spent made) = Works s made n w c
  Ends kp s n w pc c (stops is_broken made) = Unit {0}

  -- ---- several turns

  pub turns_add : (i j : ℕ) (s : Lone) → turns code (i + j) s ≡ turns code j (turns code i s)
  turns_add zero j s = let e : 0 + j ≡ j = omega arith in ap (λ n. turns code n s) e
  turns_add (suc i) j s = let e : suc i + j ≡ suc (i + j) = omega arith in ap (λ n. turns code n s) e ∙ turns_add i j (turn code s)

  -- j turns from s to s1, and on from there
  reach_on : (s s1 s2 : Lone) (n n1 n2 w w1 w2 c c1 j : ℕ) → turns code j s ≡ s1 → j + c1 + n1 * C ≤ c + n * C → w + n ≤ w1 + n1 → n1 ≤ n → Reaches s1 n1 w1 c1 s2 n2 w2 → Reaches s n w c s2 n2 w2
  reach_on s s1 s2 n n1 n2 w w1 w2 c c1 j e few work less r =
      record { count = j + r.count; same = turns_add j r.count s ∙ ap (turns code r.count) e ∙ r.same; few = omega (arith, few, r.few); work = omega (arith, work, r.work); less = omega (arith, less, r.less) }

  pub halts_on : (s s1 : Lone) (made : List Ask) (n n1 c c1 j : ℕ) → turns code j s ≡ s1 → j + c1 + n1 * C ≤ c + n * C → Halts s1 made n1 c1 → Halts s made n c
  halts_on s s1 made n n1 c c1 j e few r =
      record { count = j + r.count; last = r.last; same = turns_add j r.count s ∙ ap (turns code r.count) e ∙ r.same; still = r.still; asked = r.asked; fine = r.fine; few = omega (arith, few, r.few) }

  pub works_on : (s s1 : Lone) (made : List Ask) (n n1 w w1 c c1 j : ℕ) → turns code j s ≡ s1 → j + c1 + n1 * C ≤ c + n * C → w + n ≤ w1 + n1 → Works s1 made n1 w1 c1 → Works s made n w c
  works_on s s1 made n n1 w w1 c c1 j e few work r =
      let same = turns_add j r.count s ∙ ap (turns code r.count) e in
      let more = ap work_done same in
      record { count = j + r.count; asked = ap asks_in same ∙ r.asked; work = omega (arith, work, r.work, more); few = omega (arith, few, r.few) }

  pub shift : (kp : Kept) (s s1 : Lone) (n n1 w w1 pc c c1 j : ℕ) (o : Out (List Value)) → turns code j s ≡ s1 → j + c1 + n1 * C ≤ c + n * C → w + n ≤ w1 + n1 → n1 ≤ n → Ends kp s1 n1 w1 pc c1 o → Ends kp s n w pc c o
  shift kp s s1 n n1 w w1 pc c c1 j (gone stack m held st) e few work less r = record { res = r.res; work = r.work; reach = reach_on s s1 _ n n1 m w w1 r.work c c1 j e few work less r.reach }
  shift kp s s1 n n1 w w1 pc c c1 j (raised f m st) e few work less r = record { spot = r.spot; same_unit = r.same_unit; same_locals = r.same_locals; reach = reach_on s s1 _ n n1 m w w1 r.spot.work c c1 j e few work less r.reach }
  shift kp s s1 n n1 w w1 pc c c1 j (returned v m held st) e few work less r = record { pc = r.pc; stack = r.stack; res = r.res; work = r.work; op = r.op; here = r.here; does = r.does; reach = reach_on s s1 _ n n1 m w w1 r.work c c1 j e few work less r.reach }
  shift kp s s1 n n1 w w1 pc c c1 j (stops has_ended made) e few work less r = halts_on s s1 made n n1 c c1 j e few r
  shift kp s s1 n n1 w w1 pc c c1 j (stops waits made) e few work less r = halts_on s s1 made n n1 c c1 j e few r
  shift kp s s1 n n1 w w1 pc c c1 j (stops is_spent made) e few work less r = works_on s s1 made n n1 w w1 c c1 j e few work r
  shift kp s s1 n n1 w w1 pc c c1 j (stops is_broken made) e few work less r = tt

  -- at a higher cost
  pub dearer : (kp : Kept) (s : Lone) (n w pc c c1 : ℕ) (o : Out (List Value)) → c1 ≤ c → Ends kp s n w pc c1 o → Ends kp s n w pc c o
  dearer kp s n w pc c c1 o le r = shift kp s s n n w w pc c c1 0 o refl (omega (arith, le)) (omega arith) (omega arith) r

  -- one piece after another
  pub then_ends : (kp : Kept) (s : Lone) (n w pc pc1 c c1 : ℕ) (o : Out (List Value)) (go : List Value → ℕ → List Name → Along → Out (List Value)) → Ends kp s n w pc1 c1 o → ((stack : List Value) (m : ℕ) (held : List Name) (st : Along) (res : Option Outcome) (v : ℕ) → m ≤ n → Ends kp (at kp pc1 stack held st res v) m v pc c (go stack m held st)) → Ends kp s n w pc (c1 + c) (and_on o go)
  then_ends kp s n w pc pc1 c c1 (gone stack m held st) go r h =
      shift kp s (at kp pc1 stack held st r.res r.work) n m w r.work pc (c1 + c) c r.reach.count (go stack m held st) r.reach.same (omega (arith, r.reach.few)) r.reach.work r.reach.less (h stack m held st r.res r.work r.reach.less)
  then_ends kp s n w pc pc1 c c1 (raised f m st) go r h = dearer kp s n w pc (c1 + c) c1 (raised f m st) (omega arith) r
  then_ends kp s n w pc pc1 c c1 (returned v m held st) go r h = dearer kp s n w pc (c1 + c) c1 (returned v m held st) (omega arith) r
  then_ends kp s n w pc pc1 c c1 (stops has_ended made) go r h = dearer kp s n w pc (c1 + c) c1 (stops has_ended made) (omega arith) r
  then_ends kp s n w pc pc1 c c1 (stops waits made) go r h = dearer kp s n w pc (c1 + c) c1 (stops waits made) (omega arith) r
  then_ends kp s n w pc pc1 c c1 (stops is_spent made) go r h = dearer kp s n w pc (c1 + c) c1 (stops is_spent made) (omega arith) r
  then_ends kp s n w pc pc1 c c1 (stops is_broken made) go r h = tt

  pub ends_at : (kp : Kept) (s : Lone) (n w pc pc1 c : ℕ) (o : Out (List Value)) → pc1 ≡ pc → Ends kp s n w pc1 c o → Ends kp s n w pc c o
  ends_at kp s n w pc pc1 c o e r = subst (λ p. Ends kp s n w p c o) e r

  -- ---- one turn

  -- at an operation
  pub step : (kp : Kept) (pc w : ℕ) (s : List Value) (held : List Name) (st : Along) (res : Option Outcome) (o : Op) → op_at kp.unit pc ≡ Some o → turns code 1 (at kp pc s held st res w) ≡ done code (thread_of kp res (context kp pc s held st.own)) (context kp pc s held st.own) kp.below st.answers st.asks w (w + op_work (Some o)) (next_by code kp.phase (context kp pc s held st.own).inside (effect (around_at kp held st) s o))
  unfolding next_of
  step kp pc w s held st res o e =
      ap (λ m. done code (thread_of kp res (context kp pc s held st.own)) (context kp pc s held st.own) kp.below st.answers st.asks w (w + op_work m) (next_op code (context kp pc s held st.own) m)) e

  pub one_goes : (kp : Kept) (s : Lone) (n w pc w1 c : ℕ) (stack : List Value) (held : List Name) (st : Along) (res : Option Outcome) → turns code 1 s ≡ at kp pc stack held st res w1 → w ≤ w1 → 1 ≤ c → Ends kp s n w pc c (gone stack n held st)
  one_goes kp s n w pc w1 c stack held st res e le lc = record { res = res; work = w1; reach = record { count = 1; same = e; few = omega (arith, lc); work = omega (arith, le); less = omega arith } }

  pub one_raises : (kp : Kept) (s : Lone) (n w pc pc1 w1 c : ℕ) (f : Fault) (stack : List Value) (held : List Name) (st : Along) (res : Option Outcome) → turns code 1 s ≡ faulty kp (record { unit = kp.unit; pc = pc1; stack = stack; locals = st.own.locals; callers = kp.callers; held = held; res = res; work = w1 }) f st → w ≤ w1 → 1 ≤ c → Ends kp s n w pc c (raised f n st)
  one_raises kp s n w pc pc1 w1 c f stack held st res e le lc =
      record { spot = record { unit = kp.unit; pc = pc1; stack = stack; locals = st.own.locals; callers = kp.callers; held = held; res = res; work = w1 }; same_unit = refl; same_locals = refl; reach = record { count = 1; same = e; few = omega (arith, lc); work = omega (arith, le); less = omega arith } }

  pub one_waits : (kp : Kept) (s : Lone) (n w pc w1 c : ℕ) (made : List Ask) → turns code 1 s ≡ lone.waits made w1 → 1 ≤ c → Ends kp s n w pc c (stops waits made)
  one_waits kp s n w pc w1 c made e lc = record { count = 1; last = lone.waits made w1; same = e; still = refl; asked = refl; fine = tt; few = omega (arith, lc) }
