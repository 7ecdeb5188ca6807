-- The flat machine follows nested code.
use Rattle.std.proofs.Common.{◌≡◌, ℕ, zero, suc, ◌+◌, ◌<◌, ◌≤◌, Bool, true, false, List, [], ◌∷◌, ◌++◌, length, Option, Some, None, refl, sym, ap, ◌∙◌, subst, arith}
use Rattle.std.specs.Prelude.{if◌then◌else◌, ◌-◌, nat_le, take, drop, reverse, replicate, slice_get}
use Rattle.std.proofs.lemmas.Bool.{lt-ltb}
use Rattle.capabilities.specs.declared.Caps.{Caps}
use Rattle.flow_labels.specs.declared.Label.{Label}
use Rattle.lam_value.specs.declared.names.Name.{Name}
use Rattle.lam_value.specs.declared.values.Value.{Value}
use Rattle.lam_value.specs.declared.values.Value.TheVariants.{Bool as Truth, Nothing, Lab, CapV}
use Rattle.lam_asks.specs.declared.fault.Fault.TheVariants.{Null}
use Rattle.lam_asks.specs.declared.answer.Outcome.{Outcome}
use Rattle.lam_asks.specs.declared.answer.Answer.{Answer}
use Rattle.lam_asks.specs.declared.ask.Ask.TheVariants as ask
use Rattle.lam_bytecode.specs.Codes.{CodeTree}
use Rattle.lam_bytecode.specs.declared.op.Op.{Op}
use Rattle.lam_bytecode.specs.declared.op.Op.TheVariants.{Jump, JumpIfFalse, Return, EnterRegion}
use Rattle.lam_bytecode.specs.declared.unit.CodeUnit.{CodeUnit}
use Rattle.thread_steps.specs.Threads.{Body, Catch}
use Rattle.thread_steps.specs.Ops as ops
use Rattle.thread_steps.specs.Ops.{Did, effect, on_known, on_many, on_caps, on_label, region_takes, region_in}
use Rattle.thread_steps.specs.Next as machine
use Rattle.thread_steps.specs.Next.{next_by, ops_of, filled}
use Rattle.lam_resolve_tree.specs.Tree.{ResolvedFunction, ResolvedTree}
use Rattle.lam_meaning_typed.specs.Means.{At, deeper, first_locals}
use Rattle.lam_meaning_typed.specs.Plays.{has_ended, waits, is_spent, is_broken}
use Rattle.lam_meaning_typed.specs.Scheme.{scheme}
use Rattle.lam_meaning_typed.specs.Nested.{Nested, no_code, does, puts, both, when, either, loops, enters, block_code}
use Rattle.lam_meaning_laws.specs.Gathers as nested
use Rattle.lam_meaning_laws.specs.Gathers.{Along, with_locals, Out, gone, raised, returned, stops, and_on, Caller, Enters, did, region_by, picks, use_unit, acts, call_result, body_does, called, acts_to}
use Rattle.lam_meaning_laws.specs.Lone.{Lone, runs, op_work, done, turns, asks_in, work_done}
use Rattle.lam_meaning_laws.proofs.Turns.{Kept, context, frame_of, thread_of, at, place_of, op_at, around_at, Ends, halts_on, works_on, shift, dearer, then_ends, ends_at, step, one_goes, one_raises}
use Rattle.lam_meaning_laws.proofs.Steps.{CallsRun, op_runs, const_turn, put_runs}
use Rattle.lam_meaning_laws.proofs.Stands.{width, cost, IsAddress, PutsAt, Stands, AllStand}
use Rattle.lam_meaning_laws.proofs.Contexts.{inside, enter_runs, entered_runs}

module _ (code : CodeTree) (C : ℕ) where
  -- ---- jumps

  jump_turn : (kp : Kept) (pc w to : ℕ) (s : List Value) (held : List Name) (st : Along) (res : Option Outcome) → op_at code C kp.unit pc ≡ Some (Jump to) → IsAddress code kp.unit to → turns code 1 (at kp pc s held st res w) ≡ at kp to s held st res (w + 1)
  unfolding effect
  jump_turn kp pc w to s held st res at_op is =
      step code C kp pc w s held st res (Jump to) at_op ∙
      ap (λ b. done code (thread_of kp res (context kp pc s held st.own)) (context kp pc s held st.own) kp.below st.answers st.asks w (w + 1) (next_by code kp.phase (context kp pc s held st.own).inside (if b then ops.jumps to s else ops.breaks))) (lt-ltb to (length (ops_of code kp.unit)) is)

  true_turn : (kp : Kept) (pc w to : ℕ) (s : List Value) (held : List Name) (st : Along) (res : Option Outcome) → op_at code C kp.unit pc ≡ Some (JumpIfFalse to) → IsAddress code kp.unit to → turns code 1 (at kp pc (Truth true ∷ s) held st res w) ≡ at kp (pc + 1) s held st res (w + 1)
  unfolding effect
  true_turn kp pc w to s held st res at_op is =
      step code C kp pc w (Truth true ∷ s) held st res (JumpIfFalse to) at_op ∙
      ap (λ b. done code (thread_of kp res (context kp pc (Truth true ∷ s) held st.own)) (context kp pc (Truth true ∷ s) held st.own) kp.below st.answers st.asks w (w + 1) (next_by code kp.phase (context kp pc (Truth true ∷ s) held st.own).inside (if b then ops.gives s else ops.breaks))) (lt-ltb to (length (ops_of code kp.unit)) is)

  false_turn : (kp : Kept) (pc w to : ℕ) (s : List Value) (held : List Name) (st : Along) (res : Option Outcome) → op_at code C kp.unit pc ≡ Some (JumpIfFalse to) → IsAddress code kp.unit to → turns code 1 (at kp pc (Truth false ∷ s) held st res w) ≡ at kp to s held st res (w + 1)
  unfolding effect
  false_turn kp pc w to s held st res at_op is =
      step code C kp pc w (Truth false ∷ s) held st res (JumpIfFalse to) at_op ∙
      ap (λ b. done code (thread_of kp res (context kp pc (Truth false ∷ s) held st.own)) (context kp pc (Truth false ∷ s) held st.own) kp.below st.answers st.asks w (w + 1) (next_by code kp.phase (context kp pc (Truth false ∷ s) held st.own).inside (if b then ops.jumps to s else ops.breaks))) (lt-ltb to (length (ops_of code kp.unit)) is)

  no_turn : (kp : Kept) (n w pc : ℕ) (s : List Value) (held : List Name) (st : Along) (res : Option Outcome) → Ends code C kp (at kp pc s held st res w) n w pc 0 (gone s n held st)
  no_turn kp n w pc s held st res = record { res = res; work = w; reach = record { count = 0; same = refl; few = omega arith; work = omega arith; less = omega arith } }

  and_gone : (o : Out (List Value)) → and_on o (λ s n held st. gone s n held st) ≡ o
  and_gone (gone s n held st) = refl
  and_gone o = refl

  -- the jump at the end of a piece
  then_jumps : (kp : Kept) (s0 : Lone) (n w pc pc1 c : ℕ) (o : Out (List Value)) → op_at code C kp.unit pc1 ≡ Some (Jump pc) → IsAddress code kp.unit pc → Ends code C kp s0 n w pc1 c o → Ends code C kp s0 n w pc (c + 1) o
  then_jumps kp s0 n w pc pc1 c o at_op is r =
      subst (Ends code C kp s0 n w pc (c + 1)) (and_gone o)
      (then_ends code C kp s0 n w pc pc1 1 c o (λ s n held st. gone s n held st) r (λ s m held st res v le. one_goes code C kp _ m v pc (v + 1) 1 s held st res (jump_turn kp pc1 v pc s held st res at_op is) (omega arith) (omega arith)))

  choice_runs : (kp : Kept) (n w pc to c : ℕ) (s : List Value) (held : List Name) (st : Along) (res : Option Outcome) (a b : List Value → Out (List Value)) (pc' : ℕ) → op_at code C kp.unit pc ≡ Some (JumpIfFalse to) → IsAddress code kp.unit to → ((s : List Value) → Ends code C kp (at kp (pc + 1) s held st res (w + 1)) n (w + 1) pc' c (a s)) → ((s : List Value) → Ends code C kp (at kp to s held st res (w + 1)) n (w + 1) pc' c (b s)) → Ends code C kp (at kp pc s held st res w) n w pc' (c + 1) (picks s st a b)
  choice_runs kp n w pc to c (Truth true ∷ s) held st res a b pc' at_op is ra rb = shift code C kp _ _ n n w (w + 1) pc' (c + 1) c 1 (a s) (true_turn kp pc w to s held st res at_op is) (omega arith) (omega arith) (omega arith) (ra s)
  choice_runs kp n w pc to c (Truth false ∷ s) held st res a b pc' at_op is ra rb = shift code C kp _ _ n n w (w + 1) pc' (c + 1) c 1 (b s) (false_turn kp pc w to s held st res at_op is) (omega arith) (omega arith) (omega arith) (rb s)
  choice_runs kp n w pc to c s held st res a b pc' at_op is ra rb = tt

  -- nested code that loops and calls go on with, while fewer than b units are left
  abbrev pub AgainRuns : (Nested → nested.Does) → ℕ → Type 0
  AgainRuns g b =
      (x : Nested) (kp : Kept) (pc n w : ℕ) (s : List Value) (held : List Name) (st : Along) (res : Option Outcome) → n < b → cost x ≤ C → Stands code kp.unit pc x → Ends code C kp (at kp pc s held st res w) n w (pc + width x) (cost x) (g x (place_of kp) n s held st)

  -- ---- loops

  -- the test of a loop was made
  loop_runs : (caller : Caller) (g : Nested → nested.Does) (b : ℕ) → AgainRuns g b → (t x : Nested) (kp : Kept) (pc n w : ℕ) (s : List Value) (held : List Name) (st : Along) (res : Option Outcome) → n < suc b → cost (loops t x) ≤ C → Stands code kp.unit pc (loops t x) →
      ((m v : ℕ) (s : List Value) (held : List Name) (st : Along) (res : Option Outcome) → m ≤ n → Ends code C kp (at kp (pc + width t + 1) s held st res v) m v (pc + width t + 1 + width x) (cost x) (acts code caller g x (place_of kp) m s held st)) →
      Ends code C kp (at kp (pc + width t) s held st res w) n w (pc + width t + 1 + width x + 1) (cost x + 2) (picks s st (λ s. use_unit n st (λ m. and_on (acts code caller g x (place_of kp) m s held st) (λ s m held st. g (loops t x) (place_of kp) m s held st))) (λ s. gone s n held st))
  loop_runs caller g b again t x kp pc n w (Truth false ∷ s) held st res lt le stands body =
      one_goes code C kp _ n w _ (w + 1) (cost x + 2) s held st res (false_turn kp (pc + width t) w (pc + width t + 1 + width x + 1) s held st res stands.1 stands.2) (omega arith) (omega arith)
  loop_runs caller g b again t x kp pc zero w (Truth true ∷ s) held st res lt le stands body =
      let e = true_turn kp (pc + width t) w (pc + width t + 1 + width x + 1) s held st res stands.1 stands.2 in
      let more = ap work_done e in
      record { count = 1; asked = ap asks_in e; work = omega (arith, more); few = omega arith }
  loop_runs caller g b again t x kp pc (suc m) w (Truth true ∷ s) held st res lt le stands body =
      let all = cost (loops t x) in
      let end : pc + width (loops t x) ≡ pc + width t + 1 + width x + 1 = omega arith in
      shift code C kp _ (at kp (pc + width t + 1) s held st res (w + 1)) (suc m) m w (w + 1) _ (cost x + 2) (cost x + (1 + all)) 1 _
      (true_turn kp (pc + width t) w (pc + width t + 1 + width x + 1) s held st res stands.1 stands.2) (omega (arith, le)) (omega arith) (omega arith)
      (ends_at code C kp _ m (w + 1) _ _ _ _ end
      (then_ends code C kp _ m (w + 1) (pc + width (loops t x)) (pc + width t + 1 + width x) (1 + all) (cost x) (acts code caller g x (place_of kp) m s held st) (λ s m held st. g (loops t x) (place_of kp) m s held st) (body m (w + 1) s held st res (omega arith))
      (λ s m' held st' res' v le'. shift code C kp _ (at kp pc s held st' res' (v + 1)) m' m' v (v + 1) _ (1 + all) all 1 _ (jump_turn kp _ v pc s held st' res' stands.4 stands.5) (omega arith) (omega arith) (omega arith) (again (loops t x) kp pc m' (v + 1) s held st' res' (omega (arith, lt, le')) le stands))))
  loop_runs caller g b again t x kp pc n w s held st res lt le stands body = tt

  -- ---- calls

  -- the frame of a call
  abbrev callee : Kept → ℕ → List Value → List Value → ℕ → Kept
  callee kp pc s locals f = record { unit = f; label = kp.label; depth = kp.depth; phase = kp.phase; callers = frame_of kp.unit pc s locals ∷ kp.callers; below = kp.below }

  return_turn : (kp : Kept) (pc pc1 w f : ℕ) (s ls stk : List Value) (held : List Name) (st : Along) (res : Option Outcome) (v : Value) (o : Op) → op_at code C f pc1 ≡ Some o → effect (around_at code C (callee kp pc s ls f) held st) stk o ≡ ops.returns v → turns code 1 (at (callee kp pc s ls f) pc1 stk held st res w) ≡ at kp pc (v ∷ s) held (with_locals st ls) res (w + op_work (Some o))
  return_turn kp pc pc1 w f s ls stk held st res v o at_op e =
      let q = callee kp pc s ls f in
      step code C q pc1 w stk held st res o at_op ∙
      ap (λ d. done code (thread_of q res (context q pc1 stk held st.own)) (context q pc1 stk held st.own) q.below st.answers st.asks w (w + op_work (Some o)) (next_by code q.phase (context q pc1 stk held st.own).inside d)) e

  pub return_effect : (kp : Kept) (held : List Name) (st : Along) (v : Value) (s : List Value) → effect (around_at code C kp held st) (v ∷ s) Return ≡ ops.returns v
  unfolding effect
  return_effect kp held st v s = refl

  -- after a body that was called
  result_runs : (kp : Kept) (pc : ℕ) (s ls : List Value) (f : ℕ) (s0 : Lone) (n w pc1 c : ℕ) (o : Out (List Value)) → PutsAt code f pc1 Nothing → op_at code C f (pc1 + 1) ≡ Some Return → Ends code C (callee kp pc s ls f) s0 n w pc1 c o → Ends code C kp s0 n w pc (c + 2) (and_on (call_result ls o) (λ v n held st. gone (v ∷ s) n held st))
  result_runs kp pc s ls f s0 n w pc1 c (gone stk m held st) null last e =
      let q = callee kp pc s ls f in
      let first = const_turn code C q pc1 e.work null.0 Nothing stk held st e.res null.1 null.2 in
      let second = return_turn kp pc (pc1 + 1) (e.work + 1) f s ls (Nothing ∷ stk) held st e.res Nothing Return last (return_effect q held st Nothing stk) in
      shift code C kp s0 (at q pc1 stk held st e.res e.work) n m w e.work pc (c + 2) 2 e.reach.count (gone (Nothing ∷ s) m held (with_locals st ls)) e.reach.same (omega (arith, e.reach.few)) e.reach.work e.reach.less
      (record { res = e.res; work = e.work + 1 + 1; reach = record { count = 2; same = ap (turns code 1) first ∙ second; few = omega arith; work = omega arith; less = omega arith } })
  result_runs kp pc s ls f s0 n w pc1 c (raised x m st) null last e =
      dearer code C kp s0 n w pc (c + 2) c (raised x m (with_locals st ls)) (omega arith) (record { spot = e.spot; same_unit = e.same_unit; same_locals = e.same_locals; reach = e.reach })
  result_runs kp pc s ls f s0 n w pc1 c (returned v m held st) null last e =
      let q = callee kp pc s ls f in
      shift code C kp s0 (at q e.pc e.stack held st e.res e.work) n m w e.work pc (c + 2) 2 e.reach.count (gone (v ∷ s) m held (with_locals st ls)) e.reach.same (omega (arith, e.reach.few)) e.reach.work e.reach.less
      (one_goes code C kp (at q e.pc e.stack held st e.res e.work) m e.work pc (e.work + op_work (Some e.op)) 2 (v ∷ s) held (with_locals st ls) e.res (return_turn kp pc e.pc e.work f s ls e.stack held st e.res v e.op e.here e.does) (omega arith) (omega arith))
  result_runs kp pc s ls f s0 n w pc1 c (stops has_ended made) null last e = halts_on code C s0 s0 made n n (c + 2) c 0 refl (omega arith) e
  result_runs kp pc s ls f s0 n w pc1 c (stops waits made) null last e = halts_on code C s0 s0 made n n (c + 2) c 0 refl (omega arith) e
  result_runs kp pc s ls f s0 n w pc1 c (stops is_spent made) null last e = works_on code C s0 s0 made n n w w (c + 2) c 0 refl (omega arith) (omega arith) e
  result_runs kp pc s ls f s0 n w pc1 c (stops is_broken made) null last e = tt

  module _ (r : ResolvedTree) (stand : AllStand code C r) (g : Nested → nested.Does) (b : ℕ) (again : AgainRuns g b) where
    deeper_same : (kp : Kept) (pc : ℕ) (s ls : List Value) (f : ℕ) → place_of (callee kp pc s ls f) ≡ deeper (place_of kp)
    deeper_same kp pc s ls f =
        let e : length (frame_of kp.unit pc s ls ∷ kp.callers) + 1 ≡ length kp.callers + 1 + 1 = omega arith in
        ap (λ (k : ℕ). (let p : At = record { label = kp.label; calls = k } in p)) e

    -- the body of a function that was called
    called_body : (f : ℕ) (m : Option ResolvedFunction) → slice_get r.functions f ≡ m → (kp : Kept) (pc n w : ℕ) (vs s : List Value) (held : List Name) (st : Along) (res : Option Outcome) → n < b →
        Ends code C kp (runs (record { contexts = machine.with_inside (context kp pc s held st.own) (record { frame = machine.entry code f vs; callers = frame_of kp.unit (pc + 1) s st.own.locals ∷ kp.callers; fault = None }) ∷ kp.below; result = res }) st.answers st.asks w) n w (pc + 1) C
        (and_on (call_result st.own.locals (body_does g m vs (deeper (place_of kp)) n held st)) (λ v n held st. gone (v ∷ s) n held st))
    called_body f None eq kp pc n w vs s held st res lt = tt
    called_body f (Some fn) eq kp pc n w vs s held st res lt =
        let here = stand f fn eq in
        let x = block_code [] fn.body in
        let q = callee kp (pc + 1) s st.own.locals f in
        let st1 : Along = with_locals st (first_locals fn vs) in
        let le : cost x ≤ C = omega (arith, here.few) in
        let build = λ (ls : List Value). at q 0 [] held (with_locals st ls) res w in
        let entry : build (filled (slice_get code.units f) vs) ≡ build (first_locals fn vs) = ap (λ (u : Option CodeUnit). build (filled u vs)) here.there ∙ ap (λ (k : ℕ). build (vs ++ replicate (k - length vs) Nothing)) here.locals in
        let after = λ (p : At). and_on (call_result st.own.locals (g x p n [] held st1)) (λ v n held st. gone (v ∷ s) n held st) in
        subst (λ s1. Ends code C kp s1 n w (pc + 1) C (after (deeper (place_of kp)))) (sym entry)
        (subst (λ p. Ends code C kp (at q 0 [] held st1 res w) n w (pc + 1) C (after p)) (deeper_same kp (pc + 1) s st.own.locals f)
        (dearer code C kp (at q 0 [] held st1 res w) n w (pc + 1) C (cost x + 2) (after (place_of q)) here.few
        (result_runs kp (pc + 1) s st.own.locals f (at q 0 [] held st1 res w) n w (0 + width x) (cost x) (g x (place_of q) n [] held st1) here.null here.last
        (again x q 0 n w [] held st1 res lt le here.body))))

    calls_run : CallsRun code C (called r g) (suc b)
    calls_run kp pc zero w u s vs s' held st res lt e =
        let more = ap work_done e in
        record { count = 1; asked = ap asks_in e; work = omega (arith, more); few = omega arith }
    calls_run kp pc (suc m) w u s vs s' held st res lt e =
        shift code C kp _ _ (suc m) m w (w + 1) (pc + 1) 1 C 1 (and_on (call_result st.own.locals (body_does g (slice_get r.functions u) vs (deeper (place_of kp)) m held st)) (λ v n held st. gone (v ∷ s') n held st)) e (omega arith) (omega arith) (omega arith)
        (called_body u (slice_get r.functions u) refl kp pc m (w + 1) vs s' held st res (omega (arith, lt)))

    -- ---- regions

    if_did : (P : Did → Type 0) (t : Bool) (x y : Did) → P x → P y → P (if t then x else y)
    if_did P true x y px py = px
    if_did P false x y px py = py

    label_did : (P : Did → Type 0) (number : ℕ) (k : Caps) (vs : List Value) → P ops.breaks → P (ops.fails Null) → ((l : Label) (k : Caps) (vs s : List Value) → P (ops.wants (ask.Enter l k number vs) s)) → (s : List Value) → P (on_label s (λ l s. ops.wants (ask.Enter l k number vs) s))
    label_did P number k vs pb pf pw (Lab l ∷ s) = pw l k vs s
    label_did P number k vs pb pf pw (Nothing ∷ s) = pf
    label_did P number k vs pb pf pw s = pb

    caps_did : (P : Did → Type 0) (number : ℕ) (vs : List Value) → P ops.breaks → P (ops.fails Null) → ((l : Label) (k : Caps) (vs s : List Value) → P (ops.wants (ask.Enter l k number vs) s)) → (s : List Value) → P (on_caps s (λ k s. on_label s (λ l s. ops.wants (ask.Enter l k number vs) s)))
    caps_did P number vs pb pf pw (CapV plus minus ∷ s) = label_did P number (record { plus = plus; minus = minus }) vs pb pf pw s
    caps_did P number vs pb pf pw (Nothing ∷ s) = pf
    caps_did P number vs pb pf pw s = pb

    -- what the operation does that enters a region
    region_did : (P : Did → Type 0) (number : ℕ) → P ops.breaks → P (ops.fails Null) → ((l : Label) (k : Caps) (vs s : List Value) → P (ops.wants (ask.Enter l k number vs) s)) → (m : Option ℕ) (s : List Value) → P (on_known m (λ n. on_many n s (λ args s. on_caps s (λ k s. on_label s (λ l s. ops.wants (ask.Enter l k number args) s)))))
    region_did P number pb pf pw None s = pb
    region_did P number pb pf pw (Some n) s = if_did P (nat_le n (length s)) _ _ (caps_did P number (reverse (take n s)) pb pf pw (drop n s)) pb

    region_runs : (kp : Kept) (n w pc c number : ℕ) (s : List Value) (held : List Name) (st : Along) (res : Option Outcome) (caller : Caller) (enter : Enters) → op_at code C kp.unit pc ≡ Some (EnterRegion number) → 1 ≤ c →
        ((l : Label) (k : Caps) (vs s' : List Value) (rest : List Answer) → turns code 1 (at kp pc s held st res w) ≡ runs (record { contexts = machine.region_context code (context kp pc s held st.own) l k number vs ∷ context kp (pc + 1) s' held st.own ∷ kp.below; result = res }) rest (st.asks ++ ask.Enter l k number vs ∷ []) (w + 1) → Ends code C kp (at kp pc s held st res w) n w (pc + 1) c (and_on (enter l k vs n held (record { own = st.own; answers = rest; asks = st.asks ++ ask.Enter l k number vs ∷ [] })) (λ u n held st. gone s' n held st))) →
        Ends code C kp (at kp pc s held st res w) n w (pc + 1) c (nested.op_does code caller enter (EnterRegion number) (place_of kp) n s held st)
    unfolding effect
    region_runs kp n w pc c number s held st res caller enter at_op lc h =
        let s0 = at kp pc s held st res w in
        region_did
        (λ d. turns code 1 s0 ≡ done code (thread_of kp res (context kp pc s held st.own)) (context kp pc s held st.own) kp.below st.answers st.asks w (w + 1) (next_by code kp.phase (context kp pc s held st.own).inside d) → Ends code C kp s0 n w (pc + 1) c (did caller enter d (place_of kp) n held st))
        number (λ e. tt) (λ e. one_raises code C kp s0 n w (pc + 1) pc (w + 1) c Null s held st res e (omega arith) lc)
        (λ l k vs s' e. enter_runs code C kp s0 n w pc (w + 1) c s s' held st.own st.answers st.asks res enter l k number vs e (omega arith) lc (λ rest e. h l k vs s' rest e))
        (region_takes (region_in number code.units)) s (step code C kp pc w s held st res (EnterRegion number) at_op)

    -- ---- all forms

    code_runs : AgainRuns (acts code (called r g) g) (suc b)
    code_runs no_code kp pc n w s held st res lt le stands =
        let e : pc ≡ pc + 0 = omega arith in
        ends_at code C kp _ n w (pc + 0) pc 0 (gone s n held st) e (no_turn kp n w pc s held st res)
    code_runs (does o) kp pc n w s held st res lt le stands = op_runs code C (called r g) (suc b) calls_run kp n w pc s held st res o lt stands
    code_runs (puts v) kp pc n w s held st res lt le stands = put_runs code C kp n w pc stands.0 v s held st res stands.1 stands.2
    code_runs (both x y) kp pc n w s held st res lt le stands =
        let e : pc + width x + width y ≡ pc + (width x + width y) = omega arith in
        ends_at code C kp _ n w _ _ (cost x + cost y) _ e
        (then_ends code C kp _ n w (pc + width x + width y) (pc + width x) (cost y) (cost x) _ _ (code_runs x kp pc n w s held st res lt (omega (arith, le)) stands.0)
        (λ s m held st res v le'. code_runs y kp (pc + width x) m v s held st res (omega (arith, lt, le')) (omega (arith, le)) stands.1))
    code_runs (when x) kp pc n w s held st res lt le stands =
        let to = pc + 1 + width x in
        let e : to ≡ pc + (1 + width x) = omega arith in
        ends_at code C kp _ n w _ to _ _ e
        (choice_runs kp n w pc to (cost x) s held st res _ _ to stands.0 stands.1 (λ s. code_runs x kp (pc + 1) n (w + 1) s held st res lt (omega (arith, le)) stands.2)
        (λ s. dearer code C kp _ n (w + 1) to (cost x) 0 (gone s n held st) (omega arith) (no_turn kp n (w + 1) to s held st res)))
    code_runs (either x y) kp pc n w s held st res lt le stands =
        let to = pc + 1 + width x + 1 in
        let end = to + width y in
        let e : end ≡ pc + (1 + width x + 1 + width y) = omega arith in
        let c = cost x + cost y + 1 in
        ends_at code C kp _ n w _ end _ _ e
        (dearer code C kp _ n w end (cost x + cost y + 2) (c + 1) _ (omega arith)
        (choice_runs kp n w pc to c s held st res (λ s. acts code (called r g) g x (place_of kp) n s held st) (λ s. acts code (called r g) g y (place_of kp) n s held st) end stands.0 stands.1
        (λ s. dearer code C kp _ n (w + 1) end c (cost x + 1) _ (omega arith) (then_jumps kp (at kp (pc + 1) s held st res (w + 1)) n (w + 1) end (pc + 1 + width x) (cost x) _ stands.3 stands.4 (code_runs x kp (pc + 1) n (w + 1) s held st res lt (omega (arith, le)) stands.2)))
        (λ s. dearer code C kp _ n (w + 1) end c (cost y) _ (omega arith) (code_runs y kp to n (w + 1) s held st res lt (omega (arith, le)) stands.5))))
    code_runs (loops t x) kp pc n w s held st res lt le stands =
        let e : pc + width t + 1 + width x + 1 ≡ pc + (width t + 1 + width x + 1) = omega arith in
        ends_at code C kp _ n w _ _ (cost t + (cost x + 2)) _ e
        (then_ends code C kp _ n w (pc + width t + 1 + width x + 1) (pc + width t) (cost x + 2) (cost t) (acts code (called r g) g t (place_of kp) n s held st) (λ s n held st. picks s st (λ s. use_unit n st (λ m. and_on (acts code (called r g) g x (place_of kp) m s held st) (λ s m held st. g (loops t x) (place_of kp) m s held st))) (λ s. gone s n held st)) (code_runs t kp pc n w s held st res lt (omega (arith, le)) stands.0)
        (λ s m held st res v le'. loop_runs (called r g) g b again t x kp pc m v s held st res (omega (arith, lt, le')) le stands
        (λ m' v' s held st res le2. code_runs x kp (pc + width t + 1) m' v' s held st res (omega (arith, lt, le', le2)) (omega (arith, le)) stands.3)))
    code_runs (enters number captures slots x h) kp pc n w s held st res lt le stands =
        let to = width x + 1 in
        region_runs kp n w pc (cost x + (cost h + 2) + 1) number s held st res (called r g) (region_by slots (λ p n s held st. acts code (called r g) g x p n s held st) (λ p n s held st. acts code (called r g) g h p n s held st)) stands.0 (omega arith)
        (λ l k vs s' rest e. entered_runs code C kp _ n w pc (w + 1) (0 + width x) (width x + 1 + width h) (cost h) (cost x) s s' held st.own rest _ res l k number captures to slots stands.1 vs stands.2 (λ p n s held st. acts code (called r g) g x p n s held st) (λ p n s held st. acts code (called r g) g h p n s held st)
        stands.3 stands.4 stands.5 stands.6 e (omega arith) stands.8 stands.10
        (λ st1. code_runs x (inside kp (pc + 1) s' held st.own stands.1 l (Body to)) 0 n (w + 1) [] [] st1 res lt (omega (arith, le)) stands.7)
        (λ m v st2 res w2 le2. code_runs h (inside kp (pc + 1) s' held st.own stands.1 l Catch) to m w2 (v ∷ []) [] st2 res (omega (arith, lt, le2)) (omega (arith, le)) stands.9))

-- to any depth
pub code_runs_to : (r : ResolvedTree) (C : ℕ) → AllStand (scheme r) C r → (b : ℕ) → AgainRuns (scheme r) C (acts_to r b) b
code_runs_to r C stand zero x kp pc n w s held st res lt le stands = absurd (omega (arith, lt))
code_runs_to r C stand (suc b) x kp pc n w s held st res lt le stands = code_runs (scheme r) C r stand (acts_to r b) b (code_runs_to r C stand b) x kp pc n w s held st res lt le stands
