-- Regions, as the flat machine goes through them.
use Rattle.std.proofs.Common.{◌≡◌, ℕ, ◌+◌, ◌≤◌, List, [], ◌∷◌, ◌++◌, length, Option, Some, None, refl, ap, ◌∙◌, arith}
use Rattle.std.specs.Prelude.{◌-◌, replicate, slice_get}
use Rattle.flow_labels.specs.declared.Label.{Label}
use Rattle.capabilities.specs.declared.Caps.{Caps}
use Rattle.lam_value.specs.declared.names.Name.{Name}
use Rattle.lam_value.specs.declared.values.Value.{Value}
use Rattle.lam_value.specs.declared.values.Value.TheVariants.{Int, Nothing}
use Rattle.lam_asks.specs.declared.fault.Fault.{Fault}
use Rattle.lam_asks.specs.declared.fault.Fault.TheVariants.{Denied}
use Rattle.lam_asks.specs.Faults.{fault_number}
use Rattle.lam_asks.specs.declared.answer.Outcome.{Outcome}
use Rattle.lam_asks.specs.declared.answer.Answer.{Answer}
use Rattle.lam_asks.specs.declared.answer.Answer.TheVariants.{Done, Entered, Val, Refused, Failed}
use Rattle.lam_asks.specs.declared.ask.Ask.{Ask}
use Rattle.lam_asks.specs.declared.ask.Ask.TheVariants as ask
use Rattle.lam_bytecode.specs.Codes.{CodeTree}
use Rattle.lam_bytecode.specs.declared.unit.CodeUnit.{CodeUnit}
use Rattle.lam_bytecode.specs.declared.unit.UnitKind.{UnitKind}
use Rattle.lam_bytecode.specs.declared.unit.UnitKind.TheVariants.{Region}
use Rattle.lam_bytecode.specs.declared.op.Op.TheVariants.{LeaveRegion}
use Rattle.thread_steps.specs.Threads.{Frame, Phase, Body, Catch, Context}
use Rattle.thread_steps.specs.Ops.{UnitAt, effect, region_in}
use Rattle.thread_steps.specs.Next.{raised as raised_next, region_context, catch_place, unit_number, filled, outermost, past, next_of}
use Rattle.thread_steps.specs.Next as machine
use Rattle.lam_meaning_typed.specs.Trees.{Own}
use Rattle.lam_meaning_typed.specs.Means.{inside as means_inside}
use Rattle.lam_meaning_typed.specs.Plays.{has_ended, waits, is_spent, is_broken}
use Rattle.lam_meaning_laws.specs.Gathers.{Along, Out, gone, raised, returned, stops, and_on, ends_by, after_catch, caught, after_body, Enters, Does, awaits, region_by}
use Rattle.lam_meaning_laws.specs.Lone as lone
use Rattle.lam_meaning_laws.specs.Lone.{Lone, runs, asked, done, turn, turns}
use Rattle.lam_meaning_laws.proofs.Turns.{Kept, context, frame_of, thread_of, at, Spot, fault_context, faulty, base_unit, base_locals, op_at, Ends, halts_on, works_on, shift, step, one_goes, one_raises, one_waits}

-- the context of a region, in a phase, above the one around
abbrev pub inside : Kept → ℕ → List Value → List Name → Own → ℕ → Label → Phase → Kept
inside kp pc s held outer u l ph = record { unit = u; label = l; depth = kp.depth + 1; phase = ph; callers = []; below = context kp pc s held outer ∷ kp.below }

outer_unit : (f : Frame) (fs : List Frame) → (outermost f fs).unit ≡ base_unit f.unit fs
outer_unit f [] = refl
outer_unit f (g ∷ fs) = outer_unit g fs

outer_locals : (f : Frame) (fs : List Frame) → (outermost f fs).locals ≡ base_locals f.locals fs
outer_locals f [] = refl
outer_locals f (g ∷ fs) = outer_locals g fs

module _ (code : CodeTree) (C : ℕ) where
  -- the last ask of a region: its context goes, and the one around goes on
  pop_runs : (kp : Kept) (s0 : Lone) (n w pc w1 : ℕ) (s : List Value) (held : List Name) (outer : Own) (a : Ask) (made : List Ask) (res : Option Outcome) (o : Own) (t : List Answer → Lone) (xs : List Answer) → turns code 1 s0 ≡ t xs → t [] ≡ lone.waits (made ++ a ∷ []) w1 → ((rest : List Answer) → t (Done ∷ rest) ≡ at kp pc s held (record { own = outer; answers = rest; asks = made ++ a ∷ [] }) res w1) → w ≤ w1 → Ends code C kp s0 n w pc 1 (and_on (ends_by a outer held xs n (record { own = o; answers = xs; asks = made })) (λ u n held st. gone s n held st))
  pop_runs kp s0 n w pc w1 s held outer a made res o t [] e none pops le = one_waits code C kp s0 n w pc w1 1 (made ++ a ∷ []) (e ∙ none) (omega arith)
  pop_runs kp s0 n w pc w1 s held outer a made res o t (Done ∷ rest) e none pops le = one_goes code C kp s0 n w pc w1 1 s held (record { own = outer; answers = rest; asks = made ++ a ∷ [] }) res (e ∙ pops rest) le (omega arith)
  pop_runs kp s0 n w pc w1 s held outer a made res o t (x ∷ rest) e none pops le = tt

  -- a fault that is handled
  pub fault_turn : (kp : Kept) (x : Spot) (f : Fault) (st : Along) → turns code 1 (faulty kp x f st) ≡ done code (thread_of kp x.res (fault_context kp x f st.own)) (fault_context kp x f st.own) kp.below st.answers st.asks x.work (x.work + 1) (raised_next kp.phase (fault_context kp x f st.own).inside f)
  unfolding next_of
  fault_turn kp x f st = refl

  leave_turn : (kp : Kept) (pc w : ℕ) (s : List Value) (held : List Name) (st : Along) (res : Option Outcome) → op_at code C kp.unit pc ≡ Some LeaveRegion → turns code 1 (at kp pc s held st res w) ≡ done code (thread_of kp res (context kp pc s held st.own)) (context kp pc s held st.own) kp.below st.answers st.asks w (w + 1) (machine.leaving kp.phase (context kp pc s held st.own).inside)
  unfolding effect
  leave_turn kp pc w s held st res e = step code C kp pc w s held st res LeaveRegion e

  -- what comes at the end of a region
  module _ (kp : Kept) (pc : ℕ) (s : List Value) (held : List Name) (outer : Own) (u : ℕ) (l : Label) where
    abbrev Goes_on : Unit {0} → ℕ → List Name → Along → Out (List Value)
    Goes_on t n held st = gone s n held st

    leaves_region : (ph : Phase) (n w pc1 : ℕ) (stk : List Value) (h : List Name) (st : Along) (res : Option Outcome) (t : List Answer → Lone) → op_at code C u pc1 ≡ Some LeaveRegion → turns code 1 (at (inside kp pc s held outer u l ph) pc1 stk h st res w) ≡ t st.answers → t [] ≡ lone.waits (st.asks ++ ask.Leave ∷ []) (w + 1) → ((rest : List Answer) → t (Done ∷ rest) ≡ at kp pc s held (record { own = outer; answers = rest; asks = st.asks ++ ask.Leave ∷ [] }) res (w + 1)) → Ends code C kp (at (inside kp pc s held outer u l ph) pc1 stk h st res w) n w pc 1 (and_on (ends_by ask.Leave outer held st.answers n st) Goes_on)
    leaves_region ph n w pc1 stk h st res t at_op e none pops = pop_runs kp _ n w pc (w + 1) s held outer ask.Leave st.asks res st.own t st.answers e none pops (omega arith)

    -- after the catch block
    catch_runs : (s0 : Lone) (n w pc1 c : ℕ) (o : Out (List Value)) → op_at code C u pc1 ≡ Some LeaveRegion → Ends code C (inside kp pc s held outer u l Catch) s0 n w pc1 c o → Ends code C kp s0 n w pc (c + 1) (and_on (after_catch outer held o) Goes_on)
    catch_runs s0 n w pc1 c (gone stk m h st) at_op e =
        let q = inside kp pc s held outer u l Catch in
        let ctx = context q pc1 stk h st.own in
        shift code C kp s0 (at q pc1 stk h st e.res e.work) n m w e.work pc (c + 1) 1 e.reach.count _ e.reach.same (omega (arith, e.reach.few)) e.reach.work e.reach.less
        (leaves_region Catch m e.work pc1 stk h st e.res (λ xs. asked code (thread_of q e.res ctx) ctx q.below ctx.inside ask.Leave xs st.asks (e.work + 1)) at_op (leave_turn q pc1 e.work stk h st e.res at_op) refl (λ rest. refl))
    catch_runs s0 n w pc1 c (raised f m st) at_op e =
        let q = inside kp pc s held outer u l Catch in
        let ctx = fault_context q e.spot f st.own in
        shift code C kp s0 (faulty q e.spot f st) n m w e.spot.work pc (c + 1) 1 e.reach.count _ e.reach.same (omega (arith, e.reach.few)) e.reach.work e.reach.less
        (pop_runs kp (faulty q e.spot f st) m e.spot.work pc (e.spot.work + 1) s held outer (ask.Suppressed f) st.asks e.spot.res st.own (λ xs. asked code (thread_of q e.spot.res ctx) ctx q.below ctx.inside (ask.Suppressed f) xs st.asks (e.spot.work + 1)) st.answers (fault_turn q e.spot f st) refl (λ rest. refl) (omega arith))
    catch_runs s0 n w pc1 c (returned v m h st) at_op e = tt
    catch_runs s0 n w pc1 c (stops has_ended made) at_op e = halts_on code C s0 s0 made n n (c + 1) c 0 refl (omega arith) e
    catch_runs s0 n w pc1 c (stops waits made) at_op e = halts_on code C s0 s0 made n n (c + 1) c 0 refl (omega arith) e
    catch_runs s0 n w pc1 c (stops is_spent made) at_op e = works_on code C s0 s0 made n n w w (c + 1) c 0 refl (omega arith) (omega arith) e
    catch_runs s0 n w pc1 c (stops is_broken made) at_op e = tt

    -- the catch block from its place on
    abbrev pub HandlerRuns : ℕ → ℕ → ℕ → ℕ → (List Value → ℕ → Along → Out (List Value)) → Type 0
    HandlerRuns to pc2 c n handler = (m : ℕ) (v : Value) (st : Along) (res : Option Outcome) (w : ℕ) → m ≤ n → Ends code C (inside kp pc s held outer u l Catch) (at (inside kp pc s held outer u l Catch) to (v ∷ []) [] st res w) m w pc2 c (handler (v ∷ []) m st)

    -- a fault in the body: one turn leads to the catch block
    caught_turn : (to : ℕ) (x : Spot) (f : Fault) (o : Own) (rest : List Answer) (made : List Ask) → base_unit x.unit x.callers ≡ u → base_locals x.locals x.callers ≡ o.locals →
        turns code 1 (faulty (inside kp pc s held outer u l (Body to)) x f (record { own = o; answers = Done ∷ rest; asks = made })) ≡ at (inside kp pc s held outer u l Catch) to (Int (fault_number f) ∷ []) [] (record { own = o; answers = rest; asks = made ++ ask.Caught f ∷ [] }) x.res (x.work + 1)
    caught_turn to x f o rest made eu el =
        let q = inside kp pc s held outer u l Catch in
        let fr = frame_of x.unit x.pc x.stack x.locals in
        let build = λ (k : ℕ) (ls : List Value). runs (record { contexts = (record { label = l; caps = o.caps; depth = q.depth; phase = Catch; held = []; inside = record { frame = frame_of k to (Int (fault_number f) ∷ []) ls; callers = []; fault = None } }) ∷ q.below; result = x.res }) rest (made ++ ask.Caught f ∷ []) (x.work + 1) in
        fault_turn (inside kp pc s held outer u l (Body to)) x f (record { own = o; answers = Done ∷ rest; asks = made }) ∙
        ap (λ k. build k (outermost fr x.callers).locals) (outer_unit fr x.callers ∙ eu) ∙ ap (λ ls. build u ls) (outer_locals fr x.callers ∙ el)

    caught_runs : (to : ℕ) (x : Spot) (f : Fault) (n pc2 c : ℕ) (o : Own) (xs : List Answer) (made : List Ask) (handler : List Value → ℕ → Along → Out (List Value)) → op_at code C u pc2 ≡ Some LeaveRegion → base_unit x.unit x.callers ≡ u → base_locals x.locals x.callers ≡ o.locals → HandlerRuns to pc2 c n handler →
        Ends code C kp (faulty (inside kp pc s held outer u l (Body to)) x f (record { own = o; answers = xs; asks = made })) n x.work pc (c + 2) (and_on (caught xs f (record { own = o; answers = xs; asks = made }) (λ st. after_catch outer held (handler (Int (fault_number f) ∷ []) n st))) Goes_on)
    caught_runs to x f n pc2 c o [] made handler at_leave eu el h = one_waits code C kp _ n x.work pc (x.work + 1) (c + 2) (made ++ ask.Caught f ∷ []) (fault_turn (inside kp pc s held outer u l (Body to)) x f (record { own = o; answers = []; asks = made })) (omega arith)
    caught_runs to x f n pc2 c o (Done ∷ rest) made handler at_leave eu el h =
        let st1 : Along = record { own = o; answers = rest; asks = made ++ ask.Caught f ∷ [] } in
        shift code C kp _ (at (inside kp pc s held outer u l Catch) to (Int (fault_number f) ∷ []) [] st1 x.res (x.work + 1)) n n x.work (x.work + 1) pc (c + 2) (c + 1) 1 _ (caught_turn to x f o rest made eu el) (omega arith) (omega arith) (omega arith)
        (catch_runs _ n (x.work + 1) pc2 c (handler (Int (fault_number f) ∷ []) n st1) at_leave (h n (Int (fault_number f)) st1 x.res (x.work + 1) (omega arith)))
    caught_runs to x f n pc2 c o (y ∷ rest) made handler at_leave eu el h = tt

    -- after the body
    pub body_runs : (to : ℕ) (s0 : Lone) (n w pc1 pc2 c c1 : ℕ) (o : Out (List Value)) (handler : List Value → ℕ → Along → Out (List Value)) → op_at code C u pc1 ≡ Some LeaveRegion → op_at code C u pc2 ≡ Some LeaveRegion → Ends code C (inside kp pc s held outer u l (Body to)) s0 n w pc1 c1 o → HandlerRuns to pc2 c n handler → Ends code C kp s0 n w pc (c1 + (c + 2)) (and_on (after_body outer held handler o) Goes_on)
    body_runs to s0 n w pc1 pc2 c c1 (gone stk m h st) handler at_end at_leave e hr =
        let q = inside kp pc s held outer u l (Body to) in
        let ctx = context q pc1 stk h st.own in
        shift code C kp s0 (at q pc1 stk h st e.res e.work) n m w e.work pc (c1 + (c + 2)) 1 e.reach.count _ e.reach.same (omega (arith, e.reach.few)) e.reach.work e.reach.less
        (leaves_region (Body to) m e.work pc1 stk h st e.res (λ xs. asked code (thread_of q e.res ctx) ctx q.below ctx.inside ask.Leave xs st.asks (e.work + 1)) at_end (leave_turn q pc1 e.work stk h st e.res at_end) refl (λ rest. refl))
    body_runs to s0 n w pc1 pc2 c c1 (raised f m st) handler at_end at_leave e hr =
        let q = inside kp pc s held outer u l (Body to) in
        shift code C kp s0 (faulty q e.spot f st) n m w e.spot.work pc (c1 + (c + 2)) (c + 2) e.reach.count _ e.reach.same (omega (arith, e.reach.few)) e.reach.work e.reach.less
        (caught_runs to e.spot f m pc2 c st.own st.answers st.asks handler at_leave e.same_unit e.same_locals (λ m' v st' res w le. hr m' v st' res w (omega (arith, le, e.reach.less))))
    body_runs to s0 n w pc1 pc2 c c1 (returned v m h st) handler at_end at_leave e hr = tt
    body_runs to s0 n w pc1 pc2 c c1 (stops has_ended made) handler at_end at_leave e hr = halts_on code C s0 s0 made n n (c1 + (c + 2)) c1 0 refl (omega arith) e
    body_runs to s0 n w pc1 pc2 c c1 (stops waits made) handler at_end at_leave e hr = halts_on code C s0 s0 made n n (c1 + (c + 2)) c1 0 refl (omega arith) e
    body_runs to s0 n w pc1 pc2 c c1 (stops is_spent made) handler at_end at_leave e hr = works_on code C s0 s0 made n n w w (c1 + (c + 2)) c1 0 refl (omega arith) (omega arith) e
    body_runs to s0 n w pc1 pc2 c c1 (stops is_broken made) handler at_end at_leave e hr = tt

  -- ---- the entry

  -- the context of a region in its unit
  region_is : (kp : Kept) (pc0 pc : ℕ) (old s : List Value) (held : List Name) (o : Own) (l : Label) (k : Caps) (number captures to slots v : ℕ) (vs : List Value) (it : CodeUnit) → region_in number code.units ≡ Some (record { number = v; it = it }) → slice_get code.units v ≡ Some it → it.kind ≡ Region number captures to → it.locals ≡ slots →
      region_context code (context kp pc0 old held o) l k number vs ≡ context (inside kp pc s held o v l (Body to)) 0 [] [] (record { locals = vs ++ replicate (slots - length vs) Nothing; caps = k })
  region_is kp pc0 pc old s held o l k number captures to slots v vs it found there kind locals =
      let build : (u to : ℕ) (ls : List Value) → Context = λ u to ls. record { label = l; caps = k; depth = kp.depth + 1; phase = Body to; held = []; inside = record { frame = frame_of u 0 [] ls; callers = []; fault = None } } in
      ap (λ (x : Option UnitAt). build (unit_number x) (catch_place x) (filled (slice_get code.units (unit_number x)) vs)) found ∙
      ap (λ (x : UnitKind). build v (catch_place (Some (record { number = v; it = record { kind = x; locals = it.locals; ops = it.ops } }))) (filled (slice_get code.units v) vs)) kind ∙
      ap (λ (x : Option CodeUnit). build v to (filled x vs)) there ∙ ap (λ (x : ℕ). build v to (vs ++ replicate (x - length vs) Nothing)) locals

  -- the answer to the ask of a region
  pub enter_runs : (kp : Kept) (s0 : Lone) (n w pc w1 c : ℕ) (old s : List Value) (held : List Name) (o : Own) (xs : List Answer) (made : List Ask) (res : Option Outcome) (enter : Enters) (l : Label) (k : Caps) (number : ℕ) (vs : List Value) →
      turns code 1 s0 ≡ asked code (thread_of kp res (context kp pc old held o)) (context kp pc old held o) kp.below (past (context kp pc old held o).inside s) (ask.Enter l k number vs) xs made w1 → w ≤ w1 → 1 ≤ c →
      ((rest : List Answer) → turns code 1 s0 ≡ runs (record { contexts = region_context code (context kp pc old held o) l k number vs ∷ context kp (pc + 1) s held o ∷ kp.below; result = res }) rest (made ++ ask.Enter l k number vs ∷ []) w1 → Ends code C kp s0 n w (pc + 1) c (and_on (enter l k vs n held (record { own = o; answers = rest; asks = made ++ ask.Enter l k number vs ∷ [] })) (λ u n held st. gone s n held st))) →
      Ends code C kp s0 n w (pc + 1) c (awaits enter (ask.Enter l k number vs) s xs n held (record { own = o; answers = xs; asks = made }))
  enter_runs kp s0 n w pc w1 c old s held o [] made res enter l k number vs e le lc h = one_waits code C kp s0 n w (pc + 1) w1 c _ e lc
  enter_runs kp s0 n w pc w1 c old s held o (Entered ∷ rest) made res enter l k number vs e le lc h = h rest e
  enter_runs kp s0 n w pc w1 c old s held o (Refused d ∷ rest) made res enter l k number vs e le lc h = one_raises code C kp s0 n w (pc + 1) pc w1 c Denied old held (record { own = o; answers = rest; asks = made ++ ask.Enter l k number vs ∷ [] }) res e le lc
  enter_runs kp s0 n w pc w1 c old s held o (Failed f ∷ rest) made res enter l k number vs e le lc h = one_raises code C kp s0 n w (pc + 1) pc w1 c f old held (record { own = o; answers = rest; asks = made ++ ask.Enter l k number vs ∷ [] }) res e le lc
  enter_runs kp s0 n w pc w1 c old s held o (Done ∷ rest) made res enter l k number vs e le lc h = one_goes code C kp s0 n w (pc + 1) w1 c s held (record { own = o; answers = rest; asks = made ++ ask.Enter l k number vs ∷ [] }) res e le lc
  enter_runs kp s0 n w pc w1 c old s held o (Val v ∷ rest) made res enter l k number vs e le lc h = one_goes code C kp s0 n w (pc + 1) w1 c (v ∷ s) held (record { own = o; answers = rest; asks = made ++ ask.Enter l k number vs ∷ [] }) res e le lc

  -- from the body to the end of a region that was entered
  pub entered_runs : (kp : Kept) (s0 : Lone) (n w pc w1 pc1 pc2 c c1 : ℕ) (old s : List Value) (held : List Name) (o : Own) (rest : List Answer) (made : List Ask) (res : Option Outcome) (l : Label) (k : Caps) (number captures to slots v : ℕ) (vs : List Value) (it : CodeUnit) (bodyD handlerD : Does) →
      region_in number code.units ≡ Some (record { number = v; it = it }) → slice_get code.units v ≡ Some it → it.kind ≡ Region number captures to → it.locals ≡ slots →
      turns code 1 s0 ≡ runs (record { contexts = region_context code (context kp pc old held o) l k number vs ∷ context kp (pc + 1) s held o ∷ kp.below; result = res }) rest made w1 → w ≤ w1 →
      op_at code C v pc1 ≡ Some LeaveRegion → op_at code C v pc2 ≡ Some LeaveRegion →
      ((st : Along) → Ends code C (inside kp (pc + 1) s held o v l (Body to)) (at (inside kp (pc + 1) s held o v l (Body to)) 0 [] [] st res w1) n w1 pc1 c1 (bodyD (means_inside l) n [] [] st)) →
      HandlerRuns kp (pc + 1) s held o v l to pc2 c n (λ s n st. handlerD (means_inside l) n s [] st) →
      Ends code C kp s0 n w (pc + 1) (c1 + (c + 2) + 1) (and_on (region_by slots bodyD handlerD l k vs n held (record { own = o; answers = rest; asks = made })) (λ u n held st. gone s n held st))
  entered_runs kp s0 n w pc w1 pc1 pc2 c c1 old s held o rest made res l k number captures to slots v vs it bodyD handlerD found there kind locals e le at_end at_leave body handler =
      let q = inside kp (pc + 1) s held o v l (Body to) in
      let st1 : Along = record { own = record { locals = vs ++ replicate (slots - length vs) Nothing; caps = k }; answers = rest; asks = made } in
      let go : turns code 1 s0 ≡ at q 0 [] [] st1 res w1 = e ∙ ap (λ (c : Context). runs (record { contexts = c ∷ context kp (pc + 1) s held o ∷ kp.below; result = res }) rest made w1) (region_is kp pc (pc + 1) old s held o l k number captures to slots v vs it found there kind locals) in
      shift code C kp s0 (at q 0 [] [] st1 res w1) n n w w1 (pc + 1) (c1 + (c + 2) + 1) (c1 + (c + 2)) 1 _ go (omega arith) (omega (arith, le)) (omega arith)
      (body_runs kp (pc + 1) s held o v l to (at q 0 [] [] st1 res w1) n w1 pc1 pc2 c c1 (bodyD (means_inside l) n [] [] st1) (λ s n st. handlerD (means_inside l) n s [] st) at_end at_leave (body st1) handler)
