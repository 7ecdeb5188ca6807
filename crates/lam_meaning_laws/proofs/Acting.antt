-- The scheme's code acts as its program.
use Rattle.std.proofs.Common.{◌≡◌, ◌≢◌, ℕ, suc, ◌+◌, ◌-◌, ◌*◌, ◌<◌, ◌≤◌, List, [], ◌∷◌, ◌++◌, length, Option, None, Some, refl, sym, ap, ◌∙◌, subst, ⊎_elim, arith}
use Rattle.std.proofs.lemmas.Bool.{cases_lt}
use Rattle.std.specs.Prelude.{replicate, slice_get}
use Rattle.flow_labels.specs.Flow.{public_label}
use Rattle.capabilities.specs.declared.Caps.{Caps}
use Rattle.lam_value.specs.declared.values.Value.{Value}
use Rattle.lam_value.specs.declared.values.Value.TheVariants.{Nothing}
use Rattle.lam_asks.specs.declared.answer.Outcome.{Outcome}
use Rattle.lam_asks.specs.declared.answer.Outcome.TheVariants as outcome
use Rattle.lam_asks.specs.declared.answer.Answer.{Answer}
use Rattle.lam_asks.specs.declared.answer.Answer.TheVariants.{Done}
use Rattle.lam_asks.specs.declared.ask.Ask.{Ask}
use Rattle.lam_asks.specs.declared.ask.Ask.TheVariants as ask
use Rattle.lam_bytecode.specs.Codes.{CodeTree}
use Rattle.lam_bytecode.specs.declared.op.Op.{Op}
use Rattle.lam_bytecode.specs.declared.op.Op.TheVariants.{Return}
use Rattle.lam_bytecode.specs.declared.unit.CodeUnit.{CodeUnit}
use Rattle.thread_steps.specs.Threads.{Bottom, Context, Thread}
use Rattle.thread_steps.specs.Ops as ops
use Rattle.thread_steps.specs.Ops.{effect}
use Rattle.thread_steps.specs.Next.{next_by, filled}
use Rattle.lam_resolve_tree.specs.Tree.{ResolvedFunction, ResolvedTree}
use Rattle.lam_resolve_tree.specs.Regions.{AreNumbered}
use Rattle.lam_meaning_typed.specs.Trees.{Own}
use Rattle.lam_meaning_typed.specs.Means.{At, means, first_locals}
use Rattle.lam_meaning_typed.specs.Plays.{How, has_ended, waits, is_spent, is_broken, how_of, asks_made}
use Rattle.lam_meaning_typed.proofs.Locals.{length_are}
use Rattle.lam_meaning_typed.proofs.Threads.{typed_never_broken}
use Rattle.lam_meaning_typed.specs.Scheme.{scheme}
use Rattle.lam_meaning_typed.specs.Nested.{block_code}
use Rattle.lam_meaning_laws.specs.Gathers.{Along, with_locals, Out, gone, raised, returned, stops, ends_by, acts_to, body_does, closing, final_of, first_along, thread_acts}
use Rattle.lam_meaning_laws.proofs.Threads.{nested_means}
use Rattle.lam_meaning_laws.specs.Lone as lone_thread
use Rattle.lam_meaning_laws.specs.Lone.{Lone, runs, op_work, asked, done, turn, turns, asks_in, work_done, NotStuck, alone, bound}
use Rattle.lam_meaning_laws.proofs.Turns.{Kept, context, thread_of, at, fault_context, faulty, op_at, around_at, Halts, Works, Ends, turns_add, halts_on, works_on, step}
use Rattle.lam_meaning_laws.proofs.Steps.{const_turn}
use Rattle.lam_meaning_laws.proofs.Stands.{width, cost, PutsAt}
use Rattle.lam_meaning_laws.proofs.Contexts.{fault_turn}
use Rattle.lam_meaning_laws.proofs.Runs.{return_effect, code_runs_to}
use Rattle.lam_meaning_laws.proofs.Places.{all_stand}
use Rattle.lam_meaning_laws.specs.Acts.{AreFirst, lone, CodeActs, NeverStuck}
use Rattle.lam_meaning_laws.proofs.Grows.{same_asks, turns_grow, stays, stays_or_fine, stays_or_fine_or}

-- the first context of a thread
abbrev bottom : ℕ → Kept
bottom f = record { unit = f; label = public_label; depth = 0; phase = Bottom; callers = []; below = [] }

module _ (code : CodeTree) (C : ℕ) where
  -- what the thread does from s, where this is how the program's meaning with n units stands
  abbrev Finals : Lone → ℕ → ℕ → ℕ → How → List Ask → Type 0
  Finals s n w c has_ended made = Halts code C s made n c
  Finals s n w c waits made = Halts code C s made n c
  Finals s n w c is_spent made = Works code C s made n w c
  Finals s n w c is_broken made = Unit {0}

  finals_on : (s s1 : Lone) (n n1 w w1 c c1 j : ℕ) (how : How) (made : List Ask) → turns code j s ≡ s1 → j + c1 + n1 * C ≤ c + n * C → w + n ≤ w1 + n1 → Finals s1 n1 w1 c1 how made → Finals s n w c how made
  finals_on s s1 n n1 w w1 c c1 j has_ended made e few work r = halts_on code C s s1 made n n1 c c1 j e few r
  finals_on s s1 n n1 w w1 c c1 j waits made e few work r = halts_on code C s s1 made n n1 c c1 j e few r
  finals_on s s1 n n1 w w1 c c1 j is_spent made e few work r = works_on code C s s1 made n n1 w w1 c c1 j e few work r
  finals_on s s1 n n1 w w1 c c1 j is_broken made e few work r = tt

  -- the last ask
  last_runs : (s : Lone) (n w w1 : ℕ) (th : Thread) (c : Context) (i : _) (r : Outcome) (o outer : Own) (made : List Ask) (xs : List Answer) → turns code 1 s ≡ asked code th c [] i (ask.End r) xs made w1 →
      (let x = final_of (ends_by (ask.End r) outer [] xs n (record { own = o; answers = xs; asks = made })) in Finals s n w 1 x.how x.asks)
  last_runs s n w w1 th c i r o outer made [] e = record { count = 1; last = lone_thread.waits (made ++ ask.End r ∷ []) w1; same = e; still = refl; asked = refl; fine = tt; few = omega arith }
  last_runs s n w w1 th c i r o outer made (Done ∷ xs) e =
      record { count = 1; last = runs (record { contexts = []; result = Some r }) xs (made ++ ask.End r ∷ []) w1; same = e; still = refl; asked = refl; fine = λ k. cc; few = omega arith }
  last_runs s n w w1 th c i r o outer made (x ∷ xs) e = tt

  -- a return ends the thread
  end_turn : (f pc w : ℕ) (s : List Value) (held : _) (st : Along) (res : Option Outcome) (v : Value) (o : Op) → op_at code C f pc ≡ Some o → effect (around_at code C (bottom f) held st) s o ≡ ops.returns v → turns code 1 (at (bottom f) pc s held st res w) ≡ asked code (thread_of (bottom f) res (context (bottom f) pc s held st.own)) (context (bottom f) pc s held st.own) [] (context (bottom f) pc s held st.own).inside (ask.End (outcome.Value v)) st.answers st.asks (w + op_work (Some o))
  end_turn f pc w s held st res v o at_op e =
      step code C (bottom f) pc w s held st res o at_op ∙
      ap (λ d. done code (thread_of (bottom f) res (context (bottom f) pc s held st.own)) (context (bottom f) pc s held st.own) [] st.answers st.asks w (w + op_work (Some o)) (next_by code Bottom (context (bottom f) pc s held st.own).inside d)) e

  -- after the body of the thread's function
  out_runs : (f : ℕ) (s : Lone) (n w pc c : ℕ) (o : Out (List Value)) → PutsAt code f pc Nothing → op_at code C f (pc + 1) ≡ Some Return → Ends code C (bottom f) s n w pc c o → (let x = final_of (closing o) in Finals s n w (c + 2) x.how x.asks)
  out_runs f s n w pc c (gone stk m held st) null ret e =
      let kp = bottom f in
      let s1 = at kp (pc + 1) (Nothing ∷ stk) held st e.res (e.work + 1) in
      let first = const_turn code C kp pc e.work null.0 Nothing stk held st e.res null.1 null.2 in
      let reach = turns_add code C e.reach.count 1 s ∙ ap (turns code 1) e.reach.same ∙ first in
      finals_on s s1 n m w (e.work + 1) (c + 2) 1 (e.reach.count + 1) _ _ reach (omega (arith, e.reach.few)) (omega (arith, e.reach.work))
      (last_runs s1 m (e.work + 1) (e.work + 1 + 1) (thread_of kp e.res (context kp (pc + 1) (Nothing ∷ stk) held st.own)) (context kp (pc + 1) (Nothing ∷ stk) held st.own) (context kp (pc + 1) (Nothing ∷ stk) held st.own).inside (outcome.Value Nothing) st.own st.own st.asks st.answers (end_turn f (pc + 1) (e.work + 1) (Nothing ∷ stk) held st e.res Nothing Return ret (return_effect code C kp held st Nothing stk)))
  out_runs f s n w pc c (raised x m st) null ret e =
      let s1 = faulty (bottom f) e.spot x st in
      finals_on s s1 n m w e.spot.work (c + 2) 1 e.reach.count _ _ e.reach.same (omega (arith, e.reach.few)) e.reach.work
      (last_runs s1 m e.spot.work (e.spot.work + 1) (thread_of (bottom f) e.spot.res (fault_context (bottom f) e.spot x st.own)) (fault_context (bottom f) e.spot x st.own) (fault_context (bottom f) e.spot x st.own).inside (outcome.Failed x) st.own st.own st.asks st.answers (fault_turn code C (bottom f) e.spot x st))
  out_runs f s n w pc c (returned v m held st) null ret e =
      let s1 = at (bottom f) e.pc e.stack held st e.res e.work in
      finals_on s s1 n m w e.work (c + 2) 1 e.reach.count _ _ e.reach.same (omega (arith, e.reach.few)) e.reach.work
      (last_runs s1 m e.work (e.work + op_work (Some e.op)) (thread_of (bottom f) e.res (context (bottom f) e.pc e.stack held st.own)) (context (bottom f) e.pc e.stack held st.own) (context (bottom f) e.pc e.stack held st.own).inside (outcome.Value v) st.own st.own st.asks st.answers (end_turn f e.pc e.work e.stack held st e.res v e.op e.here e.does))
  out_runs f s n w pc c (stops has_ended made) null ret e = halts_on code C s s made n n (c + 2) c 0 refl (omega arith) e
  out_runs f s n w pc c (stops waits made) null ret e = halts_on code C s s made n n (c + 2) c 0 refl (omega arith) e
  out_runs f s n w pc c (stops is_spent made) null ret e = works_on code C s s made n n w w (c + 2) c 0 refl (omega arith) (omega arith) e
  out_runs f s n w pc c (stops is_broken made) null ret e = tt

  -- ---- more turns

  run_on : (m j : ℕ) (s : Lone) → m ≤ j → turns code j s ≡ turns code (j - m) (turns code m s)
  run_on m j s le = let e : j ≡ m + (j - m) = omega (arith, le) in ap (λ n. turns code n s) e ∙ turns_add code C m (j - m) s

  earlier : (m j : ℕ) (s : Lone) → m ≤ j → AreFirst (asks_in (turns code m s)) (asks_in (turns code j s))
  earlier m j s le = subst (λ x. AreFirst (asks_in (turns code m s)) (asks_in x)) (sym (run_on m j s le)) (turns_grow code (j - m) (turns code m s)).first

  busier : (m j : ℕ) (s : Lone) → m ≤ j → work_done (turns code m s) ≤ work_done (turns code j s)
  busier m j s le = subst (λ x. work_done (turns code m s) ≤ work_done x) (sym (run_on m j s le)) (turns_grow code (j - m) (turns code m s)).more

  -- what stays as it is stays so
  over : (m j : ℕ) (s last : Lone) → turns code m s ≡ last → turn code last ≡ last → m ≤ j → turns code j s ≡ last
  over m j s last e still le = run_on m j s le ∙ ap (turns code (j - m)) e ∙ stays code (j - m) last still

  -- ---- the claims, from what the meaning with some n says

  all_of : (s : Lone) (n c m : ℕ) (how : How) (made : List Ask) → how ≢ is_broken → c + n * C ≤ m → Finals s n 0 c how made → AreFirst made (asks_in (turns code m s))
  all_of s n c m has_ended made ok le r = subst (λ x. AreFirst x (asks_in (turns code m s))) (ap asks_in r.same ∙ r.asked) (earlier r.count m s (omega (arith, le, r.few)))
  all_of s n c m waits made ok le r = subst (λ x. AreFirst x (asks_in (turns code m s))) (ap asks_in r.same ∙ r.asked) (earlier r.count m s (omega (arith, le, r.few)))
  all_of s n c m is_spent made ok le r = subst (λ x. AreFirst x (asks_in (turns code m s))) r.asked (earlier r.count m s (omega (arith, le, r.few)))
  all_of s n c m is_broken made ok le r = absurd (ok refl)

  halted_only : (s : Lone) (n c m : ℕ) (made : List Ask) → Halts code C s made n c → AreFirst (asks_in (turns code m s)) made
  halted_only s n c m made r =
      ⊎_elim (λ lt. subst (AreFirst (asks_in (turns code m s))) (ap asks_in r.same ∙ r.asked) (earlier m r.count s (omega (arith, lt))))
      (λ le. subst (λ x. AreFirst x made) (sym (ap asks_in (over r.count m s r.last r.same r.still le) ∙ r.asked)) (same_asks made)) (cases_lt m r.count)

  halted_fine : (s : Lone) (n c m : ℕ) (made : List Ask) → Halts code C s made n c → NotStuck code (turns code m s)
  halted_fine s n c m made r =
      ⊎_elim
      (λ lt. stays_or_fine_or code (turns code m s) (λ still. subst (NotStuck code) (sym r.same ∙ over m r.count s (turns code m s) refl still (omega (arith, lt))) r.fine))
      (λ le. subst (NotStuck code) (sym (over r.count m s r.last r.same r.still le)) r.fine) (cases_lt m r.count)

  -- before so much work was done
  sooner : (s : Lone) (n c m : ℕ) (made : List Ask) → work_done (turns code m s) ≤ n → (r : Works code C s made n 0 c) → m < r.count
  sooner s n c m made e r = ⊎_elim (λ lt. lt) (λ le. absurd (omega (arith, e, r.work, busier r.count m s le))) (cases_lt m r.count)

  only_of : (s : Lone) (n c m : ℕ) (how : How) (made : List Ask) → how ≢ is_broken → work_done (turns code m s) ≤ n → Finals s n 0 c how made → AreFirst (asks_in (turns code m s)) made
  only_of s n c m has_ended made ok e r = halted_only s n c m made r
  only_of s n c m waits made ok e r = halted_only s n c m made r
  only_of s n c m is_spent made ok e r =
      let lt = sooner s n c m made e r in
      subst (AreFirst (asks_in (turns code m s))) r.asked (earlier m r.count s (omega (arith, lt)))
  only_of s n c m is_broken made ok e r = absurd (ok refl)

  never_of : (s : Lone) (n c m : ℕ) (how : How) (made : List Ask) → how ≢ is_broken → work_done (turns code m s) ≤ n → Finals s n 0 c how made → NotStuck code (turns code m s)
  never_of s n c m has_ended made ok e r = halted_fine s n c m made r
  never_of s n c m waits made ok e r = halted_fine s n c m made r
  never_of s n c m is_spent made ok e r =
      let lt = sooner s n c m made e r in
      stays_or_fine code (turns code m s) (λ still. let same = ap work_done (over m r.count s (turns code m s) refl still (omega (arith, lt))) in absurd (omega (arith, e, r.work, same)))
  never_of s n c m is_broken made ok e r = absurd (ok refl)

-- ---- a thread of the program

finals_of : (r : ResolvedTree) → AreNumbered r → (n f : ℕ) (fn : ResolvedFunction) (vs : List Value) (k : Caps) (xs : List Answer) → slice_get r.functions f ≡ Some fn → Finals (scheme r) (bound r) (alone (scheme r) f vs k xs) n 0 (bound r) (thread_acts r n f vs k xs).how (thread_acts r n f vs k xs).asks
finals_of r numbered n f fn vs k xs e =
    let code = scheme r in
    let C = bound r in
    let stand = all_stand r numbered in
    let here = stand f fn e in
    let x = block_code [] fn.body in
    let le : cost x ≤ C = omega (arith, here.few) in
    let st : Along = with_locals (first_along xs k) (first_locals fn vs) in
    let s0 = at (bottom f) 0 [] [] st None 0 in
    let build = λ (ls : List Value). at (bottom f) 0 [] [] (with_locals (first_along xs k) ls) None 0 in
    let start : build (filled (slice_get code.units f) vs) ≡ build (first_locals fn vs) = ap (λ (u : Option CodeUnit). build (filled u vs)) here.there ∙ ap (λ (j : ℕ). build (vs ++ replicate (j - length vs) Nothing)) here.locals in
    let ends = code_runs_to r C stand (suc n) x (bottom f) 0 n 0 [] [] st None (omega arith) le here.body in
    let place : At = record { label = public_label; calls = 1 } in
    let final = final_of (closing (acts_to r (suc n) x place n [] [] st)) in
    subst (λ (m : Option ResolvedFunction). (let y = final_of (closing (body_does (acts_to r (suc n)) m vs place n [] (first_along xs k))) in Finals code C (alone code f vs k xs) n 0 C y.how y.asks)) (sym e)
    (subst (λ s. Finals code C s n 0 C final.how final.asks) (sym start)
    (finals_on code C s0 s0 n n 0 0 C (cost x + 2) 0 _ _ refl (omega (arith, here.few)) (omega arith)
    (out_runs code C f s0 n 0 (0 + width x) (cost x) (acts_to r (suc n) x place n [] [] st) here.null here.last ends)))

pub code_acts : (r : ResolvedTree) → CodeActs r
code_acts r typed numbered n f fn vs k xs e are fit =
    let code = scheme r in
    let C = bound r in
    let s = alone code f vs k xs in
    let ok = typed_never_broken r typed n f fn vs k xs e are in
    let same = nested_means r typed numbered n f fn vs k xs e (length_are fn.params vs are) fit ok in
    let nested = finals_of r numbered n f fn vs k xs e in
    let all : Finals code C s n 0 C (how_of (means r n f vs k) xs) (asks_made r n f vs k xs) = subst (λ how. Finals code C s n 0 C how (asks_made r n f vs k xs)) same.1 (subst (Finals code C s n 0 C (thread_acts r n f vs k xs).how) same.0 nested) in
    record {
      never_stuck = λ m le. never_of code C s n C m _ (asks_made r n f vs k xs) ok le all;
      asks_only = λ m le. only_of code C s n C m _ (asks_made r n f vs k xs) ok le all;
      asks_all = λ m le. all_of code C s n C m _ (asks_made r n f vs k xs) ok (omega (arith, le)) all;
    }

pub code_never_stuck : (r : ResolvedTree) → NeverStuck r
code_never_stuck r typed numbered f fn vs k xs e are fit m =
    (code_acts r typed numbered (work_done (lone r f vs k xs m)) f fn vs k xs e are (fit (work_done (lone r f vs k xs m)))).never_stuck m (omega arith)
