-- A whole run: every thread stands as its source means, and what stands on the heap is typed.
use Rattle.std.proofs.Common.{◌≡◌, inl, inr, ℕ, suc, ◌+◌, ◌<◌, ◌≤◌, Bool, true, false, cond, List, [], ◌∷◌, ◌++◌, length, Option, Some, None, refl, sym, ap, ◌∙◌, subst, arith, append_assoc}
use Rattle.std.specs.Prelude.{nat_eq, map, filter}
use Rattle.std.proofs.lemmas.List.{append-nil, map-append, length_push}
use Rattle.std.proofs.lemmas.List.Elements.{filter-append}
use Rattle.std.proofs.lemmas.Bool.{eqb-true, eqb-false, eq-eqb, ne_eqb}
use Rattle.capabilities.specs.declared.Caps.{Caps}
use Rattle.lam_value.specs.declared.values.Value.{Value}
use Rattle.lam_asks.specs.declared.answer.What.{What}
use Rattle.lam_asks.specs.declared.answer.Outcome.{Outcome}
use Rattle.lam_bytecode.specs.Codes.{CodeTree, IsCode}
use Rattle.thread_steps.specs.Threads.{Thread}
use Rattle.thread_steps.specs.Next.{started}
use Rattle.lam_resolve_tree.specs.Tree.{ResolvedTree}
use Rattle.lam_resolve_tree.specs.Typing.{IsTypedTree}
use Rattle.lam_meaning_laws.specs.Acts.{ActsAs}
use Rattle.lam_machine_valid.specs.Worlds.{World, thread_at, result_in}
use Rattle.lam_machine_valid.specs.Turns.{Moment, step, and_then, moments, left_by}
use Rattle.lam_machine_valid.specs.Valid.{IsValid}
use Rattle.lam_machine_valid.proofs.ThreadLemmas.{some_inj}
use Rattle.lam_machine_valid.proofs.TurnLemmas.{turn_thread}
use Rattle.lam_machine_valid.proofs.WholeLemmas.{stay_valid}
use Rattle.lam_machine_valid.specs.Own.{IsSpawned, Touches, done_by}
use Rattle.lam_machine_valid.proofs.OwnLemmas.{touch}
use Rattle.lam_machine_means.specs.Typing.{Typing}
use Rattle.lam_machine_means.specs.Served.{IsNumber, IsTypedWorld}
use Rattle.lam_machine_means.specs.Runs.{nothing_known, ThreadsStart, Began, AnswersSuitInRuns}
use Rattle.lam_machine_means.proofs.Steps.{Stands, stands_on, begins, suits_any, Moves, moves}

-- ---- what a thread did, with one moment more

done_more : (u : ℕ) (past : List Moment) (m : Moment) → done_by u (past ++ m ∷ []) ≡ done_by u past ++ done_by u (m ∷ [])
done_more u past m =
    let p : Moment → Bool = λ m. nat_eq m.event.thread u in
    ap (λ ms. map (λ (m : Moment). m.event.what) ms) (filter-append p past (m ∷ [])) ∙ map-append (λ (m : Moment). m.event.what) (filter p past) (filter p (m ∷ []))

abbrev one_if : Bool → Moment → List What
one_if b m = map (λ (m : Moment). m.event.what) (cond b (m ∷ []) [])

done_own : (u : ℕ) (past : List Moment) (m : Moment) → nat_eq m.event.thread u ≡ true → done_by u (past ++ m ∷ []) ≡ done_by u past ++ m.event.what ∷ []
done_own u past m e = done_more u past m ∙ ap (λ b. done_by u past ++ one_if b m) e

done_other : (u : ℕ) (past : List Moment) (m : Moment) → nat_eq m.event.thread u ≡ false → done_by u (past ++ m ∷ []) ≡ done_by u past
done_other u past m e = done_more u past m ∙ ap (λ b. done_by u past ++ one_if b m) e ∙ append-nil (done_by u past)

done_few : (u : ℕ) (ms : List Moment) → length (done_by u ms) ≤ length ms
done_few u [] = omega arith
done_few u (m ∷ ms) = by (nat_eq m.event.thread u) (done_few u ms)
  where
    by : (b : Bool) → length (done_by u ms) ≤ length ms → length (map (λ (m : Moment). m.event.what) (cond b (m ∷ filter (λ (m : Moment). nat_eq m.event.thread u) ms) (filter (λ (m : Moment). nat_eq m.event.thread u) ms))) ≤ suc (length ms)
    by true le = omega (arith, le)
    by false le = omega (arith, le)

moments_few : (code : CodeTree) (turns : List ℕ) (w : World) → length (moments code turns w) ≤ length turns
moments_few code [] w = omega arith
moments_few code (t ∷ ts) w = by (step code w t) (λ v. moments_few code ts v)
  where
    by : (o : Option Moment) → ((v : World) → length (moments code ts v) ≤ length ts) → length (and_then o (moments code ts)) ≤ suc (length ts)
    by None h = omega arith
    by (Some m) h = let le = h m.world in omega (arith, le)

began_more : (code : CodeTree) (w : World) (past : List Moment) (m : Moment) (u f : ℕ) (vs : List Value) (k : Caps) → Began code w past u f vs k → Began code w (past ++ m ∷ []) u f vs k
began_more code w past m u f vs k (inl e) = inl e
began_more code w past m u f vs k (inr s) =
    inr (record { before = s.before; spawning = s.spawning; later = s.later ++ m ∷ []; parts = ap (λ ms. ms ++ m ∷ []) s.parts ∙ append_assoc s.before (s.spawning ∷ s.later) (m ∷ []); asked = s.asked })

-- ---- a run

module _ (r : ResolvedTree) (code : CodeTree) (N : ℕ) (start : World) where
  -- a thread began, and stands by what it did
  record Known (past : List Moment) (G : Typing) (u : ℕ) (th : Thread) : Type 0 where
    function : ℕ
    args : List Value
    caps : Caps
    began : Began code start past u function args caps
    stands : Stands r code N G function args caps (done_by u past) th

  record Holds (past : List Moment) (G : Typing) (w : World) : Type 0 where
    valid : IsValid w
    world : IsTypedWorld r.classes G w
    known : (u : ℕ) (th : Thread) → thread_at w u ≡ Some th → Known past G u th
    none : (u : ℕ) → thread_at w u ≡ None → done_by u past ≡ []

  known_by : (past : List Moment) (G : Typing) (u : ℕ) (th after : Thread) (did : List What) (f : ℕ) (vs : List Value) (k : Caps) → th ≡ after → did ≡ done_by u past → Began code start past u f vs k → Stands r code N G f vs k did th → Known past G u after
  known_by past G u th after did f vs k same e began st =
      record { function = f; args = vs; caps = k; began = began; stands = subst (λ th. Stands r code N G f vs k (done_by u past) th) same (subst (λ did. Stands r code N G f vs k did th) e st) }

  module _ (typed : IsTypedTree r) (acts_as : ActsAs code r) (is_code : IsCode code) where
    one_turn : (past : List Moment) (G : Typing) (w : World) (t : ℕ) (m : Moment) → Holds past G w → step code w t ≡ Some m → length past < N → (H : Typing) × Holds (past ++ m ∷ []) H m.world
    one_turn past G w t m inv h lt =
        (mv.typing, record { valid = stay_valid code is_code w t m inv.valid h; world = mv.world; known = λ u th at. by_number u th at (nat_eq m.event.thread u) refl; none = λ u none. by_none u none (thread_at w u) refl })
      where
        now : List Moment
        now = past ++ m ∷ []

        k : Touches code w t m
        k = touch code w t m h

        kn : Known past G t k.before
        kn = inv.known t k.before k.at

        number : m.event.thread ≡ t
        number = turn_thread code w t m h

        mv : Moves r code N acts_as G kn.function kn.args kn.caps (done_by t past) k.before kn.stands m k.after
        mv = moves r code N acts_as G kn.function kn.args kn.caps (done_by t past) k.before kn.stands w t m k.after h inv.valid.sound inv.world k.own (let le = done_few t past in omega (arith, le, lt))

        acting : Known now mv.typing t k.after
        acting = known_by now mv.typing t k.after k.after (done_by t past ++ m.event.what ∷ []) kn.function kn.args kn.caps refl (sym (done_own t past m (eq-eqb m.event.thread t number))) (began_more code start past m t kn.function kn.args kn.caps kn.began) mv.stands

        apart : (u : ℕ) → nat_eq m.event.thread u ≡ false → u ≡ t → ⊥
        apart u e s = eqb-false m.event.thread u e (number ∙ sym s)

        standing : (u : ℕ) (th : Thread) → thread_at m.world u ≡ Some th → nat_eq m.event.thread u ≡ false → (o : Option Thread) → thread_at w u ≡ o → Known now mv.typing u th
        standing u th at e (Some old) f =
            let before = inv.known u old f in
            let same = some_inj old th (sym (k.others u old (apart u e) f) ∙ at) in
            known_by now mv.typing u old th (done_by u past) before.function before.args before.caps same (sym (done_other u past m e)) (began_more code start past m u before.function before.args before.caps before.began)
            (stands_on r code N G mv.typing mv.more before.function before.args before.caps (done_by u past) old before.stands)
        standing u th at e None f =
            let s : IsSpawned code u m.event.what th = k.new u th f at in
            known_by now mv.typing u (started code s.unit s.args s.caps) th [] s.unit s.args s.caps (sym s.it) (sym (done_other u past m e ∙ inv.none u f)) (inr (record { before = past; spawning = m; later = []; parts = refl; asked = s.asked }))
            (begins r code N typed mv.typing s.unit s.args s.caps (mv.spawned u th s))

        by_number : (u : ℕ) (th : Thread) → thread_at m.world u ≡ Some th → (b : Bool) → nat_eq m.event.thread u ≡ b → Known now mv.typing u th
        by_number u th at true e =
            let same : t ≡ u = sym number ∙ eqb-true m.event.thread u e in
            subst (λ th. Known now mv.typing u th) (some_inj k.after th (sym (subst (λ u. thread_at m.world u ≡ Some k.after) same k.then_at) ∙ at)) (subst (λ u. Known now mv.typing u k.after) same acting)
        by_number u th at false e = standing u th at e (thread_at w u) refl

        by_none : (u : ℕ) → thread_at m.world u ≡ None → (o : Option Thread) → thread_at w u ≡ o → done_by u now ≡ []
        by_none u none None f =
            done_other u past m (ne_eqb m.event.thread u (λ s. let here = subst (λ u. thread_at w u ≡ Some k.before) (sym number ∙ s) k.at in absurd (let z = sym f ∙ here in cc))) ∙ inv.none u f
        by_none u none (Some old) f = gone (nat_eq m.event.thread u) refl
          where
            gone : (b : Bool) → nat_eq m.event.thread u ≡ b → done_by u now ≡ []
            gone true e = absurd (let same : t ≡ u = sym number ∙ eqb-true m.event.thread u e in let here = subst (λ u. thread_at m.world u ≡ Some k.after) same k.then_at in let z = sym none ∙ here in cc)
            gone false e = absurd (let z = sym none ∙ k.others u old (apart u e) f in cc)

    all_turns : (turns : List ℕ) (past : List Moment) (G : Typing) (w : World) → Holds past G w → length past + length turns ≤ N → (H : Typing) × Holds (past ++ moments code turns w) H (left_by w (moments code turns w))
    all_turns [] past G w inv le = (G, subst (λ ms. Holds ms G w) (sym (append-nil past)) inv)
    all_turns (t ∷ ts) past G w inv le = by (step code w t) refl (λ past G v i l. all_turns ts past G v i l)
      where
        by : (o : Option Moment) → step code w t ≡ o → ((past : List Moment) (G : Typing) (v : World) → Holds past G v → length past + length ts ≤ N → (H : Typing) × Holds (past ++ moments code ts v) H (left_by v (moments code ts v))) → (H : Typing) × Holds (past ++ and_then o (moments code ts)) H (left_by w (and_then o (moments code ts)))
        by None e more = (G, subst (λ ms. Holds ms G w) (sym (append-nil past)) inv)
        by (Some m) e more =
            let one = one_turn past G w t m inv e (omega (arith, le)) in
            let long = length_push past m in
            let rest = more (past ++ m ∷ []) one.0 m.world one.1 (omega (arith, le, long)) in
            (rest.0, subst (λ ms. Holds ms rest.0 (left_by m.world (moments code ts m.world))) (append_assoc past (m ∷ []) (moments code ts m.world)) rest.1)

    at_start : IsValid start → ThreadsStart r code start → Holds [] nothing_known start
    at_start valid starts =
        record {
          valid = valid;
          world = record { slots = λ n x e. absurd cc; results = λ t res e. no_result t (thread_at start t) refl res e };
          known = λ u th at. let s = starts u th at in known_by [] nothing_known u (started code s.function s.args s.caps) th [] s.function s.args s.caps (sym s.it) refl (inl (at ∙ ap Some s.it)) (begins r code N typed nothing_known s.function s.args s.caps s.starts);
          none = λ u e. refl;
        }
      where
        no_result : (t : ℕ) (o : Option Thread) → thread_at start t ≡ o → (res : Outcome) → result_in o ≡ Some res → IsNumber res
        no_result t None f res e = absurd cc
        no_result t (Some th) f res e = absurd (let s = starts t th f in let z = ap (λ (th : Thread). th.result) s.it in cc)

pub suit_in_runs : (r : ResolvedTree) (code : CodeTree) → AnswersSuitInRuns r code
suit_in_runs r code acts_as is_code typed w turns valid starts u th at =
    let N : ℕ = length turns in
    let ms = moments code turns w in
    let end = all_turns r code N w typed acts_as is_code turns [] nothing_known w (at_start r code N w typed acts_as is_code valid starts) (omega arith) in
    let k = end.1.known u th at in
    let st = k.stands in
    let few = done_few u ms in
    let all = moments_few code turns w in
    record {
      function = k.function;
      args = k.args;
      caps = k.caps;
      began = k.began;
      own = st.own;
      declared = st.declared;
      found = st.found;
      result = st.result;
      sorts = st.sorts;
      suit = suits_any r code N acts_as end.0 k.function k.args k.caps (done_by u ms) th st (omega (arith, few, all));
    }
