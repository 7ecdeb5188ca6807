-- Thinned code acts as the program that the code acts as.
use Rattle.std.proofs.Common.{◌≡◌, ◌⊎◌, inl, inr, ⊎_elim, ℕ, zero, suc, ◌+◌, ◌*◌, ◌-◌, ◌<◌, ◌≤◌, List, [], ◌∷◌, ◌++◌, false, Option, Some, length, slice_get, refl, sym, ap, ◌∙◌, subst, arith, length-append}
use Rattle.std.proofs.lemmas.Bool.{cases_lt}
use Rattle.std.proofs.lemmas.Option.{slice_get_within}
use Rattle.lam_asks.specs.declared.answer.Outcome.{Outcome}
use Rattle.lam_asks.specs.declared.answer.Answer.{Answer}
use Rattle.lam_asks.specs.declared.ask.Ask.{Ask}
use Rattle.lam_bytecode.specs.Codes.{CodeTree, IsCode}
use Rattle.thread_steps.specs.Threads.{Context, Thread}
use Rattle.thread_steps.specs.Ops.{function_takes}
use Rattle.guarded_code.specs.Breaks.{IsGuarded}
use Rattle.thinned_code.specs.Thinned.{thinned}
use Rattle.thinned_code.proofs.Thinned.{thin_is}
use Rattle.thinned_code.proofs.Units.{same_takes}
use Rattle.thinned_code_acts.specs.Moved.{staying_at}
use Rattle.thinned_code_acts.specs.Matches.{StartsMatch, NextMatches, AnswersMatch, PlaceIsKept}
use Rattle.guarded_code_threads.specs.Laws.{StartsDescribed, PrivateTurnsKeep, AnswersKeep}
use Rattle.lam_resolve_tree.specs.Tree.{ResolvedTree}
use Rattle.lam_meaning.specs.Trees.{Asked}
use Rattle.lam_meaning.specs.Means.{means}
use Rattle.lam_meaning.specs.Plays.{asks_of, AllFit}
use Rattle.lam_meaning_typed.proofs.Locals.{length_are}
use Rattle.lam_meaning_laws.specs.Lone.{Lone, runs, waits, turn, turns, asks_in, work_done, NotStuck, alone, bound}
use Rattle.lam_meaning_laws.specs.Acts.{AreFirst}
use Rattle.lam_meaning_laws.proofs.Grows.{first_of_first, turns_grow}
use Rattle.lam_meaning_laws.proofs.Turns.{turns_add}
use Rattle.thinned_code_acts.specs.Laws.{ThinnedActs, KeepsFunctions}
use Rattle.thinned_code_acts.proofs.Wanted.{IsWanted, made_wanted}
use Rattle.thinned_code_acts.proofs.Lone.{moved_lone, asks_moved, work_moved, StaysAlone, DropsAlone, context_stands, stands_alone, passed, dropped_state, dropped_turn, kept_turn, fine_moved, one_ask}
use Rattle.thinned_code_acts.proofs.Fitting.{meant, Fine, fine_on}

-- ---- first parts of a list
cons_same : (x y : Ask) (xs ys : List Ask) → x ∷ xs ≡ y ∷ ys → (x ≡ y) × (xs ≡ ys)
cons_same x y xs ys e = (ap (head x) e, ap tail e)
  where
    head : Ask → List Ask → Ask
    head d [] = d
    head d (z ∷ zs) = z

    tail : List Ask → List Ask
    tail [] = []
    tail (z ∷ zs) = zs

shorter : (a b ra rb : List Ask) → a ++ ra ≡ b ++ rb → length a ≤ length b → AreFirst a b
shorter [] b ra rb e le = (b, refl)
shorter (x ∷ a) [] ra rb e le = absurd (omega (arith, le))
shorter (x ∷ a) (y ∷ b) ra rb e le =
    let same = cons_same x y (a ++ ra) (b ++ rb) e in
    let more = shorter a b ra rb same.1 (omega (arith, le)) in
    (more.0, ap (λ l. y ∷ l) more.1 ∙ ap (λ z. z ∷ a ++ more.0) (sym same.0))

-- of two first parts of one list the shorter is a first part of the longer
first_by_length : (a b c : List Ask) → AreFirst a c → AreFirst b c → length a ≤ length b → AreFirst a b
first_by_length a b c p q le = shorter a b p.0 q.0 (sym p.1 ∙ q.1) le

first_long : (a b : List Ask) → AreFirst a b → length a ≤ length b
first_long a b p = let same = ap length p.1 in omega (arith, same, length-append a p.0)

module _ (code : CodeTree) where
  one_more : (m : ℕ) (s : Lone) → turns code (m + 1) s ≡ turn code (turns code m s)
  one_more m s = turns_add code 0 m 1 s

  grown : (m j : ℕ) (s : Lone) → m ≤ j → AreFirst (asks_in (turns code m s)) (asks_in (turns code j s))
  grown m j s le =
      let e : m + (j - m) ≡ j = omega (arith, le) in
      subst (λ x. AreFirst (asks_in (turns code m s)) (asks_in x)) (sym (turns_add code 0 m (j - m) s) ∙ ap (λ n. turns code n s) e) (turns_grow code (j - m) (turns code m s)).first

  busier : (m : ℕ) (s : Lone) → work_done (turns code m s) ≤ work_done (turns code (m + 1) s)
  busier m s = subst (λ x. work_done (turns code m s) ≤ work_done x) (sym (turns_add code 0 m 1 s)) (turns_grow code 1 (turns code m s)).more

-- ---- a thread of the code and of the thinned code, with the same answers

module _ (code : CodeTree) (sound : IsCode code) (guarded : IsGuarded code) (private_keep : PrivateTurnsKeep code) (answers_keep : AnswersKeep code) (next : NextMatches code) (answers : AnswersMatch code) (place : PlaceIsKept code)
    (all : List Answer) (qs : List Asked) (fit : AllFit qs all) (wanted : (i : ℕ) (q : Asked) → slice_get qs i ≡ Some q → IsWanted q) where
  abbrev thin : CodeTree
  thin = thinned code

  abbrev source : List Ask
  source = meant code sound guarded private_keep answers_keep all qs fit wanted

  abbrev IsFine : Lone → Type 0
  IsFine s = Fine code sound guarded private_keep answers_keep all qs fit wanted s

  -- ---- past the barriers that were left out

  record Settled (s : Lone) : Type 0 where
    more : ℕ
    stays : StaysAlone code (turns code more s)
    same : moved_lone code (turns code more s) ≡ moved_lone code s
    fine : IsFine (turns code more s)

  at_once : (s : Lone) → IsFine s → StaysAlone code s → Settled s
  at_once s h stays = record { more = 0; stays = stays; same = refl; fine = h }

  after_one : (s t : Lone) → turn code s ≡ t → moved_lone code t ≡ moved_lone code s → Settled t → Settled s
  after_one s t e same h =
      let there : turns code (suc h.more) s ≡ turns code h.more t = ap (turns code h.more) e in
      record {
        more = suc h.more;
        stays = subst (StaysAlone code) (sym there) h.stays;
        same = ap (moved_lone code) there ∙ h.same ∙ same;
        fine = subst IsFine (sym there) h.fine;
      }

  keep_fine : (s : Lone) → IsFine s → AreFirst (asks_in (turn code s)) source → IsFine (turn code s)
  keep_fine s h first = fine_on code sound guarded private_keep answers_keep all qs fit wanted s h first

  abbrev thread : List Context → Option Outcome → Thread
  thread cs res = record { contexts = cs; result = res }

  -- n is the number of addresses that are left
  settle_at : (n : ℕ) (c : Context) (rest : List Context) (res : Option Outcome) (xs : List Answer) (made : List Ask) (w : ℕ) → length (staying_at code c.inside.frame.unit) ≤ c.inside.frame.at + n → IsFine (runs (thread (c ∷ rest) res) xs made w) → AreFirst made source → Settled (runs (thread (c ∷ rest) res) xs made w)
  settle_at zero c rest res xs made w le h first =
      ⊎_elim (λ stays. at_once (runs (thread (c ∷ rest) res) xs made w) h stays)
      (λ d. let within = slice_get_within (staying_at code c.inside.frame.unit) c.inside.frame.at false d.at in absurd (omega (arith, within, le)))
      (context_stands code guarded c h.described.0)
  settle_at (suc n) c rest res xs made w le h first =
      let s = runs (thread (c ∷ rest) res) xs made w in
      let t = runs (thread (passed code guarded c ∷ rest) res) xs made w in
      ⊎_elim (λ stays. at_once s h stays)
      (λ d.
      let e = dropped_state code guarded c rest res xs made w h.described.0 d in
      let fine = subst IsFine e (keep_fine s h (subst (λ x. AreFirst (asks_in x) source) (sym e) first)) in
      after_one s t e (ap (moved_lone code) (sym e) ∙ dropped_turn code guarded s h.described d) (settle_at n (passed code guarded c) rest res xs made w (omega (arith, le)) fine first))
      (context_stands code guarded c h.described.0)

  settle_in : (cs : List Context) (res : Option Outcome) (xs : List Answer) (made : List Ask) (w : ℕ) → IsFine (runs (thread cs res) xs made w) → AreFirst made source → Settled (runs (thread cs res) xs made w)
  settle_in [] res xs made w h first = at_once (runs (thread [] res) xs made w) h tt
  settle_in (c ∷ rest) res xs made w h first = settle_at (length (staying_at code c.inside.frame.unit)) c rest res xs made w (omega arith) h first

  settle : (s : Lone) → IsFine s → AreFirst (asks_in s) source → Settled s
  settle (runs th xs made w) h first = settle_in th.contexts th.result xs made w h first
  settle (waits made w) h first = at_once (waits made w) h tt

  -- ---- whole runs

  module _ (s0 s1 : Lone) (start : s1 ≡ moved_lone code s0) (first_fine : IsFine s0) (empty : asks_in s0 ≡ []) where
    -- after m turns of the code and k of the thinned code, both stand alike
    record Matched (m k : ℕ) : Type 0 where
      same : turns thin k s1 ≡ moved_lone code (turns code m s0)
      fine : IsFine (turns code m s0)
      fewer : k ≤ m

    abbrev here : ℕ → Lone
    here m = turns code m s0

    abbrev there : ℕ → Lone
    there k = turns thin k s1

    same_made : (m k : ℕ) → there k ≡ moved_lone code (here m) → asks_in (there k) ≡ asks_in (here m)
    same_made m k e = ap asks_in e ∙ asks_moved code (here m)

    same_work : (m k : ℕ) → there k ≡ moved_lone code (here m) → work_done (there k) ≡ work_done (here m)
    same_work m k e = ap work_done e ∙ work_moved code (here m)

    begun : Matched 0 0
    begun = record { same = start; fine = first_fine; fewer = omega arith }

    none_first : AreFirst (asks_in (here 0)) source
    none_first = (source, ap (λ a. a ++ source) (sym empty))

    -- a turn at an operation that stays
    kept_on : (m k : ℕ) → Matched m k → StaysAlone code (here m) → AreFirst (asks_in (here (m + 1))) source → Matched (m + 1) (k + 1)
    kept_on m k h stays first =
        let step = one_more code m s0 in
        record {
          same = one_more thin k s1 ∙ ap (turn thin) h.same ∙ kept_turn code guarded next answers place (here m) stays ∙ ap (moved_lone code) (sym step);
          fine = subst IsFine (sym step) (keep_fine (here m) h.fine (subst (λ x. AreFirst (asks_in x) source) step first));
          fewer = omega (arith, h.fewer);
        }

    -- and one at a barrier that was left out
    dropped_on : (m k : ℕ) → Matched m k → DropsAlone code (here m) → AreFirst (asks_in (here (m + 1))) source → Matched (m + 1) k
    dropped_on m k h drops first =
        let step = one_more code m s0 in
        record {
          same = h.same ∙ sym (dropped_turn code guarded (here m) h.fine.described drops) ∙ ap (moved_lone code) (sym step);
          fine = subst IsFine (sym step) (keep_fine (here m) h.fine (subst (λ x. AreFirst (asks_in x) source) step first));
          fewer = omega (arith, h.fewer);
        }

    record Stands (k : ℕ) : Type 0 where
      turned : ℕ
      matched : Matched turned k
      stays : StaysAlone code (here turned)

    settled : (m k : ℕ) → Matched m k → AreFirst (asks_in (here m)) source → Stands k
    settled m k h first =
        let x = settle (here m) h.fine first in
        let more = turns_add code 0 m x.more s0 in
        record {
          turned = m + x.more;
          matched = record {
            same = h.same ∙ sym x.same ∙ ap (moved_lone code) (sym more);
            fine = subst IsFine (sym more) x.fine;
            fewer = omega (arith, h.fewer);
          };
          stays = subst (StaysAlone code) (sym more) x.stays;
        }

    -- ---- against what the source means with n units

    module _ (n : ℕ) (only : (m : ℕ) → work_done (here m) ≤ n → AreFirst (asks_in (here m)) source) where
      stand_by : (k : ℕ) → work_done (there k) ≤ n → Stands k
      stand_by zero le = settled 0 0 begun none_first
      stand_by (suc k) le =
          let one : k + 1 ≡ suc k = omega arith in
          let busy = busier thin k s1 in
          let now : work_done (there (k + 1)) ≤ n = subst (λ j. work_done (there j) ≤ n) (sym one) le in
          let before = stand_by k (omega (arith, busy, now)) in
          let m = before.turned in
          let step = one_more code m s0 in
          let alike = one_more thin k s1 ∙ ap (turn thin) before.matched.same ∙ kept_turn code guarded next answers place (here m) before.stays ∙ ap (moved_lone code) (sym step) in
          let work = same_work (m + 1) (k + 1) alike in
          let first = only (m + 1) (omega (arith, work, now)) in
          subst Stands one (settled (m + 1) (k + 1) (kept_on m k before.matched before.stays first) first)

      fine_by : ((m : ℕ) → work_done (here m) ≤ n → NotStuck code (here m)) → (k : ℕ) → work_done (there k) ≤ n → NotStuck thin (there k)
      fine_by never k le =
          let h = stand_by k le in
          let work = same_work h.turned k h.matched.same in
          subst (NotStuck thin) (sym h.matched.same) (fine_moved code guarded next answers place (here h.turned) h.stays (never h.turned (omega (arith, work, le))))

      only_by : (k : ℕ) → work_done (there k) ≤ n → AreFirst (asks_in (there k)) source
      only_by k le =
          let h = stand_by k le in
          let work = same_work h.turned k h.matched.same in
          subst (λ a. AreFirst a source) (sym (same_made h.turned k h.matched.same)) (only h.turned (omega (arith, work, le)))

    -- ---- until all asks of the source are made

    record Reached (b : ℕ) : Type 0 where
      turned : ℕ
      taken : ℕ
      same : there taken ≡ moved_lone code (here turned)
      fewer : taken ≤ turned
      soon : turned ≤ b
      enough : length source ≤ length (asks_in (here turned))

    module _ (b : ℕ) (full : AreFirst source (asks_in (here b))) where
      abbrev Walked : ℕ → Type 0
      Walked i = Reached b ⊎ ((k : ℕ) × Matched i k)

      -- while some of them are not made, those that are made are the first
      first_still : (i : ℕ) → i + 1 ≤ b → length (asks_in (here i)) < length source → AreFirst (asks_in (here (i + 1))) source
      first_still i le lt =
          let one = one_ask code (here i) in
          let count = ap (λ s. length (asks_in s)) (one_more code i s0) in
          first_by_length (asks_in (here (i + 1))) source (asks_in (here b)) (grown code (i + 1) b s0 le) full (omega (arith, one, count, lt))

      step_on : (i k : ℕ) → i + 1 ≤ b → Matched i k → AreFirst (asks_in (here (i + 1))) source → Walked (i + 1)
      step_on i k le h first =
          ⊎_elim (λ stays. inr (k + 1, kept_on i k h stays first)) (λ drops. inr (k, dropped_on i k h drops first)) (stands_alone code guarded (here i) h.fine.described)

      walk_on : (i k : ℕ) → i + 1 ≤ b → Matched i k → Walked (i + 1)
      walk_on i k le h =
          ⊎_elim (λ lt. step_on i k le h (first_still i le lt))
          (λ ge. inl (record { turned = i; taken = k; same = h.same; fewer = h.fewer; soon = omega (arith, le); enough = ge }))
          (cases_lt (length (asks_in (here i))) (length source))

      walk : (i : ℕ) → i ≤ b → Walked i
      walk zero le = inr (0, begun)
      walk (suc i) le =
          let one : i + 1 ≡ suc i = omega arith in
          subst Walked one (⊎_elim (λ r. inl r) (λ (p : (k : ℕ) × Matched i k). walk_on i p.0 (omega (arith, le)) p.1) (walk i (omega (arith, le))))

      reached : Reached b
      reached =
          ⊎_elim (λ r. r)
          (λ (p : (k : ℕ) × Matched b k). record { turned = b; taken = p.0; same = p.1.same; fewer = p.1.fewer; soon = omega arith; enough = first_long source (asks_in (here b)) full })
          (walk b (omega arith))

      all_by : (k : ℕ) → b ≤ k → AreFirst source (asks_in (there k))
      all_by k le =
          let r = reached in
          let made = first_by_length source (asks_in (here r.turned)) (asks_in (here b)) full (grown code r.turned b s0 r.soon) r.enough in
          let same = same_made r.turned r.taken r.same in
          first_of_first source (asks_in (there r.taken)) (asks_in (there k)) (subst (AreFirst source) (sym same) made) (grown thin r.taken k s1 (omega (arith, le, r.fewer, r.soon)))

-- ---- the claim

pub acts : (code : CodeTree) (r : ResolvedTree) → StartsDescribed code → PrivateTurnsKeep code → AnswersKeep code → StartsMatch code → NextMatches code → AnswersMatch code → PlaceIsKept code → ThinnedActs code r
acts code r starts_described private_keep answers_keep starts next answers place sound guarded functions acting n f fn vs k xs e are fit =
    let h = acting n f fn vs k xs e are fit in
    let qs = asks_of (means r n f vs k) xs in
    let wanted = made_wanted r n f vs k xs in
    let s0 = alone code f vs k xs in
    let s1 = alone (thinned code) f vs k xs in
    let start : s1 ≡ moved_lone code s0 = ap (λ th. runs th xs [] 0) (starts guarded f vs k) in
    let takes = functions f fn e ∙ ap (λ c. Some c) (sym (length_are fn.params vs are)) in
    let fine : Fine code sound guarded private_keep answers_keep xs qs fit wanted s0 = record { described = starts_described sound guarded f vs k takes; remains = refl } in
    record {
      never_stuck = fine_by code sound guarded private_keep answers_keep next answers place xs qs fit wanted s0 s1 start fine refl n h.asks_only h.never_stuck;
      asks_only = only_by code sound guarded private_keep answers_keep next answers place xs qs fit wanted s0 s1 start fine refl n h.asks_only;
      asks_all = all_by code sound guarded private_keep answers_keep next answers place xs qs fit wanted s0 s1 start fine refl ((n + 1) * bound r) (h.asks_all ((n + 1) * bound r) (omega arith));
    }

pub keeps_functions : (code : CodeTree) (r : ResolvedTree) → KeepsFunctions code r
keeps_functions code r guarded functions f fn e =
    ap (λ (t : CodeTree). function_takes (slice_get t.units f)) (thin_is code guarded) ∙ same_takes code code.units f ∙ functions f fn e
