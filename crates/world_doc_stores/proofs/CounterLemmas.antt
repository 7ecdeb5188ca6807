-- Counters that a document says, and those of files beside them, where the home of the root has made one at least.
use Rattle.std.proofs.Common.{◌≡◌, ℕ, ◌<◌, ◌≤◌, Bool, true, false, cond, List, Option, Some, Result, Ok, Err, refl, sym, ap, subst, ◌∙◌, arith, lt-ltb, le-ltb}
use Rattle.std.specs.Prelude.{codes, not, nat_lt, unwrap_or}
use Rattle.std.specs.Ordering.{eq_by_cmp}
use Rattle.std.specs.Cmp.{Equal-is, eq_by_cmp_equiv}
use Rattle.std.specs.FinMap.{empty, get, insert, same_map, get-empty, get-insert}
use Rattle.std.proofs.lemmas.Bool.Decides.{nat_tests}
use Rattle.serde_json.specs.Data.{Items, Members}
use Rattle.serde_json.specs.Find.{as_array}
use Rattle.flow_labels.specs.TwoLists.{Text}
use Rattle.lam_value.specs.Homes.{Home, Counts, home_cmp, count_in, raised}
use Rattle.labelled_files.specs.Trees.{Tree, public_home, with_count}
use Rattle.lam_value.proofs.Keys.{home_total, home_exact}
use Rattle.lam_value.proofs.CountLemmas.{count_insert}
use Rattle.world_doc_terms.specs.Breaks.{Reading, ◌>>=◌, only_if, formed, member_as}
use Rattle.world_doc_terms.specs.Numbered.{next_in, has_made, with_counts, with_root, counts_in}
use Rattle.world_doc_stores.specs.declared.fault.WorldFault.{WorldFault}
use Rattle.world_doc_stores.specs.Meaning.{Fails, Gives, GivesOnto}
use Rattle.world_doc_stores.specs.Contents.{counted_as, with_next, counts_onto}
use Rattle.world_doc_stores.proofs.Steps.{fails_same, fails_here}

-- ---- maps by home

tied : (h k : Home) → eq_by_cmp home_cmp h k ≡ true → h ≡ k
tied h k e = home_exact h k ((Equal-is (home_cmp h k)).0 e)

itself : (h : Home) → eq_by_cmp home_cmp h h ≡ true
itself h = (eq_by_cmp_equiv home_total).refl h

cond_twice : {X : Type 0} (b : Bool) (x y z : X) → cond b x (cond b y z) ≡ cond b x z
cond_twice true x y z = refl
cond_twice false x y z = refl

insert_over : (m : Counts) (k : Home) (a b : ℕ) → insert (insert m k a) k b ≡ insert m k b
insert_over m k a b =
    same_map home_total home_exact _ _ (λ q.
    get-insert home_total (insert m k a) k b q
    ∙ ap (cond (eq_by_cmp home_cmp q k) (Some b)) (get-insert home_total m k a q)
    ∙ cond_twice (eq_by_cmp home_cmp q k) (Some b) (Some a) (get m q)
    ∙ sym (get-insert home_total m k b q))

cond_apart : {X : Type 0} (b c : Bool) (x y z : X) → (b ≡ true → c ≡ true → ⊥) → cond b x (cond c y z) ≡ cond c y (cond b x z)
cond_apart true true x y z h = absurd (h refl refl)
cond_apart true false x y z h = refl
cond_apart false true x y z h = refl
cond_apart false false x y z h = refl

insert_apart : (m : Counts) (h k : Home) (a b : ℕ) → eq_by_cmp home_cmp h k ≡ false → insert (insert m k a) h b ≡ insert (insert m h b) k a
insert_apart m h k a b apart =
    same_map home_total home_exact _ _ (λ q.
    get-insert home_total (insert m k a) h b q
    ∙ ap (cond (eq_by_cmp home_cmp q h) (Some b)) (get-insert home_total m k a q)
    ∙ cond_apart (eq_by_cmp home_cmp q h) (eq_by_cmp home_cmp q k) (Some b) (Some a) (get m q) (never q)
    ∙ ap (cond (eq_by_cmp home_cmp q k) (Some a)) (sym (get-insert home_total m h b q))
    ∙ sym (get-insert home_total (insert m h b) k a q))
  where
    never : (q : Home) → eq_by_cmp home_cmp q h ≡ true → eq_by_cmp home_cmp q k ≡ true → ⊥
    never q e f =
        let z : true ≡ false = sym (subst (λ (x : Home). eq_by_cmp home_cmp x k ≡ true) (tied q h e) f) ∙ apart in
        cc

-- ---- a home that was not named

module _ (m : Counts) (h : Home) (n : ℕ) (none : count_in m h ≡ 0) (some : 0 < n) where
  pub raised_new : raised m h n ≡ insert m h n
  raised_new = ap (λ b. cond b (insert m h n) m) (lt-ltb (count_in m h) n (omega arith))

  module _ (p : Home) where
    abbrev both : Counts → Type 0
    both k = raised k h n ≡ raised (insert m h n) p 1

    -- the other home is counted: it stays as it is
    counted_so : 0 < count_in m p → raised (insert m h n) p 1 ≡ insert m h n
    counted_so some_there =
        let le : 1 ≤ count_in (insert m h n) p = subst (λ x. 1 ≤ x) (sym (count_insert m h n p)) (by (eq_by_cmp home_cmp p h)) in
        ap (λ b. cond b (insert (insert m h n) p 1) (insert m h n)) (le-ltb (count_in (insert m h n) p) 1 le)
      where
        by : (b : Bool) → 1 ≤ cond b n (count_in m p)
        by true = some
        by false = some_there

    -- it is the home itself
    itself_so : h ≡ p → both (insert m p 1)
    itself_so same =
        subst (λ (q : Home). raised (insert m q 1) h n ≡ raised (insert m h n) q 1) same (by (nat_lt 1 n) refl)
      where
        left : count_in (insert m h 1) h ≡ 1
        left = count_insert m h 1 h ∙ ap (λ b. cond b 1 (count_in m h)) (itself h)

        right : count_in (insert m h n) h ≡ n
        right = count_insert m h n h ∙ ap (λ b. cond b n (count_in m h)) (itself h)

        ends : raised (insert m h n) h 1 ≡ insert m h n
        ends = ap (λ b. cond b (insert (insert m h n) h 1) (insert m h n)) (le-ltb (count_in (insert m h n) h) 1 (omega (arith, right)))

        by : (b : Bool) → nat_lt 1 n ≡ b → raised (insert m h 1) h n ≡ raised (insert m h n) h 1
        by true e = ap (λ (x : ℕ). cond (nat_lt x n) (insert (insert m h 1) h n) (insert m h 1)) left ∙ ap (λ b. cond b (insert (insert m h 1) h n) (insert m h 1)) e ∙ insert_over m h 1 n ∙ sym ends
        by false e =
            let one : 1 ≡ n = grind (arith, nat_tests) in
            ap (λ (x : ℕ). cond (nat_lt x n) (insert (insert m h 1) h n) (insert m h 1)) left ∙ ap (λ b. cond b (insert (insert m h 1) h n) (insert m h 1)) e ∙ ap (insert m h) one ∙ sym ends

    -- it is another that was not named
    other_so : count_in m p ≡ 0 → eq_by_cmp home_cmp h p ≡ false → both (insert m p 1)
    other_so zero_there apart =
        let left : count_in (insert m p 1) h ≡ 0 = count_insert m p 1 h ∙ ap (λ b. cond b 1 (count_in m h)) apart ∙ none in
        let right : count_in (insert m h n) p ≡ 0 = count_insert m h n p ∙ ap (λ b. cond b n (count_in m p)) ((eq_by_cmp_equiv home_total).symm p h ∙ apart) ∙ zero_there in
        ap (λ b. cond b (insert (insert m p 1) h n) (insert m p 1)) (lt-ltb (count_in (insert m p 1) h) n (omega arith))
        ∙ insert_apart m h p 1 n apart
        ∙ sym (ap (λ b. cond b (insert (insert m h n) p 1) (insert m h n)) (lt-ltb (count_in (insert m h n) p) 1 (omega arith)))

    pub both_raised : both (raised m p 1)
    both_raised = by (nat_lt (count_in m p) 1) refl
      where
        by_home : (b : Bool) → eq_by_cmp home_cmp h p ≡ b → count_in m p ≡ 0 → both (insert m p 1)
        by_home true e z = itself_so (tied h p e)
        by_home false e z = other_so z e

        by : (b : Bool) → nat_lt (count_in m p) 1 ≡ b → both (cond b (insert m p 1) m)
        by true e = by_home (eq_by_cmp home_cmp h p) refl (grind (arith, nat_tests))
        by false e = raised_new ∙ sym (counted_so (grind (arith, nat_tests)))

-- where no home was named
pub first_raised : (p : Home) → raised empty p 1 ≡ insert empty p 1
first_raised p = ap (λ o. cond (nat_lt (unwrap_or o 0) 1) (insert empty p 1) empty) (get-empty home_cmp p)

-- a home that was named stays as it is
pub named_kept : (m : Counts) (p : Home) → has_made m p ≡ true → raised m p 1 ≡ m
named_kept m p e = ap (λ b. cond b (insert m p 1) m) (le-ltb (count_in m p) 1 (grind (arith, nat_tests)))

pub not_made : (m : Counts) (h : Home) → has_made m h ≡ false → count_in m h ≡ 0
not_made m h e = grind (arith, nat_tests)

-- ---- files with their counters

module _ (t : Tree) (m k : Counts) (h : Home) (n : ℕ) (none : count_in m h ≡ 0) (some : 0 < n) (both : t.counts ≡ raised m public_home 1) (is : k ≡ raised m h n) where
  pub so_counted : k ≡ insert m h n
  so_counted = is ∙ raised_new m h n none some

  pub both_counted : with_count t h n ≡ counted_as t (raised k public_home 1)
  both_counted =
      let counts : raised t.counts h n ≡ raised k public_home 1 = ap (λ (c : Counts). raised c h n) both ∙ both_raised m h n none some public_home ∙ ap (λ (c : Counts). raised c public_home 1) (sym so_counted) in
      λ j. record t { counts = counts j }

pub counted_itself : (t : Tree) (m : Counts) → t.counts ≡ m → t ≡ counted_as t m
counted_itself t m e = λ j. record t { counts = e j }

pub counted_again : (t u v : Tree) (m k : Counts) → u ≡ counted_as t m → v ≡ counted_as u k → v ≡ counted_as t k
counted_again t u v m k first later = later ∙ ap (λ (x : Tree). counted_as x k) first

-- ---- the member `counts`

root_made : (m : Counts) → with_root m ≡ Ok m → has_made m public_home ≡ true
root_made m = by (has_made m public_home)
  where
    by : (b : Bool) → formed (codes "counts") (only_if b m) ≡ Ok m → b ≡ true
    by true e = refl
    by false e = absurd cc

module _ (names : List Text) (t : Tree) (ms : Members) where
  abbrev onto : Counts → Reading Tree
  onto counts = Ok (counted_as t counts)

  pub no_counts : (e : WorldFault) → Fails e (member_as (codes "counts") as_array ms) → Fails e (counts_onto names t ms)
  no_counts e h =
      let all = member_as (codes "counts") as_array ms in
      fails_here e (all >>= with_counts names empty >>= with_root) onto (fails_here e (all >>= with_counts names empty) with_root (fails_here e all (with_counts names empty) h))

  module _ (ds : Items) (there : member_as (codes "counts") as_array ms ≡ Ok ds) where
    pub broken_counts : (e : WorldFault) → Fails e (with_counts names empty ds) → Fails e (counts_onto names t ms)
    broken_counts e h =
        fails_same (sym (ap (λ r. r >>= with_counts names empty >>= with_root >>= onto) there)) (fails_here e (with_counts names empty ds >>= with_root) onto (fails_here e (with_counts names empty ds) with_root h))

    to_root : (m : Counts) → with_counts names empty ds ≡ Ok m → counts_in names ms ≡ with_root m
    to_root m all = ap (λ r. r >>= with_counts names empty >>= with_root) there ∙ ap (λ r. r >>= with_root) all

    pub counts_read : (m : Counts) (u : Tree) (r : Result (Unit {0}) WorldFault) → with_counts names empty ds ≡ Ok m → u ≡ counted_as t (raised m public_home 1) → Gives (λ _. m) r (with_root m) → GivesOnto r u (counts_onto names t ms)
    counts_read m u (Ok x) all is root = ap (λ r. r >>= onto) (to_root m all ∙ root) ∙ ap Ok (sym (is ∙ ap (counted_as t) (named_kept m public_home (root_made m root))))
    counts_read m u (Err e) all is root = fails_same (sym (ap (λ r. r >>= onto) (to_root m all))) (fails_here e (with_root m) onto root)

-- ---- an item

-- a home that was not named, and how many it has made
pub next_counted : (m k : Counts) (home : Home) (n : ℕ) (ms : Members) → has_made m home ≡ false → next_in ms ≡ Ok n → k ≡ insert m home n → with_next m home ms ≡ Ok k
next_counted m k home n ms new next is =
    ap (λ b. formed (codes "counts") (only_if (not b) home) >>= λ home. next_in ms >>= λ n. Ok (insert m home n)) new
    ∙ ap (λ r. r >>= λ n. Ok (insert m home n)) next
    ∙ ap Ok (sym is)
