-- Counters after one thing more, and the names that they keep apart.
use Rattle.std.proofs.Common.{◌≡◌, ◌≤◌, ◌<◌, ◌+◌, cond, ℕ, Bool, true, false, Option, Some, is_some, Result, Ok, Err, OnOk, OnErr, refl, sym, ap, subst, ◌∙◌, arith}
use Rattle.std.specs.Prelude.{IsTrue, nat_lt}
use Rattle.std.specs.Option.{unwrap_or}
use Rattle.std.specs.FinMap.{FinMap, get, insert, contains_key, empty, get-empty, get-insert}
use Rattle.std.specs.Ordering.{eq_by_cmp}
use Rattle.std.specs.Cmp.{Equal-is, eq_by_cmp_equiv}
use Rattle.std.proofs.lemmas.Bool.Decides.{nat_tests}
use Rattle.lam_value.specs.declared.names.Name.{Name}
use Rattle.lam_value.specs.Names.{name_cmp}
use Rattle.lam_value.specs.Homes.{Home, Counts, home_of, home_cmp, name_of, count_in, counted, raised, AreCounted, AreWithin}
use Rattle.lam_value.proofs.Keys.{name_total, name_exact, home_total, home_exact}

unwrapped : (b : Bool) (n : ℕ) (o : Option ℕ) → unwrap_or (cond b (Some n) o) 0 ≡ cond b n (unwrap_or o 0)
unwrapped true n o = refl
unwrapped false n o = refl

pub count_insert : (m : Counts) (k : Home) (n : ℕ) (h : Home) → count_in (insert m k n) h ≡ cond (eq_by_cmp home_cmp h k) n (count_in m h)
count_insert m k n h = ap (λ o. unwrap_or o 0) (get-insert home_total m k n h) ∙ unwrapped (eq_by_cmp home_cmp h k) n (get m h)

same_home : (h k : Home) → eq_by_cmp home_cmp h k ≡ true → h ≡ k
same_home h k e = home_exact h k ((Equal-is (home_cmp h k)).0 e)

same_name : (n k : Name) → eq_by_cmp name_cmp n k ≡ true → n ≡ k
same_name n k e = name_exact n k ((Equal-is (name_cmp n k)).0 e)

-- a greater number for one home
count_higher : (m : Counts) (k : Home) (n : ℕ) → count_in m k ≤ n → (h : Home) → count_in m h ≤ count_in (insert m k n) h
count_higher m k n le h = subst (λ x. count_in m h ≤ x) (sym (count_insert m k n h)) (by (eq_by_cmp home_cmp h k) refl)
  where
    by : (b : Bool) → eq_by_cmp home_cmp h k ≡ b → count_in m h ≤ cond b n (count_in m h)
    by true e = subst (λ x. count_in m x ≤ n) (sym (same_home h k e)) le
    by false e = omega arith

pub count_more : (m : Counts) (k h : Home) → count_in m h ≤ count_in (counted m k) h
count_more m k h = count_higher m k (count_in m k + 1) (omega arith) h

pub count_next : (m : Counts) (k : Home) → count_in (counted m k) k ≡ count_in m k + 1
count_next m k = count_insert m k (count_in m k + 1) k ∙ ap (λ b. cond b (count_in m k + 1) (count_in m k)) ((eq_by_cmp_equiv home_total).refl k)

pub count_raised : (m : Counts) (k : Home) (n : ℕ) (h : Home) → count_in m h ≤ count_in (raised m k n) h
count_raised m k n h = by (nat_lt (count_in m k) n) refl
  where
    by : (b : Bool) → nat_lt (count_in m k) n ≡ b → count_in m h ≤ count_in (cond b (insert m k n) m) h
    by true e = count_higher m k n (grind (arith, nat_tests)) h
    by false e = omega arith

-- ---- within a limit
pub within_insert : (limit : ℕ) (m : Counts) (k : Home) (n : ℕ) → AreWithin limit m → n ≤ limit → AreWithin limit (insert m k n)
within_insert limit m k n within le h = subst (λ x. x ≤ limit) (sym (count_insert m k n h)) (by (eq_by_cmp home_cmp h k))
  where
    by : (b : Bool) → cond b n (count_in m h) ≤ limit
    by true = le
    by false = within h

pub within_more : (limit : ℕ) (m : Counts) (k : Home) → AreWithin limit m → count_in m k < limit → AreWithin limit (counted m k)
within_more limit m k within room = within_insert limit m k (count_in m k + 1) within (omega arith)

pub within_raised : (limit : ℕ) (m : Counts) (k : Home) (n : ℕ) → AreWithin limit m → n ≤ limit → AreWithin limit (raised m k n)
within_raised limit m k n within le = by (nat_lt (count_in m k) n)
  where
    by : (b : Bool) → AreWithin limit (cond b (insert m k n) m)
    by true = within_insert limit m k n within le
    by false = within

pub within_none : (limit : ℕ) → AreWithin limit empty
within_none limit h = subst (λ n. n ≤ limit) (sym (ap (λ o. unwrap_or o 0) (get-empty home_cmp h))) (omega arith)

-- ---- names below their counters
pub counted_none : (X : Type 0) (m : Counts) → AreCounted (empty {X = X} {R = name_cmp}) m
counted_none X m n lives = let no : false ≡ true = sym (ap is_some (get-empty name_cmp n)) ∙ lives in cc

pub counted_put : {X : Type 0} (things : FinMap name_cmp X) (m : Counts) (k : Name) (x : X) → AreCounted things m → k.n < count_in m (home_of k.maker k.own) → AreCounted (insert things k x) m
counted_put things m k x counts below n lives = by (eq_by_cmp name_cmp n k) refl (sym (ap is_some (get-insert name_total things k x n)) ∙ lives)
  where
    by : (b : Bool) → eq_by_cmp name_cmp n k ≡ b → is_some (cond b (Some x) (get things n)) ≡ true → n.n < count_in m (home_of n.maker n.own)
    by true e l = subst (λ (q : Name). q.n < count_in m (home_of q.maker q.own)) (sym (same_name n k e)) below
    by false e l = counts n l

pub counted_more : {X : Type 0} (things : FinMap name_cmp X) (m : Counts) (home : Home) → AreCounted things m → AreCounted things (counted m home)
counted_more things m home counts n lives =
    let less = counts n lives in
    let up = count_more m home (home_of n.maker n.own) in
    omega arith

pub counted_raised : {X : Type 0} (things : FinMap name_cmp X) (m : Counts) (home : Home) (k : ℕ) → AreCounted things m → AreCounted things (raised m home k)
counted_raised things m home k counts n lives =
    let less = counts n lives in
    let up = count_raised m home k (home_of n.maker n.own) in
    omega arith

-- one thing more of a home, at its next number
pub counted_next : {X : Type 0} (things : FinMap name_cmp X) (m : Counts) (home : Home) (x : X) → AreCounted things m → AreCounted (insert things (name_of home (count_in m home)) x) (counted m home)
counted_next things m home x counts =
    let next = count_next m home in
    counted_put things (counted m home) (name_of home (count_in m home)) x (counted_more things m home counts) (omega arith)

-- what lives is changed
pub counted_change : {X : Type 0} (things : FinMap name_cmp X) (m : Counts) (k : Name) (x : X) → AreCounted things m → IsTrue (contains_key things k) → AreCounted (insert things k x) m
counted_change things m k x counts lives = counted_put things m k x counts (counts k lives)

-- a home's next name does not live
pub next_is_new : {X : Type 0} (things : FinMap name_cmp X) (m : Counts) (home : Home) → AreCounted things m → contains_key things (name_of home (count_in m home)) ≡ false
next_is_new things m home counts = by (contains_key things (name_of home (count_in m home))) refl
  where
    by : (b : Bool) → contains_key things (name_of home (count_in m home)) ≡ b → b ≡ false
    by true e = let less = counts (name_of home (count_in m home)) e in absurd (omega arith)
    by false e = refl

-- what follows from a success and from a refusal alike
pub either_way : {X Y : Type 0} (P : Type 0) {A B : Type 0} (r : Result X Y) → OnOk r A → OnErr r B → (A → P) → (B → P) → P
either_way P (Ok x) a b f g = f a
either_way P (Err y) a b f g = g b
