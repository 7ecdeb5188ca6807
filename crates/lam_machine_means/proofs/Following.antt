-- What is left of a tree after answers, and the ask that comes next.
use Rattle.std.proofs.Common.{◌≡◌, Bool, true, false, ◌≤◌, List, [], ◌∷◌, ◌++◌, length, map, refl, sym, ap, ◌∙◌, subst, arith}
use Rattle.std.specs.Prelude.{if◌then◌else◌}
use Rattle.lam_asks.specs.declared.answer.Answer.{Answer}
use Rattle.lam_asks.specs.declared.ask.Ask.{Ask}
use Rattle.lam_asks.specs.Suits.{fits}
use Rattle.lam_meaning.specs.Trees.{Asked, Tree, asks}
use Rattle.lam_meaning.specs.Plays.{asks_of, AllFit}

abbrev pub rest_of : {A : Type 0} → Tree A → List Answer → Tree A
rest_of (asks q go) [] = asks q go
rest_of (asks q go) (x ∷ xs) = rest_of (go x) xs
rest_of t xs = t

pub rest_none : {A : Type 0} (t : Tree A) → rest_of t [] ≡ t
rest_none (asks q go) = refl
rest_none t = refl

pub record NextAsk {A : Type 0} (t : Tree A) (xs : List Answer) (a : Ask) : Type 0 where
  pub q : Asked
  pub go : Answer → Tree A
  pub here : rest_of t xs ≡ asks q go
  pub same : q.ask ≡ a

-- ---- answers that suit

module _ {A : Type 0} (q : Asked) (go : Answer → Tree A) (x : Answer) (xs : List Answer) where
  asks_cons : fits q.want x ≡ true → asks_of (asks q go) (x ∷ xs) ≡ q ∷ asks_of (go x) xs
  asks_cons e = ap (λ b. if b then q ∷ asks_of (go x) xs else q ∷ []) e

  fit_parts : AllFit (asks_of (asks q go) (x ∷ xs)) (x ∷ xs) → (fits q.want x ≡ true) × AllFit (asks_of (go x) xs) xs
  fit_parts h = by (fits q.want x) refl h
    where
      by : (b : Bool) → fits q.want x ≡ b → AllFit (if b then q ∷ asks_of (go x) xs else q ∷ []) (x ∷ xs) → (fits q.want x ≡ true) × AllFit (asks_of (go x) xs) xs
      by true e h = h
      by false e h = absurd (let z = h.0 in cc)

  fit_join : fits q.want x ≡ true → AllFit (asks_of (go x) xs) xs → AllFit (asks_of (asks q go) (x ∷ xs)) (x ∷ xs)
  fit_join e h = subst (λ qs. AllFit qs (x ∷ xs)) (sym (asks_cons e)) (e, h)

pub fit_none : {A : Type 0} (t : Tree A) → AllFit (asks_of t []) []
fit_none (asks q go) = tt
fit_none t = tt

same_head : (a b : Ask) (xs ys : List Ask) → a ∷ xs ≡ b ∷ ys → (a ≡ b) × (xs ≡ ys)
same_head a b xs ys e = (cc, cc)

abbrev pub plain : List Asked → List Ask
plain qs = map (λ q. q.ask) qs

-- as many asks as answers, and one more: it comes next
pub next_is : {A : Type 0} (t : Tree A) (xs : List Answer) (made : List Ask) (a : Ask) (rest : List Ask) → AllFit (asks_of t xs) xs → plain (asks_of t xs) ≡ (made ++ a ∷ []) ++ rest → length made ≡ length xs → NextAsk t xs a
next_is (asks q go) [] [] a rest h e n = record { q = q; go = go; here = refl; same = (same_head q.ask a [] rest e).0 }
next_is (asks q go) [] (b ∷ made) a rest h e n = absurd (omega (arith, n))
next_is (asks q go) (x ∷ xs) [] a rest h e n = absurd (omega (arith, n))
next_is (asks q go) (x ∷ xs) (b ∷ made) a rest h e n =
    let p = fit_parts q go x xs h in
    let tail = same_head q.ask b (plain (asks_of (go x) xs)) ((made ++ a ∷ []) ++ rest) (sym (ap plain (asks_cons q go x xs p.0)) ∙ e) in
    let m = next_is (go x) xs made a rest p.1 tail.1 (omega (arith, n)) in
    record { q = m.q; go = m.go; here = m.here; same = m.same }
next_is t xs [] a rest h e n = absurd cc
next_is t xs made a rest h e n = absurd cc

module _ {A : Type 0} (q : Asked) (go : Answer → Tree A) (x : Answer) where
  same_ask : (p : Asked) (k : Answer → Tree A) → asks p k ≡ asks q go → p ≡ q
  same_ask p k e = cc

  same_go : (p : Asked) (k : Answer → Tree A) → asks p k ≡ asks q go → k ≡ go
  same_go p k e = cc

  -- one more answer that suits
  pub more_fit : (t : Tree A) (xs : List Answer) → AllFit (asks_of t xs) xs → rest_of t xs ≡ asks q go → fits q.want x ≡ true → AllFit (asks_of t (xs ++ x ∷ [])) (xs ++ x ∷ [])
  more_fit (asks p k) [] h e s = fit_join p k x [] (subst (λ (z : Asked). fits z.want x ≡ true) (sym (same_ask p k e)) s) (fit_none (k x))
  more_fit (asks p k) (y ∷ xs) h e s = let parts = fit_parts p k y xs h in fit_join p k y (xs ++ x ∷ []) parts.0 (more_fit (k y) xs parts.1 e s)
  more_fit t xs h e s = absurd cc

  pub rest_more : (t : Tree A) (xs : List Answer) → rest_of t xs ≡ asks q go → rest_of t (xs ++ x ∷ []) ≡ go x
  rest_more (asks p k) [] e = rest_none (k x) ∙ ap (λ (f : Answer → Tree A). f x) (same_go p k e)
  rest_more (asks p k) (y ∷ xs) e = rest_more (k y) xs e
  rest_more t xs e = absurd cc

-- ---- fewer asks, and more

pub front_fit : (qs more : List Asked) (xs : List Answer) → AllFit (qs ++ more) xs → AllFit qs xs
front_fit [] more xs h = tt
front_fit (q ∷ qs) more [] h = tt
front_fit (q ∷ qs) more (x ∷ xs) h = (h.0, front_fit qs more xs h.1)

-- what is asked beyond the answers has none that it could not suit
pub beyond_fit : (qs more : List Asked) (xs : List Answer) → length xs ≤ length qs → AllFit qs xs → AllFit (qs ++ more) xs
beyond_fit [] [] xs le h = tt
beyond_fit [] (q ∷ more) [] le h = tt
beyond_fit [] (q ∷ more) (x ∷ xs) le h = absurd (omega (arith, le))
beyond_fit (q ∷ qs) more [] le h = tt
beyond_fit (q ∷ qs) more (x ∷ xs) le h = (h.0, beyond_fit qs more xs (omega (arith, le)) h.1)
