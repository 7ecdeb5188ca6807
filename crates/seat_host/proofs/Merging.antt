-- Places one by one, from those that hold turns.
use Rattle.std.proofs.Common.{◌≡◌, ℕ, zero, suc, ◌+◌, ◌<◌, ◌==◌, List, [], ◌∷◌, ◌++◌, Some, None, Option, Bool, true, false, cond, refl, sym, ap, ◌∙◌, arith, append_assoc}
use Rattle.std.specs.Prelude.{drop}
use Rattle.seat_host.specs.Places.{spread}
use Rattle.seat_host.specs.Books.{first_at, passed}

drop_one : {A : Type 0} (n : ℕ) (xs : List A) → drop 1 (drop n xs) ≡ drop (n + 1) xs
drop_one zero xs = refl
drop_one (suc n) [] = let e : suc n + 1 ≡ suc (n + 1) = omega arith in sym (ap (λ (m : ℕ). drop m []) e)
drop_one (suc n) (x ∷ xs) = let e : suc n + 1 ≡ suc (n + 1) = omega arith in drop_one n xs ∙ sym (ap (λ (m : ℕ). drop m (x ∷ xs)) e)

holds : (b : Bool) (u t : ℕ) (xs ys : List (Option ℕ)) → cond b (Some u) None ≡ Some t → cond b (Some u ∷ xs) (None ∷ ys) ≡ Some t ∷ xs
holds true u t xs ys e = ap (λ o. o ∷ xs) e
holds false u t xs ys e = absurd (cc e)

empty : (b : Bool) (u : ℕ) (xs ys : List (Option ℕ)) → cond b (Some u) None ≡ None → cond b (Some u ∷ xs) (None ∷ ys) ≡ None ∷ ys
empty true u xs ys e = absurd (cc e)
empty false u xs ys e = refl

spread_turn : (k r t : ℕ) (held turns : List ℕ) → first_at k held turns ≡ Some t → spread k (suc r) held turns ≡ Some t ∷ spread (k + 1) r (drop 1 held) (drop 1 turns)
spread_turn k r t [] turns e = absurd (cc e)
spread_turn k r t (p ∷ ps) [] e = absurd (cc e)
spread_turn k r t (p ∷ ps) (u ∷ us) e = holds (p == k) u t (spread (k + 1) r ps us) (spread (k + 1) r (p ∷ ps) (u ∷ us)) e

spread_none : (k r : ℕ) (held turns : List ℕ) → first_at k held turns ≡ None → spread k (suc r) held turns ≡ None ∷ spread (k + 1) r held turns
spread_none k r [] turns e = refl
spread_none k r (p ∷ ps) [] e = refl
spread_none k r (p ∷ ps) (u ∷ us) e = empty (p == k) u (spread (k + 1) r ps us) (spread (k + 1) r (p ∷ ps) (u ∷ us)) e

spread_next : (k r next : ℕ) (held turns : List ℕ) (x : Option ℕ) → first_at k (drop next held) (drop next turns) ≡ x
    → spread k (suc r) (drop next held) (drop next turns) ≡ x ∷ spread (k + 1) r (drop (passed next x) held) (drop (passed next x) turns)
spread_next k r next held turns None e = spread_none k r (drop next held) (drop next turns) e
spread_next k r next held turns (Some t) e =
    spread_turn k r t (drop next held) (drop next turns) e ∙ (λ i. Some t ∷ spread (k + 1) r (drop_one next held i) (drop_one next turns i))

-- one place more is told
pub goes_on : (k count rest next after : ℕ) (held turns : List ℕ) (ps all : List (Option ℕ)) (x : Option ℕ) → k < count → k + rest ≡ count → x ≡ first_at k (drop next held) (drop next turns) → after ≡ passed next x
    → ps ++ spread k rest (drop next held) (drop next turns) ≡ all → (more : ℕ) × (k + 1 + more ≡ count) × ((ps ++ x ∷ []) ++ spread (k + 1) more (drop after held) (drop after turns) ≡ all)
goes_on k count zero next after held turns ps all x lt is at on e = absurd (omega arith)
goes_on k count (suc rest) next after held turns ps all x lt is at on e =
    let tail = spread (k + 1) rest (drop (passed next x) held) (drop (passed next x) turns) in (
      rest,
      omega arith,
      (λ i. (ps ++ x ∷ []) ++ spread (k + 1) rest (drop (on i) held) (drop (on i) turns)) ∙ append_assoc ps (x ∷ []) tail
          ∙ ap (λ l. ps ++ l) (sym (spread_next k rest next held turns x (sym at))) ∙ e,
    )
