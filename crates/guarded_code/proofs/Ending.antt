-- The last round is the first that changes nothing.
use Rattle.std.proofs.Common.{◌≡◌, ℕ, zero, suc, ◌+◌, Option, refl, sym, ap, ◌∙◌, arith}
use Rattle.guarded_code.specs.Rounds.{Table, Found, Holds, Broke, Sent, and_then, round, rounds, first, after}

module _ (D : Type 0) (meet : D → D → Option D) (passes : ℕ → D → Option (Sent D)) where
  -- one more round changes nothing, or it broke
  abbrev pub Still : Found D → Type 0
  Still (Holds t) = round D meet passes t ≡ Holds t
  Still (Broke a) = Unit {0}

  abbrev on : ℕ → Found D → Found D
  on n o = and_then o (λ t. rounds D meet passes n t)

  add : (m n : ℕ) (o : Found D) → ((t : Table D) → rounds D meet passes (m + n) t ≡ on n (rounds D meet passes m t)) → on (m + n) o ≡ on n (on m o)
  add m n (Holds t) h = h t
  add m n (Broke a) h = refl

  pub rounds_add : (m n : ℕ) (t : Table D) → rounds D meet passes (m + n) t ≡ on n (rounds D meet passes m t)
  rounds_add zero n t = let e : 0 + n ≡ n = omega arith in ap (λ k. rounds D meet passes k t) e
  rounds_add (suc m) n t =
      let e : suc m + n ≡ suc (m + n) = omega arith in
      ap (λ k. rounds D meet passes k t) e ∙ add m n (round D meet passes t) (rounds_add m n)

  stays_on : (n : ℕ) (o : Found D) → Still o → on n o ≡ o
  stays_on zero (Holds t) s = refl
  stays_on (suc n) (Holds t) s = ap (on n) s ∙ stays_on n (Holds t) s
  stays_on n (Broke a) s = refl

  -- so any two numbers of rounds after which nothing changes end alike
  pub one_end : (m n : ℕ) (t : Table D) (o p : Found D) → rounds D meet passes m t ≡ o → Still o → rounds D meet passes n t ≡ p → Still p → o ≡ p
  one_end m n t o p em so en sp =
      let e : m + n ≡ n + m = omega arith in
      sym (stays_on n o so) ∙ ap (on n) (sym em) ∙ sym (rounds_add m n t) ∙ ap (λ k. rounds D meet passes k t) e ∙ rounds_add n m t ∙ ap (on m) en ∙ stays_on m p sp

  pub after_one_end : (m n size : ℕ) (starts : Sent D) (o p : Found D) → after D meet passes m size starts ≡ o → Still o → after D meet passes n size starts ≡ p → Still p → o ≡ p
  after_one_end m n size starts o p em so en sp = by (first D meet passes size starts) em en
    where
      by : (f : Found D) → and_then f (λ t. rounds D meet passes m t) ≡ o → and_then f (λ t. rounds D meet passes n t) ≡ p → o ≡ p
      by (Holds t) em en = one_end m n t o p em so en sp
      by (Broke a) em en = sym em ∙ en
