-- Locals at an entry, one after another.
use Rattle.std.proofs.Common.{◌≡◌, ℕ, zero, suc, ◌+◌, ◌<◌, ◌≤◌, nat_lt, if◌then◌else◌, [], ◌∷◌, ◌++◌, replicate, refl, sym, ap, ◌∙◌, arith, ⊎_elim}
use Rattle.std.proofs.lemmas.Bool.{lt-ltb, le-ltb, cases_lt}
use Rattle.guarded_code.specs.declared.known.ValueKind.TheVariants.{Other, Unknown}
use Rattle.guarded_code.specs.declared.known.Known.{Known}
use Rattle.guarded_code.specs.Descriptions.{entry_locals, untested}

abbrev local : ℕ → ℕ → Known
local given n = untested (if nat_lt n given then Unknown else Other)

null_more : (n : ℕ) → entry_locals 0 (suc n) ≡ entry_locals 0 n ++ untested Other ∷ []
null_more zero = refl
null_more (suc n) = ap (λ r. untested Other ∷ r) (null_more n)

one_more : (given n : ℕ) → entry_locals given (suc n) ≡ entry_locals given n ++ local given n ∷ []
one_more zero n =
    let le : 0 ≤ n = omega arith in
    null_more n ∙ ap (λ b. entry_locals 0 n ++ untested (if b then Unknown else Other) ∷ []) (sym (le-ltb n 0 le))
one_more (suc g) zero = let lt : 0 < suc g = omega arith in ap (λ b. untested (if b then Unknown else Other) ∷ []) (sym (lt-ltb 0 (suc g) lt))
one_more (suc g) (suc n) =
    ap (λ r. untested Unknown ∷ r) (one_more g n) ∙ ap (λ b. untested Unknown ∷ (entry_locals g n ++ untested (if b then Unknown else Other) ∷ [])) (same g n)
  where
    same : (g n : ℕ) → nat_lt n g ≡ nat_lt (suc n) (suc g)
    same g n =
        ⊎_elim
        (λ lt. lt-ltb n g lt ∙ sym (lt-ltb (suc n) (suc g) (omega (arith, lt))))
        (λ ge. le-ltb n g ge ∙ sym (le-ltb (suc n) (suc g) (omega (arith, ge))))
        (cases_lt n g)

pub entry_more : (given n : ℕ) → entry_locals given (n + 1) ≡ entry_locals given n ++ local given n ∷ []
entry_more given n = let e : n + 1 ≡ suc n = omega arith in ap (entry_locals given) e ∙ one_more given n

pub all_given : (n : ℕ) → entry_locals n n ≡ replicate n (untested Unknown)
all_given zero = refl
all_given (suc n) = ap (λ r. untested Unknown ∷ r) (all_given n)
