-- A number is read by its power of ten; a text of nothing is read as nothing; a text with a sign has one byte more.
use Rattle.std.proofs.Common.{◌≡◌, ◌≤◌, ◌<◌, ◌-◌, ◌^◌, ℕ, suc, ℤ, pos, negsuc, false, true, List, length, codes, Option, Some, refl, sym, ap, ◌∙◌, subst, arith, mul-one}
use Rattle.std.specs.Float.{Float, binary64, fin}
use Rattle.std.specs.Float.Ieee.{round, neg}
use Rattle.fast_float.specs.Parse.{parse_float}
use Rattle.fast_float.specs.Rounding.{nearest_to_decimal}
use Rattle.fast_float.proofs.OnLiterals.{fast_float_on_literals}
use Rattle.shortest_numerals.specs.Shortest.{up, down, read_as, IsShortest, IsShortestText, positive, negative, nothing, minus_nothing}
use Rattle.shortest_numerals.proofs.OneLength.{twice}

pub read_is : (digits : ℕ) (z : ℤ) → nearest_to_decimal binary64 false digits z ≡ read_as digits (up z) (down z)
read_is digits (pos e) = refl
read_is digits (negsuc e) = ap (λ n. round binary64 false n (10 ^ suc e)) (sym (mul-one digits))

-- ---- texts

some_is : (x y : Float) → ◌≡◌ {A = Option Float} (Some x) (Some y) → x ≡ y
some_is x y e = cc

nil_text : parse_float binary64 (codes "0.0") ≡ Some (fin false 0 (pos 0))
unfolding fast_float_on_literals
nil_text = refl

minus_nil_text : parse_float binary64 (codes "-0.0") ≡ Some (fin true 0 (pos 0))
unfolding fast_float_on_literals
minus_nil_text = refl

module _ (x : Float) (text : List ℕ) where
  pub is_nil : parse_float binary64 text ≡ Some x → text ≡ codes "0.0" → IsShortestText x text
  is_nil p e = nothing (some_is x (fin false 0 (pos 0)) (sym p ∙ ap (parse_float binary64) e ∙ nil_text)) e

  pub is_minus_nil : parse_float binary64 text ≡ Some x → text ≡ codes "-0.0" → IsShortestText x text
  is_minus_nil p e = minus_nothing (some_is x (fin true 0 (pos 0)) (sym p ∙ ap (parse_float binary64) e ∙ minus_nil_text)) e

  pub is_plain : (bytes : List ℕ) → bytes ≡ text → IsShortest x (length bytes) → IsShortestText x text
  is_plain bytes e s = positive (subst (λ t. IsShortest x (length t)) e s)

  pub is_signed : (bytes : List ℕ) → bytes ≡ text → IsShortest (neg x) (length bytes - 1) × (0 < length bytes) → IsShortestText x text
  is_signed bytes e s =
      let some = s.1 in
      let same = ap length e in
      negative (neg x) (length bytes - 1) (sym (twice x)) s.0 (omega (arith, some, same))
