-- A plain numeral with the fewest digits that are read as a float is laid out.
use Rattle.std.proofs.Common.{◌≡◌, ◌≤◌, List, length, true, Option, Some, sym, ◌∙◌, subst, ℕ}
use Rattle.std.specs.Float.{Float, binary64, float_is_finite}
use Rattle.fast_float.specs.Parse.{parse_float}
use Rattle.ryu.specs.Plain.{IsPlusNumber}
use Rattle.json.specs.Token.{number}
use Rattle.serde_json.specs.Data.{Num, float}
use Rattle.serde_json.proofs.Numbers.{number_of-plus}
use Rattle.shortest_numerals.specs.Shortest.{IsShortestText}
use Rattle.world_save_terms.specs.Compact.{most_number, IsNumeralOf, IsLaidOut}

one_float : (x y : Float) → ◌≡◌ {A = Option Num} (Some (float x)) (Some (float y)) → x ≡ y
one_float x y e = cc

pub float_laid_out : (s : List ℕ) (x : Float) → parse_float binary64 s ≡ Some x → (float_is_finite x ≡ true) × IsPlusNumber 16 4 s × (length s ≤ most_number) → IsShortestText x s → IsLaidOut (number s)
unfolding IsNumeralOf
float_laid_out s x parses h fewest y is = (h.1, h.2, subst (λ z. IsShortestText z s) (one_float x y (sym (number_of-plus 16 4 s x h.1 parses h.0) ∙ is)) fewest)
