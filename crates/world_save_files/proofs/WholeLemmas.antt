-- The text of a whole number is that of no other number.
use Rattle.std.proofs.Common.{◌≡◌, ◌^◌, ◌<◌, ℕ, suc, ℤ, pos, negsuc, List, Some, decimal, SFits, w64, refl, sym, ap, ◌∙◌, subst, arith}
use Rattle.std.specs.Fmt.{signed_decimal}
use Rattle.json.specs.Token.{number}
use Rattle.serde_json.specs.Data.{Num, unsigned, negative, float}
use Rattle.serde_json.specs.Read.{number_of}
use Rattle.serde_json.proofs.Numbers.{number_of-decimal, number_of-negative}
use Rattle.world_save_terms.specs.Compact.{IsLaidOut}

of_unsigned : (s : List ℕ) (n : ℕ) → number_of s ≡ Some (unsigned n) → IsLaidOut (number s)
of_unsigned s n e x is = absurd (let no : Some (unsigned n) ≡ Some (float x) = sym e ∙ is in cc)

of_negative : (s : List ℕ) (z : ℤ) → number_of s ≡ Some (negative z) → IsLaidOut (number s)
of_negative s z e x is = absurd (let no : Some (negative z) ≡ Some (float x) = sym e ∙ is in cc)

pub decimal_laid_out : (s : List ℕ) (n : ℕ) → s ≡ decimal n → n < 2 ^ 64 → IsLaidOut (number s)
decimal_laid_out s n e h = of_unsigned s n (ap number_of e ∙ number_of-decimal n h)

pub signed_laid_out : (s : List ℕ) (z : ℤ) → s ≡ signed_decimal z → SFits w64 z → IsLaidOut (number s)
signed_laid_out s (pos n) e h = decimal_laid_out s n e (grind arith)
signed_laid_out s (negsuc n) e h = of_negative s (negsuc n) (ap number_of e ∙ number_of-negative n (grind arith))
