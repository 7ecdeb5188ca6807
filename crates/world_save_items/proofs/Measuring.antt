-- How many bytes a path takes, by those of the path of its directory.
use Rattle.std.proofs.Common.{◌≡◌, ◌+◌, ℕ, List, [], ◌∷◌, ◌++◌, length, refl, ap, ◌∙◌, arith, length-append}
use Rattle.std.proofs.lemmas.Grind.{flat_map-append}
use Rattle.std.specs.Prelude.{Bool, true, false, cond, nat_lt}
use Rattle.json.specs.Print.{escape, escape_byte, escape_letter}
use Rattle.world_save_terms.specs.Items.{below}
use Rattle.world_save_items.specs.Measures.{byte_size, text_size}

pub escape-append : (xs ys : List ℕ) → length (escape (xs ++ ys)) ≡ length (escape xs) + length (escape ys)
escape-append xs ys = ap length (flat_map-append escape_byte xs ys) ∙ length-append (escape xs) (escape ys)

slash : (ys : List ℕ) → length (escape (47 ∷ ys)) ≡ 1 + length (escape ys)
unfolding escape_byte
slash ys = omega arith

-- in another directory
pub path_inside : (path entry : List ℕ) → (length path ≡ 0 → ⊥) → length (escape (below path entry)) ≡ length (escape path) + 1 + length (escape entry)
path_inside [] entry some = absurd (some refl)
path_inside (b ∷ bs) entry some = let e = escape-append (b ∷ bs) (47 ∷ entry) in let s = slash entry in omega arith

-- ---- a byte

by_tests : (x : ℕ) (p q : Bool) (a b c : List ℕ) → length (cond p a (cond q b c)) ≡ cond p (length a) (cond q (length b) (length c))
by_tests x true q a b c = refl
by_tests x false true a b c = refl
by_tests x false false a b c = refl

pub byte_size_is : (x : ℕ) → length (escape_byte x) ≡ byte_size x
unfolding escape_byte
byte_size_is x = by_tests x (nat_lt 0 (escape_letter x)) (nat_lt x 32) _ _ _

pub text_size_is : (xs : List ℕ) → text_size xs ≡ length (escape xs)
text_size_is [] = refl
text_size_is (x ∷ xs) = let e = length-append (escape_byte x) (escape xs) in let b = byte_size_is x in let more = text_size_is xs in omega arith
