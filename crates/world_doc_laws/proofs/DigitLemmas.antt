-- The digits of bytes, none of them a capital, are read as the bytes.
use Rattle.std.proofs.Common.{◌≡◌, ◌≤◌, ℕ, zero, suc, false, List, [], ◌∷◌, length, Some, refl, ap, ◌∙◌, arith, le-leb, slice_index}
use Rattle.std.specs.Prelude.{◌||◌, ◌/◌, ◌%◌, if◌then◌else◌, None, option_and_then, option_map}
use Rattle.std.specs.List.{list_any}
use Rattle.std.proofs.lemmas.Bool.{or_from, or_parts}
use Rattle.hex.specs.Hex.{lower_digits, encode_with, encode_lower, decode_of, IsBytes}
use Rattle.hex.proofs.HexLemmas.{length-encode_with, decode_of-encode_lower}
use Rattle.world_doc_terms.specs.Breaks.{only_if}
use Rattle.world_doc_terms.specs.Stores.{a_text}
use Rattle.world_doc_terms.specs.Numbered.{is_capital, bytes_or, bytes_of_hex}
use Rattle.world_doc_laws.specs.Saved.{BytesAreRead}

no_capital_at : (xs : List ℕ) → list_any is_capital xs ≡ false → (d : ℕ) → is_capital (slice_index xs d) ≡ false
no_capital_at [] e d = refl
no_capital_at (x ∷ xs) e zero = (or_parts (is_capital x) (list_any is_capital xs) e).0
no_capital_at (x ∷ xs) e (suc d) = no_capital_at xs (or_parts (is_capital x) (list_any is_capital xs) e).1 d

no_capitals : (xs : List ℕ) → list_any is_capital (encode_with lower_digits xs) ≡ false
unfolding encode_with
no_capitals [] = refl
no_capitals (b ∷ rest) =
    or_from (is_capital (slice_index lower_digits (b / 16))) (is_capital (slice_index lower_digits (b % 16)) || list_any is_capital (encode_with lower_digits rest)) (no_capital_at lower_digits refl (b / 16))
    (or_from (is_capital (slice_index lower_digits (b % 16))) (list_any is_capital (encode_with lower_digits rest)) (no_capital_at lower_digits refl (b % 16)) (no_capitals rest))

spelled : (bytes : List ℕ) → IsBytes bytes → bytes_of_hex (encode_lower bytes) ≡ Some bytes
spelled bytes h = ap (λ b. if b then None else bytes_or (decode_of (encode_lower bytes))) (no_capitals bytes) ∙ ap bytes_or (decode_of-encode_lower bytes h)

pub bytes_read : BytesAreRead
bytes_read bytes h few =
    let twice = length-encode_with lower_digits bytes in
    let fits : length (encode_lower bytes) ≤ 2097152 = omega (arith, twice) in
    ap (λ b. option_map a_text (option_and_then bytes_of_hex (only_if b (encode_lower bytes)))) (le-leb (length (encode_lower bytes)) 2097152 fits)
    ∙ ap (option_map a_text) (spelled bytes h)
