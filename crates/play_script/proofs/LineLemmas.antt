-- laws of reading a script line by line
use Rattle.std.proofs.Common.{◌≡◌, ℕ, zero, suc, ◌+◌, ◌<◌, ◌≤◌, Bool, true, false, cond, eqb, ltb, leb, List, [], ◌∷◌, length, refl, ap, ◌∙◌, arith, Some, None, Result, Ok, Err}
use Rattle.std.specs.List.{slice_index}
use Rattle.std.specs.Str.{IsUtf8, IsAscii}
use Rattle.std.proofs.lemmas.Str.{IsUtf8-from_ascii}
use Rattle.std.proofs.lemmas.Bool.{and_parts, ltb-true}
use Rattle.std.proofs.lemmas.Bool.Decides.{nat_tests}
use Rattle.play_script.specs.Pieces.{Word, pieces, onto_first}
use Rattle.play_script.specs.Script.{Play, is_ascii, after_line, at_line, or_line, at_end, last_or, read_lines}

at_place : (b : ℕ) (bs : List ℕ) (i : ℕ) → b < 128 → IsAscii bs → slice_index (b ∷ bs) i < 128
at_place b bs zero less rest = less
at_place b bs (suc i) less rest = rest i

ascii : (bs : Word) → is_ascii bs ≡ true → IsAscii bs
ascii [] e = λ i. omega arith
ascii (b ∷ bs) e =
    let both : (ltb b 128 ≡ true) × (is_ascii bs ≡ true) = and_parts (ltb b 128) (is_ascii bs) e in
    let rest : IsAscii bs = ascii bs both.1 in
    λ i. at_place b bs i (ltb-true b 128 both.0) rest

pub ascii_text : (bs : Word) → is_ascii bs ≡ true → IsUtf8 bs
ascii_text bs e = IsUtf8-from_ascii bs (ascii bs e)

filled : {A : Type 0} (x : ℕ) (ps : List Word) (a b : A) → last_or (onto_first x ps) a b ≡ b
filled x [] a b = refl
filled x (p ∷ ps) a b = refl

-- pieces after a piece are at least one
pub more_pieces : {A : Type 0} (mark : ℕ) (text : Word) (a b : A) → last_or (pieces mark text) a b ≡ b
more_pieces mark [] a b = refl
more_pieces mark (x ∷ xs) a b = elim (eqb x mark) as (λ t. last_or (cond t ([] ∷ pieces mark xs) (onto_first x (pieces mark xs))) a b ≡ b) [ true ↦ refl | false ↦ filled x (pieces mark xs) a b ]

-- the reading of a text that goes on after a line
line_reads : (p : Play) (text line after : Word) (number : ℕ) → pieces 10 text ≡ line ∷ pieces 10 after → read_lines p (pieces 10 text) number ≡ or_line (at_line p line number) number (λ q. read_lines q (pieces 10 after) (number + 1))
line_reads p text line after number cut = ap (λ ls. read_lines p ls number) cut ∙ more_pieces 10 after (at_end p line number) (or_line (at_line p line number) number (λ q. read_lines q (pieces 10 after) (number + 1)))

pub line_taken : (whole : Result Play ℕ) (p q : Play) (text line after : Word) (number : ℕ) → whole ≡ read_lines p (pieces 10 text) number → pieces 10 text ≡ line ∷ pieces 10 after → number ≤ 65536 → after_line p line ≡ Some q → whole ≡ read_lines q (pieces 10 after) (number + 1)
line_taken whole p q text line after number so_far cut within taken =
    let test : leb number 65536 ≡ true = grind (arith, nat_tests) in
    so_far ∙ line_reads p text line after number cut ∙ rw (test, taken) refl

pub line_broken : (whole : Result Play ℕ) (p : Play) (text line after : Word) (number : ℕ) → whole ≡ read_lines p (pieces 10 text) number → pieces 10 text ≡ line ∷ pieces 10 after → after_line p line ≡ None → whole ≡ Err number
line_broken whole p text line after number so_far cut broken =
    so_far ∙ line_reads p text line after number cut ∙ refused (leb number 65536)
  where
    refused : (t : Bool) → or_line (cond t (after_line p line) None) number (λ q. read_lines q (pieces 10 after) (number + 1)) ≡ Err number
    refused true = rw broken refl
    refused false = refl

pub line_past : (whole : Result Play ℕ) (p : Play) (text line after : Word) (number : ℕ) → whole ≡ read_lines p (pieces 10 text) number → pieces 10 text ≡ line ∷ pieces 10 after → 65536 < number → whole ≡ Err number
line_past whole p text line after number so_far cut past =
    let test : leb number 65536 ≡ false = grind (arith, nat_tests) in
    so_far ∙ line_reads p text line after number cut ∙ rw test refl

pub all_read : (whole : Result Play ℕ) (p : Play) (text : Word) (number : ℕ) → whole ≡ read_lines p (pieces 10 text) number → length text ≡ 0 → whole ≡ Ok p
all_read whole p [] number so_far e = so_far
all_read whole p (b ∷ bs) number so_far e = absurd (omega arith)

pub open_rest : (whole : Result Play ℕ) (p : Play) (text : Word) (number : ℕ) → whole ≡ read_lines p (pieces 10 text) number → pieces 10 text ≡ text ∷ [] → 0 < length text → whole ≡ Err number
open_rest whole p [] number so_far uncut e = absurd (omega arith)
open_rest whole p (b ∷ bs) number so_far uncut e = so_far ∙ ap (λ ls. read_lines p ls number) uncut

pub no_bytes : (n : ℕ) → eqb n 0 ≡ true → n ≡ 0
no_bytes n e = grind (arith, nat_tests)

pub some_bytes : (n : ℕ) → eqb n 0 ≡ false → 0 < n
some_bytes n e = grind (arith, nat_tests)
