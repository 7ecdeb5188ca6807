-- What a text between quotes means.
use Rattle.std.specs.Prelude.{◌≡◌, ℕ, ◌+◌, ◌-◌, ◌*◌, ◌<◌, ◌≤◌, ◌==◌, ◌&&◌, nat_le, if◌then◌else◌, List, [], ◌∷◌, ◌++◌, Option, Some, None, length}
use Rattle.std.specs.Char.{len_utf8, encode_utf8}
use Rattle.lam_lexer.specs.Characters.{is_digit}
use Rattle.lam_lexer.specs.declared.fault.LexFault.{LexFault}
use Rattle.lam_lexer.specs.declared.fault.LexFault.TheVariants.{BadEscape, OpenText}

-- the byte of the escape of one letter: \n, \t, \" and \\
abbrev pub letter : ℕ → Option ℕ
letter c = if c == 110 then Some 10 else (if c == 116 then Some 9 else (if c == 34 then Some 34 else (if c == 92 then Some 92 else None)))

-- the value of a hexadecimal digit, upper or lower case
abbrev pub hex_value : ℕ → Option ℕ
hex_value c = if is_digit c then Some (c - 48) else (if nat_le 97 c && nat_le c 102 then Some (c - 87) else (if nat_le 65 c && nat_le c 70 then Some (c - 55) else None))

-- what comes next in a text: its end, with what is left behind it; some bytes, with how many bytes spell them and what
-- is left; a bad escape; or no end on this line
pub data Part : Type 0 where
  end_quote : (rest : List ℕ) → Part
  means : (bytes : List ℕ) (size : ℕ) (rest : List ℕ) → Part
  bad_escape : Part
  no_end : Part

abbrev pub hex_part : Option ℕ → Option ℕ → List ℕ → Part
hex_part (Some x) (Some y) rest = means ((x * 16 + y) ∷ []) 4 rest
hex_part (Some x) None rest = bad_escape
hex_part None y rest = bad_escape

abbrev pub letter_part : Option ℕ → List ℕ → Part
letter_part (Some b) rest = means (b ∷ []) 2 rest
letter_part None rest = bad_escape

-- behind \x
abbrev pub after_x : List ℕ → Part
after_x (h ∷ l ∷ rest) = hex_part (hex_value h) (hex_value l) rest
after_x _ = bad_escape

-- behind a backslash
abbrev pub after_backslash : List ℕ → Part
after_backslash (c ∷ rest) = if c == 120 then after_x rest else letter_part (letter c) rest
after_backslash [] = bad_escape

abbrev pub part : List ℕ → Part
part [] = no_end
part (c ∷ rest) =
    if c == 34 then end_quote rest else
    (if c == 92 then after_backslash rest else
    (if c == 10 then no_end else means (encode_utf8 c) (len_utf8 c) rest))

-- a text means at most so many bytes
abbrev pub room : ℕ
room = 65536

-- `Means n text bytes size rest`: behind n bytes, the text means these bytes and ends; so many bytes spell them and the
-- quote, and this is left behind it
pub data Means : ℕ → List ℕ → List ℕ → ℕ → List ℕ → Type 0 where
  ends : {n : ℕ} {text rest : List ℕ} → part text ≡ end_quote rest → Means n text [] 1 rest
  goes_on : {n size more : ℕ} {text between rest bytes others : List ℕ} → part text ≡ means bytes size between → n + length bytes ≤ room → Means (n + length bytes) between others more rest → Means n text (bytes ++ others) (size + more) rest

-- `TextFault quote n at text f`: behind n bytes of the text that begins at the quote, f is the first fault
pub data TextFault (quote : ℕ) : ℕ → ℕ → List ℕ → LexFault → Type 0 where
  bad : {n at : ℕ} {text : List ℕ} → part text ≡ bad_escape → TextFault quote n at text (BadEscape at)
  open_end : {n at : ℕ} {text : List ℕ} → part text ≡ no_end → TextFault quote n at text (OpenText quote)
  too_long : {n at size : ℕ} {text bytes rest : List ℕ} → part text ≡ means bytes size rest → room < n + length bytes → TextFault quote n at text (OpenText quote)
  later : {n at size : ℕ} {text bytes rest : List ℕ} {f : LexFault} → part text ≡ means bytes size rest → n + length bytes ≤ room → TextFault quote (n + length bytes) (at + size) rest f → TextFault quote n at text f
