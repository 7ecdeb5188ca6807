-- Canonical text is UTF-8.
use Rattle.std.proofs.Common.{◌≡◌, ℕ, zero, suc, ◌+◌, ◌%◌, ◌<◌, ◌^◌, ◌&&◌, nat_lt, Bool, true, List, [], ◌∷◌, pos, negsuc, refl, arith}
use Rattle.std.proofs.lemmas.Bool.{and_parts, ltb-true, agree_below_at}
use Rattle.std.proofs.lemmas.Fmt.{decimal_by_steps}
use Rattle.std.specs.Fmt.{decimal}
use Rattle.std.specs.Str.{IsUtf8, IsAscii}
use Rattle.std.proofs.lemmas.Str.{IsUtf8-nil, IsUtf8-append, IsUtf8-from_ascii}
use Rattle.lam_lexer.specs.declared.token.TokenKind.{TokenKind}
use Rattle.lam_lexer.specs.declared.token.TokenKind.TheVariants as Kind
use Rattle.lam_print.specs.Pieces.{Piece, token, blank, line, spell_byte, spell_text, spelling, indent, written, kinds}
use Rattle.lam_print.specs.Law.{Fits, AllFit, AllBytes}

-- one byte, and others before more
one : (b : ℕ) → b < 128 → IsAscii (b ∷ [])
one b h zero = h
one b h (suc i) = omega arith

ascii_utf8 : (b : ℕ) → b < 128 → IsUtf8 (b ∷ [])
ascii_utf8 b h = IsUtf8-from_ascii (b ∷ []) (one b h)

before : (b : ℕ) (bs : List ℕ) → b < 128 → IsUtf8 bs → IsUtf8 (b ∷ bs)
before b bs h u = IsUtf8-append (b ∷ []) bs (ascii_utf8 b h) u

abbrev all_ascii : List ℕ → Bool
all_ascii [] = true
all_ascii (b ∷ bs) = nat_lt b 128 && all_ascii bs

ascii_text : (bs : List ℕ) → all_ascii bs ≡ true → IsUtf8 bs
ascii_text [] h = IsUtf8-nil
ascii_text (b ∷ bs) h = let p = and_parts (nat_lt b 128) (all_ascii bs) h in before b bs (ltb-true b 128 p.0) (ascii_text bs p.1)

byte_utf8 : (b : ℕ) → b < 256 → IsUtf8 (spell_byte b)
byte_utf8 b h = ascii_text (spell_byte b) (agree_below_at (λ b. all_ascii (spell_byte b)) (λ b. true) 256 b refl h)

text_utf8 : (bs : List ℕ) → AllBytes bs → IsUtf8 (spell_text bs)
text_utf8 [] a = ascii_utf8 34 (omega arith)
text_utf8 (b ∷ bs) a = IsUtf8-append (spell_byte b) (spell_text bs) (byte_utf8 b a.0) (text_utf8 bs a.1)

digit_utf8 : (n : ℕ) → n < 10 → IsUtf8 ((48 + n) ∷ [])
digit_utf8 n h = ascii_utf8 (48 + n) (omega arith)

decimal_utf8 : (n : ℕ) → n < 2 ^ 64 → IsUtf8 (decimal n)
decimal_utf8 n h = decimal_by_steps (λ n ds. IsUtf8 ds) digit_utf8 (λ n ds g k. IsUtf8-append ds ((48 + n % 10) ∷ []) k (digit_utf8 (n % 10) (omega arith))) n h

spelling_utf8 : (k : TokenKind) → Fits k → IsUtf8 (spelling k)
spelling_utf8 (Kind.Id name) f = f.1
spelling_utf8 (Kind.Number (pos n)) f = decimal_utf8 n (omega arith)
spelling_utf8 (Kind.Number (negsuc n)) f = absurd f
spelling_utf8 (Kind.Text bytes) f = before 34 (spell_text bytes) (omega arith) (text_utf8 bytes f.0)
spelling_utf8 k f = ascii_text (spelling k) refl

indent_utf8 : (n : ℕ) (bs : List ℕ) → IsUtf8 bs → IsUtf8 (indent n bs)
indent_utf8 zero bs u = u
indent_utf8 (suc n) bs u = before 32 (32 ∷ indent n bs) (omega arith) (before 32 (indent n bs) (omega arith) (indent_utf8 n bs u))

pub written_utf8 : (ps : List Piece) → AllFit (kinds ps) → IsUtf8 (written ps)
written_utf8 [] f = IsUtf8-nil
written_utf8 (token k ∷ ps) f = IsUtf8-append (spelling k) (written ps) (spelling_utf8 k f.0) (written_utf8 ps f.1)
written_utf8 (blank ∷ ps) f = before 32 (written ps) (omega arith) (written_utf8 ps f)
written_utf8 (line n ∷ ps) f = before 10 (indent n (written ps)) (omega arith) (indent_utf8 n (written ps) (written_utf8 ps f))
