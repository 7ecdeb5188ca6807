-- What the loop over a text keeps.
use Rattle.std.proofs.Common.{◌≡◌, ℕ, ◌+◌, ◌<◌, ◌≤◌, Bool, true, false, ◌==◌, if◌then◌else◌, Option, Some, None, List, [], ◌∷◌, ◌++◌, length, sym, ap, ◌∙◌, subst, arith, append_assoc, length-append, encode_utf8}
use Rattle.std.proofs.lemmas.List.{append-nil}
use Rattle.std.proofs.lemmas.Str.{length-encode, len_utf8_bounds}
use Rattle.std.specs.Char.{len_utf8}
use Rattle.lam_lexer.specs.declared.fault.LexFault.{LexFault}
use Rattle.lam_lexer.specs.declared.fault.LexFault.TheVariants.{OpenText}
use Rattle.lam_lexer.specs.Text.{Part, part, end_quote, means, bad_escape, no_end, after_backslash, after_x, letter, letter_part, hex_value, hex_part, room, Means, ends, goes_on, TextFault, too_long, later}
use Rattle.lam_lexer.specs.Reading.{size, IsText}
use Rattle.lam_lexer.proofs.Runs.{one_byte, size-cons}

-- ---- how many bytes a part is

abbrev pub Fits : ℕ → Part → Type 0
Fits k (end_quote rest) = 1 + size rest ≤ k
Fits k (means bytes n rest) = (0 < n) × (n + size rest ≤ k)
Fits k bad_escape = Unit {0}
Fits k no_end = Unit {0}

fits_if : (b : Bool) (k : ℕ) (p q : Part) → Fits k p → Fits k q → Fits k (if b then p else q)
fits_if true k p q g h = g
fits_if false k p q g h = h

fits_letter : (o : Option ℕ) (k : ℕ) (rest : List ℕ) → 2 + size rest ≤ k → Fits k (letter_part o rest)
fits_letter (Some b) k rest h = (omega arith, h)
fits_letter None k rest h = tt

fits_hex : (o p : Option ℕ) (k : ℕ) (rest : List ℕ) → 4 + size rest ≤ k → Fits k (hex_part o p rest)
fits_hex (Some x) (Some y) k rest h = (omega arith, h)
fits_hex (Some x) None k rest h = tt
fits_hex None p k rest h = tt

fits_x : (k : ℕ) (cs : List ℕ) → 2 + size cs ≤ k → Fits k (after_x cs)
fits_x k [] h = tt
fits_x k (c ∷ []) h = tt
fits_x k (c ∷ d ∷ cs) h =
    fits_hex (hex_value c) (hex_value d) k cs (omega (arith, h, one_byte c (d ∷ cs), one_byte d cs))

fits_backslash : (k : ℕ) (cs : List ℕ) → 1 + size cs ≤ k → Fits k (after_backslash cs)
fits_backslash k [] h = tt
fits_backslash k (c ∷ cs) h =
    let l : 2 + size cs ≤ k = omega (arith, h, one_byte c cs) in
    fits_if (c == 120) k (after_x cs) (letter_part (letter c) cs) (fits_x k cs l) (fits_letter (letter c) k cs l)

pub part_fits : (cs : List ℕ) → Fits (size cs) (part cs)
part_fits [] = tt
part_fits (c ∷ cs) =
    let k = size (c ∷ cs) in
    let itself = means (encode_utf8 c) (len_utf8 c) cs in
    let char : Fits k itself = (omega (arith, (len_utf8_bounds c).0), omega (arith, size-cons c cs)) in
    let line : Fits k (if c == 10 then no_end else itself) = fits_if (c == 10) k no_end itself tt char in
    let more = fits_if (c == 92) k (after_backslash cs) (if c == 10 then no_end else itself) (fits_backslash k cs (one_byte c cs)) line in
    fits_if (c == 34) k (end_quote cs) (if c == 92 then after_backslash cs else (if c == 10 then no_end else itself)) (one_byte c cs) more

pub end_fits : (cs rest : List ℕ) → part cs ≡ end_quote rest → 1 + size rest ≤ size cs
end_fits cs rest e = subst (Fits (size cs)) e (part_fits cs)

pub bytes_fit : (cs bytes rest : List ℕ) (n : ℕ) → part cs ≡ means bytes n rest → (0 < n) × (n + size rest ≤ size cs)
bytes_fit cs bytes rest n e = subst (Fits (size cs)) e (part_fits cs)

-- ---- the loop

pub record TextSoFar (quote : ℕ) (cs bytes rest : List ℕ) (to : ℕ) : Type 0 where
  pub count : ℕ
  pub position : to ≡ quote + 1 + count
  pub reads : (more : List ℕ) (n : ℕ) (left : List ℕ) → Means (length bytes) rest more n left → Means 0 cs (bytes ++ more) (count + n) left
  pub faults : (f : LexFault) → TextFault quote (length bytes) to rest f → TextFault quote 0 (quote + 1) cs f
  pub full : length bytes ≤ room
  pub place : to + size rest ≤ quote + 1 + size cs

-- some bytes more
pub text_on : {quote : ℕ} {cs bytes next rest after : List ℕ} {to : ℕ} (between : List ℕ) (n : ℕ) → part rest ≡ means between n after → length bytes + length between ≤ room → next ≡ bytes ++ between → TextSoFar quote cs bytes rest to → TextSoFar quote cs next after (to + n)
text_on {quote} {cs} {bytes} {next} {rest} {after} {to} between n p small e g =
    let l : length next ≡ length bytes + length between = ap length e ∙ length-append bytes between in
    record {
      count = g.count + n;
      position = omega (arith, g.position);
      reads = λ more m left h.
          let h1 = subst (λ (i : ℕ). Means i after more m left) l h in
          let r = g.reads (between ++ more) (n + m) left (goes_on p small h1) in
          let r1 = subst (λ (x : List ℕ). Means 0 cs x (g.count + (n + m)) left) (sym (append_assoc bytes between more) ∙ ap (λ (x : List ℕ). x ++ more) (sym e)) r in
          subst (λ (m : ℕ). Means 0 cs (next ++ more) m left) (omega arith) r1;
      faults = λ f h.
          let h1 = subst (λ (i : ℕ). TextFault quote i (to + n) after f) l h in
          g.faults f (later p small h1);
      full = omega (arith, l);
      place = omega (arith, g.place, (bytes_fit rest between after n p).1);
    }

pub text_closed : {quote : ℕ} {cs bytes rest after : List ℕ} {to : ℕ} → part rest ≡ end_quote after → TextSoFar quote cs bytes rest to → IsText cs quote bytes after (to + 1)
text_closed {quote} {cs} {bytes} {rest} {after} {to} p g = record {
  count = g.count + 1;
  read = subst (λ (x : List ℕ). Means 0 cs x (g.count + 1) after) (append-nil bytes) (g.reads [] 1 after (ends p));
  position = omega (arith, g.position);
  place = omega (arith, g.place, end_fits rest after p);
}

-- a character that means itself
pub text_char : {quote : ℕ} {cs bytes next rest after : List ℕ} {to : ℕ} (c n : ℕ) → n ≡ len_utf8 c → length bytes + n ≤ room → next ≡ bytes ++ encode_utf8 c → part rest ≡ means (encode_utf8 c) (len_utf8 c) after → TextSoFar quote cs bytes rest to → TextSoFar quote cs next after (to + n)
text_char {after = after} c n e small more p g =
    text_on (encode_utf8 c) n (p ∙ ap (λ (n : ℕ). means (encode_utf8 c) n after) (sym e)) (omega (arith, length-encode c)) more g

pub text_byte : {quote : ℕ} {cs bytes next rest after : List ℕ} {to : ℕ} (b n : ℕ) → length bytes < room → next ≡ bytes ++ b ∷ [] → part rest ≡ means (b ∷ []) n after → TextSoFar quote cs bytes rest to → TextSoFar quote cs next after (to + n)
text_byte b n small more p g = text_on (b ∷ []) n p (omega arith) more g

pub long_char : {quote : ℕ} {cs bytes rest after : List ℕ} {to : ℕ} (c n : ℕ) → n ≡ len_utf8 c → room < length bytes + n → part rest ≡ means (encode_utf8 c) (len_utf8 c) after → TextSoFar quote cs bytes rest to → TextFault quote 0 (quote + 1) cs (OpenText quote)
long_char {quote} c n e h p g = g.faults (OpenText quote) (too_long p (omega (arith, length-encode c)))

pub long_byte : {quote : ℕ} {cs bytes rest after : List ℕ} {to : ℕ} (b n : ℕ) → length bytes ≡ room → part rest ≡ means (b ∷ []) n after → TextSoFar quote cs bytes rest to → TextFault quote 0 (quote + 1) cs (OpenText quote)
long_byte {quote} b n h p g = g.faults (OpenText quote) (too_long p (omega arith))
