-- The lines of stretches, as they are written and read.
use Rattle.std.proofs.Common.{◌≡◌, ℕ, ◌^◌, ◌<◌, ◌≤◌, true, false, not, ◌&&◌, cond, eqb, ltb, leb, [], ◌∷◌, ◌++◌, Option, Some, None, decimal, refl, sym, ap, subst, ◌∙◌, arith, append_assoc}
use Rattle.std.specs.List.{list_all}
use Rattle.std.proofs.lemmas.Bool.{and_from, and_parts, not-true, eq-eqb, leb-true, le-leb, ltb-true, lt-ltb}
use Rattle.std.proofs.lemmas.Bool.Decides.{nat_tests}
use Rattle.std.proofs.lemmas.List.Folds.{list_all-append}
use Rattle.std.proofs.lemmas.Option.{same_Some}
use Rattle.decimal_text.specs.Decimal.{is_digit, IsDecimal, number_of}
use Rattle.decimal_text.proofs.DecimalLemmas.{plain_digits, decimal_text, decimal_is, number_is, number_back}
use Rattle.turn_book.specs.Book.{Text, Stretch, line_text, BeginsWithLine}
use Rattle.turn_book.specs.Reading.{cut, onto, numbers_in, stretch_or, stretch_of}
use Rattle.turn_book.proofs.CutLemmas.{IsCut, cut_is}

-- ---- marks that no number has
abbrev lacks : ℕ → Text → Type 0
lacks mark w = list_all (λ b. not (eqb b mark)) w ≡ true

digits_lack : (mark : ℕ) (bs : Text) → mark < 48 → list_all is_digit bs ≡ true → lacks mark bs
digits_lack mark [] low all = refl
digits_lack mark (b ∷ bs) low all =
    let both = and_parts (is_digit b) (list_all is_digit bs) all in
    rw (other mark b low both.0) (digits_lack mark bs low both.1)
  where
    other : (mark b : ℕ) → mark < 48 → is_digit b ≡ true → not (eqb b mark) ≡ true
    other mark b low e = let no_mark : eqb b mark ≡ false = grind (arith, nat_tests) in rw no_mark refl

lacks_append : (mark : ℕ) (xs ys : Text) → lacks mark xs → lacks mark ys → lacks mark (xs ++ ys)
lacks_append mark xs ys one two = list_all-append (λ b. not (eqb b mark)) xs ys ∙ and_from _ _ one two

cut_found : (mark : ℕ) (front rest : Text) → lacks mark front → cut mark (front ++ mark ∷ rest) ≡ Some (front, rest)
cut_found mark [] rest free = rw (eq-eqb mark mark refl) refl
cut_found mark (b ∷ bs) rest free =
    let both = and_parts (not (eqb b mark)) (list_all (λ c. not (eqb c mark)) bs) free in
    rw (not-true (eqb b mark) both.0) (ap (onto b) (cut_found mark bs rest both.1))

-- ---- a line
pub line_is : (text thread count : Text) (s : Stretch) → IsDecimal thread s.thread → IsDecimal count s.count → s.thread ≤ 4095 → 0 < s.count → stretch_of (thread ++ 32 ∷ count) ≡ Some s
line_is text thread count s one two low some =
    let parts : cut 32 (thread ++ 32 ∷ count) ≡ Some (thread, count) = cut_found 32 thread count (digits_lack 32 thread (omega arith) (plain_digits thread one.plain)) in
    ap numbers_in parts ∙ (λ i. stretch_or (number_is thread s.thread one i) (number_is count s.count two i)) ∙ rw (le-leb s.thread 4095 low, lt-ltb 0 s.count some) refl

pub record IsLine (line : Text) (s : Stretch) : Type 0 where
  pub thread : Text
  pub count : Text
  pub thread_is : IsDecimal thread s.thread
  pub count_is : IsDecimal count s.count
  pub low : s.thread ≤ 4095
  pub some : 0 < s.count
  pub line_text_is : line ≡ thread ++ 32 ∷ count

stretch_back : (a b : Option ℕ) (s : Stretch) → stretch_or a b ≡ Some s → (a ≡ Some s.thread) × (b ≡ Some s.count) × (s.thread ≤ 4095) × (0 < s.count)
stretch_back None b s e = absurd cc
stretch_back (Some t) None s e = absurd cc
stretch_back (Some t) (Some n) s e =
    elim (leb t 4095 && ltb 0 n) as (λ v. (leb t 4095 && ltb 0 n) ≡ v → cond v (Some (record { thread = t; count = n })) None ≡ Some s → (Some t ≡ Some s.thread) × (Some n ≡ Some s.count) × (s.thread ≤ 4095) × (0 < s.count)) [
      | true ↦ λ was is.
          let both = and_parts (leb t 4095) (ltb 0 n) was in
          let low : t ≤ 4095 = leb-true t 4095 both.0 in
          let some : 0 < n = ltb-true 0 n both.1 in
          let same : ◌≡◌ {A = Stretch} (record { thread = t; count = n }) s = same_Some _ _ is in
          subst (λ (u : Stretch). (Some t ≡ Some u.thread) × (Some n ≡ Some u.count) × (u.thread ≤ 4095) × (0 < u.count)) same (refl, refl, low, some)
      | false ↦ λ was is. absurd cc
    ] refl e

parts_back : (line : Text) (o : Option (Text × Text)) (s : Stretch) → cut 32 line ≡ o → numbers_in o ≡ Some s → IsLine line s
parts_back line None s was e = absurd cc
parts_back line (Some p) s was e =
    let h = stretch_back (number_of p.0) (number_of p.1) s e in
    let parts : IsCut 32 line p.0 p.1 = cut_is 32 line p was in
    record { thread = p.0; count = p.1; thread_is = number_back p.0 s.thread h.0; count_is = number_back p.1 s.count h.1; low = h.2; some = h.3; line_text_is = parts.text_is }

pub line_back : (line : Text) (s : Stretch) → stretch_of line ≡ Some s → IsLine line s
line_back line s e = parts_back line (cut 32 line) s refl e

-- ---- a line with its line feed in a text
pub begins_read : (text : Text) (s : Stretch) (h : BeginsWithLine text s) → (cut 10 text ≡ Some (h.thread ++ 32 ∷ h.count, h.rest)) × (stretch_of (h.thread ++ 32 ∷ h.count) ≡ Some s)
begins_read text s h =
    let whole : text ≡ (h.thread ++ 32 ∷ h.count) ++ 10 ∷ h.rest = h.text_is ∙ sym (append_assoc h.thread (32 ∷ h.count) (10 ∷ h.rest)) in
    let free_thread : list_all (λ b. not (eqb b 10)) h.thread ≡ true = digits_lack 10 h.thread (omega arith) (plain_digits h.thread h.thread_is.plain) in
    let free_count : list_all (λ b. not (eqb b 10)) (32 ∷ h.count) ≡ true = digits_lack 10 h.count (omega arith) (plain_digits h.count h.count_is.plain) in
    (ap (cut 10) whole ∙ cut_found 10 (h.thread ++ 32 ∷ h.count) h.rest (lacks_append 10 h.thread (32 ∷ h.count) free_thread free_count), line_is text h.thread h.count s h.thread_is h.count_is h.low h.some)

pub read_begins : (text line rest : Text) (s : Stretch) → cut 10 text ≡ Some (line, rest) → stretch_of line ≡ Some s → BeginsWithLine text s
read_begins text line rest s parts is =
    let h : IsLine line s = line_back line s is in
    let c : IsCut 10 text line rest = cut_is 10 text (line, rest) parts in
    record { thread = h.thread; count = h.count; rest = rest; thread_is = h.thread_is; count_is = h.count_is; low = h.low; some = h.some; text_is = c.text_is ∙ ap (λ (l : Text). l ++ 10 ∷ rest) h.line_text_is ∙ append_assoc h.thread (32 ∷ h.count) (10 ∷ rest) }

-- a line that is read, with a count that fits, is the line that is written
pub read_line_text : (text line rest : Text) (s : Stretch) → cut 10 text ≡ Some (line, rest) → stretch_of line ≡ Some s → s.count < 2 ^ 64 → s.thread < 2 ^ 64 → text ≡ line_text s rest
read_line_text text line rest s parts is fits low =
    let h : IsLine line s = line_back line s is in
    let c : IsCut 10 text line rest = cut_is 10 text (line, rest) parts in
    c.text_is ∙ ap (λ (l : Text). l ++ 10 ∷ rest) h.line_text_is ∙ append_assoc h.thread (32 ∷ h.count) (10 ∷ rest)
    ∙ (λ i. decimal_text h.thread s.thread h.thread_is low i ++ 32 ∷ (decimal_text h.count s.count h.count_is fits i ++ 10 ∷ rest))

-- and a line that is written is read
pub written_read : (s : Stretch) (rest : Text) → s.thread ≤ 4095 → 0 < s.count → s.count < 2 ^ 64 → s.thread < 2 ^ 64 → (line : Text) × (cut 10 (line_text s rest) ≡ Some (line, rest)) × (stretch_of line ≡ Some s)
written_read s rest low some fits small =
    let read = begins_read (line_text s rest) s (record { thread = decimal s.thread; count = decimal s.count; rest = rest; thread_is = decimal_is s.thread small; count_is = decimal_is s.count fits; low = low; some = some; text_is = refl }) in
    (decimal s.thread ++ 32 ∷ decimal s.count, read.0, read.1)
