-- Pieces that are parted are read as their tokens.
use Rattle.std.proofs.Common.{◌≡◌, ℕ, zero, suc, ◌+◌, ◌-◌, ◌*◌, ◌/◌, ◌%◌, ◌^◌, ◌<◌, ◌≤◌, ◌⊎◌, inl, inr, ◌==◌, ◌&&◌, nat_le, nat_lt, Bool, true, false, not, List, [], ◌∷◌, ◌++◌, Option, Some, None, length, map, refl, sym, ap, ◌∙◌, subst, arith, append_assoc, pos, negsuc, encode_utf8_all}
use Rattle.std.proofs.lemmas.Bool.{both_ways, and_parts, and_from, not-true, leb-true, le-leb, le-ltb, lt-ltb, lt-leb, ltb-true, eqb-true, ne_eqb, and_right, cases_lt, cases_Bool, agree_below_at}
use Rattle.std.proofs.lemmas.Str.{encodes-chars, encode_ascii, chars-append}
use Rattle.std.proofs.lemmas.Fmt.{decimal_by_steps}
use Rattle.std.proofs.lemmas.Nat.{div-add-mod'}
use Rattle.std.specs.Fmt.{decimal}
use Rattle.std.specs.Char.{len_utf8, is_ascii_alphabetic, is_ascii_alphanumeric}
use Rattle.std.specs.Str.{chars, chars_after, lead_bits}
use Rattle.unicode_ident.specs.Ident.{is_xid_start}
use Rattle.unicode_ident.proofs.IdentLemmas.{is_xid_start-ascii}
use Rattle.lam_lexer.specs.declared.token.Token.{Token}
use Rattle.lam_lexer.specs.declared.token.TokenKind.{TokenKind}
use Rattle.lam_lexer.specs.declared.token.TokenKind.TheVariants as Kind
use Rattle.lam_lexer.specs.declared.start.Start.{Start}
use Rattle.lam_lexer.specs.Characters.{is_space, is_digit, starts_name, continues_name, run, past, goes_on, first, number, number_after}
use Rattle.lam_lexer.specs.Text.{part, means, hex_value, hex_part, room, Means, ends}
use Rattle.lam_lexer.specs.Text as text
use Rattle.lam_lexer.specs.Lexed.{start, marks, kind_or_name, word_kind, Lexes, a_space, a_name, a_number, a_text, a_mark, a_long_mark, LexedAt, at_end, then_on, Lexed}
use Rattle.lam_lexer.specs.Lexed as lexed
use Rattle.lam_lexer.proofs.Runs.{at_true, at_false}
use Rattle.lam_print.specs.Pieces.{Piece, token, blank, line, hex_digit, spell_byte, spell_text, spelling, indent, written, kinds}
use Rattle.lam_print.specs.Law.{all_continue, is_identifier, AllBytes, Fits, AllFit, kind_of}
use Rattle.lam_print.proofs.Sides.{or_true_left, or_true_right, start_continues, another, no_start, no_continue, begins_name, begins_number, begins_mark, begins_text, Side, wordy, half, whole, right, left, joins, parted, Calm, lower}

-- the number of digits with one more behind them
number_on : (n : ℕ) (ds : List ℕ) (d : ℕ) → number_after n (ds ++ d ∷ []) ≡ number_after n ds * 10 + (d - 48)
number_on n [] d = refl
number_on n (x ∷ ds) d = number_on (n * 10 + (x - 48)) ds d

-- characters that are read as tokens of these kinds, wherever they begin
pub record LexedTo (cs : List ℕ) (ks : List TokenKind) : Type 0 where
  pub tokens : (at : ℕ) → (ts : List Token) × LexedAt at cs ts × (map kind_of ts ≡ ks)

lexed_end : LexedTo [] (Kind.End ∷ [])
lexed_end = record { tokens = λ at. (lexed.token at Kind.End ∷ [], at_end, refl) }

-- one step before the rest
begun : {at to c : ℕ} {cs rest : List ℕ} {ts : List Token} {s : Start} → start c (first cs) ≡ s → Lexes at s (c ∷ cs) ts to rest → Lexes at (start c (first cs)) (c ∷ cs) ts to rest
begun {at} {to} {c} {cs} {rest} {ts} q r = subst (λ (s : Start). Lexes at s (c ∷ cs) ts to rest) (sym q) r

lexed_space : (c : ℕ) (cs : List ℕ) (ks : List TokenKind) → is_space c ≡ true → LexedTo cs ks → LexedTo (c ∷ cs) ks
lexed_space c cs ks q h = record { tokens = λ at. let r = h.tokens (at + 1) in (r.0, then_on (begun (at_true (is_space c) _ _ q) a_space) r.1, r.2) }

lexed_indent : (n : ℕ) (cs : List ℕ) (ks : List TokenKind) → LexedTo cs ks → LexedTo (indent n cs) ks
lexed_indent zero cs ks h = h
lexed_indent (suc n) cs ks h = lexed_space 32 (32 ∷ indent n cs) ks refl (lexed_space 32 (indent n cs) ks refl (lexed_indent n cs ks h))

lexed_mark : (c : ℕ) (k : TokenKind) (cs : List ℕ) (ks : List TokenKind) → start c (first cs) ≡ Start.Mark k → LexedTo cs ks → LexedTo (c ∷ cs) (k ∷ ks)
lexed_mark c k cs ks q h = record { tokens = λ at. let r = h.tokens (at + 1) in (lexed.token at k ∷ r.0, then_on (begun q a_mark) r.1, ap (λ (ks : List TokenKind). k ∷ ks) r.2) }

lexed_long_mark : (c d : ℕ) (k : TokenKind) (cs : List ℕ) (ks : List TokenKind) → start c (Some d) ≡ Start.LongMark k → LexedTo cs ks → LexedTo (c ∷ d ∷ cs) (k ∷ ks)
lexed_long_mark c d k cs ks q h = record { tokens = λ at. let r = h.tokens (at + 2) in (lexed.token at k ∷ r.0, then_on (begun q a_long_mark) r.1, ap (λ (ks : List TokenKind). k ∷ ks) r.2) }

-- a character of ASCII that neither a name nor a number has
abbrev of_mark : ℕ → Bool
of_mark c = nat_lt c 128 && (not (is_ascii_alphabetic c) && (not (is_ascii_alphanumeric c) && (not (c == 95) && not (is_digit c))))

record IsMark (c : ℕ) : Type 0 where
  no_name : starts_name c ≡ false
  no_more : continues_name c ≡ false
  no_digit : is_digit c ≡ false

is_mark : (c : ℕ) → of_mark c ≡ true → IsMark c
is_mark c h =
    let p = and_parts (nat_lt c 128) _ h in
    let a = and_parts (not (is_ascii_alphabetic c)) _ p.1 in
    let b = and_parts (not (is_ascii_alphanumeric c)) _ a.1 in
    let d = and_parts (not (c == 95)) (not (is_digit c)) b.1 in
    let u = not-true (c == 95) d.0 in
    let small = ltb-true c 128 p.0 in
    record { no_name = no_start c small (not-true _ a.0) u; no_more = no_continue c small (not-true _ b.0) u; no_digit = not-true _ d.1 }

begun_mark : (c : ℕ) (o : Option ℕ) (s : Start) → (of_mark c && (not (is_space c) && not (c == 34))) ≡ true → marks c o ≡ s → start c o ≡ s
begun_mark c o s h q =
    let p = and_parts (of_mark c) _ h in
    let r = and_parts (not (is_space c)) (not (c == 34)) p.1 in
    let m = is_mark c p.0 in
    begins_mark c o s (not-true _ r.0) m.no_digit (not-true _ r.1) m.no_name q

-- ---- runs

abbrev every : (ℕ → Bool) → List ℕ → Bool
every p [] = true
every p (c ∷ cs) = p c && every p cs

run_all : (p : ℕ → Bool) (xs rest : List ℕ) → every p xs ≡ true → goes_on p rest ≡ false → (run p (xs ++ rest) ≡ xs) × (past p (xs ++ rest) ≡ rest)
run_all p [] [] q h = (refl, refl)
run_all p [] (c ∷ rest) q h = (at_false (p c) (c ∷ run p rest) [] h, at_false (p c) (past p rest) (c ∷ rest) h)
run_all p (x ∷ xs) rest q h =
    let a = and_parts (p x) (every p xs) q in
    let r = run_all p xs rest a.1 h in
    (at_true (p x) (x ∷ run p (xs ++ rest)) [] a.0 ∙ ap (λ (ys : List ℕ). x ∷ ys) r.0, at_true (p x) (past p (xs ++ rest)) (x ∷ (xs ++ rest)) a.0 ∙ r.1)

continue_all : (cs : List ℕ) → all_continue cs ≡ every continues_name cs
continue_all [] = refl
continue_all (c ∷ cs) = ap (λ (b : Bool). continues_name c && b) (continue_all cs)

-- ---- names

lexed_name : (ns cs : List ℕ) (ks : List TokenKind) → is_identifier ns ≡ true → goes_on continues_name cs ≡ false → LexedTo cs ks → LexedTo (ns ++ cs) (word_kind (encode_utf8_all ns) ∷ ks)
lexed_name [] cs ks q o h = absurd (both_ways false refl q)
lexed_name (c ∷ ns) cs ks q o h =
    let p = and_parts (starts_name c) (all_continue ns) q in
    let r = run_all continues_name ns cs (sym (continue_all ns) ∙ p.1) o in
    let word = encode_utf8_all (c ∷ ns) in
    record {
      tokens = λ at.
          let step : Lexes at Start.Name (c ∷ (ns ++ cs)) (lexed.token at (word_kind (encode_utf8_all (c ∷ run continues_name (ns ++ cs)))) ∷ []) (at + length (encode_utf8_all (c ∷ run continues_name (ns ++ cs)))) (past continues_name (ns ++ cs)) = a_name in
          let step1 = subst (λ (x : List ℕ). Lexes at Start.Name (c ∷ (ns ++ cs)) (lexed.token at (word_kind (encode_utf8_all (c ∷ x))) ∷ []) (at + length (encode_utf8_all (c ∷ x))) (past continues_name (ns ++ cs))) r.0 step in
          let step2 = subst (λ (x : List ℕ). Lexes at Start.Name (c ∷ (ns ++ cs)) (lexed.token at (word_kind word) ∷ []) (at + length word) x) r.1 step1 in
          let t = h.tokens (at + length word) in
          (lexed.token at (word_kind word) ∷ t.0, then_on (begun (begins_name c (first (ns ++ cs)) p.0) step2) t.1, ap (λ (ks : List TokenKind). word_kind word ∷ ks) t.2);
    }

-- ---- numbers

record Digits (n : ℕ) (ds : List ℕ) : Type 0 where
  d : ℕ
  more : List ℕ
  whole : ds ≡ d ∷ more
  are : every is_digit ds ≡ true
  value : number ds ≡ n

one_digit : (n : ℕ) → n < 10 → is_digit (48 + n) ≡ true
one_digit n h = and_from (nat_le 48 (48 + n)) (nat_le (48 + n) 57) (le-leb 48 (48 + n) (omega arith)) (le-leb (48 + n) 57 (omega arith))

all_append : (p : ℕ → Bool) (xs ys : List ℕ) → every p xs ≡ true → every p ys ≡ true → every p (xs ++ ys) ≡ true
all_append p [] ys h g = g
all_append p (x ∷ xs) ys h g = let a = and_parts (p x) (every p xs) h in and_from (p x) (every p (xs ++ ys)) a.0 (all_append p xs ys a.1 g)

digits_one : (n : ℕ) → n < 10 → Digits n ((48 + n) ∷ [])
digits_one n h = record { d = 48 + n; more = []; whole = refl; are = and_from (is_digit (48 + n)) true (one_digit n h) refl; value = omega arith }

mod_small : (n : ℕ) → n % 10 < 10
mod_small n = omega arith

digits_more : (n : ℕ) (ds : List ℕ) → 10 ≤ n → Digits (n / 10) ds → Digits n (ds ++ ((48 + n % 10) ∷ []))
digits_more n ds h k =
    let c = 48 + n % 10 in
    let q : is_digit c ≡ true = one_digit (n % 10) (mod_small n) in
    record {
      d = k.d;
      more = k.more ++ c ∷ [];
      whole = ap (λ (ds : List ℕ). ds ++ c ∷ []) k.whole;
      are = all_append is_digit ds (c ∷ []) k.are (and_from (is_digit c) true q refl);
      value = number_on 0 ds c ∙ omega (arith, k.value, div-add-mod' n 10);
    }

decimal_digits : (n : ℕ) → n < 2 ^ 64 → Digits n (decimal n)
decimal_digits n h = decimal_by_steps Digits digits_one digits_more n h

lexed_number : (n : ℕ) (cs : List ℕ) (ks : List TokenKind) → n < 2 ^ 63 → Calm wordy cs → LexedTo cs ks → LexedTo (decimal n ++ cs) (Kind.Number (pos n) ∷ ks)
lexed_number n cs ks small o h =
    let x = decimal_digits n (omega arith) in
    let are = and_parts (is_digit x.d) (every is_digit x.more) (ap (every is_digit) (sym x.whole) ∙ x.are) in
    let r = run_all is_digit x.more cs are.1 o.1 in
    let v : number (x.d ∷ run is_digit (x.more ++ cs)) ≡ n = ap (λ (m : List ℕ). number (x.d ∷ m)) r.0 ∙ ap number (sym x.whole) ∙ x.value in
    let body : LexedTo (x.d ∷ (x.more ++ cs)) (Kind.Number (pos n) ∷ ks) = record {
      tokens = λ at.
          let to = at + 1 + length (run is_digit (x.more ++ cs)) in
          let step : Lexes at Start.Number (x.d ∷ (x.more ++ cs)) (lexed.token at (Kind.Number (pos (number (x.d ∷ run is_digit (x.more ++ cs))))) ∷ []) to (past is_digit (x.more ++ cs)) = a_number (omega (arith, v)) (ap (goes_on continues_name) r.1 ∙ o.0) in
          let step1 = subst (λ (m : ℕ). Lexes at Start.Number (x.d ∷ (x.more ++ cs)) (lexed.token at (Kind.Number (pos m)) ∷ []) to (past is_digit (x.more ++ cs))) v step in
          let step2 = subst (λ (r : List ℕ). Lexes at Start.Number (x.d ∷ (x.more ++ cs)) (lexed.token at (Kind.Number (pos n)) ∷ []) to r) r.1 step1 in
          let t = h.tokens to in
          (lexed.token at (Kind.Number (pos n)) ∷ t.0, then_on (begun (begins_number x.d (first (x.more ++ cs)) are.0) step2) t.1, ap (λ (ks : List TokenKind). Kind.Number (pos n) ∷ ks) t.2);
    } in
    subst (λ (ds : List ℕ). LexedTo (ds ++ cs) (Kind.Number (pos n) ∷ ks)) (sym x.whole) body

-- ---- texts

hex_read : (d : ℕ) → d < 16 → hex_value (hex_digit d) ≡ Some d
hex_read d h = pick (cases_lt d 10)
  where
    pick : (d < 10) ⊎ (10 ≤ d) → hex_value (hex_digit d) ≡ Some d
    pick (inl g) =
        ap hex_value (at_true (nat_lt d 10) (48 + d) (87 + d) (lt-ltb d 10 g)) ∙ (at_true (is_digit (48 + d)) _ _ (one_digit d g) ∙ ap Some (omega arith))
    pick (inr g) =
        ap hex_value (at_false (nat_lt d 10) (48 + d) (87 + d) (le-ltb d 10 g)) ∙ (at_false (is_digit (87 + d)) _ _ (and_right (nat_le 48 (87 + d)) (nat_le (87 + d) 57) (lt-leb (87 + d) 57 (omega arith))) ∙ (at_true (nat_le 97 (87 + d) && nat_le (87 + d) 102) _ _ (and_from (nat_le 97 (87 + d)) (nat_le (87 + d) 102) (le-leb 97 (87 + d) (omega arith)) (le-leb (87 + d) 102 (omega arith))) ∙ ap Some (omega arith)))

-- what is written of a byte means it
record Meant (b : ℕ) (cs : List ℕ) : Type 0 where
  size : ℕ
  is : part (spell_byte b ++ cs) ≡ means (b ∷ []) size cs

byte_meant : (b : ℕ) (cs : List ℕ) → b < 256 → Meant b cs
byte_meant b cs small = pick (cases_Bool (b == 34))
  where
    split : (xs : List ℕ) (n : ℕ) → spell_byte b ≡ xs → part (xs ++ cs) ≡ means (b ∷ []) n cs → Meant b cs
    split xs n e q = record { size = n; is = ap (λ (xs : List ℕ). part (xs ++ cs)) e ∙ q }

    plain : (b == 34) ≡ false → (b == 92) ≡ false → 32 ≤ b → b ≤ 126 → part (b ∷ cs) ≡ means (b ∷ []) (len_utf8 b) cs
    plain x y h k = at_false (b == 34) _ _ x ∙ (at_false (b == 92) _ _ y ∙ (at_false (b == 10) _ _ (ne_eqb b 10 (λ e. omega arith)) ∙ ap (λ (xs : List ℕ). means xs (len_utf8 b) cs) (encode_ascii b (omega arith))))

    hexed : part (92 ∷ 120 ∷ hex_digit (b / 16) ∷ hex_digit (b % 16) ∷ cs) ≡ means (b ∷ []) 4 cs
    hexed =
        ap (λ (o : Option ℕ). hex_part o (hex_value (hex_digit (b % 16))) cs) (hex_read (b / 16) (omega arith)) ∙ (ap (λ (o : Option ℕ). hex_part (Some (b / 16)) o cs) (hex_read (b % 16) (omega arith)) ∙ ap (λ (b : ℕ). means (b ∷ []) 4 cs) (div-add-mod' b 16))

    pick3 : (b == 34) ≡ false → (b == 92) ≡ false → ((nat_le 32 b && nat_le b 126) ≡ true) ⊎ ((nat_le 32 b && nat_le b 126) ≡ false) → Meant b cs
    pick3 x y (inl h) =
        let p = and_parts (nat_le 32 b) (nat_le b 126) h in
        split (b ∷ []) (len_utf8 b) (at_false (b == 34) _ _ x ∙ (at_false (b == 92) _ _ y ∙ at_true (nat_le 32 b && nat_le b 126) _ _ h)) (plain x y (leb-true 32 b p.0) (leb-true b 126 p.1))
    pick3 x y (inr h) = split (92 ∷ 120 ∷ hex_digit (b / 16) ∷ hex_digit (b % 16) ∷ []) 4 (at_false (b == 34) _ _ x ∙ (at_false (b == 92) _ _ y ∙ at_false (nat_le 32 b && nat_le b 126) _ _ h)) hexed

    pick2 : (b == 34) ≡ false → ((b == 92) ≡ true) ⊎ ((b == 92) ≡ false) → Meant b cs
    pick2 x (inl h) = split (92 ∷ 92 ∷ []) 2 (at_false (b == 34) _ _ x ∙ at_true (b == 92) _ _ h) (ap (λ (b : ℕ). means (b ∷ []) 2 cs) (sym (eqb-true b 92 h)))
    pick2 x (inr h) = pick3 x h (cases_Bool (nat_le 32 b && nat_le b 126))

    pick : ((b == 34) ≡ true) ⊎ ((b == 34) ≡ false) → Meant b cs
    pick (inl h) = split (92 ∷ 34 ∷ []) 2 (at_true (b == 34) _ _ h) (ap (λ (b : ℕ). means (b ∷ []) 2 cs) (sym (eqb-true b 34 h)))
    pick (inr h) = pick2 h (cases_Bool (b == 92))

record Read (n : ℕ) (bs rest : List ℕ) : Type 0 where
  size : ℕ
  is : Means n (spell_text bs ++ rest) bs size rest

bytes_read : (n : ℕ) (bs rest : List ℕ) → AllBytes bs → n + length bs ≤ room → Read n bs rest
bytes_read n [] rest a h = record { size = 1; is = ends refl }
bytes_read n (b ∷ bs) rest a h =
    let m = byte_meant b (spell_text bs ++ rest) a.0 in
    let r = bytes_read (n + 1) bs rest a.1 (omega arith) in
    let e : spell_byte b ++ spell_text bs ++ rest ≡ spell_byte b ++ (spell_text bs ++ rest) = append_assoc (spell_byte b) (spell_text bs) rest in
    record { size = m.size + r.size; is = text.Means.goes_on (ap part e ∙ m.is) (omega arith) r.is }

lexed_text : (bs cs : List ℕ) (ks : List TokenKind) → AllBytes bs → length bs ≤ 65536 → LexedTo cs ks → LexedTo ((34 ∷ spell_text bs) ++ cs) (Kind.Text bs ∷ ks)
lexed_text bs cs ks a n h =
    let m = bytes_read 0 bs cs a (omega arith) in
    record {
      tokens = λ at.
          let t = h.tokens (at + 1 + m.size) in
          (lexed.token at (Kind.Text bs) ∷ t.0, then_on (begun (begins_text (first (spell_text bs ++ cs))) (a_text m.is)) t.1, ap (λ (ks : List TokenKind). Kind.Text bs ∷ ks) t.2);
    }

-- ---- reserved words

low_letter : (c : ℕ) → lower c ≡ true → c < 128
low_letter c h = let p = and_parts (nat_le 97 c) (nat_le c 122) h in omega (arith, leb-true c 122 p.1)

letter_starts : (c : ℕ) → lower c ≡ true → starts_name c ≡ true
letter_starts c h =
    or_true_left (is_xid_start c) (c == 95) (is_xid_start-ascii c (low_letter c h) ∙ or_true_right (nat_le 65 c && nat_le c 90) (nat_le 97 c && nat_le c 122) h)

lower_continue : (cs : List ℕ) → every lower cs ≡ true → all_continue cs ≡ true
lower_continue [] h = refl
lower_continue (c ∷ cs) h =
    let p = and_parts (lower c) (every lower cs) h in
    and_from (continues_name c) (all_continue cs) (start_continues c (letter_starts c p.0)) (lower_continue cs p.1)

lower_named : (c : ℕ) (cs : List ℕ) → every lower (c ∷ cs) ≡ true → is_identifier (c ∷ cs) ≡ true
lower_named c cs h =
    let p = and_parts (lower c) (every lower cs) h in
    and_from (starts_name c) (all_continue cs) (letter_starts c p.0) (lower_continue cs p.1)

lower_encodes : (cs : List ℕ) → every lower cs ≡ true → encode_utf8_all cs ≡ cs
lower_encodes [] h = refl
lower_encodes (c ∷ cs) h =
    let p = and_parts (lower c) (every lower cs) h in
    ap (λ (xs : List ℕ). xs ++ encode_utf8_all cs) (encode_ascii c (low_letter c p.0)) ∙ ap (λ (xs : List ℕ). c ∷ xs) (lower_encodes cs p.1)

-- ---- tokens

-- a token's characters
abbrev spell : TokenKind → List ℕ
spell (Kind.Id name) = chars name
spell k = spelling k

-- what is checked of a reserved word and of a mark that no other lengthens
abbrev Spelled : Side → List ℕ → TokenKind → Type 0
Spelled wordy (c ∷ w) k = (every lower (c ∷ w) ≡ true) × (word_kind (c ∷ w) ≡ k) × ((d : ℕ) → d ≡ d)
Spelled whole (c ∷ []) k = ((of_mark c && (not (is_space c) && not (c == 34))) ≡ true) × (marks c None ≡ Start.Mark k) × ((d : ℕ) → marks c (Some d) ≡ Start.Mark k)
Spelled whole (c ∷ e ∷ []) k = ((of_mark c && (not (is_space c) && not (c == 34))) ≡ true) × (marks c (Some e) ≡ Start.LongMark k) × ((d : ℕ) → d ≡ d)
Spelled _ w k = ⊥

lexed_spelled : (s : Side) (w : List ℕ) (k : TokenKind) (cs : List ℕ) (ks : List TokenKind) → Spelled s w k → Calm s cs → LexedTo cs ks → LexedTo (w ++ cs) (k ∷ ks)
lexed_spelled wordy (c ∷ w) k cs ks p o h = subst (λ (k : TokenKind). LexedTo ((c ∷ w) ++ cs) (k ∷ ks)) (ap word_kind (lower_encodes (c ∷ w) p.0) ∙ p.1) (lexed_name (c ∷ w) cs ks (lower_named c w p.0) o.0 h)
lexed_spelled whole (c ∷ []) k cs ks p o h = lexed_mark c k cs ks (begun_mark c (first cs) (Start.Mark k) p.0 (alone (first cs))) h
  where
    alone : (o : Option ℕ) → marks c o ≡ Start.Mark k
    alone None = p.1
    alone (Some d) = p.2 d
lexed_spelled whole (c ∷ e ∷ []) k cs ks p o h = lexed_long_mark c e k cs ks (begun_mark c (Some e) (Start.LongMark k) p.0 p.1) h
lexed_spelled _ _ k cs ks p o h = absurd p

-- a mark that another character may lengthen
lexed_half : (c : ℕ) (k : TokenKind) (cs : List ℕ) (ks : List TokenKind) → (of_mark c && (not (is_space c) && not (c == 34))) ≡ true → marks c None ≡ Start.Mark k → ((d : ℕ) → (d == 61) ≡ false → (d == 47) ≡ false → marks c (Some d) ≡ Start.Mark k) → Calm half cs → LexedTo cs ks → LexedTo (c ∷ cs) (k ∷ ks)
lexed_half c k cs ks m q r o h = lexed_mark c k cs ks (begun_mark c (first cs) (Start.Mark k) m (alone cs o)) h
  where
    alone : (cs : List ℕ) → Calm half cs → marks c (first cs) ≡ Start.Mark k
    alone [] o = q
    alone (d ∷ cs) o = r d o.0 o.1

-- a token, where what follows does not go on with it
lexed_token : (k : TokenKind) (cs : List ℕ) (ks : List TokenKind) → Fits k → Calm (right k) cs → LexedTo cs ks → LexedTo (spell k ++ cs) (k ∷ ks)
lexed_token (Kind.Id name) cs ks f o h = subst (λ (k : TokenKind). LexedTo (chars name ++ cs) (k ∷ ks)) (ap word_kind (encodes-chars name f.1) ∙ ap (λ (o : Option TokenKind). kind_or_name o name) f.2) (lexed_name (chars name) cs ks f.0 o.0 h)
lexed_token (Kind.Number (pos n)) cs ks f o h = lexed_number n cs ks f o h
lexed_token (Kind.Number (negsuc n)) cs ks f o h = absurd f
lexed_token (Kind.Text bs) cs ks f o h = lexed_text bs cs ks f.0 f.1 h
lexed_token Kind.Assign cs ks f o h = lexed_half 61 Kind.Assign cs ks refl refl (λ d e g. at_false (d == 61) _ _ e) o h
lexed_token Kind.Less cs ks f o h = lexed_half 60 Kind.Less cs ks refl refl (λ d e g. at_false (d == 61) _ _ e) o h
lexed_token Kind.Greater cs ks f o h = lexed_half 62 Kind.Greater cs ks refl refl (λ d e g. at_false (d == 61) _ _ e) o h
lexed_token Kind.Slash cs ks f o h = lexed_half 47 Kind.Slash cs ks refl refl (λ d e g. at_false (d == 47) _ _ g) o h
lexed_token Kind.Not cs ks f o h = lexed_half 33 Kind.Not cs ks refl refl (λ d e g. at_false (d == 61) _ _ e) o h
lexed_token Kind.End cs ks f o h = absurd f
lexed_token k cs ks f o h = lexed_spelled (right k) (spelling k) k cs ks (refl, refl, λ d. refl) o h

-- ---- a token's first character

calm_one : (s : Side) (c : ℕ) (cs : List ℕ) → continues_name c ≡ false → is_digit c ≡ false → (c == 61) ≡ false → (c == 47) ≡ false → Calm s (c ∷ cs)
calm_one wordy c cs a b d e = (a, b)
calm_one half c cs a b d e = (d, e)
calm_one whole c cs a b d e = tt

-- a mark that may lengthen another
calm_half : (s : Side) (c : ℕ) (cs : List ℕ) → continues_name c ≡ false → is_digit c ≡ false → joins s half ≡ false → Calm s (c ∷ cs)
calm_half wordy c cs a b q = (a, b)
calm_half half c cs a b q = absurd (both_ways true q refl)
calm_half whole c cs a b q = tt

calm_name : (s : Side) (ns cs : List ℕ) → is_identifier ns ≡ true → joins s wordy ≡ false → Calm s (ns ++ cs)
calm_name s [] cs q f = absurd (both_ways false refl q)
calm_name wordy (c ∷ ns) cs q f = absurd (both_ways true f refl)
calm_name half (c ∷ ns) cs q f =
    let p = and_parts (starts_name c) (all_continue ns) q in
    (another starts_name c 61 p.0 (no_start 61 (omega arith) refl refl), another starts_name c 47 p.0 (no_start 47 (omega arith) refl refl))
calm_name whole (c ∷ ns) cs q f = tt

calm_number : (s : Side) (n : ℕ) (cs : List ℕ) → n < 2 ^ 63 → joins s wordy ≡ false → Calm s (decimal n ++ cs)
calm_number wordy n cs small f = absurd (both_ways true f refl)
calm_number half n cs small f =
    let x = decimal_digits n (omega arith) in
    let d = and_parts (is_digit x.d) (every is_digit x.more) (ap (every is_digit) (sym x.whole) ∙ x.are) in
    subst (λ (ds : List ℕ). Calm half (ds ++ cs)) (sym x.whole) (another is_digit x.d 61 d.0 refl, another is_digit x.d 47 d.0 refl)
calm_number whole n cs small f = tt

-- what is checked of the first character
abbrev Begins : Side → List ℕ → Type 0
Begins s [] = ⊥
Begins wordy (c ∷ w) = every lower (c ∷ w) ≡ true
Begins half (c ∷ w) = of_mark c ≡ true
Begins whole (c ∷ w) = (of_mark c && (not (c == 61) && not (c == 47))) ≡ true

calm_spelled : (s l : Side) (w cs : List ℕ) → Begins l w → joins s l ≡ false → Calm s (w ++ cs)
calm_spelled s l [] cs p q = absurd p
calm_spelled s wordy (c ∷ w) cs p q = calm_name s (c ∷ w) cs (lower_named c w p) q
calm_spelled s half (c ∷ w) cs p q = let m = is_mark c p in calm_half s c (w ++ cs) m.no_more m.no_digit q
calm_spelled s whole (c ∷ w) cs p q =
    let a = and_parts (of_mark c) _ p in
    let b = and_parts (not (c == 61)) (not (c == 47)) a.1 in
    let m = is_mark c a.0 in
    calm_one s c (w ++ cs) m.no_more m.no_digit (not-true _ b.0) (not-true _ b.1)

calm_token : (s : Side) (k : TokenKind) (cs : List ℕ) → Fits k → joins s (left k) ≡ false → Calm s (spell k ++ cs)
calm_token s (Kind.Id name) cs f q = calm_name s (chars name) cs f.0 q
calm_token s (Kind.Number (pos n)) cs f q = calm_number s n cs f q
calm_token s (Kind.Number (negsuc n)) cs f q = absurd f
calm_token s (Kind.Text bs) cs f q = calm_one s 34 (spell_text bs ++ cs) (no_continue 34 (omega arith) refl refl) refl refl refl
calm_token s Kind.End cs f q = absurd f
calm_token s k cs f q = calm_spelled s (left k) (spelling k) cs refl q

-- the characters of pieces
abbrev laid : List Piece → List ℕ
laid [] = []
laid (token k ∷ ps) = spell k ++ laid ps
laid (blank ∷ ps) = 32 ∷ laid ps
laid (line n ∷ ps) = 10 ∷ indent n (laid ps)

calm_end : (s : Side) → Calm s []
calm_end wordy = (refl, refl)
calm_end half = (refl, refl)
calm_end whole = tt

calm_pieces : (s : Side) (ps : List Piece) → parted s ps ≡ true → AllFit (kinds ps) → Calm s (laid ps)
calm_pieces s [] q f = calm_end s
calm_pieces s (token k ∷ ps) q f = let p = and_parts (not (joins s (left k))) (parted (right k) ps) q in calm_token s k (laid ps) f.0 (not-true (joins s (left k)) p.0)
calm_pieces s (blank ∷ ps) q f = calm_one s 32 (laid ps) (no_continue 32 (omega arith) refl refl) refl refl refl
calm_pieces s (line n ∷ ps) q f = calm_one s 10 (indent n (laid ps)) (no_continue 10 (omega arith) refl refl) refl refl refl

lexed_pieces : (s : Side) (ps : List Piece) → parted s ps ≡ true → AllFit (kinds ps) → LexedTo (laid ps) (kinds ps ++ Kind.End ∷ [])
lexed_pieces s [] q f = lexed_end
lexed_pieces s (token k ∷ ps) q f =
    let p = and_parts (not (joins s (left k))) (parted (right k) ps) q in
    lexed_token k (laid ps) (kinds ps ++ Kind.End ∷ []) f.0 (calm_pieces (right k) ps p.1 f.1) (lexed_pieces (right k) ps p.1 f.1)
lexed_pieces s (blank ∷ ps) q f = lexed_space 32 (laid ps) (kinds ps ++ Kind.End ∷ []) refl (lexed_pieces whole ps q f)
lexed_pieces s (line n ∷ ps) q f = lexed_space 10 (indent n (laid ps)) (kinds ps ++ Kind.End ∷ []) refl (lexed_indent n (laid ps) (kinds ps ++ Kind.End ∷ []) (lexed_pieces whole ps q f))

-- ---- the characters of the bytes that are written

abbrev ascii : ℕ → Bool
ascii c = nat_lt c 128

after_ascii : (c : ℕ) (bs : List ℕ) → chars_after zero c bs ≡ c ∷ chars bs
unfolding chars
after_ascii c [] = refl
after_ascii c (b ∷ bs) = refl

chars_ascii : (c : ℕ) (bs : List ℕ) → c < 128 → chars (c ∷ bs) ≡ c ∷ chars bs
unfolding chars
chars_ascii c bs h =
    ap (λ (n : ℕ). chars_after n (lead_bits c) bs) (at_true (nat_lt c 128) _ _ (lt-ltb c 128 h)) ∙ (ap (λ (d : ℕ). chars_after zero d bs) (at_true (nat_lt c 128) _ _ (lt-ltb c 128 h)) ∙ after_ascii c bs)

ascii_before : (xs ys : List ℕ) → every ascii xs ≡ true → chars (xs ++ ys) ≡ xs ++ chars ys
ascii_before [] ys h = refl
ascii_before (x ∷ xs) ys h =
    let p = and_parts (ascii x) (every ascii xs) h in
    chars_ascii x (xs ++ ys) (ltb-true x 128 p.0) ∙ ap (λ (zs : List ℕ). x ∷ zs) (ascii_before xs ys p.1)

byte_ascii : (b : ℕ) → b < 256 → every ascii (spell_byte b) ≡ true
byte_ascii b h = agree_below_at (λ b. every ascii (spell_byte b)) (λ b. true) 256 b refl h

bytes_ascii : (bs : List ℕ) → AllBytes bs → every ascii (spell_text bs) ≡ true
bytes_ascii [] a = refl
bytes_ascii (b ∷ bs) a = all_append ascii (spell_byte b) (spell_text bs) (byte_ascii b a.0) (bytes_ascii bs a.1)

digit_ascii : (n : ℕ) → n < 10 → every ascii ((48 + n) ∷ []) ≡ true
digit_ascii n h = and_from (ascii (48 + n)) true (lt-ltb (48 + n) 128 (omega arith)) refl

decimal_ascii : (n : ℕ) → n < 2 ^ 64 → every ascii (decimal n) ≡ true
decimal_ascii n h = decimal_by_steps (λ n ds. every ascii ds ≡ true) digit_ascii (λ n ds g k. all_append ascii ds ((48 + n % 10) ∷ []) k (digit_ascii (n % 10) (omega arith))) n h

spell_chars : (k : TokenKind) (ys : List ℕ) → Fits k → chars (spelling k ++ ys) ≡ spell k ++ chars ys
spell_chars (Kind.Id name) ys f = chars-append name ys f.1
spell_chars (Kind.Number (pos n)) ys f = ascii_before (decimal n) ys (decimal_ascii n (omega arith))
spell_chars (Kind.Number (negsuc n)) ys f = absurd f
spell_chars (Kind.Text bs) ys f = ascii_before (34 ∷ spell_text bs) ys (bytes_ascii bs f.0)
spell_chars Kind.End ys f = absurd f
spell_chars k ys f = ascii_before (spelling k) ys refl

indent_chars : (n : ℕ) (ys : List ℕ) → chars (indent n ys) ≡ indent n (chars ys)
indent_chars zero ys = refl
indent_chars (suc n) ys = chars_ascii 32 (32 ∷ indent n ys) (omega arith) ∙ ap (λ (zs : List ℕ). 32 ∷ zs) (chars_ascii 32 (indent n ys) (omega arith) ∙ ap (λ (zs : List ℕ). 32 ∷ zs) (indent_chars n ys))

no_chars : chars [] ≡ []
unfolding chars
no_chars = refl

written_chars : (ps : List Piece) → AllFit (kinds ps) → chars (written ps) ≡ laid ps
written_chars [] f = no_chars
written_chars (token k ∷ ps) f = spell_chars k (written ps) f.0 ∙ ap (λ (zs : List ℕ). spell k ++ zs) (written_chars ps f.1)
written_chars (blank ∷ ps) f = chars_ascii 32 (written ps) (omega arith) ∙ ap (λ (zs : List ℕ). 32 ∷ zs) (written_chars ps f)
written_chars (line n ∷ ps) f = chars_ascii 10 (indent n (written ps)) (omega arith) ∙ ap (λ (zs : List ℕ). 10 ∷ zs) (indent_chars n (written ps) ∙ ap (indent n) (written_chars ps f))

-- pieces of which no two tokens join are read as their tokens
pub parted_are_lexed : (ps : List Piece) → parted whole ps ≡ true → AllFit (kinds ps) → (ts : List Token) × Lexed (chars (written ps)) ts × (map kind_of ts ≡ kinds ps ++ Kind.End ∷ [])
parted_are_lexed ps q f =
    let r = (lexed_pieces whole ps q f).tokens 0 in
    (r.0, subst (λ (cs : List ℕ). LexedAt 0 cs r.0) (sym (written_chars ps f)) r.1, r.2)
