-- What each beginning takes.
use Rattle.std.proofs.Common.{◌≡◌, ℕ, ◌+◌, ◌^◌, ◌<◌, ◌≤◌, true, false, List, [], ◌∷◌, Some, None, IsSome, length, drop, chars, IsUtf8, encode_utf8_all, pos, sym, ap, ◌∙◌, subst, arith}
use denote.Ref.{Bor}
use Rattle.std.proofs.lemmas.Str.{length-le-encodes}
use Rattle.lam_lexer.specs.declared.token.Token.{Token}
use Rattle.lam_lexer.specs.declared.token.TokenKind.{TokenKind}
use Rattle.lam_lexer.specs.declared.token.TokenKind.TheVariants as Kind
use Rattle.lam_lexer.specs.declared.lexer.Taken.{Taken}
use Rattle.lam_lexer.specs.declared.start.Start.{Start}
use Rattle.lam_lexer.specs.declared.fault.LexFault.{LexFault}
use Rattle.lam_lexer.specs.declared.fault.LexFault.TheVariants.{BadChar, BadNumber, BadEscape, OpenText, NoMemory}
use Rattle.lam_lexer.specs.Characters.{is_digit, continues_name, stays_on_line, run, past, goes_on, number, first}
use Rattle.lam_lexer.specs.Text.{TextFault}
use Rattle.lam_lexer.specs.Lexed.{token, word_kind, Lexes, a_space, a_comment, a_name, a_number, a_text, a_mark, a_long_mark, Wrong, strange, in_text, joined}
use Rattle.lam_lexer.specs.Reading.{size, IsText, IsTaken, OrNoMemory}
use Rattle.lam_lexer.proofs.Runs.{one_byte, size-cons, run_size}

pub space_taken : (at c : ℕ) (cs : List ℕ) (rest : Bor (List ℕ)) (u : IsUtf8 rest.now) → chars rest.now ≡ cs → IsTaken at Start.Space c cs (record { token = None; rest = rest; to = at + 1 })
space_taken at c cs rest u q = record {
  read = subst (λ (x : List ℕ). Lexes at Start.Space (c ∷ cs) [] (at + 1) x) (sym q) a_space;
  place = omega (arith, one_byte c cs, ap size q);
  utf8 = u;
}

pub mark_taken : (at c : ℕ) (cs : List ℕ) (k : TokenKind) (rest : Bor (List ℕ)) (u : IsUtf8 rest.now) → chars rest.now ≡ cs → IsTaken at (Start.Mark k) c cs (record { token = Some (token at k); rest = rest; to = at + 1 })
mark_taken at c cs k rest u q = record {
  read = subst (λ (x : List ℕ). Lexes at (Start.Mark k) (c ∷ cs) (token at k ∷ []) (at + 1) x) (sym q) a_mark;
  place = omega (arith, one_byte c cs, ap size q);
  utf8 = u;
}

pub two_bytes : (c : ℕ) (cs : List ℕ) → IsSome (first cs) → 2 ≤ size (c ∷ cs)
two_bytes c [] h = cc
two_bytes c (d ∷ cs) h = omega (arith, one_byte c (d ∷ cs), one_byte d cs)

pub long_mark_taken : (at c : ℕ) (cs : List ℕ) (k : TokenKind) (rest : Bor (List ℕ)) (u : IsUtf8 rest.now) → chars rest.now ≡ drop 1 cs → IsSome (first cs) → IsTaken at (Start.LongMark k) c cs (record { token = Some (token at k); rest = rest; to = at + 2 })
long_mark_taken at c [] k rest u q h = cc
long_mark_taken at c (d ∷ cs) k rest u q h = record {
  read = subst (λ (x : List ℕ). Lexes at (Start.LongMark k) (c ∷ d ∷ cs) (token at k ∷ []) (at + 2) x) (sym q) a_long_mark;
  place = omega (arith, one_byte c (d ∷ cs), one_byte d cs, ap size q);
  utf8 = u;
}

pub comment_taken : (at c : ℕ) (cs : List ℕ) (rest : Bor (List ℕ)) (u : IsUtf8 rest.now) (to : ℕ) → chars rest.now ≡ past stays_on_line cs → to ≡ at + 1 + size (run stays_on_line cs) → IsTaken at Start.Comment c cs (record { token = None; rest = rest; to = to })
comment_taken at c cs rest u to e p =
    let r = subst (λ (x : List ℕ). Lexes at Start.Comment (c ∷ cs) [] (at + 1 + size (run stays_on_line cs)) x) (sym e) a_comment in
    record {
      read = subst (λ (to : ℕ). Lexes at Start.Comment (c ∷ cs) [] to (chars rest.now)) (sym p) r;
      place = omega (arith, one_byte c cs, p, ap size e, run_size stays_on_line cs);
      utf8 = u;
    }

-- an identifier and what is left are the bytes
pub name_size : (c : ℕ) (cs name rest : List ℕ) → name ≡ encode_utf8_all (c ∷ run continues_name cs) → rest ≡ past continues_name cs → length name + size rest ≡ size (c ∷ cs)
name_size c cs name rest e q =
    omega (arith, ap length e, ap size q, run_size continues_name cs, size-cons c cs, size-cons c (run continues_name cs))

pub name_taken : (at c : ℕ) (cs name : List ℕ) (kind : TokenKind) (rest : Bor (List ℕ)) (u : IsUtf8 rest.now) (n to : ℕ) → name ≡ encode_utf8_all (c ∷ run continues_name cs) → chars rest.now ≡ past continues_name cs → kind ≡ word_kind name → n ≡ length name → to ≡ at + n → IsTaken at Start.Name c cs (record { token = Some (token at kind); rest = rest; to = to })
name_taken at c cs name kind rest u n to e q k l p =
    let word = encode_utf8_all (c ∷ run continues_name cs) in
    let r = subst (λ (x : List ℕ). Lexes at Start.Name (c ∷ cs) (token at (word_kind word) ∷ []) (at + length word) x) (sym q) a_name in
    let r1 = subst (λ (kind : TokenKind). Lexes at Start.Name (c ∷ cs) (token at kind ∷ []) (at + length word) (chars rest.now)) (ap word_kind (sym e) ∙ sym k) r in
    let t : at + length word ≡ to = omega (arith, p, l, ap length e) in
    record {
      read = subst (λ (to : ℕ). Lexes at Start.Name (c ∷ cs) (token at kind ∷ []) to (chars rest.now)) t r1;
      place = omega (arith, name_size c cs name (chars rest.now) e q, p, l);
      utf8 = u;
    }

pub number_size : (c : ℕ) (cs rest : List ℕ) (count : ℕ) → rest ≡ past is_digit cs → count ≡ length (run is_digit cs) → 1 + count + size rest ≤ size (c ∷ cs)
number_size c cs rest count q e =
    let l : length (run is_digit cs) ≤ size (run is_digit cs) = length-le-encodes (run is_digit cs) in
    omega (arith, one_byte c cs, ap size q, run_size is_digit cs, e, l)

pub number_taken : (at c : ℕ) (cs : List ℕ) (rest : Bor (List ℕ)) (u : IsUtf8 rest.now) (count n : ℕ) → chars rest.now ≡ past is_digit cs → count ≡ length (run is_digit cs) → number (c ∷ run is_digit cs) ≡ n → n < 2 ^ 63 → goes_on continues_name (chars rest.now) ≡ false → IsTaken at Start.Number c cs (record { token = Some (token at (Kind.Number (pos n))); rest = rest; to = at + 1 + count })
number_taken at c cs rest u count n q e v small alone =
    let value = number (c ∷ run is_digit cs) in
    let s : value < 2 ^ 63 = omega (arith, v) in
    let r = a_number s (ap (goes_on continues_name) (sym q) ∙ alone) in
    let r1 = subst (λ (x : List ℕ). Lexes at Start.Number (c ∷ cs) (token at (Kind.Number (pos value)) ∷ []) (at + 1 + length (run is_digit cs)) x) (sym q) r in
    let r2 = subst (λ (n : ℕ). Lexes at Start.Number (c ∷ cs) (token at (Kind.Number (pos n)) ∷ []) (at + 1 + length (run is_digit cs)) (chars rest.now)) v r1 in
    record {
      read = subst (λ (m : ℕ). Lexes at Start.Number (c ∷ cs) (token at (Kind.Number (pos n)) ∷ []) (at + 1 + m) (chars rest.now)) (sym e) r2;
      place = omega (arith, number_size c cs (chars rest.now) count q e);
      utf8 = u;
    }

pub text_taken : (at c : ℕ) (cs bytes literal : List ℕ) (rest : Bor (List ℕ)) (u : IsUtf8 rest.now) (to : ℕ) → literal ≡ bytes → IsText cs at bytes (chars rest.now) to → IsTaken at Start.Text c cs (record { token = Some (token at (Kind.Text literal)); rest = rest; to = to })
text_taken at c cs bytes literal rest u to e t =
    let r = subst (λ (to : ℕ). Lexes at Start.Text (c ∷ cs) (token at (Kind.Text bytes) ∷ []) to (chars rest.now)) (sym t.position) (a_text t.read) in
    record {
      read = subst (λ (bytes : List ℕ). Lexes at Start.Text (c ∷ cs) (token at (Kind.Text bytes) ∷ []) to (chars rest.now)) (sym e) r;
      place = omega (arith, t.place, one_byte c cs);
      utf8 = u;
    }

pub text_wrong : (at c : ℕ) (cs : List ℕ) (f : LexFault) → OrNoMemory (TextFault at 0 (at + 1) cs) f → OrNoMemory (Wrong at Start.Text c cs) f
text_wrong at c cs NoMemory h = tt
text_wrong at c cs (BadChar m) h = in_text h
text_wrong at c cs (BadNumber m) h = in_text h
text_wrong at c cs (BadEscape m) h = in_text h
text_wrong at c cs (OpenText m) h = in_text h

pub as_begun : {at c : ℕ} {cs : List ℕ} {t : Taken} {s s' : Start} → s ≡ s' → IsTaken at s' c cs t → IsTaken at s c cs t
as_begun {at} {c} {cs} {t} e h = subst (λ (s : Start). IsTaken at s c cs t) (sym e) h

pub wrongly_joined : {at c : ℕ} {cs rest : List ℕ} → rest ≡ past is_digit cs → goes_on continues_name rest ≡ true → Wrong at Start.Number c cs (BadNumber at)
wrongly_joined q h = joined (ap (goes_on continues_name) (sym q) ∙ h)

pub nothing_wrong : {at c : ℕ} {cs : List ℕ} {s : Start} → s ≡ Start.Nothing → Wrong at s c cs (BadChar at)
nothing_wrong {at} {c} {cs} {s} e = subst (λ (s : Start). Wrong at s c cs (BadChar at)) (sym e) strange

-- what is read takes bytes
pub later_place : {at c : ℕ} {cs : List ℕ} {s : Start} {to : ℕ} {rest : List ℕ} {ts : List Token} → Lexes at s (c ∷ cs) ts to rest → at < to
later_place a_space = omega arith
later_place a_comment = omega arith
later_place (a_name {c = c} {cs = cs}) = omega (arith, one_byte c (run continues_name cs))
later_place (a_number small alone) = omega arith
later_place (a_text m) = omega arith
later_place a_mark = omega arith
later_place a_long_mark = omega arith

pub shrinks : {at c : ℕ} {cs : List ℕ} {s : Start} (t : Taken) → IsTaken at s c cs t → size (chars t.rest.now) < size (c ∷ cs)
shrinks t r = omega (arith, later_place r.read, r.place)
