-- The tokens of a text that has neither comments nor texts, computed.
use Rattle.std.proofs.Common.{◌≡◌, ℕ, zero, suc, ◌+◌, ◌^◌, ◌&&◌, true, Bool, not, if◌then◌else◌, nat_lt, List, [], ◌∷◌, length, Option, Some, None, option_map, encode_utf8_all, pos, refl, subst, ltb-true}
use Rattle.std.proofs.lemmas.Bool.{and_parts, not-true}
use Rattle.lam_lexer.specs.declared.token.Token.{Token}
use Rattle.lam_lexer.specs.declared.token.TokenKind.TheVariants as Kind
use Rattle.lam_lexer.specs.declared.start.Start.{Start}
use Rattle.lam_lexer.specs.Characters.{is_digit, continues_name, run, past, first, goes_on, number}
use Rattle.lam_lexer.specs.Lexed.{start, word_kind, token, Lexes, a_space, a_name, a_number, a_mark, LexedAt, at_end, then_on}
use Rattle.lam_main_laws.proofs.Given.{some_same, if_true}

abbrev Lex : Type 0
Lex = ℕ → List ℕ → Option (List Token)

abbrev put : Token → Option (List Token) → Option (List Token)
put t o = option_map (λ ts. t ∷ ts) o

-- a number is small enough, and no name follows it
abbrev is_number : ℕ → List ℕ → Bool
is_number c cs = nat_lt (number (c ∷ run is_digit cs)) (2 ^ 63) && not (goes_on continues_name (past is_digit cs))

abbrev by_start : Lex → ℕ → Start → ℕ → List ℕ → Option (List Token)
by_start more at Start.Space c cs = more (at + 1) cs
by_start more at Start.Name c cs = put (token at (word_kind (encode_utf8_all (c ∷ run continues_name cs)))) (more (at + length (encode_utf8_all (c ∷ run continues_name cs))) (past continues_name cs))
by_start more at Start.Number c cs = if is_number c cs then put (token at (Kind.Number (pos (number (c ∷ run is_digit cs))))) (more (at + 1 + length (run is_digit cs)) (past is_digit cs)) else None
by_start more at (Start.Mark k) c cs = put (token at k) (more (at + 1) cs)
by_start more at _ c cs = None

-- the number bounds the tokens
abbrev pub lexed_by : ℕ → Lex
lexed_by zero at cs = None
lexed_by (suc n) at [] = Some (token at Kind.End ∷ [])
lexed_by (suc n) at (c ∷ cs) = by_start (lexed_by n) at (start c (first cs)) c cs

-- ---- these are its tokens

taken : (t : Token) (o : Option (List Token)) (ts : List Token) → put t o ≡ Some ts → (us : List Token) × (o ≡ Some us) × (t ∷ us ≡ ts)
taken t None ts e = absurd (cc)
taken t (Some us) ts e = (us, refl, some_same e)

module _ (more : Lex) (is : (at : ℕ) (cs : List ℕ) (ts : List Token) → more at cs ≡ Some ts → LexedAt at cs ts) where
  one_token : (at to c : ℕ) (cs rest : List ℕ) (t : Token) (ts : List Token) → Lexes at (start c (first cs)) (c ∷ cs) (t ∷ []) to rest → put t (more to rest) ≡ Some ts → LexedAt at (c ∷ cs) ts
  one_token at to c cs rest t ts r e =
      let p = taken t (more to rest) ts e in
      subst (λ (us : List Token). LexedAt at (c ∷ cs) us) p.2 (then_on r (is to rest p.0 p.1))

  is_lexed : (at c : ℕ) (cs : List ℕ) (ts : List Token) (s : Start) → s ≡ start c (first cs) → by_start more at s c cs ≡ Some ts → LexedAt at (c ∷ cs) ts
  is_lexed at c cs ts Start.Space e h = then_on (subst (λ (s : Start). Lexes at s (c ∷ cs) [] (at + 1) cs) e a_space) (is (at + 1) cs ts h)
  is_lexed at c cs ts Start.Name e h =
      let name : List ℕ = encode_utf8_all (c ∷ run continues_name cs) in
      one_token at (at + length name) c cs (past continues_name cs) (token at (word_kind name)) ts (subst (λ (s : Start). Lexes at s (c ∷ cs) (token at (word_kind name) ∷ []) (at + length name) (past continues_name cs)) e a_name) h
  is_lexed at c cs ts Start.Number e h =
      let t : Token = token at (Kind.Number (pos (number (c ∷ run is_digit cs)))) in
      let to : ℕ = at + 1 + length (run is_digit cs) in
      let p = if_true (is_number c cs) (put t (more to (past is_digit cs))) ts h in
      let q = and_parts (nat_lt (number (c ∷ run is_digit cs)) (2 ^ 63)) (not (goes_on continues_name (past is_digit cs))) p.0 in
      one_token at to c cs (past is_digit cs) t ts (subst (λ (s : Start). Lexes at s (c ∷ cs) (t ∷ []) to (past is_digit cs)) e (a_number (ltb-true _ _ q.0) (not-true _ q.1))) p.1
  is_lexed at c cs ts (Start.Mark k) e h = one_token at (at + 1) c cs cs (token at k) ts (subst (λ (s : Start). Lexes at s (c ∷ cs) (token at k ∷ []) (at + 1) cs) e a_mark) h
  is_lexed at c cs ts _ e h = absurd (cc)

pub lexed_as : (n at : ℕ) (cs : List ℕ) (ts : List Token) → lexed_by n at cs ≡ Some ts → LexedAt at cs ts
lexed_as zero at cs ts e = absurd (cc)
lexed_as (suc n) at [] ts e = subst (λ (us : List Token). LexedAt at [] us) (some_same e) at_end
lexed_as (suc n) at (c ∷ cs) ts e = is_lexed (lexed_by n) (λ to rest us. lexed_as n to rest us) at c cs ts (start c (first cs)) refl e
