-- From what reading comes to, to what the answer says of the tokens.
use Rattle.std.proofs.Common.{◌≡◌, ℕ, ◌<◌, ◌≤◌, inl, inr, true, false, Option, None, Ok, Err, List, [], ◌∷◌, ◌++◌, length, take, slice_get, refl, ap, ◌∙◌, arith, length-append}
use Rattle.std.proofs.lemmas.Option.{slice_get-get_or, slice_get_past}
use Rattle.std.proofs.lemmas.List.{length-take-le}
use Rattle.lam_grammar_laws.specs.Grammar.{Reads, free}
use Rattle.lam_grammar_laws.specs.Texts.{limited, IsUnexpected, IsTooDeep}
use Rattle.lam_grammar_laws.specs.Stopping.{unexpected, too_deep, could, Stops}
use Rattle.lam_grammar_laws.proofs.Laws.{once, free_reads}
use Rattle.lam_grammar_laws.proofs.Spelling.{moves}
use Rattle.lam_grammar_laws.proofs.Completion.{at_taken, low}
use Rattle.lam_grammar_laws.proofs.Theorem.{could_stand, is_unexpected, is_too_deep, is_not_barred, is_barred}
use Rattle.lam_lexer.specs.declared.token.Token.{Token}
use Rattle.lam_lexer.specs.declared.token.TokenKind.TheVariants.{End}
use Rattle.lam_syntax.specs.declared.Program.{Program}
use Rattle.lam_syntax.specs.Tree.{program_tree}
use Rattle.lam_grammar.specs.Meaning.{Value, nothing, word, items_value}
use Rattle.lam_grammar.specs.Program.{lam, program}
use Rattle.lam_grammar.specs.Examples.{of_kind, examples}
use Rattle.lam_grammar.proofs.Passes.{sound, free_sound, bars}
use Rattle.lam_parser_tokens.specs.declared.marks.Mark as marks
use Rattle.lam_parser_tokens.specs.declared.breaks.Wanted.{Wanted}
use Rattle.lam_parser_tokens.specs.declared.breaks.Wanted.TheVariants.{Item, Name, TypeName, Statement, Expression, Place, Mark}
use Rattle.lam_parser_tokens.specs.declared.breaks.Break.TheVariants.{Unexpected, TooDeep}
use Rattle.lam_parser_tokens.specs.Classes.{class_of, sample_of}
use Rattle.lam_parser_tokens.specs.Reading.{Fails}
use Rattle.lam_parser.specs.declared.ParseFault.TheVariants as answer
use Rattle.lam_parser.specs.Answers.{CouldBe, LacksPlace, position_at, Parses}

module _ (ts : List Token) where
  pub unexpected_there : (n : ℕ) (w : Token) → Stops lam examples (limited lam) (slice_get ts) program nothing 0 0 (unexpected false n) → Stops lam examples (limited lam) (slice_get ts) program nothing 0 0 (could n w) → IsUnexpected lam program nothing ts n × (LacksPlace ts n → ⊥) × CouldBe ts n w
  unexpected_there n w h k = (is_unexpected lam examples sound program nothing ts false n w refl h k, is_not_barred lam examples sound program nothing ts n h, could_stand lam examples sound program nothing ts n w refl k)

  pub barred_there : (n : ℕ) (w : Token) → Stops lam examples (limited lam) (slice_get ts) program nothing 0 0 (unexpected true n) → Stops lam examples (limited lam) (slice_get ts) program nothing 0 0 (could n w) → IsUnexpected lam program nothing ts n × LacksPlace ts n
  barred_there n w h k = (is_unexpected lam examples sound program nothing ts true n w refl h k, is_barred lam examples bars free_sound program nothing ts n refl h)

  pub too_deep_there : (n : ℕ) → Stops lam examples (limited lam) (slice_get ts) program nothing 0 0 (too_deep n) → IsTooDeep lam program nothing ts n
  too_deep_there n h = is_too_deep lam examples sound program nothing ts n refl h

  -- ---- behind the end of the text

  module _ (vs : List Value) (n s : ℕ) (h : Reads lam (limited lam) (slice_get ts) program nothing 0 0 vs n s) where
    -- a text with the same first tokens ends there too
    there_too : (others : List Token) → ((j : ℕ) → j < n → slice_get others j ≡ slice_get ts j) → Reads lam (limited lam) (slice_get others) program nothing 0 0 vs n s
    there_too others same = moves lam examples sound h same (inr refl) (λ m l. omega arith)

    ends_too : (others : List Token) (cap : ℕ → ℕ) (vs' : List Value) (n' s' : ℕ) → ((j : ℕ) → j < n → slice_get others j ≡ slice_get ts j) → Reads (free lam) cap (slice_get others) program nothing 0 0 vs' n' s' → n ≡ n'
    ends_too others cap vs' n' s' same g = ap (λ (x : List Value × ℕ × ℕ). x.1) (once (free_reads (there_too others same)) (λ j l. refl) g)

    -- nothing stands behind it
    nothing_there : (others : List Token) (cap : ℕ → ℕ) (vs' : List Value) (n' s' : ℕ) → ((j : ℕ) → j < n → slice_get others j ≡ slice_get ts j) → Reads (free lam) cap (slice_get others) program nothing 0 0 vs' n' s' → slice_get others n' ≡ None → slice_get others n ≡ None
    nothing_there others cap vs' n' s' same g e = ap (slice_get others) (ends_too others cap vs' n' s' same g) ∙ e

    no_other : (w : Token) → CouldBe ts n w → ⊥
    no_other w c =
        let e = nothing_there c.others _ c.vs c.spells.end c.spells.sum c.same (free_reads c.spells.reads) c.spells.whole in
        let f = c.next in
        cc

    token_there : n < length ts → (o : Option Token) → o ≡ slice_get ts n → o ≡ None → ⊥
    token_there lt o q e =
        let f = slice_get-get_or ts n (of_kind End) lt in
        cc

    pub past_end : n < length ts → IsUnexpected lam program nothing ts n × (LacksPlace ts n → ⊥) × ((w : Token) → CouldBe ts n w → ⊥)
    past_end lt = (
      (
        record {
          others = take n ts ++ [];
          same = λ j l. at_taken ts n [] (omega arith) j l;
          bound = 0;
          vs = vs;
          spells = record {
            end = n;
            sum = s;
            reads = moves lam examples sound h (λ j l. at_taken ts n [] (omega arith) j l) (inr refl) (λ m l. low lam n 0 m l);
            whole = slice_get_past (take n ts ++ []) n (omega (arith, length-append (take n ts) [], length-take-le n ts (omega arith)));
          };
        },
        λ c. token_there lt _ (c.same n (omega arith)) (nothing_there c.others _ c.vs c.spells.end c.spells.sum (λ j l. c.same j (omega arith)) (free_reads c.spells.reads) c.spells.whole),
      ),
      λ c. token_there lt _ (c.same n (omega arith)) (nothing_there c.others _ c.vs c.spells.end c.spells.sum (λ j l. c.same j (omega arith)) c.spells.reads c.spells.whole),
      no_other,
    )

-- ---- the parser's answer

pub unexpected_answer : (ts : List Token) (n at : ℕ) (wanted : Wanted) → at ≡ position_at ts n → Fails (slice_get ts) program 0 0 (Unexpected n wanted) → Parses ts (Err (answer.Unexpected at wanted))
unexpected_answer ts n at Place e h =
    let u = barred_there ts n _ (h.0 nothing) (h.1 nothing) in
    (n, e, u.0, u.1)
unexpected_answer ts n at Item e h =
    let u = unexpected_there ts n _ (h.0 nothing) (h.1 nothing) in
    (n, e, u.0, (u.1, inl (sample_of Item, refl, u.2)))
unexpected_answer ts n at Name e h =
    let u = unexpected_there ts n _ (h.0 nothing) (h.1 nothing) in
    (n, e, u.0, (u.1, inl (sample_of Name, refl, u.2)))
unexpected_answer ts n at TypeName e h =
    let u = unexpected_there ts n _ (h.0 nothing) (h.1 nothing) in
    (n, e, u.0, (u.1, inl (sample_of TypeName, refl, u.2)))
unexpected_answer ts n at Statement e h =
    let u = unexpected_there ts n _ (h.0 nothing) (h.1 nothing) in
    (n, e, u.0, (u.1, inl (sample_of Statement, refl, u.2)))
unexpected_answer ts n at Expression e h =
    let u = unexpected_there ts n _ (h.0 nothing) (h.1 nothing) in
    (n, e, u.0, (u.1, inl (sample_of Expression, refl, u.2)))
unexpected_answer ts n at (Mark m) e h =
    let u = unexpected_there ts n _ (h.0 nothing) (h.1 nothing) in
    (n, e, u.0, (u.1, inl (sample_of (Mark m), (class_of m).sure, u.2)))

pub too_deep_answer : (ts : List Token) (n at : ℕ) → at ≡ position_at ts n → Fails (slice_get ts) program 0 0 (TooDeep n) → Parses ts (Err (answer.TooDeep at))
too_deep_answer ts n at e h = (n, e, too_deep_there ts n (h nothing))

-- the tokens go on behind the end of the text
pub past_answer : (ts : List Token) (n at s : ℕ) (vs : List Value) (m : marks.Mark) → at ≡ position_at ts n → Reads lam (limited lam) (slice_get ts) program nothing 0 0 vs n s → n < length ts → Parses ts (Err (answer.Unexpected at (Mark m)))
past_answer ts n at s vs m e h lt =
    let u = past_end ts vs n s h lt in
    (n, e, u.0, (u.1, inr u.2))

pub whole_answer : (ts : List Token) (n s : ℕ) (w : Token) (p : Program) → Reads lam (limited lam) (slice_get ts) program nothing 0 0 (items_value (program_tree p) ∷ word w ∷ []) n s → length ts ≤ n → Parses ts (Ok p)
whole_answer ts n s w p h le = (w, record { end = n; sum = s; reads = h; whole = slice_get_past ts n le })
