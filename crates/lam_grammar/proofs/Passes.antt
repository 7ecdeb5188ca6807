-- The table passes the tests.
use Rattle.std.proofs.Common.{◌≡◌, ℕ, ◌<◌, Bool, true, false, cond, Option, Some, None, List, [], ◌∷◌, refl, ap, ◌∙◌, lit<}
use Rattle.lam_grammar_laws.specs.Grammar.{Grammar, pick, is_empty, production, free}
use Rattle.lam_grammar_laws.specs.Examples.{Examples, implies, ends, words, IsBelow}
use Rattle.lam_grammar_laws.proofs.Sound.{Sound}
use Rattle.lam_grammar_laws.proofs.Spelling.{implied}
use Rattle.lam_grammar_laws.proofs.Tests.{empty_of, passes_all, passes, emptying_of, following_of, closing_of}
use Rattle.lam_grammar_laws.proofs.Theorem.{free_examples, Bars, HasBars}
use Rattle.lam_lexer.specs.declared.token.Token.{Token}
use Rattle.lam_lexer.specs.declared.token.TokenKind.{TokenKind}
use Rattle.lam_lexer.specs.declared.token.TokenKind.TheVariants.{Number, Assign}
use Rattle.lam_grammar.specs.declared.Level.TheVariants.{Or as or_level, And as and_level, Sum as sum_level, Term as term_level}
use Rattle.lam_grammar.specs.Table.{Class, Rule, Sym, items, item, variable, block, stmts, stmt, assign_part, parens, region_head, captures, handler, expr, comparison, unary, post, prim, chain, chain_tail, arguments, bodies, begins, counts}
use Rattle.lam_grammar.specs.Meaning.{Value, word, permits, act, is_place_value}
use Rattle.lam_grammar.specs.Program.{lam}
use Rattle.lam_grammar.specs.Examples.{Ending, any_token, after_expression, after_list, no_else_word, a_brace, ending, admits, null, of_kind, kinds, placed, short, rank, fills, full, first_kind, examples}

-- the grammar, with another rule of what may stand after a value
abbrev grammar_with : (Rule → Value → Bool) → Grammar
grammar_with p = record {
  Token = Token;
  Class = Class;
  Rule = Rule;
  Value = Value;
  fits = λ c w. c.fits w.kind;
  begins = λ r w. begins r w.kind;
  bodies = bodies;
  permits = p;
  counts = counts;
  weight = λ c. c.adds;
  limit = 128;
  leaf = word;
  act = act;
}

abbrev examples_with : (p : Rule → Value → Bool) → Examples (grammar_with p)
examples_with p = record {
  sample = λ c. of_kind c.sample;
  null = null;
  word = λ r. placed (kinds r);
  short = short;
  rank = rank;
  top = 11;
  closes = λ r w. admits (ending r) w.kind;
  fills = fills;
  full = full;
  first = λ r. of_kind (first_kind r);
}

-- ---- endings

-- what is an ending of the second sort is one of the first
abbrev wide_ending : Ending → Ending → Bool
wide_ending any_token f = true
wide_ending after_expression after_expression = true
wide_ending after_expression after_list = true
wide_ending after_list after_list = true
wide_ending no_else_word no_else_word = true
wide_ending no_else_word after_expression = true
wide_ending no_else_word after_list = true
wide_ending a_brace a_brace = true
wide_ending _ _ = false

abbrev pub wide : Rule → Rule → Bool
wide q r = wide_ending (ending q) (ending r)

list_after_expression : (k : TokenKind) → implies (admits after_list k) (admits after_expression k) ≡ true
list_after_expression (Number n) = refl
list_after_expression _ = refl

list_no_else : (k : TokenKind) → implies (admits after_list k) (admits no_else_word k) ≡ true
list_no_else (Number n) = refl
list_no_else _ = refl

expression_no_else : (k : TokenKind) → implies (admits after_expression k) (admits no_else_word k) ≡ true
expression_no_else (Number n) = refl
expression_no_else _ = refl

widens : (e f : Ending) (k : TokenKind) → wide_ending e f ≡ true → admits f k ≡ true → admits e k ≡ true
widens any_token f k h a = refl
widens after_expression after_list k h a = implied _ _ (list_after_expression k) a
widens no_else_word after_expression k h a = implied _ _ (expression_no_else k) a
widens no_else_word after_list k h a = implied _ _ (list_no_else k) a
widens after_list after_list k h a = a
widens a_brace a_brace k h a = a
widens _ _ k h a = cc

-- ---- bodies

each_body : (p : Rule → Value → Bool) (r : Rule) → passes_all (grammar_with p) (examples_with p) wide r (bodies r) ≡ true
each_body p (chain or_level) = refl
each_body p (chain _) = refl
each_body p (chain_tail or_level) = refl
each_body p (chain_tail _) = refl
each_body p _ = refl

none_before_end : (p : Rule → Value → Bool) (r : Rule) → implies (null r) (is_empty (pick (grammar_with p) (bodies r) None)) ≡ true
none_before_end p items = refl
none_before_end p _ = refl

none_before : (p : Rule → Value → Bool) (r : Rule) (at : ℕ) (k : TokenKind) → implies (null r) (implies (admits (ending r) k) (is_empty (pick (grammar_with p) (bodies r) (Some (record { at = at; kind = k }))))) ≡ true
none_before p (chain_tail or_level) at (Number n) = refl
none_before p (chain_tail _) at (Number n) = refl
none_before p _ at (Number n) = refl
none_before p _ at _ = refl

empty_production : (p : Rule → Value → Bool) (r : Rule) (b : Value) (o : Option Token) → is_empty (pick (grammar_with p) (bodies r) o) ≡ true → production (grammar_with p) r b o ≡ Some []
empty_production p r b o h = go (p r b) (pick (grammar_with p) (bodies r) o) h
  where
    go : (t : Bool) (q : List Sym) → is_empty q ≡ true → cond t (Some q) (cond (is_empty q) (Some []) None) ≡ Some []
    go true q e = ap Some (empty_of q e)
    go false q e = ap (λ (t : Bool). cond t (Some []) None) e

empties : (p : Rule → Value → Bool) (r : Rule) (b : Value) (o : Option Token) → null r ≡ true → ends (λ (w : Token). admits (ending r) w.kind) o ≡ true → production (grammar_with p) r b o ≡ Some []
empties p r b None n c = empty_production p r b None (implied _ _ (none_before_end p r) n)
empties p r b (Some w) n c = empty_production p r b (Some w) (implied _ _ (implied _ _ (none_before p r w.at w.kind) n) c)

-- ---- examples

abbrev behind : List TokenKind → List Token
behind [] = []
behind (k ∷ ks) = placed ks

chosen_of : (p : Rule → Value → Bool) (r : Rule) (b : Value) (o : Option Token) (body : List Sym) → p r b ≡ true → pick (grammar_with p) (bodies r) o ≡ body → production (grammar_with p) r b o ≡ Some body
chosen_of p r b o body t e = ap (λ (x : Bool). cond x (Some (pick (grammar_with p) (bodies r) o)) (cond (is_empty (pick (grammar_with p) (bodies r) o)) (Some []) None)) t ∙ ap Some e

null_word : (r : Rule) → null r ≡ true → placed (kinds r) ≡ []
null_word items n = refl
null_word _ n = cc

spelt_first : (r : Rule) → null r ≡ false → placed (kinds r) ≡ of_kind (first_kind r) ∷ behind (kinds r)
spelt_first item n = refl
spelt_first _ n = cc

picks_short : (p : Rule → Value → Bool) (r : Rule) → null r ≡ false → pick (grammar_with p) (bodies r) (Some (of_kind (first_kind r))) ≡ short r
picks_short p item n = refl
picks_short p _ n = cc

spells : (p : Rule → Value → Bool) (r : Rule) → null r ≡ false → words (grammar_with p) (examples_with p) (short r) ≡ placed (kinds r)
spells p (chain or_level) n = refl
spells p (chain _) n = refl
spells p _ n = cc

-- what comes behind the first token of a rule's full body
abbrev full_behind : Rule → List Token
full_behind items = behind (kinds item)
full_behind stmts = behind (kinds stmt)
full_behind r = behind (kinds r)

full_first : (p : Rule → Value → Bool) (r : Rule) → fills r ≡ true → words (grammar_with p) (examples_with p) (full r) ≡ of_kind (first_kind r) ∷ full_behind r
full_first p (chain or_level) n = refl
full_first p (chain _) n = refl
full_first p _ n = cc

picks_full : (p : Rule → Value → Bool) (r : Rule) → fills r ≡ true → pick (grammar_with p) (bodies r) (Some (of_kind (first_kind r))) ≡ full r
picks_full p items n = refl
picks_full p _ n = cc

filled : (r : Rule) → null r ≡ false → fills r ≡ true
filled item n = refl
filled _ n = cc

lower : (p : Rule → Value → Bool) (r : Rule) → IsBelow (grammar_with p) rank (rank r) (short r)
lower p item = (lit< tt, tt)
lower p variable = (lit< tt, tt)
lower p block = (lit< tt, tt)
lower p stmt = (lit< tt, (lit< tt, tt))
lower p parens = (lit< tt, tt)
lower p region_head = (lit< tt, (lit< tt, tt))
lower p captures = (lit< tt, tt)
lower p handler = (lit< tt, tt)
lower p expr = (lit< tt, tt)
lower p comparison = (lit< tt, (lit< tt, tt))
lower p unary = (lit< tt, tt)
lower p post = (lit< tt, (lit< tt, tt))
lower p prim = (lit< tt, tt)
lower p arguments = (lit< tt, tt)
lower p (chain or_level) = (lit< tt, (lit< tt, tt))
lower p (chain and_level) = (lit< tt, (lit< tt, tt))
lower p (chain sum_level) = (lit< tt, (lit< tt, tt))
lower p (chain term_level) = (lit< tt, (lit< tt, tt))
lower p _ = tt

topmost : (r : Rule) → rank r < 11
topmost (chain or_level) = lit< tt
topmost (chain _) = lit< tt
topmost _ = lit< tt

-- A text of the grammar goes on from wherever reading stands.
sound_with : (p : Rule → Value → Bool) → ((r : Rule) (b : Value) → fills r ≡ true → p r b ≡ true) → Sound (grammar_with p) (examples_with p)
sound_with p free_to = record {
  emptying = λ r b o body q e. emptying_of (grammar_with p) (examples_with p) wide r body (passes (grammar_with p) (examples_with p) wide (each_body p) r b o body q) e;
  closing = λ r b o body q o' e. closing_of (grammar_with p) (examples_with p) wide (λ q' r' w h a. widens (ending q') (ending r') w.kind h a) r body (passes (grammar_with p) (examples_with p) wide (each_body p) r b o body q) o' e;
  following = λ r b o body q. following_of (grammar_with p) (examples_with p) wide r body (passes (grammar_with p) (examples_with p) wide (each_body p) r b o body q);
  null_word = null_word;
  empties = empties p;
  chooses = λ r b n. (behind (kinds r), spelt_first r n, chosen_of p r b _ (short r) (free_to r b (filled r n)) (picks_short p r n));
  spells = spells p;
  fills = λ r b f. (full_behind r, full_first p r f, chosen_of p r b _ (full r) (free_to r b f) (picks_full p r f));
  lower = lower p;
  topmost = topmost;
  fit = λ c. c.sure;
}

permitted : (r : Rule) (b : Value) → fills r ≡ true → permits r b ≡ true
permitted assign_part b f = cc
permitted _ b f = refl

pub sound : Sound lam examples
sound = sound_with permits permitted

pub free_sound : Sound (free lam) (free_examples examples)
free_sound = sound_with (λ r b. true) (λ r b f. refl)

-- ---- what may stand before `=`

not_none : (b : Bool) → ◌≡◌ {A = Option (List Sym)} (cond b (Some []) (Some [])) None → ⊥
not_none true e = cc
not_none false e = cc

assign_bars : (before : Value) (at : ℕ) (k : TokenKind) → production lam assign_part before (Some (record { at = at; kind = k })) ≡ None → Bars lam assign_part (Some (record { at = at; kind = k }))
assign_bars before at Assign h = record { w = record { at = at; kind = Assign }; c = _; more = _; next = refl; body = refl; fit = refl }
assign_bars before at _ h = absurd (not_none (is_place_value before) h)

pub bars : HasBars lam
bars assign_part before None h = absurd (not_none (is_place_value before) h)
bars assign_part before (Some w) h = assign_bars before w.at w.kind h
bars _ before o h = cc
