-- The steps of a rule's proof at a place where the next token begins the next symbols.
use Rattle.std.proofs.Common.{◌≡◌, ℕ, ◌<◌, Bool, true, false, Option, Some, None, List, [], ◌∷◌, refl, subst, arith}
use Rattle.lam_grammar_laws.specs.Grammar.{rule, Reads, leaves}
use Rattle.lam_grammar_laws.specs.Texts.{limited}
use Rattle.lam_grammar_laws.specs.Stopping.{unexpected, too_deep, could, begins_next}
use Rattle.lam_grammar_laws.proofs.Stages.{At, weaken}
use Rattle.lam_lexer.specs.declared.token.Token.{Token}
use Rattle.lam_syntax.specs.Tree.{expr_node, name_expr}
use Rattle.lam_grammar.specs.Table.{Rule, Sym, assign_part}
use Rattle.lam_grammar.specs.Meaning.{Value, expr_value, permits}
use Rattle.lam_grammar.specs.Program.{lam}
use Rattle.lam_grammar.proofs.FirstTokens.{told_apart}
use Rattle.lam_parser_tokens.specs.declared.breaks.Wanted.{Wanted}
use Rattle.lam_parser_tokens.specs.declared.breaks.Break.{Break}
use Rattle.lam_parser_tokens.specs.declared.breaks.Break.TheVariants.{Unexpected, TooDeep, NoMemory}
use Rattle.lam_parser_tokens.specs.Classes.{is_barred, sample_of}
use Rattle.lam_parser_tokens.specs.Reading.{Fails}
use Rattle.lam_parser_tokens.proofs.Rules.{Part, Loop}
use Rattle.lam_parser_parts.proofs.Begun.{is_front, begun}

-- the next token begins the symbols
abbrev pub front_at : List Sym → Option Token → Bool
front_at p None = false
front_at p (Some w) = is_front lam p w

-- a value after which each rule may stand
abbrev some_place : Value
some_place = expr_value 0 (expr_node 0 (name_expr []))

permitted : (r : Rule) → permits r some_place ≡ true
permitted assign_part = refl
permitted _ = refl

-- What is unexpected stands behind the token.
unexpected_past : (look : ℕ → Option Token) (p : List Sym) (s i at : ℕ) (wanted : Wanted) → front_at p (look i) ≡ true → Fails look p s i (Unexpected at wanted) → i < at
unexpected_past look p s i at wanted f h = go (look i) refl f
  where
    go : (o : Option Token) → look i ≡ o → front_at p o ≡ true → i < at
    go None e f = cc
    go (Some w) e f = begun lam told_apart w permitted e f (h.0 some_place)

rule_front : (q : Rule) (rest : List Sym) (o : Option Token) → begins_next lam q o ≡ true → front_at (rule q ∷ rest) o ≡ true
rule_front q rest None f = cc
rule_front q rest (Some w) f = f

not_there : (k at : ℕ) {ok : Type 0} → k < at → at ≡ k → ok
not_there k at lt e = absurd (omega arith)

-- What stops at symbols that the next token begins stops the rule.
pub next_fails : {look : ℕ → Option Token} {r : Rule} {s i k u : ℕ} {p : List Sym} {prev : Value → Value} {done : List Value → List Value} {ok : Token → Type 0} → Part look r s i p prev done k u ok → front_at p (look k) ≡ true → (b : Break) → Fails look p u k b → Fails look (rule r ∷ []) s i b
next_fails {look} {r} {s} {i} {k} {u} {p} {prev} {ok = ok} g f (Unexpected at wanted) h = (λ before. g.stops before (unexpected (is_barred wanted) at) tt (h.0 (prev before)), λ before. g.stops before (could at (sample_of wanted)) (not_there k at (unexpected_past look p u k at wanted f h)) (h.1 (prev before)))
next_fails {prev = prev} g f (TooDeep at) h = λ before. g.stops before (too_deep at) tt (h (prev before))
next_fails g f NoMemory h = tt

fails_more : (look : ℕ → Option Token) (q : Rule) (rest : List Sym) (s i : ℕ) (b : Break) → Fails look (rule q ∷ []) s i b → Fails look (rule q ∷ rest) s i b
fails_more look q rest s i (Unexpected at wanted) h = (λ before. weaken (h.0 before), λ before. weaken (h.1 before))
fails_more look q rest s i (TooDeep at) h = λ before. weaken (h before)
fails_more look q rest s i NoMemory h = tt

-- the same of a rule that the next token begins
pub begun_fails : {look : ℕ → Option Token} {r q : Rule} {s i k u : ℕ} {rest : List Sym} {prev : Value → Value} {done : List Value → List Value} {ok : Token → Type 0} → Part look r s i (rule q ∷ rest) prev done k u ok → begins_next lam q (look k) ≡ true → (b : Break) → Fails look (rule q ∷ []) u k b → Fails look (rule r ∷ []) s i b
begun_fails {look} {q = q} {k = k} {u = u} {rest = rest} g f b h = next_fails g (rule_front q rest (look k) f) b (fails_more look q rest u k b h)

not_at : (k at : ℕ) (ok : Token → Type 0) (w : Token) → k < at → At k ok (could at w)
not_at k at ok w lt e = absurd (omega arith)

-- in a loop, the same of the rule that is read again and again
pub loop_begun_fails : {V : Type 0} {wrap : V → Value} {look : ℕ → Option Token} {r q : Rule} {s i k u : ℕ} {ok : Token → Type 0} {value : V → Value} → Loop V wrap look r q s i value k u ok → begins_next lam q (look k) ≡ true → (b : Break) → Fails look (rule q ∷ []) u k b → Fails look (rule r ∷ []) s i b
loop_begun_fails {look = look} {q = q} {k = k} {u = u} {ok = ok} g f (Unexpected at wanted) h = (λ before. g.stops before (unexpected (is_barred wanted) at) tt h.0, λ before. g.stops before (could at (sample_of wanted)) (not_at k at ok (sample_of wanted) (unexpected_past look (rule q ∷ []) u k at wanted (rule_front q [] (look k) f) h)) h.1)
loop_begun_fails g f (TooDeep at) h = λ before. g.stops before (too_deep at) tt h
loop_begun_fails g f NoMemory h = tt

-- another way to write what is still open
pub loop_as : {V : Type 0} {wrap : V → Value} {look : ℕ → Option Token} {r q : Rule} {s i k u : ℕ} {ok : Token → Type 0} {value value' : V → Value} → ((os : V) → value os ≡ value' os) → Loop V wrap look r q s i value k u ok → Loop V wrap look r q s i value' k u ok
loop_as {look = look} {r = r} {s = s} {i = i} e g = record {
  reads = λ before os j t h. subst (λ (v : Value). Reads lam (limited lam) look (rule r ∷ []) before s i (v ∷ []) j (leaves lam r s t)) (e os) (g.reads before os j t h);
  stops = g.stops;
}
