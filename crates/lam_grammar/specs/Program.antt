-- The grammar, and what it is for tokens to spell a program.
use Rattle.std.specs.Prelude.{ℕ, List, [], ◌∷◌}
use Rattle.lam_grammar_laws.specs.Grammar.{Grammar, rule}
use Rattle.lam_grammar_laws.specs.Texts.{limited, Spells}
use Rattle.lam_syntax.specs.Tree.{ProgramTree}
use Rattle.lam_lexer.specs.declared.token.Token.{Token}
use Rattle.lam_grammar.specs.Table.{Class, Rule, Sym, items, end_of_text, bodies, begins, counts}
use Rattle.lam_grammar.specs.Meaning.{Value, nothing, word, items_value, permits, act}

-- how many rules, operators and postfix parts may be open at a token
abbrev pub most_depth : ℕ
most_depth = 128

abbrev pub lam : Grammar
lam = record {
  Token = Token;
  Class = Class;
  Rule = Rule;
  Value = Value;
  fits = λ c w. c.fits w.kind;
  begins = λ r w. begins r w.kind;
  bodies = bodies;
  permits = permits;
  counts = counts;
  weight = λ c. c.adds;
  limit = most_depth;
  leaf = word;
  act = act;
}

-- a program is items and the end
abbrev pub program : List Sym
program = rule items ∷ end_of_text ∷ []

-- The tokens are those of the program, with the depth sum within its limit at each.
abbrev pub SpellsProgram : List Token → ProgramTree → Type 0
SpellsProgram tokens p = (w : Token) × Spells lam (limited lam) program nothing tokens (items_value p ∷ word w ∷ [])
