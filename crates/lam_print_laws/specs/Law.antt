-- The way round: the canonical text of a tree is read as the same tree, but for its positions.
use Rattle.std.specs.Prelude.{◌≡◌, ℕ, List, [], ◌∷◌, ◌++◌, map, chars}
use Rattle.lam_grammar_laws.specs.Texts.{IsTooDeep}
use Rattle.lam_syntax.specs.Tree.{ProgramTree}
use Rattle.lam_syntax.specs.Unplaced.{unplaced}
use Rattle.lam_lexer.specs.declared.token.Token.{Token}
use Rattle.lam_lexer.specs.declared.token.TokenKind.TheVariants as Kind
use Rattle.lam_lexer.specs.Lexed.{Lexed}
use Rattle.lam_grammar.specs.Meaning.{nothing}
use Rattle.lam_grammar.specs.Program.{lam, program, SpellsProgram}
use Rattle.lam_print.specs.Pieces.{kinds}
use Rattle.lam_print.specs.Canon.{pieces, canon}
use Rattle.lam_print.specs.Law.{kind_of}
use Rattle.lam_print_laws.specs.Words.{IsOf}

-- The depth sum passes its limit at no token. An operand that loses its parentheses brings its operators and postfix
-- parts into the rule round it, so the sum can be greater in the canonical text than in the text that was read.
abbrev pub NoneTooDeep : List Token → Type 0
NoneTooDeep tokens = (n : ℕ) → IsTooDeep lam program nothing tokens n → ⊥

-- The tokens spell the same tree as p, but for its positions.
pub record ReadAs (tokens : List Token) (p : ProgramTree) : Type 0 where
  pub tree : ProgramTree
  pub spelt : SpellsProgram tokens tree
  pub same : unplaced tree ≡ unplaced p

-- Of a tree that some tokens spell, the canonical tokens spell the same tree, where none of them is too deep.
abbrev pub TreeLaw : Type 0
TreeLaw = (p : ProgramTree) (others tokens : List Token) → SpellsProgram others p → map kind_of tokens ≡ kinds (pieces p) ++ Kind.End ∷ [] → NoneTooDeep tokens → ReadAs tokens p

-- Of a tree that some text spells, the canonical text spells the same tree, where none of its tokens is too deep.
abbrev pub WayRound : Type 0
WayRound = (text : List ℕ) (others : List Token) (p : ProgramTree) → IsOf text others p → (tokens : List Token) → Lexed (chars (canon p)) tokens → NoneTooDeep tokens → ReadAs tokens p

-- What is read there has the same canonical text again.
abbrev pub Steady : Type 0
Steady = (p q : ProgramTree) → unplaced q ≡ unplaced p → canon q ≡ canon p
