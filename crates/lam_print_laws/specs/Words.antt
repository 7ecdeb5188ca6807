-- A program that was read from a text has words that fit, so that its canonical text is read as its tokens.
use Rattle.std.specs.Prelude.{◌≡◌, ℕ, List, [], ◌∷◌, ◌++◌, map, chars, IsUtf8}
use Rattle.lam_syntax.specs.Tree.{ProgramTree}
use Rattle.lam_lexer.specs.declared.token.Token.{Token}
use Rattle.lam_lexer.specs.declared.token.TokenKind.TheVariants as Kind
use Rattle.lam_lexer.specs.Lexed.{Lexed}
use Rattle.lam_grammar.specs.Program.{SpellsProgram}
use Rattle.lam_print.specs.Pieces.{kinds}
use Rattle.lam_print.specs.Canon.{pieces, canon}
use Rattle.lam_print.specs.Law.{kind_of}
use Rattle.lam_print.specs.Fitting.{FitsTree}

-- The tokens of the text spell the program.
pub record IsOf (text : List ℕ) (tokens : List Token) (p : ProgramTree) : Type 0 where
  pub utf8 : IsUtf8 text
  pub lexed : Lexed (chars text) tokens
  pub spelt : SpellsProgram tokens p

abbrev pub WordsFit : Type 0
WordsFit = (text : List ℕ) (tokens : List Token) (p : ProgramTree) → IsOf text tokens p → FitsTree p

-- The canonical text of such a program has the tokens of its pieces, and the end.
abbrev pub ReadAgain : Type 0
ReadAgain = (text : List ℕ) (tokens : List Token) (p : ProgramTree) → IsOf text tokens p → (again : List Token) × Lexed (chars (canon p)) again × (map kind_of again ≡ kinds (pieces p) ++ Kind.End ∷ [])
