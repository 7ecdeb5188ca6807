-- What reading the canonical text of a program comes to.
use Rattle.std.specs.Prelude.{◌≡◌, ℕ, List}
use Rattle.lam_grammar_laws.specs.Texts.{IsTooDeep}
use Rattle.lam_syntax.specs.Tree.{ProgramTree}
use Rattle.lam_syntax.specs.Unplaced.{unplaced}
use Rattle.lam_lexer.specs.declared.token.Token.{Token}
use Rattle.lam_grammar.specs.Meaning.{nothing}
use Rattle.lam_grammar.specs.Program.{lam, program}
use Rattle.lam_print.specs.Canon.{canon}
use Rattle.lam_front.specs.Programs.{IsLexed, IsSpelt}

-- The bytes are read as p, but for positions, or are refused for their depth alone.
pub data ReadAs (bytes : List ℕ) (p : ProgramTree) : Type 0 where
  -- They spell the same program, whose canonical text is these bytes.
  same : (q : ProgramTree) → IsSpelt bytes q → unplaced q ≡ unplaced p → canon q ≡ bytes → ReadAs bytes p
  -- They have tokens, and the depth sum passes its limit at one of them.
  too_deep : (tokens : List Token) (n : ℕ) → IsLexed bytes tokens → IsTooDeep lam program nothing tokens n → ReadAs bytes p

-- The canonical text of a program that some bytes spell is read as the program.
abbrev pub SpeltAgain : Type 0
SpeltAgain = (bytes : List ℕ) (p : ProgramTree) → IsSpelt bytes p → ReadAs (canon p) p
