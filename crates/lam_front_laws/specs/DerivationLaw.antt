-- The language is what is derived from the bodies of its rules, whatever token comes next.
use Rattle.std.specs.Prelude.{◌≡◌, ◌⊎◌, ◌+◌, ℕ, List, [], ◌∷◌}
use Rattle.lam_grammar_laws.specs.Texts.{IsUnexpected, IsTooDeep}
use Rattle.lam_grammar_laws.specs.Deriving.{Derives, Extends}
use Rattle.lam_syntax.specs.Tree.{ProgramTree}
use Rattle.lam_lexer.specs.declared.token.Token.{Token}
use Rattle.lam_grammar.specs.Meaning.{nothing, word, items_value}
use Rattle.lam_grammar.specs.Program.{lam, program, SpellsProgram}

-- The tokens are derived from items and the end, and mean the program.
abbrev pub DerivesProgram : List Token → ProgramTree → Type 0
DerivesProgram tokens p = (w : Token) × Derives lam program nothing tokens (items_value p ∷ word w ∷ [])

abbrev pub SpeltIsDerived : Type 0
SpeltIsDerived = (tokens : List Token) (p : ProgramTree) → SpellsProgram tokens p → DerivesProgram tokens p

abbrev pub DerivedIsSpelt : Type 0
DerivedIsSpelt = (tokens : List Token) (p : ProgramTree) → DerivesProgram tokens p → SpellsProgram tokens p ⊎ ((n : ℕ) × IsTooDeep lam program nothing tokens n)

abbrev pub DerivedOnce : Type 0
DerivedOnce = (tokens : List Token) (p q : ProgramTree) → DerivesProgram tokens p → DerivesProgram tokens q → p ≡ q

-- The first wrong token is the first with which no derived text goes on.
abbrev pub UnexpectedIsUnderived : Type 0
UnexpectedIsUnderived = (tokens : List Token) (n : ℕ) → IsUnexpected lam program nothing tokens n → Extends lam program nothing tokens n × (Extends lam program nothing tokens (n + 1) → ⊥)
