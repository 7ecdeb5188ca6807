-- The first tokens of each rule are those of its bodies, and no two bodies of a rule begin alike.
use Rattle.std.proofs.Common.{◌≡◌, ℕ, true, refl}
use Rattle.lam_grammar_laws.proofs.Tests.{tells}
use Rattle.lam_lexer.specs.declared.token.Token.{Token}
use Rattle.lam_lexer.specs.declared.token.TokenKind.{TokenKind}
use Rattle.lam_lexer.specs.declared.token.TokenKind.TheVariants.{Number}
use Rattle.lam_grammar.specs.declared.Level.TheVariants.{Or as or_level}
use Rattle.lam_grammar.specs.Table.{Rule, chain, chain_tail}
use Rattle.lam_grammar.specs.Program.{lam}

told : (r : Rule) (at : ℕ) (k : TokenKind) → tells lam r (record { at = at; kind = k }) ≡ true
told (chain or_level) at (Number n) = refl
told (chain_tail or_level) at (Number n) = refl
told _ at (Number n) = refl
told _ at _ = refl

-- the next token tells which body is read
pub told_apart : (r : Rule) (w : Token) → tells lam r w ≡ true
told_apart r w = told r w.at w.kind
