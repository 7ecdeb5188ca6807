-- The table passes the tests: the next token tells each body, and where a rule is empty.
use Rattle.std.proofs.Common.{◌≡◌, ℕ, true, false, refl}
use Rattle.lam_grammar_laws.specs.Follow.{well_opened, followed_by, apart}
use Rattle.lam_grammar_laws.proofs.Passes.{Passes}
use Rattle.lam_lexer.specs.declared.token.Token.{Token}
use Rattle.lam_lexer.specs.declared.token.TokenKind.{TokenKind}
use Rattle.lam_lexer.specs.declared.token.TokenKind.TheVariants.{Number}
use Rattle.lam_grammar.specs.declared.Level.TheVariants.{Or as or_level, And as and_level, Sum as sum_level, Term as term_level}
use Rattle.lam_grammar.specs.Table.{Rule, items, chain, chain_tail, bodies}
use Rattle.lam_grammar.specs.Program.{lam, program}
use Rattle.lam_grammar.specs.Examples.{null}
use Rattle.lam_grammar.proofs.FirstTokens.{told_apart}
use Rattle.lam_front_laws.specs.Follow.{lam_follows}

opening : (r : Rule) → well_opened lam lam_follows (null r) (bodies r) ≡ true
opening (chain or_level) = refl
opening (chain and_level) = refl
opening (chain sum_level) = refl
opening (chain term_level) = refl
opening (chain_tail l) = refl
opening items = refl
opening _ = refl

parting : (r : Rule) (at : ℕ) (k : TokenKind) → apart lam lam_follows r (record { at = at; kind = k }) ≡ true
parting (chain or_level) at (Number n) = refl
parting (chain or_level) at _ = refl
parting (chain_tail or_level) at (Number n) = refl
parting (chain_tail or_level) at _ = refl
parting (chain and_level) at (Number n) = refl
parting (chain and_level) at _ = refl
parting (chain_tail and_level) at (Number n) = refl
parting (chain_tail and_level) at _ = refl
parting (chain sum_level) at (Number n) = refl
parting (chain sum_level) at _ = refl
parting (chain_tail sum_level) at (Number n) = refl
parting (chain_tail sum_level) at _ = refl
parting (chain term_level) at (Number n) = refl
parting (chain term_level) at _ = refl
parting (chain_tail term_level) at (Number n) = refl
parting (chain_tail term_level) at _ = refl
parting items at (Number n) = refl
parting items at _ = refl
parting _ at (Number n) = refl
parting _ at _ = refl

pub passes : Passes lam lam_follows
passes = record { opening = opening; telling = told_apart; parting = λ r w. parting r w.at w.kind }

ended : (at : ℕ) (k : TokenKind) → followed_by lam lam_follows program false (record { at = at; kind = k }) ≡ true
ended at (Number n) = refl
ended at _ = refl

pub followed_at_end : (w : Token) → followed_by lam lam_follows program false w ≡ true
followed_at_end w = ended w.at w.kind
