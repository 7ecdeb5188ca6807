-- What was read, said otherwise.
use Rattle.std.proofs.Common.{◌≡◌, ℕ, Option, subst}
use Rattle.lam_lexer.specs.declared.token.Token.{Token}
use Rattle.lam_grammar.specs.Table.{Rule}
use Rattle.lam_grammar.specs.Meaning.{Value}
use Rattle.lam_parser_tokens.specs.Reading.{Gives}

pub with_sum : {look : ℕ → Option Token} {r : Rule} {s i j t u : ℕ} {v : Value} → t ≡ u → Gives look r s i v j t → Gives look r s i v j u
with_sum {look} {r} {s} {i} {j} {v = v} e h = subst (λ n. Gives look r s i v j n) e h

pub with_value : {look : ℕ → Option Token} {r : Rule} {s i j t : ℕ} {v w : Value} → v ≡ w → Gives look r s i v j t → Gives look r s i w j t
with_value {look} {r} {s} {i} {j} {t} e h = subst (λ x. Gives look r s i x j t) e h
