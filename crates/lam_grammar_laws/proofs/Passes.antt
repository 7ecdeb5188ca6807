-- The tests that a table has to pass, so that what is derived is read by the next token.
use Rattle.std.proofs.Common.{◌≡◌, true}
use Rattle.lam_grammar_laws.specs.Grammar.{Grammar}
use Rattle.lam_grammar_laws.proofs.Tests.{tells}
use Rattle.lam_grammar_laws.specs.Follow.{Follows, well_opened, apart}

pub record Passes (G : Grammar) (F : Follows G) : Type 0 where
  pub opening : (r : G.Rule) → well_opened G F (F.null r) (G.bodies r) ≡ true
  pub telling : (r : G.Rule) (w : G.Token) → tells G r w ≡ true
  pub parting : (r : G.Rule) (w : G.Token) → apart G F r w ≡ true
