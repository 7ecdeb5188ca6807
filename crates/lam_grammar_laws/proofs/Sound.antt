-- What the examples of a table have to satisfy, so that a text can go on from wherever reading stands.
use Rattle.std.proofs.Common.{◌≡◌, ◌<◌, true, false, Option, Some, List, [], ◌∷◌}
use Rattle.lam_grammar_laws.specs.Grammar.{Symbol, Grammar, production}
use Rattle.lam_grammar_laws.specs.Examples.{Examples, all_empty, words, ends, closes_all, followed, IsBelow}

pub record Sound (G : Grammar) (E : Examples G) : Type 0 where
  pub emptying : (r : G.Rule) (b : G.Value) (o : Option G.Token) (body : List (Symbol G.Class G.Rule)) → production G r b o ≡ Some body → all_empty E.null body ≡ true → (body ≡ []) × (E.null r ≡ true)
  pub closing : (r : G.Rule) (b : G.Value) (o : Option G.Token) (body : List (Symbol G.Class G.Rule)) → production G r b o ≡ Some body → (o' : Option G.Token) → ends (E.closes r) o' ≡ true → closes_all G E body o' ≡ true
  pub following : (r : G.Rule) (b : G.Value) (o : Option G.Token) (body : List (Symbol G.Class G.Rule)) → production G r b o ≡ Some body → followed G E body ≡ true
  pub null_word : (r : G.Rule) → E.null r ≡ true → E.word r ≡ []
  pub empties : (r : G.Rule) (b : G.Value) (o : Option G.Token) → E.null r ≡ true → ends (E.closes r) o ≡ true → production G r b o ≡ Some []
  pub chooses : (r : G.Rule) (b : G.Value) → E.null r ≡ false → (ws : List G.Token) × (E.word r ≡ E.first r ∷ ws) × (production G r b (Some (E.first r)) ≡ Some (E.short r))
  pub spells : (r : G.Rule) → E.null r ≡ false → words G E (E.short r) ≡ E.word r
  pub fills : (r : G.Rule) (b : G.Value) → E.fills r ≡ true → (ws : List G.Token) × (words G E (E.full r) ≡ E.first r ∷ ws) × (production G r b (Some (E.first r)) ≡ Some (E.full r))
  pub lower : (r : G.Rule) → IsBelow G E.rank (E.rank r) (E.short r)
  pub topmost : (r : G.Rule) → E.rank r < E.top
  pub fit : (c : G.Class) → G.fits c (E.sample c) ≡ true
