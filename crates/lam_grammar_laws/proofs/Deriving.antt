-- What is read is derived.
use Rattle.std.proofs.Common.{◌≡◌, ℕ, ◌+◌, Option, Some, List, [], ◌∷◌, ◌++◌, length, subst, arith, length-append}
use Rattle.lam_grammar_laws.specs.Grammar.{Symbol, Grammar, production, Reads}
use Rattle.lam_grammar_laws.specs.Grammar as read
use Rattle.lam_grammar_laws.proofs.Laws.{free_production}
use Rattle.lam_grammar_laws.proofs.Spelling.{HasAt}
use Rattle.lam_grammar_laws.specs.Deriving.{IsOneOf, Derives, nothing, token, part}
use Rattle.lam_grammar_laws.specs.Follow.{Follows}
use Rattle.lam_grammar_laws.proofs.Passes.{Passes}
use Rattle.lam_grammar_laws.proofs.Choice.{picked_one, may_stand}
use Rattle.lam_grammar_laws.proofs.Texts.{has_both}

module _ (G : Grammar) (F : Follows G) (P : Passes G F) where
  -- the text that stands from i to before j
  pub record Derived (look : ℕ → Option G.Token) (p : List (Symbol G.Class G.Rule)) (before : G.Value) (i : ℕ) (vs : List G.Value) (j : ℕ) : Type 0 where
    pub text : List G.Token
    pub there : HasAt look i text
    pub long : i + length text ≡ j
    pub derives : Derives G p before text vs

  one_body : (r : G.Rule) (before : G.Value) (o : Option G.Token) (body : List (Symbol G.Class G.Rule)) → production G r before o ≡ Some body → IsOneOf body (G.bodies r)
  one_body r before o body p = subst (λ (x : List (Symbol G.Class G.Rule)). IsOneOf x (G.bodies r)) (free_production G r before o body p) (picked_one G F (F.null r) (G.bodies r) o (P.opening r))

  pub derived : {cap : ℕ → ℕ} {look : ℕ → Option G.Token} {p : List (Symbol G.Class G.Rule)} {before : G.Value} {s i j t : ℕ} {vs : List G.Value} → Reads G cap look p before s i vs j t → Derived look p before i vs j
  derived read.nothing = record { text = []; there = tt; long = omega arith; derives = nothing }
  derived (read.token {w = w} l f d h) =
      let x = derived h in
      record { text = w ∷ x.text; there = (l, x.there); long = omega (arith, x.long); derives = token f x.derives }
  derived {look = look} (read.part {r = r} {body = body} {before = before} {i = i} {k = k} p h g) =
      let x = derived h in
      let y = derived g in
      record {
        text = x.text ++ y.text;
        there = has_both look i k x.text y.text x.long x.there y.there;
        long = omega (arith, x.long, y.long, length-append x.text y.text);
        derives = part (one_body r before _ body p) (may_stand (G.permits r before) _ body p) x.derives y.derives;
      }
