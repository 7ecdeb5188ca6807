-- What a thread asks for with fewer units.
use Rattle.std.specs.Prelude.{◌≡◌, ◌≢◌, ◌≤◌, ℕ, List, ◌++◌}
use Rattle.capabilities.specs.declared.Caps.{Caps}
use Rattle.lam_value.specs.declared.values.Value.{Value}
use Rattle.lam_asks.specs.declared.answer.Answer.{Answer}
use Rattle.lam_resolve_tree.specs.Tree.{ResolvedTree}
use Rattle.lam_meaning.specs.Trees.{Asked, Tree}
use Rattle.lam_meaning.specs.Means.{means}
use Rattle.lam_meaning.specs.Plays.{is_spent, asks_of, how_of}

-- of two threads with the same answers, the first makes the first asks of the second, and they are the same where the
-- units of the first are not used up
pub record IsCutOff {A : Type 0} (t t' : Tree A) (xs : List Answer) : Type 0 where
  pub rest : List Asked
  pub first : asks_of t' xs ≡ asks_of t xs ++ rest
  pub same : how_of t xs ≢ is_spent → (asks_of t' xs ≡ asks_of t xs) × (how_of t' xs ≡ how_of t xs)

abbrev pub FewerUnits : ResolvedTree → Type 0
FewerUnits r = (n m f : ℕ) (vs : List Value) (k : Caps) (xs : List Answer) → n ≤ m → IsCutOff (means r n f vs k) (means r m f vs k) xs
