-- What fields are at first, by their types, and which ask is made.
use Rattle.std.proofs.Common.{◌≡◌, ◌≤◌, ℕ, Bool, true, false, List, [], ◌∷◌, length, map, take, Some, refl, sym, ap, ◌∙◌}
use Rattle.std.specs.Prelude.{◌↔◌, IsTrue}
use Rattle.std.proofs.lemmas.Bool.{false≢true}
use Rattle.std.proofs.lemmas.Option.{same_Some}
use Rattle.lam_asks.specs.declared.ask.Ask.{Ask}
use Rattle.lam_value.specs.declared.values.Value.{Value}
use Rattle.lam_value.specs.Shapes.{zero_of}
use Rattle.lam_resolve_tree.specs.declared.ValueType.{ValueType}
use Rattle.lam_resolve_tree.specs.Tree.{type_tree, types_tree, ResolvedTree}
use Rattle.lam_meaning.specs.Trees.{Own}
use Rattle.lam_meaning.specs.Means.{kind_of}
use Rattle.source_walk_state.specs.declared.Control.{Control}
use Rattle.source_walk_follow.specs.Standing.{made_by}
use Rattle.source_walk_follow.proofs.Lists.{whole_taken}

pub zeros_of : (ts : List ValueType) → map (λ t. zero_of (kind_of (type_tree t))) ts ≡ map (λ t. zero_of (kind_of t)) (types_tree ts)
zeros_of [] = refl
zeros_of (t ∷ ts) = ap (λ l. zero_of (kind_of (type_tree t)) ∷ l) (zeros_of ts)

-- an ask is the one that is made where it is this one, which is made
pub made_same : (r : ResolvedTree) (o : Own) (c : Control) (m a : Ask) (b : Bool) → made_by r c o ≡ Some m → IsTrue b ↔ (m ≡ a) → IsTrue b ↔ (made_by r c o ≡ Some a)
made_same r o c m a b e h = ((λ t. e ∙ ap (λ (x : Ask). Some x) (h.0 t)), (λ k. h.1 (same_Some m a (sym e ∙ k))))

pub zeros_done : (ts : List ValueType) (i : ℕ) (all : List Value) → length ts ≤ i → all ≡ map (λ t. zero_of (kind_of (type_tree t))) (take i ts) → all ≡ map (λ t. zero_of (kind_of t)) (types_tree ts)
zeros_done ts i all h e = e ∙ (ap (λ (l : List ValueType). map (λ t. zero_of (kind_of (type_tree t))) l) (whole_taken ts i h) ∙ zeros_of ts)

pub not_made : (b : Bool) (P : Type 0) → b ≡ false → IsTrue b ↔ P → P → ⊥
not_made b P e h p = false≢true (sym e ∙ h.1 p)

pub so_made : (b : Bool) (P : Type 0) → b ≡ true → IsTrue b ↔ P → P
so_made b P e h = h.0 e
