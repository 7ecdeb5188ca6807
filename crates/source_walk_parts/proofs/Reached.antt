-- Accesses, and what asks for things.
use Rattle.std.proofs.Common.{◌≡◌, ℕ, Option, Some, None, pos, true, false, nat_lt, cond, refl, ap, ◌∙◌}
use Rattle.flow_labels.specs.declared.Label.{Label}
use Rattle.flow_labels.specs.declared.Denied.{Denied as Denial}
use Rattle.lam_value.specs.declared.names.Name.{Name}
use Rattle.lam_value.specs.declared.values.Value.{Value}
use Rattle.lam_value.specs.declared.values.Value.TheVariants.{Int, Obj, Arr}
use Rattle.lam_asks.specs.declared.fault.Fault.TheVariants.{Index}
use Rattle.lam_meaning.specs.Trees.{Own, Tree, fails, unless_denied, on_object, on_array}
use Rattle.lam_meaning.specs.Means.{within, on_number}
use Rattle.source_walk_parts.specs.declared.access.Way.{Way}
use Rattle.source_walk_parts.specs.declared.access.Access.{Access}
use Rattle.source_walk_parts.specs.declared.access.Access.TheVariants.{Reaches}
use Rattle.source_walk_parts.specs.Accesses.{barred_by, unless_barred, field_access, element_access, at_index, at_place, access_tree}

module _ {A : Type 0} (n : ℕ) (o : Own) (go : Value → ℕ → Tree A) where
  denied_or : (d : Option Denial) (a : Access) → access_tree (unless_barred d a) n o go ≡ unless_denied d n o (access_tree a n o go)
  denied_or None a = refl
  denied_or (Some e) a = refl

  pub field_tree : (way : Way) (l : Label) (v : Value) (at : ℕ) → access_tree (field_access way l v at) n o go ≡ on_object v n o (λ x. unless_denied (barred_by way l x) n o (go (Obj x) at))
  field_tree way l (Obj x) at = denied_or (barred_by way l x) (Reaches (Obj x) at)
  field_tree way l v at = refl

  place_tree : (x : Name) (len i : ℕ) → access_tree (at_index x len (Int (pos i))) n o go ≡ within (pos i) len n o (λ at. go (Arr x len) at)
  place_tree x len i = elim (nat_lt i len) as (λ b. access_tree (at_place x len (cond b (Some i) None)) n o go ≡ cond b (go (Arr x len) i) (fails Index n o)) [ true ↦ refl | false ↦ refl ]

  index_tree : (x : Name) (len : ℕ) (i : Value) → access_tree (at_index x len i) n o go ≡ on_number i (λ z. within z len n o (λ at. go (Arr x len) at))
  index_tree x len (Int (pos i)) = place_tree x len i
  index_tree x len i = refl

  pub element_tree : (way : Way) (l : Label) (v i : Value) → access_tree (element_access way l v i) n o go ≡ on_array v n o (λ x len. unless_denied (barred_by way l x) n o (on_number i (λ z. within z len n o (λ at. go (Arr x len) at))))
  element_tree way l (Arr x len) i = denied_or (barred_by way l x) (at_index x len i) ∙ ap (unless_denied (barred_by way l x) n o) (index_tree x len i)
  element_tree way l v i = refl
