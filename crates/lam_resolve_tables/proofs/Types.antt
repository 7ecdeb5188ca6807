-- Written types, as the code meets them. An element x is the one that the code reached through a box, and l the one in
-- the tree.
use Rattle.std.proofs.Common.{◌≡◌, ◌<◌, ◌+◌, arith, List, Option, Some, IsSome, sym, ap, ◌∙◌, is_some}
use Rattle.lam_syntax.specs.declared.TypeExpr.{TypeExpr}
use Rattle.lam_syntax.specs.Tree.{TypeForm, TypeTree, class_type, array_type, type_tree}
use Rattle.lam_operators.specs.Words.{Word}
use Rattle.lam_builtins.specs.Types.{object, array}
use Rattle.lam_types_kinds.specs.Written.{written_form}
use Rattle.lam_resolve_tree.specs.Tree.{ResolvedType}
use Rattle.lam_resolve_laws.specs.Resolved.{Found, found, numbered, resolve_type, resolve_result}
use Rattle.lam_resolve_tables.proofs.Sizes.{type_size, type_form_size}
use Rattle.lam_resolve_tables.proofs.Options.{first_some, goes}

module _ (cs : List (Word × Unit {0})) (f : TypeForm) where
  pub class_some : (c w : Word) → f ≡ class_type c → w ≡ c → IsSome (numbered cs (written_form f)) → IsSome (found w cs)
  class_some c w e q h =
      ap (λ w. is_some (found w cs)) q ∙ first_some (found c cs) (λ n. Some (object n.number)) (sym (ap (λ f. is_some (numbered cs (written_form f))) e) ∙ h)

  pub class_done : (c w : Word) (p : Found (Unit {0})) (k : ResolvedType) → f ≡ class_type c → w ≡ c → Some p ≡ found w cs → k ≡ object p.number → Some k ≡ numbered cs (written_form f)
  class_done c w p k e q h i =
      ap Some i ∙ sym (ap (λ f. numbered cs (written_form f)) e ∙ goes (found c cs) p (λ n. Some (object n.number)) (h ∙ ap (λ w. found w cs) q))

  pub array_some : (x l : TypeExpr) → f ≡ array_type (type_tree l) → x ≡ l → IsSome (numbered cs (written_form f)) → IsSome (resolve_type cs (type_tree x))
  array_some x l e q h =
      ap (λ x. is_some (resolve_type cs (type_tree x))) q ∙ first_some (resolve_type cs (type_tree l)) (λ t. Some (array t)) (sym (ap (λ f. is_some (numbered cs (written_form f))) e) ∙ h)

  pub array_smaller : (x l : TypeExpr) → f ≡ array_type (type_tree l) → x ≡ l → type_size (type_tree x) < 1 + type_form_size f
  array_smaller x l e q = omega (arith, ap type_form_size e, ap (λ x. type_size (type_tree x)) q)

  pub array_done : (x l : TypeExpr) (u k : ResolvedType) → f ≡ array_type (type_tree l) → x ≡ l → Some u ≡ resolve_type cs (type_tree x) → k ≡ array u → Some k ≡ numbered cs (written_form f)
  array_done x l u k e q h i =
      ap Some i ∙ sym (ap (λ f. numbered cs (written_form f)) e ∙ goes (resolve_type cs (type_tree l)) u (λ t. Some (array t)) (h ∙ ap (λ x. resolve_type cs (type_tree x)) q))

pub result_some : (cs : List (Word × Unit {0})) (o : Option TypeTree) (t : TypeTree) → o ≡ Some t → IsSome (resolve_result cs o) → IsSome (resolve_type cs t)
result_some cs o t e h = first_some (resolve_type cs t) (λ t. Some (Some t)) (sym (ap (λ o. is_some (resolve_result cs o)) e) ∙ h)

pub result_done : (cs : List (Word × Unit {0})) (o : Option TypeTree) (t : TypeTree) (u : ResolvedType) → o ≡ Some t → Some u ≡ resolve_type cs t → Some (Some u) ≡ resolve_result cs o
result_done cs o t u e h = sym (ap (resolve_result cs) e ∙ goes (resolve_type cs t) u (λ t. Some (Some t)) h)
