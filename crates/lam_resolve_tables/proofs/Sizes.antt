-- How large types are, so that each call of a recursion goes down.
use Rattle.std.proofs.Common.{ℕ, ◌+◌}
use Rattle.lam_syntax.specs.Tree.{TypeTree, type_node, TypeForm, array_type}

abbrev mutual
  pub type_size : TypeTree → ℕ
  type_size (type_node at form) = 1 + type_form_size form

  pub type_form_size : TypeForm → ℕ
  type_form_size (array_type t) = type_size t
  type_form_size _ = 0
