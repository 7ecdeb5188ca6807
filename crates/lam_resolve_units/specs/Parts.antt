-- An assignment, without what stands after it.
use Rattle.std.specs.Prelude.{Option}
use Rattle.lam_syntax.specs.Tree.{ExprTree}
use Rattle.lam_resolve_tree.specs.Tree.{Statement}
use Rattle.lam_resolve_laws.specs.Resolved.{then_some, Tables, Locals, resolve, assignment}

abbrev pub assigned_tree : Tables → Locals → ExprTree → ExprTree → Option Statement
assigned_tree t ls q e = then_some (resolve t ls q) (λ q. then_some (resolve t ls e) (λ v. assignment q.it v.it))
