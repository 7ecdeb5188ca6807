use Rattle.lam_resolve_tree.specs.Tree.{option_type_tree}
use Rattle.source_walk_open.proofs.ExprForms.{builtin_opens}
use Rattle.source_walk_open.proofs.exprs.builtin_call.Goals as goal

pub returns : goal.returns
returns c = λ s. rw c.new-done.ensures (builtin_opens s c.args.depth c.args.call c.args.rest (option_type_tree c.args.ty.now) c.result_sort-sort.result c.result_sort-sort.ensures)
