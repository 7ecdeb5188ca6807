use Rattle.lam_resolve_tree.specs.Tree.{type_tree}
use Rattle.source_walk_parts.proofs.Steps.{if_ok}
use Rattle.source_walk_parts.specs.States.{state_of}
use Rattle.source_walk_open.proofs.ExprForms.{array_opens}
use Rattle.source_walk_open.proofs.exprs.new_array.Goals as goal

pub returns : goal.returns
returns c = if_ok c.wait.result _ _ c.wait.ensures (λ d w. array_opens (state_of c.args.w.now) c.args.depth (type_tree c.args.element.now) c.kind_of.result c.args.length c.kind_of.ensures w)
