use Rattle.lam_resolve_tree.specs.Tree.{type_tree}
use Rattle.source_walk_parts.proofs.Steps.{if_ok}
use Rattle.source_walk_parts.specs.States.{state_of}
use Rattle.source_walk_open.proofs.ExprForms.{field_opens}
use Rattle.source_walk_open.proofs.exprs.field.Goals as goal

pub returns : goal.returns
returns c = if_ok c.wait.result _ _ c.wait.ensures (λ d w class. field_opens (state_of c.args.w.now) c.args.depth class c.args.at (type_tree c.args.ty.now) c.sort_of-sort.result c.args.of c.sort_of-sort.ensures w)
