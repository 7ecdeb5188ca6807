use Rattle.std.proofs.Common.{ap, ◌∙◌}
use Rattle.lam_syntax.specs.Tree.{expr_node, expr_tree, id_tree, spawn_expr, exprs_tree}
use Rattle.lam_syntax.proofs.Rows.{spawn_row}
use Rattle.lam_parser_parts.proofs.nodes.make_spawn.Goals as goal

pub returns : goal.returns
returns c = c.in_ok-make_node.ensures ∙ ap (expr_node c.args.at) (spawn_row c.args.caps c.in_ok-function.function c.args.args ∙ ap (λ x. spawn_expr (expr_tree c.args.caps.value) x (exprs_tree c.args.args.items)) (ap id_tree c.in_ok-function.ensures.ok ∙ c.in_ok-name_of.ensures))
