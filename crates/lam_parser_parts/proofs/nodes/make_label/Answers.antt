use Rattle.std.proofs.Common.{◌≡◌, subst, IfOk}
use Rattle.lam_syntax.specs.Tree.{expr_tree, expr_node}
use Rattle.lam_syntax.proofs.Rows.{label_row}
use Rattle.lam_parser_parts.proofs.nodes.make_label.Goals as goal

pub returns : goal.returns
returns c = subst (λ f. IfOk c.make_node.result (λ e. expr_tree e.value ≡ expr_node c.args.at f)) (label_row c.args.s c.args.i) c.make_node.ensures
