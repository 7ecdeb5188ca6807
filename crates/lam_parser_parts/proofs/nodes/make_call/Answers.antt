use Rattle.std.proofs.Common.{ap, ◌∙◌}
use Rattle.lam_syntax.specs.Tree.{expr_node, call_expr, exprs_tree}
use Rattle.lam_syntax.proofs.Rows.{call_row}
use Rattle.lam_grammar.specs.Meaning.{id_of}
use Rattle.lam_parser_parts.proofs.nodes.make_call.Goals as goal

pub returns : goal.returns
returns c = c.in_ok-make_node.ensures ∙ ap (expr_node c.args.name.now.at) (call_row c.in_ok-name.name c.fitted-args.result ∙ ap (λ x. call_expr x (exprs_tree c.fitted-args.result.items)) c.in_ok-name.ensures ∙ ap (λ xs. call_expr (id_of c.args.name.now) (exprs_tree xs)) c.fitted-args.ensures)
