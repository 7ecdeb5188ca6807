use Rattle.std.proofs.Common.{ap}
use Rattle.lam_syntax.specs.Tree.{stmt_node}
use Rattle.lam_syntax.proofs.Rows.{region_row}
use Rattle.lam_parser_stmts.proofs.nodes.make_region.Goals as goal

pub returns : goal.returns
returns c = ap (stmt_node c.args.at) (region_row c.args.head.label c.args.head.caps c.args.captures c.args.body c.args.handler.name c.args.handler.body)
