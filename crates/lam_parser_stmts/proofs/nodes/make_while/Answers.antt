use Rattle.std.proofs.Common.{ap}
use Rattle.lam_syntax.specs.Tree.{stmt_node}
use Rattle.lam_syntax.proofs.Rows.{while_row}
use Rattle.lam_parser_stmts.proofs.nodes.make_while.Goals as goal

pub returns : goal.returns
returns c = rw c.into_inner.ensures (ap (stmt_node c.args.at) (while_row c.args.test.value c.args.body))
