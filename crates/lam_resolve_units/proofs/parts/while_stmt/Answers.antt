use Rattle.lam_resolve_tree.proofs.Rows.{while_row}
use Rattle.lam_resolve_units.proofs.parts.while_stmt.Goals as goal

pub returns : goal.returns
returns c = while_row c.args.test c.args.body
