use Rattle.lam_resolve_tree.proofs.Rows.{if_row}
use Rattle.lam_resolve_units.proofs.parts.if_stmt.Goals as goal

pub returns : goal.returns
returns c = if_row c.args.test c.args.yes c.args.no
