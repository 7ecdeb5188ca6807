use Rattle.lam_resolve_tree.proofs.Rows.{sync_row}
use Rattle.lam_resolve_units.proofs.parts.sync_stmt.Goals as goal

pub returns : goal.returns
returns c = sync_row c.args.slot c.args.thing c.args.body
