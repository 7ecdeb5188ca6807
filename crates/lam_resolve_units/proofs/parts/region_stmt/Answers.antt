use Rattle.lam_resolve_tree.proofs.Rows.{region_row}
use Rattle.lam_resolve_units.proofs.parts.region_stmt.Goals as goal

pub returns : goal.returns
returns c = region_row c.args.head.number c.args.head.label c.args.head.caps c.args.head.captures c.args.slots c.args.body c.args.catch_slot c.args.catch_body
