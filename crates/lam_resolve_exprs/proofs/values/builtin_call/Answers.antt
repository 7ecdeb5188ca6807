use Rattle.std.proofs.Common.{ap}
use Rattle.lam_resolve_tree.proofs.Rows.{builtin_row}
use Rattle.lam_resolve_tables.specs.Resolved.{value_as}
use Rattle.lam_resolve_tables.specs.Kinds.{given}
use Rattle.lam_resolve_exprs.proofs.values.builtin_call.Goals as goal

pub returns : goal.returns
returns c = ap (λ e. value_as e (given c.args.gives)) (builtin_row c.args.call c.args.args c.args.ty)
