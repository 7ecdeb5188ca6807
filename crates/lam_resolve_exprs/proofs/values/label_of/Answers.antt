use Rattle.std.proofs.Common.{ap, ◌∙◌}
use Rattle.lam_builtins.specs.Types.{a_value, label}
use Rattle.lam_resolve_tree.proofs.Rows.{label_row}
use Rattle.lam_resolve_tables.specs.Resolved.{value_as}
use Rattle.lam_resolve_exprs.proofs.values.label_of.Goals as goal

pub returns : goal.returns
returns c = c.plain_value.ensures ∙ ap (λ e. value_as e (a_value label)) (label_row c.args.s.it c.args.i.it)
