use Rattle.std.proofs.Common.{ap, ◌∙◌}
use Rattle.lam_builtins.specs.Types.{a_value, thread}
use Rattle.lam_resolve_tree.specs.Tree.{expr_tree, exprs_tree, spawn_of}
use Rattle.lam_resolve_tree.proofs.Rows.{spawn_row}
use Rattle.lam_resolve_tables.specs.Resolved.{value_as}
use Rattle.lam_resolve_exprs.proofs.values.spawn.Goals as goal

pub returns : goal.returns
returns c =
    c.plain_value.ensures ∙ ap (λ e. value_as e (a_value thread)) (spawn_row c.in_ok-new.field-0 c.args.function c.args.args.it) ∙
    ap (λ e. value_as (spawn_of (expr_tree e) c.args.function (exprs_tree c.args.args.it.items)) (a_value thread)) c.in_ok-new.ensures.ok
