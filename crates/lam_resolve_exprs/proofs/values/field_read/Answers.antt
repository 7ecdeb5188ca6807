use Rattle.std.proofs.Common.{Some, ap, sym, ◌∙◌}
use Rattle.std.specs.Option.{option_map}
use Rattle.lam_resolve_tree.specs.Tree.{expr_tree}
use Rattle.lam_resolve_tables.specs.Kinds.{given}
use Rattle.lam_resolve_tables.specs.Tables.{tables}
use Rattle.lam_resolve_exprs.specs.Values.{field_seen}
use Rattle.lam_resolve_tables.proofs.Options.{some_not_none, if_ok}
use Rattle.lam_resolve_exprs.proofs.ValueSteps.{read_needs, read_done}
use Rattle.lam_resolve_exprs.proofs.values.field_read.Goals as goal

pub unreachable-requires-in_default-field_named : goal.unreachable-requires-in_default-field_named
unreachable-requires-in_default-field_named c =
    some_not_none _ (read_needs (tables c.args.t.now) (expr_tree c.args.of.it) c.args.name.now (given c.args.of.gives) c.in-Some.class (sym c.in-Some.is ∙ c.class_of.ensures) c.requires)
    (sym c.field_named.ensures ∙ ap (option_map field_seen) c.in_default-field_named.is)

pub returns : goal.returns
returns c =
    if_ok c.field_value.result _ _ c.field_value.ensures (λ v e. ap Some e ∙
    read_done (tables c.args.t.now) (expr_tree c.args.of.it) c.args.name.now (given c.args.of.gives) c.in-Some.class _ (sym c.in-Some.is ∙ c.class_of.ensures)
    (sym (ap (option_map field_seen) c.in-Some-field_named.is) ∙ c.field_named.ensures))
