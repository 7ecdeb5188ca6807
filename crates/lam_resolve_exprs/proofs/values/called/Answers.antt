use Rattle.std.proofs.Common.{Some, ap, sym, ◌∙◌}
use Rattle.std.specs.Option.{option_map}
use Rattle.lam_resolve_tables.specs.Tables.{tables}
use Rattle.lam_resolve_exprs.specs.Values.{args as seen_args, function_seen}
use Rattle.lam_resolve_tables.proofs.Options.{some_not_none}
use Rattle.lam_resolve_exprs.proofs.ValueSteps.{called_needs, called_done}
use Rattle.lam_resolve_exprs.proofs.values.called.Goals as goal

pub unreachable-requires : goal.unreachable-requires
unreachable-requires c =
    some_not_none _ (called_needs (tables c.args.t.now) c.args.name.now (seen_args c.args.args) _ (sym c.named.ensures ∙ c.in-None.is) c.requires)
    (sym c.function_named.ensures ∙ ap (option_map function_seen) c.in_default.is)

pub returns-in-Some-function_named : goal.returns-in-Some-function_named
returns-in-Some-function_named c =
    ap Some c.function_call.ensures ∙
    called_done (tables c.args.t.now) c.args.name.now (seen_args c.args.args) _ _ (sym c.named.ensures ∙ c.in-None.is) (sym (ap (option_map function_seen) c.in-Some-function_named.is) ∙ c.function_named.ensures)
