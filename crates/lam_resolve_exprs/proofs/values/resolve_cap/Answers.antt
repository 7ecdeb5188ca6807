use Rattle.std.proofs.Common.{ap, sym, ◌∙◌}
use Rattle.std.specs.Option.{option_map}
use Rattle.lam_resolve_tables.specs.Resolved.{local_named}
use Rattle.lam_resolve_exprs.specs.Values.{local, locals, cap_at}
use Rattle.lam_resolve_tables.proofs.Options.{some_not_none}
use Rattle.lam_resolve_exprs.proofs.values.resolve_cap.Goals as goal

pub unreachable-requires : goal.unreachable-requires
unreachable-requires c =
    some_not_none _ c.requires (ap (local_named (locals c.args.scope.now)) (sym c.as_str.ensures.value) ∙ sym c.local_named.ensures ∙ ap (option_map local) c.in_default.is)

pub returns : goal.returns
returns c =
    ap (option_map (λ l. cap_at l.slot c.args.item.now.plus)) (sym (ap (option_map local) c.in-Some.is) ∙ c.local_named.ensures ∙ ap (local_named (locals c.args.scope.now)) c.as_str.ensures.value)
