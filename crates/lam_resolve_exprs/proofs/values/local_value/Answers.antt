use Rattle.std.proofs.Common.{ap, sym, ◌∙◌}
use Rattle.std.specs.Option.{option_map}
use Rattle.lam_resolve_exprs.specs.Values.{local}
use Rattle.lam_resolve_tables.proofs.Options.{some_not_none, goes}
use Rattle.lam_resolve_exprs.proofs.values.local_value.Goals as goal

pub unreachable-requires : goal.unreachable-requires
unreachable-requires c = some_not_none _ c.requires (sym c.local_named.ensures ∙ ap (option_map local) c.in_default.is)

pub returns : goal.returns
returns c = sym (goes _ _ _ (sym (ap (option_map local) c.in-Some.is) ∙ c.local_named.ensures))
