use Rattle.std.proofs.Common.{Some, ap, sym, ◌∙◌}
use Rattle.lam_resolve_tables.specs.Named.{seen_found}
use Rattle.lam_resolve_tables.proofs.Options.{some_not_none, goes}
use Rattle.lam_resolve_exprs.proofs.values.new_object.Goals as goal

pub unreachable-requires : goal.unreachable-requires
unreachable-requires c = some_not_none _ c.requires (sym c.find.ensures ∙ ap seen_found c.in_default.is)

pub returns : goal.returns
returns c = ap Some c.plain_value.ensures ∙ sym (goes _ _ _ (sym (ap seen_found c.in-Some.is) ∙ c.find.ensures))
