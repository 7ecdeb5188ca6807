use Rattle.std.proofs.Common.{Some, ap, sym, ◌∙◌}
use Rattle.lam_resolve_tables.proofs.Options.{goes}
use Rattle.lam_resolve_exprs.proofs.values.caps_of.Goals as goal

pub returns : goal.returns
returns c = ap Some c.caps_value.ensures ∙ sym (goes _ _ _ c.in_ok-resolve_caps.ensures)
