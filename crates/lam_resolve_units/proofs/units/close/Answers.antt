use Rattle.std.proofs.Common.{ap, sym, ◌∙◌}
use Rattle.std.proofs.lemmas.List.{take-map}
use Rattle.lam_resolve_tables.specs.Entries.{entries_of}
use Rattle.lam_resolve_exprs.specs.Values.{local}
use Rattle.lam_resolve_units.proofs.UnitSteps.{seen}
use Rattle.lam_resolve_units.proofs.units.close.Goals as goal

pub returns : goal.returns
returns c = ap seen c.cut.ensures ∙ sym (take-map (λ e. (e.0, local e.1)) c.args.n (entries_of c.args.scope.now))
