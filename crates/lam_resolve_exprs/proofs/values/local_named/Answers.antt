use Rattle.std.proofs.Common.{ap, sym, ◌∙◌}
use Rattle.std.specs.Option.{option_map}
use Rattle.lam_resolve_tables.specs.Named.{seen_found}
use Rattle.lam_resolve_exprs.specs.Values.{local}
use Rattle.lam_resolve_exprs.proofs.ValueSteps.{local_found}
use Rattle.lam_resolve_exprs.proofs.values.local_named.Goals as goal

pub returns-in-None : goal.returns-in-None
returns-in-None c = sym (ap (λ r. option_map local (option_map (λ f. f.it) (seen_found r))) c.in-None.is) ∙ local_found c.args.scope.now c.args.name.now c.find.result c.find.ensures

pub returns-in-Some : goal.returns-in-Some
returns-in-Some c = sym (ap (λ r. option_map local (option_map (λ f. f.it) (seen_found r))) c.in-Some.is) ∙ local_found c.args.scope.now c.args.name.now c.find.result c.find.ensures
