use Rattle.std.proofs.Common.{Some, ap, sym, ◌∙◌}
use Rattle.std.specs.Option.{option_map}
use Rattle.lam_resolve_tables.specs.Named.{seen_found}
use Rattle.lam_resolve_tables.specs.Tables.{head}
use Rattle.lam_resolve_exprs.specs.Values.{called_seen}
use Rattle.lam_resolve_tables.proofs.Options.{seen_it}
use Rattle.lam_resolve_exprs.proofs.ValueSteps.{function_found}
use Rattle.lam_resolve_exprs.proofs.values.function_named.Goals as goal

pub returns-in-None : goal.returns-in-None
returns-in-None c = sym (ap (λ r. option_map called_seen (option_map (seen_it head) (seen_found r))) c.in-None.is) ∙ function_found c.args.t.now.functions c.args.name.now c.find.result c.find.ensures

pub returns-in-Some : goal.returns-in-Some
returns-in-Some c =
    ap (λ g. Some (record { number = c.in-Some.number; it = g })) c.given_by.ensures ∙
    sym (ap (λ r. option_map called_seen (option_map (seen_it head) (seen_found r))) c.in-Some.is) ∙ function_found c.args.t.now.functions c.args.name.now c.find.result c.find.ensures
