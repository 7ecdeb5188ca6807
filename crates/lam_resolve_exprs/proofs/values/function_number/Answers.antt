use Rattle.std.proofs.Common.{ap, sym, ◌∙◌}
use Rattle.std.specs.Option.{option_map}
use Rattle.lam_resolve_tables.specs.Named.{seen_found}
use Rattle.lam_resolve_tables.specs.Tables.{head}
use Rattle.lam_resolve_tables.proofs.Options.{seen_it, some_not_none}
use Rattle.lam_resolve_exprs.proofs.ValueSteps.{heads_found}
use Rattle.lam_resolve_exprs.proofs.values.function_number.Goals as goal

pub unreachable-requires : goal.unreachable-requires
unreachable-requires c =
    some_not_none _ c.requires (heads_found c.args.t.now.functions c.args.name.now c.find.result c.find.ensures ∙ ap (λ r. option_map (seen_it head) (seen_found r)) c.in_default.is)

pub returns : goal.returns
returns c =
    sym (ap (option_map (λ f. f.number)) (heads_found c.args.t.now.functions c.args.name.now c.find.result c.find.ensures ∙ ap (λ r. option_map (seen_it head) (seen_found r)) c.in-Some.is))
