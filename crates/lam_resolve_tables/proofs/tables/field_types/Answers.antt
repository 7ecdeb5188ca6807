use Rattle.std.proofs.Common.{ap, sym, ◌∙◌}
use Rattle.lam_resolve_laws.specs.Resolved.{types_of}
use Rattle.lam_resolve_tables.specs.Tables.{vars}
use Rattle.lam_resolve_tables.proofs.Options.{if_ok}
use Rattle.lam_resolve_tables.proofs.TableSteps.{fields_vars}
use Rattle.lam_resolve_tables.proofs.tables.field_types.Goals as goal

pub returns : goal.returns
returns c =
    if_ok c.types_of_vars.result _ _ c.types_of_vars.ensures
    (λ v e. e ∙ ap (λ l. types_of (vars l)) c.as_slice.ensures.value ∙ ap types_of (sym (fields_vars c.args.fields.now.entries.items)))
