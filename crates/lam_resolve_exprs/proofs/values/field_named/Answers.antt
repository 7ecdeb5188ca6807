use Rattle.std.proofs.Common.{ap, sym, ◌∙◌, slice_get}
use Rattle.std.specs.Option.{option_map, option_copied}
use Rattle.lam_resolve_tables.specs.Kinds.{kind_type}
use Rattle.lam_resolve_tables.specs.Named.{seen_found}
use Rattle.lam_resolve_tables.proofs.Options.{seen_it}
use Rattle.lam_resolve_exprs.proofs.ValueSteps.{field_none, field_some}
use Rattle.lam_resolve_exprs.proofs.values.field_named.Goals as goal

pub returns-in-None : goal.returns-in-None
returns-in-None c =
    field_none c.args.t.now.classes.items c.args.class c.args.name.now (ap (λ l. slice_get l c.args.class) (sym c.as_slice.ensures.value) ∙ sym c.class_at.ensures ∙ ap option_copied c.in-None.is)

pub returns-in-None-find : goal.returns-in-None-find
returns-in-None-find c =
    sym (ap (λ r. option_map (seen_it kind_type) (seen_found r)) c.in-None-find.is) ∙
    field_some c.args.t.now.classes.items c.args.class c.args.name.now c.in-Some.fields.now c.find.result (sym (ap option_copied c.in-Some.is) ∙ c.class_at.ensures ∙ ap (λ l. slice_get l c.args.class) c.as_slice.ensures.value) c.find.ensures

pub returns-in-Some-find : goal.returns-in-Some-find
returns-in-Some-find c =
    sym (ap (λ r. option_map (seen_it kind_type) (seen_found r)) c.in-Some-find.is) ∙
    field_some c.args.t.now.classes.items c.args.class c.args.name.now c.in-Some.fields.now c.find.result (sym (ap option_copied c.in-Some.is) ∙ c.class_at.ensures ∙ ap (λ l. slice_get l c.args.class) c.as_slice.ensures.value) c.find.ensures
