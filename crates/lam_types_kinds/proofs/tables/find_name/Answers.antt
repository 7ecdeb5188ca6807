use Rattle.std.proofs.Common.{◌≡◌, Option, None, Some, refl, sym, ap, ◌∙◌}
use Rattle.std.specs.Option.{option_map}
use Rattle.lam_types_kinds.specs.declared.types.TypeRef.{TypeRef}
use Rattle.lam_types_kinds.specs.Values.{option_type, value_type}
use Rattle.lam_types_kinds.proofs.TableLemmas.{find_see}
use Rattle.lam_types_kinds.proofs.tables.find_name.Goals as goal

as_map : (o : Option TypeRef) → option_type o ≡ option_map value_type o
as_map None = refl
as_map (Some t) = refl

pub returns : goal.returns
returns c =
    as_map c.copied.result ∙ ap (option_map value_type) (c.copied.ensures ∙ c.get.ensures.value) ∙ sym (find_see value_type c.args.name.now c.args.all.now.entries)
