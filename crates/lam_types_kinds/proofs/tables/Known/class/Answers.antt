use Rattle.std.proofs.Common.{◌≡◌, Option, None, Some, Bor, refl, sym, ap, ◌∙◌}
use Rattle.std.specs.Option.{option_map, option_copied}
use Rattle.lam_types_kinds.specs.declared.types.TypeRef.{TypeRef}
use Rattle.lam_types_kinds.specs.Values.{option_fields, fields, Table}
use Rattle.lam_types_kinds.proofs.TableLemmas.{find_see}
use Rattle.lam_types_kinds.proofs.tables.Known.class.Goals as goal

as_map : (o : Option (Bor (Table TypeRef))) → option_fields o ≡ option_map fields (option_copied o)
as_map None = refl
as_map (Some m) = refl

pub returns : goal.returns
returns c =
    as_map c.get.result ∙ ap (option_map fields) c.get.ensures.value ∙ sym (find_see fields c.args.name.now c.args.self.now.classes.entries)
