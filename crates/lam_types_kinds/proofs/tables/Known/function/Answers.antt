use Rattle.std.proofs.Common.{◌≡◌, Option, None, Some, Bor, refl, sym, ap, ◌∙◌}
use Rattle.std.specs.Option.{option_map, option_copied}
use Rattle.lam_types_kinds.specs.declared.tables.Callable.{Callable}
use Rattle.lam_types_kinds.specs.Values.{option_signature, signature}
use Rattle.lam_types_kinds.proofs.TableLemmas.{find_see}
use Rattle.lam_types_kinds.proofs.tables.Known.function.Goals as goal

as_map : (o : Option (Bor Callable)) → option_signature o ≡ option_map signature (option_copied o)
as_map None = refl
as_map (Some m) = refl

pub returns : goal.returns
returns c =
    as_map c.get.result ∙ ap (option_map signature) c.get.ensures.value ∙ sym (find_see signature c.args.name.now c.args.self.now.functions.entries)
