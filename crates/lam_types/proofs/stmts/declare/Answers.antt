use Rattle.std.proofs.Common.{◌≡◌, Option, None, Some, refl, sym, ap, ◌∙◌}
use Rattle.std.specs.Map.{lookup}
use Rattle.std.specs.Option.{option_map}
use Rattle.lam_types_kinds.specs.Values.{value_type}
use Rattle.lam_types_kinds.specs.declared.types.TypeRef.{TypeRef}
use Rattle.lam_types_kinds.proofs.TableLemmas.{find_see, key_is}
use Rattle.lam_types.proofs.stmts.declare.Goals as goal

none_map : {V A : Type 0} (see : V → A) (o : Option V) → option_map see o ≡ None → o ≡ None
none_map see None e = refl
none_map see (Some v) e = absurd cc

pub add_name-requires : goal.add_name-requires
add_name-requires c =
    let entries = c.args.env.now.entries in
    find_see (λ v. v) c.args.name.now entries ∙
    ap (λ (o : Option TypeRef). option_map (λ v. v) o) (none_map value_type (lookup (key_is c.args.name.now) entries) (sym (find_see value_type c.args.name.now entries) ∙ c.requires))
