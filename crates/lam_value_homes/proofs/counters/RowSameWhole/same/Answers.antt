use Rattle.std.proofs.Common.{◌∙◌, refl, sym, ℕ}
use Rattle.std.specs.Map.{lookup}
use Rattle.lam_value_homes.specs.Homes.{label_eq}
use Rattle.lam_value_homes.proofs.SameLemmas.{mapped_same, alike_mapped, map_self}
use Rattle.lam_value_homes.proofs.counters.RowSameWhole.same.Goals as goal

pub returns : goal.returns
returns c = (
  λ t q. sym (map_self (lookup (label_eq q) c.args.self.now.entries)) ∙ mapped_same (λ (n : ℕ). n) (lookup (label_eq q) c.args.self.now.entries) (lookup (label_eq q) c.args.other.now.entries) (c.same_maps.ensures.0 t q refl) ∙ map_self (lookup (label_eq q) c.args.other.now.entries),
  λ same. c.same_maps.ensures.1 (λ q _. alike_mapped (λ (n : ℕ). n) (lookup (label_eq q) c.args.self.now.entries) (lookup (label_eq q) c.args.other.now.entries) (map_self (lookup (label_eq q) c.args.self.now.entries) ∙ same q ∙ sym (map_self (lookup (label_eq q) c.args.other.now.entries)))),
)
