use Rattle.std.proofs.Common.{◌≡◌, take, Some}
use Rattle.std.specs.Prelude.{option_and_then}
use Rattle.std.specs.HashMap.{IsUnique}
use Rattle.std.specs.Map.{lookup}
use Rattle.flow_labels.specs.declared.Label.{Label}
use Rattle.lam_value_homes.specs.Homes.{label_eq}
use Rattle.lam_value_homes.proofs.counters.copied_row.Given as goal

abbrev pub invariant-loop-at : goal.invariant-loop-at
invariant-loop-at l = record {
  same : (q : Label) → option_and_then (λ n. Some n) (lookup (label_eq q) l.copy.entries) ≡ option_and_then (λ n. Some n) (lookup (label_eq q) (take l.at l.row.entries));
  unique : IsUnique label_eq l.copy;
}
