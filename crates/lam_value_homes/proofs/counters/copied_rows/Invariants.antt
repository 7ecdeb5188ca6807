use Rattle.std.proofs.Common.{◌≡◌, ◌<◌, Some, length, take}
use Rattle.std.specs.HashMap.{IsUnique}
use Rattle.std.specs.Map.{lookup}
use Rattle.flow_labels.specs.declared.Label.{Label}
use Rattle.lam_value_homes.specs.Homes.{Home, home_in, label_eq}
use Rattle.lam_value_homes.proofs.counters.copied_rows.Given as goal

abbrev pub invariant-loop-at : goal.invariant-loop-at
invariant-loop-at l = record {
  unique : IsUnique label_eq l.copy;
  same : (h : Home) → home_in l.copy.entries h ≡ home_in (take l.at l.rows.entries) h;
  once : (m : Label) (row : _) → lookup (label_eq m) l.copy.entries ≡ Some row → IsUnique label_eq row;
  filled : (m : Label) (row : _) → lookup (label_eq m) l.copy.entries ≡ Some row → 0 < length row.entries;
}
