use Rattle.std.proofs.Common.{◌≡◌, Some, take}
use Rattle.std.specs.Prelude.{option_and_then}
use Rattle.std.specs.Map.{lookup}
use Rattle.lam_value.specs.Homes.{Home, home_eq}
use Rattle.labelled_heap.specs.declared.heap.Row.{Row}
use Rattle.labelled_heap.specs.Seen.{AreRows}
use Rattle.labelled_heap.proofs.heap.copied.Given as goal

abbrev pub invariant-loop-at : goal.invariant-loop-at
invariant-loop-at l = record {
  kept : AreRows l.copy;
  same : (h : Home) → option_and_then (λ (row : Row). Some row.things.items) (lookup (home_eq h) l.copy.entries) ≡ option_and_then (λ (row : Row). Some row.things.items) (lookup (home_eq h) (take l.at l.rows.entries));
}
