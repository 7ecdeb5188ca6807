use Rattle.std.proofs.Common.{◌≡◌, ◌≤◌, length, take}
use Rattle.std.specs.Option.{option_copied}
use Rattle.std.specs.List.{filter}
use Rattle.lam_value_homes.specs.Alike.{is_shown}
use Rattle.lam_value_homes.proofs.sameness.count_shown.Given as goal

abbrev pub invariant-loop-at : goal.invariant-loop-at
invariant-loop-at g l = record {
  count : l.count ≡ length (filter (λ e. is_shown (option_copied l.observer) (g.K.Labelled.label_of e.0)) (take l.at l.map.entries));
  few : l.count ≤ l.at;
}
