use Rattle.std.proofs.Common.{take}
use Rattle.std.specs.Option.{option_copied}
use Rattle.std.specs.Map.{lookup}
use Rattle.lam_value_homes.specs.Alike.{is_shown, HasAlike}
use Rattle.lam_value_homes.proofs.sameness.has_alike.Given as goal

abbrev pub invariant-loop-at : goal.invariant-loop-at
invariant-loop-at g l = HasAlike (λ k. is_shown (option_copied l.observer) (g.K.Labelled.label_of k)) g.V.Same.IsSame (λ q. lookup (g.K.PartialEq.eq q) l.b.entries) (take l.at l.a.entries)
