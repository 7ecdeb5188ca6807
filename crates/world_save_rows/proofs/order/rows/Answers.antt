use Rattle.std.proofs.Common.{map, subst}
use Rattle.std.specs.Prelude.{IsPermutation}
use Rattle.std.proofs.lemmas.List.Sorted.{IsPermutation-map}
use Rattle.world_save_rows.specs.Seen.{row_seen}
use Rattle.world_save_rows.proofs.InOrder.{texts_in_order}
use Rattle.world_save_rows.proofs.order.rows.Goals as goal

pub returns-clause-same : goal.returns-clause-same
returns-clause-same c =
    subst (λ rs. IsPermutation rs (map row_seen c.sort_unstable.new.self.items)) c.in_ok-rows.ensures (IsPermutation-map row_seen c.in_ok-rows.rows.items c.sort_unstable.new.self.items c.sort_unstable.ensures.permutation)

pub returns-clause-ordered : goal.returns-clause-ordered
returns-clause-ordered c = texts_in_order c.sort_unstable.new.self.items c.sort_unstable.ensures.sorted
