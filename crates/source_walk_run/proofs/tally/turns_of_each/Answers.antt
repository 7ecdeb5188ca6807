use Rattle.std.proofs.Common.{◌-◌, ◌^◌, ◌+◌, List, ℕ, get_or, take, refl, sym, subst, arith}
use Rattle.source_walk_run.specs.Counting.{AreTurnsOf}
use Rattle.source_walk_run.proofs.Counts.{counts_more, counts_few}
use Rattle.source_walk_run.proofs.tally.turns_of_each.Goals as goal

pub count-requires : goal.count-requires
count-requires c = counts_few c.args.turns.now c.loop-turn.turn-index c.args.threads (get_or c.args.turns.now c.loop-turn.turn-index 0) (2 ^ 64 - 1) c.loop-turn.counts.items (omega arith) c.loop-turn.invariant

pub loop-turn-preserved : goal.loop-turn-preserved
loop-turn-preserved c =
    subst (λ (counts : List ℕ). AreTurnsOf (take (c.loop-turn.turn-index + 1) c.args.turns.now) c.args.threads counts) (sym c.count.ensures)
    (counts_more c.args.turns.now c.loop-turn.turn-index c.args.threads (get_or c.args.turns.now c.loop-turn.turn-index 0) c.loop-turn.counts.items c.loop-turn-test.true refl c.loop-turn.invariant)
