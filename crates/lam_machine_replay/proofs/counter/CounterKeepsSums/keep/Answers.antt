use Rattle.std.proofs.Common.{◌-◌, ◌^◌}
use Rattle.lam_machine_replay.proofs.CountLemmas.{sums_kept, room}
use Rattle.lam_machine_replay.proofs.counter.CounterKeepsSums.keep.Goals as goal

pub with_turn-requires : goal.with_turn-requires
with_turn-requires c = room c.args._turn (2 ^ 64 - 1) c.args.kept.now c.requires.few c.requires.before

pub returns : goal.returns
returns c = sums_kept c.args._turn c.args.event c.args._world.now c.args.kept.now c.with_turn.result c.with_turn.ensures
