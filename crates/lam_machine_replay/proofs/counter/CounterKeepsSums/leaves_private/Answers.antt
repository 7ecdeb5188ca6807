use Rattle.lam_machine_replay.proofs.CountLemmas.{private_uncounted}
use Rattle.lam_machine_replay.proofs.counter.CounterKeepsSums.leaves_private.Goals as goal

pub returns : goal.returns
returns c = private_uncounted
