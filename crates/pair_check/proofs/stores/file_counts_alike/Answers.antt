use Rattle.pair_check.proofs.StoreLemmas.{counts_by}
use Rattle.pair_check.proofs.stores.file_counts_alike.Goals as goal

pub returns : goal.returns
returns c = counts_by c.args.observer.now c.same_counters.result c.args.a.now.counts c.args.b.now.counts c.counters-own.ensures.above c.counters-others.ensures.above c.same_counters.ensures
