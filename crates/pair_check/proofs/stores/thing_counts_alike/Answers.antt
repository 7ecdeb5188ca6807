use Rattle.pair_check.proofs.StoreLemmas.{counts_by}
use Rattle.pair_check.proofs.stores.thing_counts_alike.Goals as goal

pub returns : goal.returns
returns c = counts_by c.args.observer.now c.same_counters.result c.args.a.now.counts c.args.b.now.counts c.counter_facts.ensures c.counter_facts-2.ensures c.same_counters.ensures
