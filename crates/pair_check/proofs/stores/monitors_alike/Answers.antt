use Rattle.pair_check.proofs.StoreLemmas.{shown_by}
use Rattle.pair_check.proofs.stores.monitors_alike.Goals as goal

pub returns : goal.returns
returns c = shown_by c.args.observer.now c.same_seen.result c.args.a.now c.args.b.now c.same_seen.ensures
