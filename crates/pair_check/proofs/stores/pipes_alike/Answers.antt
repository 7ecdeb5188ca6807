use Rattle.pair_check.proofs.StoreLemmas.{shown_by}
use Rattle.pair_check.proofs.stores.pipes_alike.Goals as goal

pub returns : goal.returns
returns c = shown_by c.args.observer.now c.same_seen.result c.args.a.now.waiting c.args.b.now.waiting c.same_seen.ensures
