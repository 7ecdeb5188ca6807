use Rattle.pair_check.proofs.StoreLemmas.{files_by}
use Rattle.pair_check.proofs.stores.files_alike.Goals as goal

pub returns : goal.returns
returns c = files_by c.args.observer.now c.same_seen.result c.args.a.now c.args.b.now c.same_seen.ensures
