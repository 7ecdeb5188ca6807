use Rattle.pair_check.proofs.PairedLemmas.{met_paired}
use Rattle.pair_check.proofs.answer_of_starts.Goals as goal

pub returns-in-None : goal.returns-in-None
returns-in-None c = met_paired c.args.observer.now c.args.a.now c.args.b.now c.args.first.now c.args.second.now c.answer_of.result c.in-None.ensures c.answer_of.ensures
