use Rattle.std.proofs.lemmas.Result.{IfOk-weaker}
use Rattle.pair_check.proofs.PairedLemmas.{look_same}
use Rattle.pair_check.proofs.pair.Goals as goal

pub returns-clause-same : goal.returns-clause-same
returns-clause-same c =
    let a = c.turns-turns.ensures.whole in
    let b = c.turns-others.ensures.whole in
    IfOk-weaker c.answer_of_pair.result _ _
    (λ answer h. look_same c.pairs_look_same.ensures c.args.observer.now c.args.a.now.code c.args.b.now.code c.args.a.now.start c.args.b.now.start c.args.a.now.turns c.args.b.now.turns answer c.requires (a.start).valid (b.start).valid a.run b.run h)
    c.answer_of_pair.ensures
