use Rattle.lam_machine_terms.specs.Turns.{moments}
use Rattle.lam_machine_terms.specs.Views.{agenda}
use Rattle.pair_check_terms.specs.Pairs.{IsMet}
use Rattle.pair_check.proofs.PairedLemmas.{met_paired, moved}
use Rattle.pair_check.proofs.answer_of_runs.Goals as goal

pub returns : goal.returns
returns c =
    let first = agenda c.args.observer.now (moments c.args.a.now.code c.args.a.now.turns c.args.a.now.start) in
    let second = agenda c.args.observer.now (moments c.args.b.now.code c.args.b.now.turns c.args.b.now.start) in
    met_paired c.args.observer.now c.args.a.now.start c.args.b.now.start first second c.answer_of.result c.requires
    (moved (λ xs ys. IsMet xs ys c.answer_of.result) _ _ first second c.in_ok-first.ensures c.in_ok-second.ensures c.answer_of.ensures)
