use Rattle.lam_machine_terms.specs.Views.{Agree}
use Rattle.pair_check_terms.specs.Parts.{IsFirstPart}
use Rattle.pair_check.proofs.PairedLemmas.{moved}
use Rattle.pair_check.proofs.answer_of_pair.Goals as goal

pub returns-in-Some : goal.returns-in-Some
returns-in-Some c =
    moved (λ s s'. IsFirstPart c.args.observer.now s s' c.in-Some.what) c.start.result.now c.start-2.result.now c.args.a.now.start c.args.b.now.start c.start.ensures c.start-2.ensures c.in-Some.ensures

pub answer_of_runs-requires : goal.answer_of_runs-requires
answer_of_runs-requires c =
    moved (Agree c.args.observer.now) c.start.result.now c.start-2.result.now c.args.a.now.start c.args.b.now.start c.start.ensures c.start-2.ensures c.in-None.ensures
