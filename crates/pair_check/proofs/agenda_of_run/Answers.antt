use Rattle.std.proofs.Common.{◌∙◌}
use Rattle.std.proofs.lemmas.Result.{IfOk-weaker}
use Rattle.pair_check.proofs.PairedLemmas.{sound_read, whole_read, agenda_read}
use Rattle.pair_check.proofs.agenda_of_run.Goals as goal

pub agenda_of_whole-requires : goal.agenda_of_whole-requires
agenda_of_whole-requires c =
    let run = c.turns.ensures.whole in record {
      sound =
          sound_read c.code.result.now c.args.run.now.code c.turns.result.now c.args.run.now.turns _ c.args.run.now.start c.code.ensures c.turns.ensures.is (c.in_ok-start.ensures ∙ c.start.ensures) run.start;
      whole =
          whole_read c.code.result.now c.args.run.now.code c.turns.result.now c.args.run.now.turns _ c.args.run.now.start c.code.ensures c.turns.ensures.is (c.in_ok-start.ensures ∙ c.start.ensures)
          ((c.runs_are_whole.ensures c.args.run.now.code c.args.run.now.turns c.args.run.now.start).0 run.run);
    }

pub returns : goal.returns
returns c =
    IfOk-weaker c.agenda_of_whole.result _ _
    (λ noted h. h ∙ agenda_read c.code.result.now c.args.run.now.code c.turns.result.now c.args.run.now.turns _ c.args.run.now.start c.code.ensures c.turns.ensures.is (c.in_ok-start.ensures ∙ c.start.ensures) c.args.observer.now)
    c.agenda_of_whole.ensures
