use Rattle.lam_main_next.proofs.EndingLemmas.{stop_offered, run_begins, run_forest, end_offered}
use Rattle.lam_main_next.proofs.run_end.end_of_turns.Goals as goal

pub returns-in-Ok-Stops-clause-offers : goal.returns-in-Ok-Stops-clause-offers
returns-in-Ok-Stops-clause-offers c = stop_offered c.args.old.now c.args.code c.args.start c.args.turns.now c.in-Ok-Stops.turn c.in-Ok-Stops.thread (rw c.in-Ok-Stops.field-0-is at c.in-Ok-Stops.ensures)

pub returns-in-Ok-Whole-clause-offers : goal.returns-in-Ok-Whole-clause-offers
returns-in-Ok-Whole-clause-offers c = end_offered c.args.old.now c.args.code c.args.start c.args.turns.now c.in-Ok-Whole.run' (rw c.in-Ok-Whole.field-0-is at c.in-Ok-Whole.ensures) c.end_of_run.result c.end_of_run.ensures.offers

pub end_of_run-requires-clause-start : goal.end_of_run-requires-clause-start
end_of_run-requires-clause-start c = run_begins c.args.old.now c.args.code c.args.start c.args.turns.now c.in-Ok-Whole.run' (rw c.in-Ok-Whole.field-0-is at c.in-Ok-Whole.ensures) c.requires.document

pub end_of_run-requires-clause-forest : goal.end_of_run-requires-clause-forest
end_of_run-requires-clause-forest c = run_forest c.args.old.now c.args.code c.args.start c.args.turns.now c.in-Ok-Whole.run' (rw c.in-Ok-Whole.field-0-is at c.in-Ok-Whole.ensures) (c.texts_begin_as_forests.ensures c.args.code c.args.old.now c.args.start c.requires.document)
