use Rattle.source_walk_run.proofs.Told.{all_told, few_places}
use Rattle.lam_resolve_tree.specs.Tree.{resolved_tree}
use Rattle.source_walk_run.proofs.departures.departures_with.Goals as goal

pub returns-clause-ok : goal.returns-clause-ok
returns-clause-ok c = (
  all_told (resolved_tree c.args.program.now) c.args.starts.now c.args.counts.now c.args.code.now c.args.turns.now c.args.start c.in_ok-kept.kept c.in_ok-departures.departures
      ((c.runs_are_whole.ensures c.args.code.now c.args.turns.now c.args.start).1 c.in_ok-kept.ensures.run) (c.runs_have_threads.ensures c.args.code.now c.args.start c.args.turns.now) c.requires.starts c.in_ok-kept.ensures.ok c.in_ok-departures.ensures.places
      (c.runs_stay_valid.ensures c.args.code.now c.requires.sound.code c.args.start c.args.turns.now c.requires.sound.valid).1.number c.requires.counts c.in_ok-departures.ensures.asks,
  few_places (resolved_tree c.args.program.now) c.args.starts.now c.args.counts.now c.args.code.now c.args.turns.now c.args.start c.in_ok-kept.kept c.in_ok-departures.departures
      ((c.runs_are_whole.ensures c.args.code.now c.args.turns.now c.args.start).1 c.in_ok-kept.ensures.run) (c.runs_have_threads.ensures c.args.code.now c.args.start c.args.turns.now) c.requires.starts c.in_ok-kept.ensures.ok c.in_ok-departures.ensures.places
      (c.runs_stay_valid.ensures c.args.code.now c.requires.sound.code c.args.start c.args.turns.now c.requires.sound.valid).1.number,
)
