use Rattle.std.proofs.Common.{[]}
use Rattle.lam_resolve_tree.specs.Tree.{resolved_tree}
use Rattle.lam_machine_runs.specs.Stops.{stopped_at}
use Rattle.lam_main_replay.specs.Walks.{TellsSame}
use Rattle.lam_main_walk.proofs.SourceLemmas.{at_entries, none_departs, same_says, no_run_says}
use Rattle.lam_main_walk.proofs.answer_line.told.Goals as goal

pub walk_turns-requires-clause-sound : goal.walk_turns-requires-clause-sound
walk_turns-requires-clause-sound c = c.requires.start

pub walk_turns-requires-clause-limits : goal.walk_turns-requires-clause-limits
walk_turns-requires-clause-limits c = c.requires.sound.limits

pub walk_turns-requires-clause-entries : goal.walk_turns-requires-clause-entries
walk_turns-requires-clause-entries c = at_entries (resolved_tree c.args.source.now.program) c.args.source.now.code c.args.start (c.requires.means [])

pub returns-in_ok-same_text-in-Ok-Same-clause-says : goal.returns-in_ok-same_text-in-Ok-Same-clause-says
returns-in_ok-same_text-in-Ok-Same-clause-says c =
    same_says (resolved_tree c.args.source.now.program) c.args.source.now.code c.args.start c.args.turns.now c.in-Ok-Same.asks c.in_ok-same_text-in-Ok-Same.field-0 (rw c.in-Ok-Same.field-0-is at c.in-Ok-Same.ensures.ok) c.in-Ok-Same.ensures.run c.in_ok-same_text-in-Ok-Same.ensures

-- the law makes this answer impossible
pub returns-in_ok-departs_text-in-Ok-Departs-clause-says : goal.returns-in_ok-departs_text-in-Ok-Departs-clause-says
returns-in_ok-departs_text-in-Ok-Departs-clause-says c =
    absurd (none_departs (resolved_tree c.args.source.now.program) c.args.source.now.code c.args.start c.args.turns.now c.meant_runs_are_same.ensures (c.requires.means c.args.turns.now) c.in-Ok-Departs.field-0 c.in-Ok-Departs.ensures.ok c.in-Ok-Departs.field-0-is)

pub returns-in-Err-clause-says : goal.returns-in-Err-clause-says
returns-in-Err-clause-says c =
    no_run_says (TellsSame (resolved_tree c.args.source.now.program) c.args.source.now.code c.args.start c.args.turns.now) c.in-Err.fault c.run_halt.result (stopped_at c.args.source.now.code c.args.turns.now c.args.start) c.in-Err.ensures.stops c.run_halt.ensures
