use Rattle.std.proofs.Common.{◌∙◌}
use Rattle.std.proofs.lemmas.Result.{IfOk-weaker}
use Rattle.lam_resolve_tree.specs.Tree.{resolved_tree}
use Rattle.source_walk.proofs.Reading.{sound_read, entries_read, whole_read, walked_read}
use Rattle.source_walk.proofs.runs.walk_run.Goals as goal

pub walk_whole-requires : goal.walk_whole-requires
walk_whole-requires c =
    let run = c.turns.ensures.whole in
    let start = c.in_ok-start.ensures ∙ c.start.ensures in record {
      sound = sound_read c.code.result.now c.args.run.now.code c.turns.result.now c.args.run.now.turns _ c.args.run.now.start c.code.ensures c.turns.ensures.is start run.start;
      entries = entries_read c.code.result.now c.args.run.now.code c.turns.result.now c.args.run.now.turns _ c.args.run.now.start c.code.ensures c.turns.ensures.is start (resolved_tree c.args.program.now) c.requires.entries;
      limits = c.requires.limits;
      whole =
          whole_read c.code.result.now c.args.run.now.code c.turns.result.now c.args.run.now.turns _ c.args.run.now.start c.code.ensures c.turns.ensures.is start
          ((c.runs_are_whole.ensures c.args.run.now.code c.args.run.now.turns c.args.run.now.start).0 run.run);
    }

pub returns : goal.returns
returns c =
    IfOk-weaker c.walk_whole.result _ _
    (λ walked h. walked_read c.code.result.now c.args.run.now.code c.turns.result.now c.args.run.now.turns _ c.args.run.now.start c.code.ensures c.turns.ensures.is (c.in_ok-start.ensures ∙ c.start.ensures) (resolved_tree c.args.program.now) walked h)
    c.walk_whole.ensures
