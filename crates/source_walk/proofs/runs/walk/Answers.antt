use Rattle.std.proofs.Common.{sym, ◌∙◌}
use Rattle.std.proofs.lemmas.Result.{IfOk-weaker}
use Rattle.lam_resolve_tree.specs.Tree.{resolved_tree}
use Rattle.source_walk.proofs.Reading.{same_program}
use Rattle.source_walk.proofs.runs.walk.Goals as goal

pub walk_run-walked-requires : goal.walk_run-walked-requires
walk_run-walked-requires c = record { entries = c.requires.entries (resolved_tree c.in-Ok.program) (sym c.in-Ok.ensures.resolved); limits = c.in-Ok.ensures.limits }

pub returns-in-Ok : goal.returns-in-Ok
returns-in-Ok c =
    IfOk-weaker c.walk_run-walked.result _ _
    (λ walked h r e. same_program (resolved_tree c.in-Ok.program) r c.args.run.now.code c.args.run.now.start c.args.run.now.turns walked (c.in-Ok.ensures.resolved ∙ e) h) c.walk_run-walked.ensures
