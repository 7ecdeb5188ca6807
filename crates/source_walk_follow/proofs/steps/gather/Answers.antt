use Rattle.std.proofs.lemmas.Result.{IfOk-weaker}
use Rattle.lam_resolve_tree.specs.Tree.{resolved_tree}
use Rattle.source_walk_parts.specs.States.{state_of}
use Rattle.source_walk_follow.proofs.StepLaws.{no_exprs, uses_go, args_go}
use Rattle.source_walk_follow.proofs.steps.gather.Goals as goal

pub returns-in-None : goal.returns-in-None
returns-in-None c =
    IfOk-weaker c.use_all.result _ _ (λ d h. uses_go (resolved_tree c.args.program.now) (state_of c.args.w.now) d (state_of c.use_all.new.w) c.args.depth c.args.rest c.args.done c.args.using (no_exprs c.args.rest.now c.in-None.ensures.cases) h) c.use_all.ensures

pub returns-in-Some : goal.returns-in-Some
returns-in-Some c =
    IfOk-weaker c.next_arg.result _ _ (λ d h. args_go (resolved_tree c.args.program.now) (state_of c.args.w.now) d (state_of c.next_arg.new.w) c.args.depth c.args.rest c.in-Some.first.now c.in-Some.rest.now c.args.done c.args.using (c.in-Some.ensures.cases).0 h) c.next_arg.ensures
