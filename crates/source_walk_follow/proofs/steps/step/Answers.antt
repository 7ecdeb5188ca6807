use Rattle.std.proofs.Common.{sym, ◌∙◌}
use Rattle.std.proofs.lemmas.Bool.{false≢true}
use Rattle.std.proofs.lemmas.Result.{IfOk-weaker}
use Rattle.lam_resolve_tree.specs.Tree.{resolved_tree}
use Rattle.source_walk_parts.specs.States.{state_of}
use Rattle.source_walk_follow.proofs.StepLaws.{goes_of, eval_goes, exec_goes, block_goes, must_stand}
use Rattle.source_walk_follow.proofs.steps.step.Goals as goal

pub returns-in-Eval : goal.returns-in-Eval
returns-in-Eval c = IfOk-weaker c.eval.result _ _ (λ d h. goes_of (resolved_tree c.args.program.now) (state_of c.args.w.now) d (state_of c.eval.new.w) c.args.control _ c.in-Eval.is (eval_goes (resolved_tree c.args.program.now) (state_of c.args.w.now) d (state_of c.eval.new.w) c.in-Eval.depth c.in-Eval.e h)) c.eval.ensures

pub returns-in-Gather : goal.returns-in-Gather
returns-in-Gather c = IfOk-weaker c.gather.result _ _ (λ d h. goes_of (resolved_tree c.args.program.now) (state_of c.args.w.now) d (state_of c.gather.new.w) c.args.control _ c.in-Gather.is (h)) c.gather.ensures

pub returns-in-Exec : goal.returns-in-Exec
returns-in-Exec c = IfOk-weaker c.exec.result _ _ (λ d h. goes_of (resolved_tree c.args.program.now) (state_of c.args.w.now) d (state_of c.exec.new.w) c.args.control _ c.in-Exec.is (exec_goes (resolved_tree c.args.program.now) (state_of c.args.w.now) d (state_of c.exec.new.w) c.in-Exec.depth c.in-Exec.s h)) c.exec.ensures

pub returns-in-Block : goal.returns-in-Block
returns-in-Block c = IfOk-weaker c.block.result _ _ (λ d h. goes_of (resolved_tree c.args.program.now) (state_of c.args.w.now) d (state_of c.block.new.w) c.args.control _ c.in-Block.is (block_goes (resolved_tree c.args.program.now) (state_of c.args.w.now) d (state_of c.block.new.w) c.in-Block.depth c.in-Block.rest h)) c.block.ensures

pub returns-in-Give : goal.returns-in-Give
returns-in-Give c = IfOk-weaker c.give.result _ _ (λ d h. goes_of (resolved_tree c.args.program.now) (state_of c.args.w.now) d (state_of c.give.new.w) c.args.control _ c.in-Give.is (h (resolved_tree c.args.program.now))) c.give.ensures

pub returns-in-Raise : goal.returns-in-Raise
returns-in-Raise c = IfOk-weaker c.raise.result _ _ (λ d h. goes_of (resolved_tree c.args.program.now) (state_of c.args.w.now) d (state_of c.raise.new.w) c.args.control _ c.in-Raise.is (h (resolved_tree c.args.program.now))) c.raise.ensures

pub returns-in-Leave : goal.returns-in-Leave
returns-in-Leave c = IfOk-weaker c.leave.result _ _ (λ d h. goes_of (resolved_tree c.args.program.now) (state_of c.args.w.now) d (state_of c.leave.new.w) c.args.control _ c.in-Leave.is (h (resolved_tree c.args.program.now))) c.leave.ensures

pub returns-in_default : goal.returns-in_default
returns-in_default c =
    absurd (false≢true (sym c.requires ∙ must_stand (resolved_tree c.args.program.now) c.args.control c.in_default.not-Eval c.in_default.not-Gather c.in_default.not-Exec c.in_default.not-Block c.in_default.not-Give c.in_default.not-Raise c.in_default.not-Leave))
