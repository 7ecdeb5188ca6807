use Rattle.std.proofs.lemmas.Result.{IfOk-weaker}
use Rattle.lam_resolve_tree.specs.Tree.{resolved_tree}
use Rattle.source_walk_parts.specs.States.{state_of}
use Rattle.source_walk_follow.proofs.Following.{settled_meets}
use Rattle.source_walk_follow.proofs.turns.take.Goals as goal

pub returns : goal.returns
returns c =
    IfOk-weaker c.compare-next.result _ _
    (λ o h. settled_meets (resolved_tree c.args.program.now) c.args.control c.in_ok-settled.settled (state_of c.args.w.now) (state_of c.settle.new.w) c.args.ask.now c.args.answer.now (state_of c.compare-next.new.w) o c.in_ok-settled.ensures.left h) c.compare-next.ensures
