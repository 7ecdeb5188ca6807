use Rattle.std.proofs.Common.{List, subst, arith}
use Rattle.lam_asks.specs.declared.answer.What.{What}
use Rattle.lam_resolve_tree.specs.Tree.{resolved_tree}
use Rattle.source_walk_follow.specs.Following.{IsFollowing}
use Rattle.source_walk_follow.proofs.Lists.{whole_taken}
use Rattle.source_walk_follow.proofs.Following.{one_more}
use Rattle.source_walk_follow.proofs.follows.follow_all.Goals as goal

pub loop-what-init : goal.loop-what-init
loop-what-init c = record { met = omega (arith, c.requires); follows = λ source h. h }

pub loop-what-preserved : goal.loop-what-preserved
loop-what-preserved c =
    record {
      met = let few = c.in_ok-follow_turn.ensures.few in let met = c.loop-what.invariant.met in omega (arith, few, met);
      follows = λ source h.
          one_more (resolved_tree c.args.program.now) source c.args.did.now c.loop-what.what-index c.what-item.result c.loop-what.follower c.follow_turn.new.follower c.loop-what-test.true c.what-item.is c.in_ok-follow_turn.ensures
          (c.loop-what.invariant.follows source h);
    }

pub returns : goal.returns
returns c = λ source h.
    subst (λ (l : List What). IsFollowing (resolved_tree c.args.program.now) source l c.loop-what.follower) (whole_taken c.args.did.now c.loop-what.what-index c.loop-what-test.false) (c.loop-what.invariant.follows source h)
