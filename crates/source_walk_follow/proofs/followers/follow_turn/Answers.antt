use Rattle.std.proofs.Common.{sym, subst}
use Rattle.std.proofs.lemmas.Result.{on_ok_weaker}
use Rattle.lam_resolve_tree.specs.Tree.{resolved_tree}
use Rattle.lam_asks.specs.declared.answer.What.{What}
use Rattle.source_walk_follow.specs.Following.{FollowsTurn}
use Rattle.source_walk_follow.proofs.Following.{private_turn}
use Rattle.source_walk_follow.proofs.followers.follow_turn.Goals as goal

pub returns-in-Private : goal.returns-in-Private
returns-in-Private c =
    subst (λ (what : What). FollowsTurn (resolved_tree c.args.program.now) c.args.follower.now what c.args.follower.now) (sym c.in-Private.is) (private_turn (resolved_tree c.args.program.now) c.args.follower.now)

pub returns-in-Asked : goal.returns-in-Asked
returns-in-Asked c =
    on_ok_weaker c.follow_ask.result (λ h. subst (λ (what : What). FollowsTurn (resolved_tree c.args.program.now) c.args.follower.now what c.follow_ask.new.follower) (sym c.in-Asked.is) h) c.follow_ask.ensures
