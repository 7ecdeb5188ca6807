use Rattle.std.proofs.Common.{◌<◌, ◌-◌, ◌^◌, sym, subst}
use Rattle.std.proofs.lemmas.Result.{IfOk-weaker}
use Rattle.lam_asks.specs.declared.answer.What.TheVariants.{Asked}
use Rattle.lam_resolve_tree.specs.Tree.{resolved_tree}
use Rattle.source_walk_follow.specs.declared.followers.Follower.{Follower}
use Rattle.source_walk_follow.specs.declared.followers.Follower.TheVariants.{Departed}
use Rattle.source_walk_follow.specs.Following.{asks_met, FollowsTurn}
use Rattle.source_walk_follow.proofs.Following.{departed_turn}
use Rattle.source_walk_follow.proofs.followers.behind.Goals as goal

pub returns-in-Departed : goal.returns-in-Departed
returns-in-Departed c =
    subst (λ (w : Follower). FollowsTurn (resolved_tree c.args.program.now) w (Asked c.args.ask.now c.args.answer.now) (Departed c.in-Departed.place)) (sym c.in-Departed.is)
    (departed_turn (resolved_tree c.args.program.now) c.in-Departed.place (Asked c.args.ask.now c.args.answer.now))

pub behind_ask-requires : goal.behind_ask-requires
behind_ask-requires c = subst (λ (w : Follower). asks_met w < 2 ^ 64 - 1) c.in-Along.is c.requires

pub returns-in-Along : goal.returns-in-Along
returns-in-Along c =
    IfOk-weaker c.behind_ask.result _ _ (λ v h. subst (λ (w : Follower). FollowsTurn (resolved_tree c.args.program.now) w (Asked c.args.ask.now c.args.answer.now) v) (sym c.in-Along.is) h) c.behind_ask.ensures
