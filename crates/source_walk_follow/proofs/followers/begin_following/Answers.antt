use Rattle.lam_resolve_tree.specs.Tree.{resolved_tree}
use Rattle.source_walk_follow.proofs.Following.{begins}
use Rattle.source_walk_follow.proofs.followers.begin_following.Goals as goal

pub returns-clause-follows : goal.returns-clause-follows
returns-clause-follows c = begins (resolved_tree c.args.program.now) c.args.units c.args.begin.now.function c.args.begin.now.args c.args.begin.now.caps c.in_ok-walking.walking c.in_ok-walking.ensures
