use Rattle.std.proofs.Common.{◌≤◌, [], take}
use Rattle.lam_resolve_tree.specs.Tree.{resolved_tree}
use Rattle.source_walk_follow.specs.Following.{Source, IsFollowing, asks_met}
use Rattle.source_walk_follow.proofs.follows.follow_all.Given as goal

abbrev pub invariant-loop-what : goal.invariant-loop-what
invariant-loop-what l =
    record {
      met : asks_met l.follower ≤ l.what-index;
      follows : (source : Source) → IsFollowing (resolved_tree l.program) source [] l.initial.follower → IsFollowing (resolved_tree l.program) source (take l.what-index l.did) l.follower;
    }
