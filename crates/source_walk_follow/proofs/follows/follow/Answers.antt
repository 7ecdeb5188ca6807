use Rattle.std.proofs.Common.{ℕ, Option, sym, subst}
use Rattle.lam_resolve_tree.specs.Tree.{resolved_tree}
use Rattle.lam_meaning.specs.Plays.{asks_made}
use Rattle.source_walk_terms.specs.Runs.{asked_in, answers_in}
use Rattle.source_walk_follow.specs.Followed.{Follows}
use Rattle.source_walk_follow.proofs.Following.{followed}
use Rattle.source_walk_follow.proofs.follows.follow.Goals as goal

pub returns-in-Ok : goal.returns-in-Ok
returns-in-Ok c =
    subst (λ (at : Option ℕ). Follows (asked_in c.args.did.now) (asks_made (resolved_tree c.args.program.now) c.args.units c.args.begin.now.function c.args.begin.now.args c.args.begin.now.caps (answers_in c.args.did.now)) at) (sym c.departure-place.ensures)
    (followed (resolved_tree c.args.program.now) (asks_made (resolved_tree c.args.program.now) c.args.units c.args.begin.now.function c.args.begin.now.args c.args.begin.now.caps) c.args.did.now c.follow_all-ended.new.follower
    (c.in-Ok.ensures (asks_made (resolved_tree c.args.program.now) c.args.units c.args.begin.now.function c.args.begin.now.args c.args.begin.now.caps) c.in_ok-follower.ensures.follows))
