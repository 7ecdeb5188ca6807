use Rattle.std.proofs.Common.{Option, subst}
use Rattle.lam_resolve_tree.specs.Tree.{resolved_tree}
use Rattle.source_walk_state.specs.declared.Control.{Control}
use Rattle.source_walk_parts.specs.States.{state_of}
use Rattle.source_walk_follow.specs.Standing.{Meets}
use Rattle.source_walk_follow.proofs.Following.{leaves_turn, goes_turn}
use Rattle.source_walk_follow.proofs.followers.behind_ask.Goals as goal

pub returns-in-None : goal.returns-in-None
returns-in-None c =
    leaves_turn (resolved_tree c.args.program.now) c.args.walking c.args.asks c.args.ask.now c.args.answer.now (state_of c.take.new.w)
    (subst (λ (o : Option Control). Meets (resolved_tree c.args.program.now) c.args.walking.control (state_of c.args.walking.walk) c.args.ask.now c.args.answer.now (state_of c.take.new.w) o) c.in-None.is c.in_ok-next.ensures)

pub returns-in-Some : goal.returns-in-Some
returns-in-Some c =
    goes_turn (resolved_tree c.args.program.now) c.args.walking c.args.asks c.args.ask.now c.args.answer.now (state_of c.take.new.w) (record { walk = c.take.new.w; control = c.in-Some.control })
    (subst (λ (o : Option Control). Meets (resolved_tree c.args.program.now) c.args.walking.control (state_of c.args.walking.walk) c.args.ask.now c.args.answer.now (state_of c.take.new.w) o) c.in-Some.is c.in_ok-next.ensures)
