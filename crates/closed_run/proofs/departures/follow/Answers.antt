use Rattle.std.proofs.Common.{get_or, subst}
use Rattle.closed_run.specs.Departing.{GoesAlong}
use Rattle.closed_run.proofs.DepartLemmas.{along_turn, all_along, leaves_here, along_same}
use Rattle.closed_run.proofs.departures.follow.Goals as goal

pub returns-in-None : goal.returns-in-None
returns-in-None c =
    let none = subst (λ o. GoesAlong c.args.base.now c.args.code.now c.turns.world c.turns.slot (get_or c.args.turns.now c.turns.turn 0) o c.go_along.new.world) c.in-None.is c.in_ok-go_along.ensures in
    along_same c.args.base.now c.args.code.now c.args.world.now c.args.turns.now c.turns.turn c.turns.world c.go_along.new.world none.1 (leaves_here c.args.base.now c.args.code.now c.args.world.now c.args.turns.now c.turns.turn c.turns.world c.turns.slot c.turns.invariant c.turns-test.true none.0)

pub turns-preserved : goal.turns-preserved
turns-preserved c =
    let went = subst (λ o. GoesAlong c.args.base.now c.args.code.now c.turns.world c.turns.slot (get_or c.args.turns.now c.turns.turn 0) o c.go_along.new.world) c.in-Some.is c.in_ok-go_along.ensures in
    along_turn c.args.base.now c.args.code.now c.args.world.now c.args.turns.now c.turns.turn c.turns.world c.turns.slot c.turns.invariant c.turns-test.true c.in-Some.next c.go_along.new.world went

pub returns : goal.returns
returns c = all_along c.args.base.now c.args.code.now c.args.world.now c.args.turns.now c.turns.turn c.turns.world c.turns.slot c.turns.invariant c.turns-test.false
