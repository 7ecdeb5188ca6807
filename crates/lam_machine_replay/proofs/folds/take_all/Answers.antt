use Rattle.std.proofs.Common.{[], get_or, refl, arith}
use Rattle.lam_machine_replay.proofs.RunLemmas.{runs_whole}
use Rattle.lam_machine_replay.proofs.TakesLemmas.{none_taken, kept_so_far, front_taken, front_stops, row_later, all_taken}
use Rattle.lam_machine_replay.proofs.folds.take_all.Goals as goal

pub rows-init : goal.rows-init
rows-init g c = (record { within = omega arith; each = λ i less. absurd (omega (arith, less)) }, none_taken (g.K.KeepsAll.AreAllKept c.args.who.now) c.args.code.now 0 c.args.world.now c.args.world.now c.args.kept.now refl)

pub take_some-requires-clause-before : goal.take_some-requires-clause-before
take_some-requires-clause-before g c =
    let within = c.rows.invariant.0.within in
    kept_so_far (g.K.KeepsAll.AreAllKept c.args.who.now) c.args.code.now c.args.world.now c.args.turns.now c.args.kept.now c.rows.turn c.rows.world c.rows.kept (omega (arith, within)) c.requires.nothing c.rows.invariant.1

pub returns-then-taken-eq0-clause-stops : goal.returns-then-taken-eq0-clause-stops
returns-then-taken-eq0-clause-stops g c =
    front_stops (g.K.KeepsAll.AreAllKept c.args.who.now) c.args.code.now c.args.world.now c.args.turns.now c.args.kept.now c.rows.turn c.rows.world c.rows.kept c.rows-test.true c.rows.invariant.1 (c.in_ok-taken.ensures.stops c.if-taken-eq0.true)

pub rows-preserved : goal.rows-preserved
rows-preserved g c = (
  row_later c.args.turns.now c.rows.turn c.left_in_row-many.result (get_or c.args.turns.now c.rows.turn 0) c.left_in_row-many.ensures.row c.in_ok-taken.taken c.in_ok-taken.ensures.few,
  front_taken (g.K.KeepsAll.AreAllKept c.args.who.now) c.args.code.now c.args.world.now c.args.turns.now c.args.kept.now c.rows.turn c.left_in_row-many.result (get_or c.args.turns.now c.rows.turn 0) c.in_ok-taken.taken c.rows.world c.take_some.new.world c.rows.kept c.take_some.new.kept c.left_in_row-many.ensures.row c.in_ok-taken.ensures.few c.rows.invariant.1 c.in_ok-taken.ensures.taken,
)

pub returns-clause-ok : goal.returns-clause-ok
returns-clause-ok g c =
    (all_taken (g.K.KeepsAll.AreAllKept c.args.who.now) c.args.code.now c.args.world.now c.args.turns.now c.args.kept.now c.rows.turn c.rows.world c.rows.kept c.rows-test.false c.rows.invariant.1).keeps [] refl c.requires.nothing

pub returns-clause-run : goal.returns-clause-run
returns-clause-run g c =
    (runs_whole c.args.code.now c.args.turns.now c.args.world.now).0
    (all_taken (g.K.KeepsAll.AreAllKept c.args.who.now) c.args.code.now c.args.world.now c.args.turns.now c.args.kept.now c.rows.turn c.rows.world c.rows.kept c.rows-test.false c.rows.invariant.1).run
