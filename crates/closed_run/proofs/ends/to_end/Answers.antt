use Rattle.std.proofs.Common.{length, ◌∙◌}
use Rattle.closed_laws.proofs.NextLemmas.{next_told}
use Rattle.closed_run.proofs.ReachLemmas.{as_many}
use Rattle.closed_run.proofs.EndLemmas.{Goes, ends_here, next_here, after_row, at_end, row_fits, turn_fits, after_turn}
use Rattle.closed_run.proofs.ends.to_end.Goals as goal

pub what_comes-requires : goal.what_comes-requires
what_comes-requires g c =
    let later = after_row (g.K.Keeps.AreKept c.args.who.now) c.args.base.now c.args.code.now c.args.budget c.args.world.now c.turns.turns.items c.take_row.new.turns.items c.turns.world c.take_row.new.world c.turns.place c.in_ok-later.later c.turns.kept c.leaves_private.ensures c.turns.invariant.1 c.in_ok-later.ensures in
    record { sound = later.sound }

pub returns-in-Ends-clause-ended : goal.returns-in-Ends-clause-ended
returns-in-Ends-clause-ended g c =
    let later = after_row (g.K.Keeps.AreKept c.args.who.now) c.args.base.now c.args.code.now c.args.budget c.args.world.now c.turns.turns.items c.take_row.new.turns.items c.turns.world c.take_row.new.world c.turns.place c.in_ok-later.later c.turns.kept c.leaves_private.ensures c.turns.invariant.1 c.in_ok-later.ensures in
    let comes = ends_here c.args.base.now c.args.code.now c.args.budget c.take_row.new.world c.in_ok-later.later c.len.result (length c.take_row.new.turns.items) (c.len.ensures ∙ c.take_row.new.turns.ok.0) c.what_comes.result c.what_comes.ensures c.in-Ends.end c.in-Ends.is in
    at_end (g.K.Keeps.AreKept c.args.who.now) c.args.base.now c.args.code.now c.args.budget c.args.world.now c.take_row.new.turns.items c.take_row.new.world c.in_ok-later.later c.turns.kept c.in-Ends.end later comes

pub returns-in-Ends-clause-kept : goal.returns-in-Ends-clause-kept
returns-in-Ends-clause-kept g c =
    let later = after_row (g.K.Keeps.AreKept c.args.who.now) c.args.base.now c.args.code.now c.args.budget c.args.world.now c.turns.turns.items c.take_row.new.turns.items c.turns.world c.take_row.new.world c.turns.place c.in_ok-later.later c.turns.kept c.leaves_private.ensures c.turns.invariant.1 c.in_ok-later.ensures in
    later.kept

pub take_turn-requires-clause-ready : goal.take_turn-requires-clause-ready
take_turn-requires-clause-ready g c =
    let comes = next_here c.args.base.now c.args.code.now c.args.budget c.take_row.new.world c.in_ok-later.later c.len.result (length c.take_row.new.turns.items) (c.len.ensures ∙ c.take_row.new.turns.ok.0) c.what_comes.result c.what_comes.ensures c.in-Next.slot c.in-Next.is in
    (next_told c.args.code.now c.args.base.now).is_ready c.take_row.new.world c.in_ok-later.later.slot c.in-Next.slot comes.1

pub take_turn-requires-clause-before : goal.take_turn-requires-clause-before
take_turn-requires-clause-before g c =
    let later = after_row (g.K.Keeps.AreKept c.args.who.now) c.args.base.now c.args.code.now c.args.budget c.args.world.now c.turns.turns.items c.take_row.new.turns.items c.turns.world c.take_row.new.world c.turns.place c.in_ok-later.later c.turns.kept c.leaves_private.ensures c.turns.invariant.1 c.in_ok-later.ensures in
    as_many (g.K.Keeps.AreKept c.args.who.now) c.args.base.now c.args.code.now (Goes c.args.base.now c.args.code.now c.args.budget) c.args.world.now c.take_row.new.turns.items c.take_row.new.world c.in_ok-later.later c.turns.kept later

pub turns-preserved : goal.turns-preserved
turns-preserved g c =
    let later = after_row (g.K.Keeps.AreKept c.args.who.now) c.args.base.now c.args.code.now c.args.budget c.args.world.now c.turns.turns.items c.take_row.new.turns.items c.turns.world c.take_row.new.world c.turns.place c.in_ok-later.later c.turns.kept c.leaves_private.ensures c.turns.invariant.1 c.in_ok-later.ensures in
    let fits = row_fits c.args.base.now c.args.code.now c.args.budget c.turns.turns.items c.take_row.new.turns.items c.turns.world c.take_row.new.world c.turns.place c.in_ok-later.later c.turns.invariant.0 c.in_ok-later.ensures in
    let comes = next_here c.args.base.now c.args.code.now c.args.budget c.take_row.new.world c.in_ok-later.later c.len.result (length c.take_row.new.turns.items) (c.len.ensures ∙ c.take_row.new.turns.ok.0) c.what_comes.result c.what_comes.ensures c.in-Next.slot c.in-Next.is in (
      turn_fits (g.K.Keeps.AreKept c.args.who.now) c.args.base.now c.args.code.now c.args.budget c.take_row.new.turns.items c.take_turn.new.turns.items c.take_row.new.world c.take_turn.new.world c.in_ok-later.later c.in_ok-place-in-Next.place c.in-Next.slot c.turns.kept c.take_turn.new.kept fits comes.0 comes.1 c.in_ok-place-in-Next.ensures,
      after_turn (g.K.Keeps.AreKept c.args.who.now) c.args.base.now c.args.code.now c.args.budget c.take_row.new.turns.items c.take_turn.new.turns.items c.take_row.new.world c.take_turn.new.world c.in_ok-later.later c.in_ok-place-in-Next.place c.in-Next.slot c.turns.kept c.take_turn.new.kept c.args.world.now later comes.0 comes.1 c.in_ok-place-in-Next.ensures,
    )

pub take_turn-requires-clause-sound : goal.take_turn-requires-clause-sound
take_turn-requires-clause-sound g c =
    let later = after_row (g.K.Keeps.AreKept c.args.who.now) c.args.base.now c.args.code.now c.args.budget c.args.world.now c.turns.turns.items c.take_row.new.turns.items c.turns.world c.take_row.new.world c.turns.place c.in_ok-later.later c.turns.kept c.leaves_private.ensures c.turns.invariant.1 c.in_ok-later.ensures in
    later.sound
