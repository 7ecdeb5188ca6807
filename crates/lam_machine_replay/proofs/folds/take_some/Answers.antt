use Rattle.std.proofs.Common.{◌≡◌, ◌+◌, ℕ, List, length, subst, arith}
use Rattle.std.specs.Prelude.{replicate}
use Rattle.std.proofs.lemmas.List.{length-replicate, replicate-append-replicate}
use Rattle.lam_machine_replay.specs.Keeping.{Takes}
use Rattle.lam_machine_replay.proofs.TakesLemmas.{taken_more, of_so_many, none_more}
use Rattle.lam_machine_replay.proofs.folds.take_some.Goals as goal

pub take_turn-requires-clause-sound : goal.take_turn-requires-clause-sound
take_turn-requires-clause-sound g c = (c.in_ok-privately.ensures.taken c.args.turn).sound c.requires.sound

pub take_turn-requires-clause-before : goal.take_turn-requires-clause-before
take_turn-requires-clause-before g c =
    let long : length (replicate c.in_ok-privately.privately c.args.thread) ≡ c.in_ok-privately.privately = length-replicate c.in_ok-privately.privately c.args.thread in
    of_so_many (g.K.KeepsAll.AreAllKept c.args.who.now) c.args.code.now c.args.turn (c.args.turn + c.in_ok-privately.privately) (replicate c.in_ok-privately.privately c.args.thread) c.args.world.now c.take_private.new.world c.args.kept.now c.take_private.new.kept
    (omega (arith, long)) c.requires.before (c.in_ok-privately.ensures.taken c.args.turn)

pub returns-then-privately-most-clause-taken : goal.returns-then-privately-most-clause-taken
returns-then-privately-most-clause-taken g c = c.in_ok-privately.ensures.taken c.args.turn

pub returns-clause-taken : goal.returns-clause-taken
returns-clause-taken g c =
    let long : length (replicate c.in_ok-privately.privately c.args.thread) ≡ c.in_ok-privately.privately = length-replicate c.in_ok-privately.privately c.args.thread in
    subst (λ (ts : List ℕ). Takes (g.K.KeepsAll.AreAllKept c.args.who.now) c.args.code.now c.args.turn ts c.args.world.now c.args.kept.now c.take_turn.new.world c.take_turn.new.kept)
    (replicate-append-replicate c.in_ok-privately.privately c.in_ok-one.one c.args.thread)
    (taken_more (g.K.KeepsAll.AreAllKept c.args.who.now) c.args.code.now c.args.turn (c.args.turn + c.in_ok-privately.privately) (replicate c.in_ok-privately.privately c.args.thread) (replicate c.in_ok-one.one c.args.thread) c.args.world.now c.take_private.new.world c.take_turn.new.world c.args.kept.now c.take_private.new.kept c.take_turn.new.kept
    (omega (arith, long)) (c.in_ok-privately.ensures.taken c.args.turn) c.in_ok-one.ensures.taken)

pub returns-clause-stops : goal.returns-clause-stops
returns-clause-stops g c = λ none.
    none_more (g.K.KeepsAll.AreAllKept c.args.who.now) c.args.code.now c.args.turn c.args.thread c.in_ok-privately.privately c.args.world.now c.take_private.new.world c.args.kept.now c.take_private.new.kept
    (omega (arith, none)) (c.in_ok-privately.ensures.taken c.args.turn) (c.in_ok-one.ensures.stops (omega (arith, none)))
