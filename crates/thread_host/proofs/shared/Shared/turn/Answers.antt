use Rattle.std.proofs.Common.{◌≡◌, List, ℕ, subst, sym}
use Rattle.lam_bytecode.specs.Codes.{CodeTree}
use Rattle.thread_host_run.specs.Kept.{Lists}
use Rattle.thread_host.proofs.Keeping.{for_who, for_origin}
use Rattle.thread_host.proofs.shared.Shared.turn.Goals as goal

pub take_turn-requires-clause-shared : goal.take_turn-requires-clause-shared
take_turn-requires-clause-shared g c =
    let self = c.self.inside in
    for_who (g.K.Keeps.AreKept c.args.who.now) g.J.Origin.AreKept c.requires.keeps c.args.code.now g.J.Origin.code c.requires.of.0 g.J.Origin.start c.args.budget g.J.Origin.budget c.requires.of.1 self.course self.kept self.lost c.if-self.false c.self.invariant.0

pub invariant_of-self-2 : goal.invariant_of-self-2
invariant_of-self-2 g c =
    let course = c.take_turn.new.course in
    let shared = for_origin (g.K.Keeps.AreKept c.args.who.now) g.J.Origin.AreKept c.requires.keeps c.args.code.now g.J.Origin.code c.requires.of.0 g.J.Origin.start c.args.budget g.J.Origin.budget c.requires.of.1 course c.take_turn.new.kept c.take_turn.new.lost c.take_turn.ensures.shared in
    (shared, subst (λ (code : CodeTree). Lists code course.world c.take_turn.new.list) c.requires.of.0 c.take_turn.ensures.lists, c.take_turn.ensures.room)
