use Rattle.std.proofs.Common.{◌≡◌, Bool, List, ℕ, subst, sym}
use Rattle.lam_bytecode.specs.Codes.{CodeTree}
use Rattle.thread_host_run.specs.Kept.{Lists}
use Rattle.thread_host.specs.Sharing.{IsShared}
use Rattle.thread_host.proofs.Keeping.{for_who, for_origin}
use Rattle.thread_host.proofs.shared.Shared.along.Goals as goal

pub take_along-requires-clause-shared : goal.take_along-requires-clause-shared
take_along-requires-clause-shared g c =
    let self = c.self.inside in
    for_who (g.K.Keeps.AreKept c.args.who.now) g.J.Origin.AreKept c.requires.keeps c.args.code.now g.J.Origin.code c.requires.of.0 g.J.Origin.start c.args.budget g.J.Origin.budget c.requires.of.1 self.course self.kept self.lost c.if-self.false c.self.invariant.0

pub invariant_of-self-2 : goal.invariant_of-self-2
invariant_of-self-2 g c =
    let self = c.self.inside in
    let course = c.take_along.new.course in
    let shared = for_origin (g.K.Keeps.AreKept c.args.who.now) g.J.Origin.AreKept c.requires.keeps c.args.code.now g.J.Origin.code c.requires.of.0 g.J.Origin.start c.args.budget g.J.Origin.budget c.requires.of.1 course self.kept self.lost (subst (λ (b : Bool). IsShared (g.K.Keeps.AreKept c.args.who.now) c.args.code.now g.J.Origin.start c.args.budget course b self.kept) (sym c.if-self.false) c.take_along.ensures.shared) in
    (shared, subst (λ (code : CodeTree). Lists code course.world c.take_along.new.list) c.requires.of.0 c.take_along.ensures.lists, c.take_along.ensures.room)
