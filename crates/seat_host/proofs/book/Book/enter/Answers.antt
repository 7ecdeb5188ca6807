use Rattle.std.proofs.Common.{◌≡◌, ◌+◌, ◌<◌, ◌++◌, [], ◌∷◌, length, List, Option, ℕ, arith, sym, ap, ◌∙◌, subst, rules}
use Rattle.seat_host.specs.Places.{Shared, shared}
use Rattle.seat_host.specs.Answers.{holding, Comes}
use Rattle.seat_host.proofs.Spreading.{length-spread}
use Rattle.seat_host.proofs.Entering.{entered, Entered}
use Rattle.seat_host.proofs.book.Book.enter.Goals as goal

pub overflow_add-self : goal.overflow_add-self
overflow_add-self c =
    let is = sym (length-spread 0 c.self.inside.count c.self.inside.held.items c.self.inside.run.turns) ∙ ap (λ (k : Shared). length k.places) c.self.view_is in
    rw is (search (rules, c.requires))

pub invariant_of-self : goal.invariant_of-self
invariant_of-self c =
    let b = c.self.inside in
    let a = c.turn_at-answer in
    let e = entered b.run b.held.items b.last.items b.count c.args.seen c.args.thread a.result a.new.run a.new.held.items a.new.last.items c.self.invariant a.ensures.whole a.ensures.enters in
    e.book

pub returns-clause-comes : goal.returns-clause-comes
returns-clause-comes c =
    let b = c.self.inside in
    let a = c.turn_at-answer in
    let e = entered b.run b.held.items b.last.items b.count c.args.seen c.args.thread a.result a.new.run a.new.held.items a.new.last.items c.self.invariant a.ensures.whole a.ensures.enters in
    subst (λ (k : Shared). Comes k c.args.seen c.args.thread a.result) c.self.view_is e.comes

pub returns-clause-places : goal.returns-clause-places
returns-clause-places c =
    let b = c.self.inside in
    let a = c.turn_at-answer in
    let e = entered b.run b.held.items b.last.items b.count c.args.seen c.args.thread a.result a.new.run a.new.held.items a.new.last.items c.self.invariant a.ensures.whole a.ensures.enters in
    (λ j. shared (e.code j) (e.start j) (e.places j)) ∙ ap (λ (k : Shared). shared k.code k.start (k.places ++ holding c.args.thread a.result ∷ [])) c.self.view_is
