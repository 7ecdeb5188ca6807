use Rattle.std.proofs.Common.{rules, ◌≡◌, ◌<◌, length, true, subst}
use Rattle.lam_machine_terms.specs.Worlds.{World, thread_at}
use Rattle.lam_machine_terms.specs.Turns.{is_living}
use Rattle.thread_host_run.proofs.ListedReady.{some_ready, none_ready}
use Rattle.thread_host.proofs.visits.how_it_stands.Goals as goal

pub returns-in-Some : goal.returns-in-Some
returns-in-Some c =
    let none : length c.args.ready.now ≡ 0 = search rules in
    let lives = subst (λ (w : World). is_living (thread_at w c.in-Some.field-0) ≡ true) c.world.ensures c.in-Some.ensures in
    record { some_lives = (c.in-Some.field-0, lives); none_ready = none_ready c.args.code.now c.args.course.now.world c.args.ready.now c.requires.list none }

pub returns-then-turns-budget : goal.returns-then-turns-budget
returns-then-turns-budget c =
    let some : 0 < length c.args.ready.now = search rules in
    (some_ready c.args.code.now c.args.course.now.world c.args.ready.now c.requires.list some, search rules)

pub returns : goal.returns
returns c =
    let some : 0 < length c.args.ready.now = search rules in
    record { some = some_ready c.args.code.now c.args.course.now.world c.args.ready.now c.requires.list some; left = search rules }
