use Rattle.std.proofs.Common.{Some, length, ap, sym, subst, ◌∙◌}
use Rattle.lam_machine_terms.specs.Worlds.{World}
use Rattle.guarded_code_runs.specs.Worlds.{IsSound}
use Rattle.thread_host_run.specs.Courses.{Progress, TookTurn}
use Rattle.thread_host_run.specs.Kept.{Lists}
use Rattle.thread_host_run.proofs.CourseLemmas.{course_sound}
use Rattle.thread_host.specs.Sharing.{Unless, IsShared, KeepsTaken}
use Rattle.thread_host.proofs.Keeping.{kept_so_far, shared_more}
use Rattle.thread_host.proofs.visits.take_turn.Goals as goal

pub returns-clause-shared : goal.returns-clause-shared
returns-clause-shared g c =
    let code = c.args.code.now in
    let start = g.J.Origin.start in
    let kept = g.K.Keeps.AreKept c.args.who.now in
    let count = length c.turns.result.now in
    let after = c.turn.new.self.world in
    let taken = Some c.in_ok-event.event in
    let lost = c.keep_taken.new.lost in
    let new = c.keep_taken.new.kept in
    let keeps = subst (λ (w : World). Unless lost (KeepsTaken kept count taken w c.args.kept.now new)) c.world-2.ensures c.keep_taken.ensures in
    let same = ap length c.turns.ensures in
    let more = shared_more kept code start c.args.budget c.args.course.now c.args.kept.now c.requires.shared count c.args.thread taken after new same c.in_ok-event.ensures.ok.0 c.requires.left c.requires.few lost keeps in
    subst (λ (p : Progress). IsShared kept code start c.args.budget p lost new) (sym c.in_ok-event.ensures.ok.1) more

pub turn-requires-clause-sound : goal.turn-requires-clause-sound
turn-requires-clause-sound g c = course_sound c.args.code.now g.J.Origin.start c.args.course.now c.requires.shared.course

pub list_after_turn-requires-clause-sound : goal.list_after_turn-requires-clause-sound
list_after_turn-requires-clause-sound g c =
    let code = c.args.code.now in
    let start = g.J.Origin.start in
    subst (IsSound code) (sym c.world.ensures) (course_sound code start c.turn.new.self (c.in_ok-event.ensures.course start c.requires.shared.course))

pub keep_taken-requires-clause-before : goal.keep_taken-requires-clause-before
keep_taken-requires-clause-before g c =
    kept_so_far (g.K.Keeps.AreKept c.args.who.now) c.args.code.now g.J.Origin.start c.args.budget c.args.course.now c.args.kept.now c.requires.shared (length c.turns.result.now) (ap length c.turns.ensures)

pub returns-clause-lists : goal.returns-clause-lists
returns-clause-lists g c =
    let code = c.args.code.now in
    let before = c.args.course.now.world in
    let taken = Some c.in_ok-event.event in
    let took = subst (λ (v : World). TookTurn code c.args.thread before taken v) (sym c.world.ensures) c.in_ok-event.ensures.ok.0 in
    let lists = c.list_after_turn.ensures.lists before took c.requires.lists in
    subst (λ (w : World). Lists code w c.list_after_turn.new.list) c.world.ensures lists
