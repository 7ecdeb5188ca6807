use Rattle.std.proofs.Common.{sym, subst}
use Rattle.lam_machine.specs.Worlds.{IsSound}
use Rattle.lam_machine_terms.specs.Worlds.{World}
use Rattle.thread_host_run.specs.Waiting.{Tells}
use Rattle.thread_host_run.proofs.GoingLemmas.{went_sound, went_moved}
use Rattle.thread_host_run.proofs.ListedReady.{ready_within}
use Rattle.thread_host_run.proofs.Tellings.{moved_lists}
use Rattle.thread_host_run.proofs.ready_list.go_ready.Goals as goal

pub go_along-requires : goal.go_along-requires
go_along-requires c = ready_within c.args.code.now c.args.course.now.world c.args.thread c.requires.ready

pub look-prospect-requires : goal.look-prospect-requires
look-prospect-requires c =
    let code = c.args.code.now in
    let sound = went_sound code c.args.thread c.in_ok-taken.taken c.args.course.now c.go_along.new.self c.in_ok-taken.ensures.ok c.requires.sound in
    record { sound = subst (IsSound code) (sym c.world.ensures) sound }

pub returns-clause-lists : goal.returns-clause-lists
returns-clause-lists c =
    let code = c.args.code.now in
    let p = c.args.course.now in
    let q = c.go_along.new.self in
    let t = c.args.thread in
    let looked = c.look-prospect in
    let tells = subst (λ (w : World). Tells code w looked.new.names.keys t looked.result) c.world.ensures looked.ensures.tells in
    moved_lists code p.world t q.world (went_moved code t c.in_ok-taken.taken p q c.in_ok-taken.ensures.ok) c.args.list.now.names.keys looked.new.names.keys c.args.list.now.prospects.items c.put.new.prospects.items looked.result c.args.list.now.threads.items c.keep.new.threads.items
    c.requires.ready c.requires.lists looked.ensures.more tells c.put.ensures.each c.put.ensures.count c.keep.ensures.list
