use Rattle.std.proofs.Common.{ap, sym, ◌∙◌, subst}
use Rattle.lam_machine.specs.Worlds.{IsSound}
use Rattle.lam_machine_terms.specs.Worlds.{World}
use Rattle.thread_host_run.specs.Courses.{Progress}
use Rattle.thread_host_run.specs.Waiting.{Tells}
use Rattle.thread_host_run.proofs.Others.{Moved}
use Rattle.thread_host_run.proofs.StretchLemmas.{stretch_sound, stretch_moved}
use Rattle.thread_host_run.proofs.Tellings.{moved_tell}
use Rattle.thread_host_run.proofs.ready_list.check_in_ready.Goals as goal

pub look-prospect-requires : goal.look-prospect-requires
look-prospect-requires c =
    let code = c.args.code.now in
    let p = c.args.course.now in
    let s = c.args.stretch in
    let left = c.world.ensures ∙ ap (λ (q : Progress). q.world) c.in_ok-check_in_listed.ensures.ok in
    record { sound = subst (IsSound code) (sym left) (stretch_sound code s c.requires.stands p c.requires.fits.1 c.requires.sound) }

pub returns-clause-lists : goal.returns-clause-lists
returns-clause-lists c =
    let code = c.args.code.now in
    let p = c.args.course.now in
    let q = c.check_in_listed.new.course in
    let s = c.args.stretch in
    let t = s.thread in
    let moved = subst (λ (x : Progress). Moved p.world t x.world) (sym c.in_ok-check_in_listed.ensures.ok) (stretch_moved code s c.requires.stands p c.requires.fits.1) in
    let tells = subst (λ (w : World). Tells code w c.look-prospect.new.names.keys t c.look-prospect.result) c.world.ensures c.look-prospect.ensures.tells in
    record {
      threads_are = c.check_in_listed.ensures.list;
      tell = moved_tell code p.world t q.world moved c.args.list.now.names.keys c.look-prospect.new.names.keys c.args.list.now.prospects.items c.put.new.prospects.items c.look-prospect.result
          c.requires.lists.tell c.look-prospect.ensures.more tells c.put.ensures.each c.put.ensures.count;
    }
