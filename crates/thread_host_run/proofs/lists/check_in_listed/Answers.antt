use Rattle.std.proofs.Common.{◌≡◌, ap, sym, ◌∙◌, subst}
use Rattle.lam_machine.specs.Worlds.{IsSound}
use Rattle.thread_host_run.specs.Courses.{Progress}
use Rattle.thread_host_run.specs.Stretched.{checked_in}
use Rattle.thread_host_run.specs.ReadyLists.{ready_threads}
use Rattle.thread_host_run.proofs.Others.{Moved}
use Rattle.thread_host_run.proofs.Kept.{kept_list_moved}
use Rattle.thread_host_run.proofs.StretchLemmas.{stretch_moved, stretch_ready, stretch_sound}
use Rattle.thread_host_run.proofs.lists.check_in_listed.Goals as goal

pub after_quiet-requires : goal.after_quiet-requires
after_quiet-requires c =
    let code = c.args.code.now in
    let p = c.args.course.now in
    let s = c.args.stretch in
    let left : c.world.result.now ≡ (checked_in p s).world = c.world.ensures ∙ ap (λ (q : Progress). q.world) c.in_ok-check_in.ensures.ok in
    record { sound = subst (IsSound code) (sym left) (stretch_sound code s c.requires.stands p c.requires.fits.1 c.requires.sound) }

pub returns-clause-list : goal.returns-clause-list
returns-clause-list c =
    let code = c.args.code.now in
    let p = c.args.course.now in
    let s = c.args.stretch in
    let there = c.requires.fits.1 in
    let w = c.world.result.now in
    let left : w ≡ (checked_in p s).world = c.world.ensures ∙ ap (λ (q : Progress). q.world) c.in_ok-check_in.ensures.ok in
    let moved = subst (Moved p.world s.thread) (sym left) (stretch_moved code s c.requires.stands p there) in
    kept_list_moved code p.world s.thread w c.args.list.now.items c.after_quiet.new.list.items moved (stretch_ready code s c.requires.stands p there c.requires.some) c.requires.list c.after_quiet.ensures.list
    ∙ ap (ready_threads code) c.world.ensures
