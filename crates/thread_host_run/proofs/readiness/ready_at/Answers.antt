use Rattle.std.proofs.Common.{◌∙◌, sym}
use Rattle.lam_machine_effects.specs.Parts.{world_of}
use Rattle.lam_machine.proofs.SoundLemmas.{sound_thread}
use Rattle.thread_core_stretches.specs.Turning.{awaited_by, standing_of}
use Rattle.thread_host_run.proofs.ReadyLemmas.{ready_there, ready_absent, seen_ready}
use Rattle.thread_host_run.proofs.readiness.ready_at.Goals as goal

pub returns-in-None : goal.returns-in-None
returns-in-None c = sym (ready_absent c.args.code.now (world_of c.args.stores.now c.args.threads.now) c.args.thread (sym c.in-None.ensures))

pub returns-in-Some : goal.returns-in-Some
returns-in-Some c =
    let code = c.args.code.now in
    let w = world_of c.args.stores.now c.args.threads.now in
    let t = c.args.thread in
    let th = c.in-Some.found.now in
    let seen = c.outlook.result in
    c.stands_ready.ensures
    ∙ (seen_ready code w t th (standing_of seen.standing) (awaited_by seen.waits) (c.outlook.ensures.standing (sound_thread code w t c.requires.sound th (sym c.in-Some.ensures))) c.outlook.ensures.waits
    ∙ sym (ready_there code w t th (sym c.in-Some.ensures)))
