use Rattle.std.proofs.Common.{◌∙◌, sym, ap, subst}
use Rattle.lam_machine_effects.specs.Parts.{world_of}
use Rattle.lam_machine.proofs.SoundLemmas.{sound_thread}
use Rattle.thread_core_stretches.specs.Turning.{awaited_by, standing_of}
use Rattle.thread_host_run.specs.Waiting.{awaited_at, IsAwaited}
use Rattle.thread_host_run.proofs.ReadyLemmas.{ready_there, ready_absent, seen_ready}
use Rattle.thread_host_run.proofs.waits.look_in.Goals as goal

pub returns-in-None-clause-tells : goal.returns-in-None-clause-tells
returns-in-None-clause-tells c =
    let code = c.args.code.now in
    let absent = sym c.in-None.ensures in
    record {
      awaits = ap (awaited_at code) absent;
      ready = sym (ready_absent code (world_of c.args.stores.now c.args.threads.now) c.args.thread absent);
    }

pub returns-in-Some-clause-tells : goal.returns-in-Some-clause-tells
returns-in-Some-clause-tells c =
    let code = c.args.code.now in
    let w = world_of c.args.stores.now c.args.threads.now in
    let t = c.args.thread in
    let th = c.in-Some.found.now in
    let there = sym c.in-Some.ensures in
    let seen = c.outlook.result in
    record {
      awaits = subst (IsAwaited c.prospect_of.new.names.keys c.prospect_of.result.awaits) (c.outlook.ensures.waits ∙ sym (ap (awaited_at code) there)) c.prospect_of.ensures.awaits;
      ready = c.prospect_of.ensures.ready
          ∙ (seen_ready code w t th (standing_of seen.standing) (awaited_by seen.waits) (c.outlook.ensures.standing (sound_thread code w t c.requires.sound th there)) c.outlook.ensures.waits
          ∙ sym (ready_there code w t th there));
    }
