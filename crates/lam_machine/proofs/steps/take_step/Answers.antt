use Rattle.std.proofs.Common.{◌≡◌, ◌∙◌, List, sym, ap, subst, IfOk, OnErr}
use Rattle.std.specs.Prelude.{slice_get}
use Rattle.thread_steps.specs.Threads.{Thread}
use Rattle.lam_machine_terms.specs.Worlds.{World, contexts_in}
use Rattle.lam_machine_effects.specs.Parts.{world_of}
use Rattle.lam_machine.specs.Machine.{CopiesLive, IsStep}
use Rattle.lam_machine.specs.Asking.{top_label, AsksNext}
use Rattle.lam_machine.proofs.AdvanceLemmas.{took_private, handed_out, stuck_still, ended_still}
use Rattle.lam_machine.proofs.SoundLemmas.{sound_lives, sound_thread}
use Rattle.lam_machine.proofs.steps.take_step.Goals as goal

pub advance_at-requires : goal.advance_at-requires
advance_at-requires c = record { finds = λ th e. sound_thread c.args.code.now (world_of c.args.stores.now c.args.threads.now.items) c.args.thread c.requires.sound th e }

pub step_asking-requires-clause-asks : goal.step_asking-requires-clause-asks
step_asking-requires-clause-asks c =
    let handed = handed_out c.args.code.now (world_of c.args.stores.now c.args.threads.now.items) c.args.thread c.in_ok-advance_at.field-0 (world_of c.args.stores.now c.advance_at.new.threads.items) c.in-Asks.ask (c.in_ok-advance_at.ensures.ok c.args.stores.now) c.in-Asks.is in
    subst (λ (w : World). AsksNext c.args.code.now w c.args.thread c.in-Asks.ask) (sym handed.1) handed.0

pub step_asking-requires-clause-living : goal.step_asking-requires-clause-living
step_asking-requires-clause-living c =
    let handed = handed_out c.args.code.now (world_of c.args.stores.now c.args.threads.now.items) c.args.thread c.in_ok-advance_at.field-0 (world_of c.args.stores.now c.advance_at.new.threads.items) c.in-Asks.ask (c.in_ok-advance_at.ensures.ok c.args.stores.now) c.in-Asks.is in
    subst (λ (w : World). CopiesLive c.args.code.now w c.args.thread) (sym handed.1) (sound_lives c.args.code.now (world_of c.args.stores.now c.args.threads.now.items) c.args.thread c.requires.sound)

pub step_asking-requires-clause-label : goal.step_asking-requires-clause-label
step_asking-requires-clause-label c =
    let handed = handed_out c.args.code.now (world_of c.args.stores.now c.args.threads.now.items) c.args.thread c.in_ok-advance_at.field-0 (world_of c.args.stores.now c.advance_at.new.threads.items) c.in-Asks.ask (c.in_ok-advance_at.ensures.ok c.args.stores.now) c.in-Asks.is in
    c.in_ok-label.ensures ∙ ap (λ (xs : List Thread). top_label (contexts_in (slice_get xs c.args.thread))) (c.as_slice.ensures.value ∙ sym (ap (λ (w : World). w.threads) handed.1))

pub returns-in-Private-clause-ok : goal.returns-in-Private-clause-ok
returns-in-Private-clause-ok c =
    took_private c.args.code.now (world_of c.args.stores.now c.args.threads.now.items) c.args.thread c.in_ok-advance_at.field-0 (world_of c.args.stores.now c.advance_at.new.threads.items) (c.in_ok-advance_at.ensures.ok c.args.stores.now) c.in-Private.is c.in_ok-label.label
    (c.in_ok-label.ensures ∙ ap (λ (xs : List Thread). top_label (contexts_in (slice_get xs c.args.thread))) (c.as_slice.ensures.value))

pub returns-in-Asks-clause-ok : goal.returns-in-Asks-clause-ok
returns-in-Asks-clause-ok c =
    let handed = handed_out c.args.code.now (world_of c.args.stores.now c.args.threads.now.items) c.args.thread c.in_ok-advance_at.field-0 (world_of c.args.stores.now c.advance_at.new.threads.items) c.in-Asks.ask (c.in_ok-advance_at.ensures.ok c.args.stores.now) c.in-Asks.is in
    subst (λ (w : World). IfOk c.step_asking.result (λ o. IsStep c.args.code.now c.args.thread w o (world_of c.step_asking.new.stores c.step_asking.new.threads.items))) handed.1 c.step_asking.ensures.ok

pub returns-in-Asks-clause-same_threads : goal.returns-in-Asks-clause-same_threads
returns-in-Asks-clause-same_threads c =
    let handed = handed_out c.args.code.now (world_of c.args.stores.now c.args.threads.now.items) c.args.thread c.in_ok-advance_at.field-0 (world_of c.args.stores.now c.advance_at.new.threads.items) c.in-Asks.ask (c.in_ok-advance_at.ensures.ok c.args.stores.now) c.in-Asks.is in
    subst (λ (xs : List Thread). OnErr c.step_asking.result (c.step_asking.new.threads.items ≡ xs)) (ap (λ (w : World). w.threads) handed.1) c.step_asking.ensures.same_threads

pub returns-in-Stuck-clause-ok : goal.returns-in-Stuck-clause-ok
returns-in-Stuck-clause-ok c =
    stuck_still c.args.code.now (world_of c.args.stores.now c.args.threads.now.items) c.args.thread c.in_ok-advance_at.field-0 (world_of c.args.stores.now c.advance_at.new.threads.items) (c.in_ok-advance_at.ensures.ok c.args.stores.now) c.in-Stuck.is

pub returns-in-Ended-clause-ok : goal.returns-in-Ended-clause-ok
returns-in-Ended-clause-ok c =
    ended_still c.args.code.now (world_of c.args.stores.now c.args.threads.now.items) c.args.thread c.in_ok-advance_at.field-0 (world_of c.args.stores.now c.advance_at.new.threads.items) (c.in_ok-advance_at.ensures.ok c.args.stores.now) c.in-Ended.is
