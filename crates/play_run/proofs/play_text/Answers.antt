use Rattle.play_script.specs.Script.{play_of}
use Rattle.play_run.proofs.TextLemmas.{whole_text}
use Rattle.play_run.proofs.play_text.Goals as goal

pub loop-step-preserved : goal.loop-step-preserved
loop-step-preserved c = whole_text (play_of c.args.script.now) c.args.observer.now c.loop-step.cells _ c.deref-step-items.result.now c.loop-step.step-index _ _ _ _ c.loop-step-test.true (rw (c.in_ok-public.ensures, c.as_slice.ensures.value) at c.in_ok-take_step.ensures.text) (rw (c.in_ok-public.ensures, c.as_slice.ensures.value) at c.in_ok-take_step.ensures.cells) c.loop-step.invariant
