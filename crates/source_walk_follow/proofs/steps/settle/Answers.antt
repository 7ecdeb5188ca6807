use Rattle.std.proofs.Common.{◌∙◌, sym}
use Rattle.source_walk_follow.specs.Standing.{stands}
use Rattle.source_walk_follow.proofs.StepLaws.{settle_falls}
use Rattle.source_walk_follow.proofs.steps.settle.Goals as goal

pub loop-alloc-preserved : goal.loop-alloc-preserved
loop-alloc-preserved c = c.in_ok-control.ensures.left ∙ c.loop-alloc.invariant

pub loop-alloc-smaller : goal.loop-alloc-smaller
loop-alloc-smaller c =
    settle_falls (stands c.in_ok-control.control) (stands c.loop-alloc.control) c.run_on.new.w.units c.loop-alloc.w.units (sym c.stands.ensures ∙ c.loop-alloc-test.true) c.in_ok-control.ensures.less
