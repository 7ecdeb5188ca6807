use Rattle.std.proofs.Common.{◌≡◌, ◌∙◌, reverse, arith}
use Rattle.source_walk_parts.specs.Weights.{pending}
use Rattle.source_walk_follow.proofs.StepLaws.{level_falls, units_least}
use Rattle.source_walk_follow.proofs.steps.run_on.Goals as goal

pub loop-alloc-preserved : goal.loop-alloc-preserved
loop-alloc-preserved c =
    let e : c.loop-alloc.w.units ≡ c.args.w.now.units = omega arith in
    (c.in_ok-control.ensures.left ∙ c.loop-alloc.invariant.0, units_least c.step.new.w.units (pending c.in_ok-control.control (reverse c.step.new.w.frames.items)) c.loop-alloc.w.units (pending c.loop-alloc.control (reverse c.loop-alloc.w.frames.items)) c.args.w.now.units e c.in_ok-control.ensures.less)

pub loop-alloc-smaller : goal.loop-alloc-smaller
loop-alloc-smaller c =
    let e : c.loop-alloc.w.units ≡ c.args.w.now.units = omega arith in
    level_falls c.step.new.w.units (pending c.in_ok-control.control (reverse c.step.new.w.frames.items)) c.loop-alloc.w.units (pending c.loop-alloc.control (reverse c.loop-alloc.w.frames.items)) c.args.w.now.units e c.in_ok-control.ensures.less
