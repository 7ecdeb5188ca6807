use Rattle.std.proofs.Common.{◌≡◌, take}
use Rattle.thread_core_state.proofs.context.copied_frames.Given as goal

abbrev pub invariant-loop-frame : goal.invariant-loop-frame
invariant-loop-frame l = l.out.items ≡ take l.frame-index l.frames
