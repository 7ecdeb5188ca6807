use Rattle.std.proofs.Common.{length}
use Rattle.json.specs.Print.{escape}
use Rattle.world_save_text.proofs.Writings.{HasWritten}
use Rattle.world_save_text.proofs.values.escaped.Given as goal

abbrev pub invariant-loop-b : goal.invariant-loop-b
invariant-loop-b l = HasWritten l.initial.writer l.writer (escape l.text) (escape l.rest)

abbrev pub decreases-loop-b : goal.decreases-loop-b
decreases-loop-b l = length l.rest
