use Rattle.std.proofs.Common.{ap}
use Rattle.json.specs.Print.{escape}
use Rattle.world_save_text.proofs.Writings.{one_written}
use Rattle.world_save_text.proofs.values.escaped.Goals as goal

pub loop-b-preserved : goal.loop-b-preserved
loop-b-preserved c = one_written (escape c.in-Some.after.now) c.loop-b.invariant c.in_ok-escaped_byte.ensures (ap escape (c.in-Some.ensures.cases).0)
