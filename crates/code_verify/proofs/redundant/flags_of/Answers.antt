use Rattle.code_verify.proofs.Flags.{flags_next}
use Rattle.code_verify.proofs.redundant.flags_of.Goals as goal

pub loop-at-preserved : goal.loop-at-preserved
loop-at-preserved c =
    flags_next c.args.ops.now c.args.table.now c.loop-at.at _ c.tests_again_row.result c.loop-at.flags.items c.push.new.self.items c.loop-at-test.true c.tests_again_row.ensures c.loop-at.invariant c.in_ok-push.ensures.items
