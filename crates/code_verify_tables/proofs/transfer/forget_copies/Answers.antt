use Rattle.std.proofs.Common.{◌∙◌}
use Rattle.code_verify_tables.proofs.OnePlace.{map_read}
use Rattle.code_verify_tables.proofs.transfer.forget_copies.Goals as goal

pub loop-i-preserved : goal.loop-i-preserved
loop-i-preserved c =
    map_read _ _ _ _ _ _ _ c.loop-i-test.true (c.len-i-end.ensures ∙ c.args.stack.now.ok.0) c.loop-i.invariant c.index-old.ensures c.forgotten.ensures
