use Rattle.code_verify_tables.proofs.OnePlace.{place_read}
use Rattle.code_verify_tables.proofs.transfer.test_operand.Goals as goal

pub returns : goal.returns
returns c = place_read _ _ _ _ _ c.requires c.index-old.ensures c.tested_operand.ensures
