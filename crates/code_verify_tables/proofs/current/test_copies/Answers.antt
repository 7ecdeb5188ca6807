use Rattle.code_verify_tables.proofs.Tops.{none_tested}
use Rattle.code_verify_tables.proofs.current.test_copies.Goals as goal

pub returns-in-None : goal.returns-in-None
returns-in-None c = none_tested c.args.access c.args.copies c.args.stack.now.items c.in-None.is
