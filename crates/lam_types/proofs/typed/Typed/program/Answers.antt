use Rattle.lam_syntax.specs.Tree.{program_tree}
use Rattle.lam_types.proofs.Whole.{no_break, none_typed}
use Rattle.lam_types.proofs.typed.Typed.program.Goals as goal

pub returns-clause-typed : goal.returns-clause-typed
returns-clause-typed c = none_typed (program_tree c.args.self.now.program) (no_break (program_tree c.args.self.now.program) c.args.self.now.unbroken)

pub returns-clause-fine : goal.returns-clause-fine
returns-clause-fine c = no_break (program_tree c.args.self.now.program) c.args.self.now.unbroken
