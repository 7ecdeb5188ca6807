use Rattle.lam_types.specs.Seen.{tree_of}
use Rattle.region_check.proofs.Outcome.{no_break, none_legal}
use Rattle.region_check.proofs.checked.Checked.program.Goals as goal

pub returns-clause-legal : goal.returns-clause-legal
returns-clause-legal c = none_legal (tree_of c.args.self.now.typed) (no_break (tree_of c.args.self.now.typed) c.args.self.now.unbroken)

pub returns-clause-fine : goal.returns-clause-fine
returns-clause-fine c = no_break (tree_of c.args.self.now.typed) c.args.self.now.unbroken
