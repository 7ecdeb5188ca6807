use Rattle.lam_resolve_tree.specs.Tree.{resolved_tree}
use Rattle.source_walk_run.proofs.OneMore.{private_left}
use Rattle.source_walk_run.proofs.turns_pass.WalkerKeepsKept.leaves_private.Goals as goal

pub returns : goal.returns
returns c = λ ms m kept. private_left (resolved_tree c.args.self.now.program.now) c.args.self.now.starts.now c.args.self.now.turns.now ms m kept
