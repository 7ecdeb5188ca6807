use Rattle.source_walk_parts.proofs.Steps.{if_ok}
use Rattle.source_walk_parts.specs.States.{state_of}
use Rattle.source_walk_open.proofs.StmtForms.{throw_opens}
use Rattle.source_walk_open.proofs.stmts.throw.Goals as goal

pub returns : goal.returns
returns c = if_ok c.wait.result _ _ c.wait.ensures (λ d w. throw_opens (state_of c.args.w.now) c.args.depth c.args.e w)
