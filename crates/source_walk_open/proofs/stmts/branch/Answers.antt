use Rattle.source_walk_parts.proofs.Steps.{if_ok}
use Rattle.source_walk_parts.specs.States.{state_of}
use Rattle.source_walk_open.proofs.StmtForms.{if_opens}
use Rattle.source_walk_open.proofs.stmts.branch.Goals as goal

pub returns : goal.returns
returns c = if_ok c.wait.result _ _ c.wait.ensures (λ d w. if_opens (state_of c.args.w.now) c.args.depth c.args.test c.args.first c.other_of-other.result c.args.no.now c.other_of-other.ensures w)
