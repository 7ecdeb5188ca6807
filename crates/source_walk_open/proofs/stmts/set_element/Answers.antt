use Rattle.source_walk_parts.proofs.Steps.{if_ok}
use Rattle.source_walk_parts.specs.States.{state_of}
use Rattle.source_walk_open.proofs.StmtForms.{element_opens}
use Rattle.source_walk_open.proofs.stmts.set_element.Goals as goal

pub returns : goal.returns
returns c = if_ok c.wait.result _ _ c.wait.ensures (λ d w ty. element_opens (state_of c.args.w.now) c.args.depth ty c.args.of c.args.index c.args.value w)
