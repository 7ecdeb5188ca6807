use Rattle.source_walk_parts.proofs.Steps.{if_ok}
use Rattle.source_walk_parts.specs.States.{state_of}
use Rattle.source_walk_open.proofs.StmtForms.{region_opens}
use Rattle.source_walk_open.proofs.stmts.region.Goals as goal

pub returns : goal.returns
returns c = if_ok c.wait.result _ _ c.wait.ensures (λ d w slots h. region_opens (state_of c.args.w.now) c.args.depth c.args.label c.args.caps c.args.region slots h w)
