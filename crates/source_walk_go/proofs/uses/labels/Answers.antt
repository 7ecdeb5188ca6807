use Rattle.source_walk_parts.proofs.Steps.{if_ok}
use Rattle.source_walk_go.proofs.Calls.{labels_go}
use Rattle.source_walk_go.proofs.uses.labels.Goals as goal

pub returns : goal.returns
returns c = if_ok c.labelled.result _ _ c.labelled.ensures (λ d e r s. labels_go r s c.args.depth c.args.done.now c.args.secrets.now d (rw c.as_slice.ensures at (rw c.as_slice-2.ensures at e)))
