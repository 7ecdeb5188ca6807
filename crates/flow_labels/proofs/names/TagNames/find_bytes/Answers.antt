use Rattle.flow_labels.proofs.NameLemmas.{AreNames_same, no_text}
use Rattle.flow_labels.proofs.names.TagNames.find_bytes.Goals as goal

pub returns-in-Err : goal.returns-in-Err
returns-in-Err c = no_text _ _ (AreNames_same _ _ c.self.view_is c.self.invariant.named) c.in-Err.ensures.cases.0
