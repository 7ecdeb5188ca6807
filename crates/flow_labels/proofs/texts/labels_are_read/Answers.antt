use Rattle.flow_labels.proofs.SpelledLemmas.{labels_are_read}
use Rattle.flow_labels.proofs.texts.labels_are_read.Goals as goal

pub returns : goal.returns
returns c = labels_are_read
