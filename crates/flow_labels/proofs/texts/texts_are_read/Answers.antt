use Rattle.flow_labels.proofs.SpelledLemmas.{texts_are_read}
use Rattle.flow_labels.proofs.texts.texts_are_read.Goals as goal

pub returns : goal.returns
returns c = texts_are_read
