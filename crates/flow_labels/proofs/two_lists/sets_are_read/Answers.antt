use Rattle.flow_labels.proofs.SpelledLemmas.{sets_are_read}
use Rattle.flow_labels.proofs.two_lists.sets_are_read.Goals as goal

pub returns : goal.returns
returns c = sets_are_read
