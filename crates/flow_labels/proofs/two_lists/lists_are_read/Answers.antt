use Rattle.flow_labels.proofs.SpelledLemmas.{lists_are_read}
use Rattle.flow_labels.proofs.two_lists.lists_are_read.Goals as goal

pub returns : goal.returns
returns c = lists_are_read
