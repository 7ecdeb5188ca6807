use Rattle.closed_starts.proofs.TextLemmas.{texts_starts}
use Rattle.closed_starts.proofs.texts_are_starts.Goals as goal

pub returns : goal.returns
returns c = texts_starts c.texts_are_open.ensures c.worlds_stay_well_labelled.ensures.valid c.texts_start.ensures
