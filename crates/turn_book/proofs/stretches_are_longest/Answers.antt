use Rattle.turn_book.proofs.StretchLemmas.{stretches_are_longest}
use Rattle.turn_book.proofs.stretches_are_longest.Goals as goal

pub returns : goal.returns
returns c = stretches_are_longest
