use Rattle.shortest_numerals.proofs.OneLength.{lengths_are_one}
use Rattle.shortest_numerals.proofs.shortest_lengths_are_one.Goals as goal

pub returns : goal.returns
returns c = lengths_are_one
