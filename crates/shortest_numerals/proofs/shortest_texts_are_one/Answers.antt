use Rattle.shortest_numerals.proofs.OneLength.{shortest_are_one}
use Rattle.shortest_numerals.proofs.shortest_texts_are_one.Goals as goal

pub returns : goal.returns
returns c = shortest_are_one
