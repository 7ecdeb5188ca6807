use Rattle.std.proofs.Common.{arith}
use Rattle.std.proofs.lemmas.Bool.Decides.{nat_tests}
use Rattle.labelled_heap.proofs.RowLemmas.{same_length_from}
use Rattle.labelled_heap.proofs.heap.same_things.Goals as goal

pub returns-else-a-b : goal.returns-else-a-b
returns-else-a-b g c = (
  λ t. absurd (grind (arith, nat_tests, t, c.if-a-b.false)),
  λ all. let same = same_length_from g.T.Same.IsSame c.args.a.now c.args.b.now all in grind (arith, nat_tests, same),
)
