use Rattle.tag_sets.proofs.TagLemmas.{first_missing_three-value, first_missing-none}
use Rattle.tag_sets.proofs.TagSet.first_missing_three.Goals as goal

value : goal.returns-clause-value
value c = first_missing_three-value _ _ _ _ _ _ _ _ _ c.self.invariant c.self.view_is c.first.view_is c.second.view_is c.third.view_is (rw (c.as_slice.ensures, c.as_slice-2.ensures, c.as_slice-3.ensures, c.as_slice-4.ensures) at c.find_missing_three.ensures)

pub returns-clause-value : goal.returns-clause-value
returns-clause-value c = value c

pub returns-clause-none : goal.returns-clause-none
returns-clause-none c = first_missing-none _ _ _ (value c)
