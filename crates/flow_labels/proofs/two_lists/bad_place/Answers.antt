use Rattle.flow_labels.proofs.FormLemmas.{none_is_form, some_is_bad}
use Rattle.flow_labels.proofs.two_lists.bad_place.Goals as goal

pub returns-clause-none : goal.returns-clause-none
returns-clause-none c = none_is_form _ _ _ c.stop_place.ensures

pub returns-clause-place : goal.returns-clause-place
returns-clause-place c = some_is_bad _ _ _ c.stop_place.ensures
