use Rattle.std.proofs.Common.{◌≡◌, drop}
use Rattle.flow_labels.specs.Reading.{bad_place, bad_from}
use Rattle.flow_labels.proofs.two_lists.stop_place.Given as goal

abbrev pub invariant-loop-at : goal.invariant-loop-at
invariant-loop-at l = bad_place l.form l.text ≡ bad_from l.form (drop l.at l.text) l.spot l.at
