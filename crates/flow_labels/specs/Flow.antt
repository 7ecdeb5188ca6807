-- Information flows from x to y where y is as secret as x and x is as trusted as y.
-- With tags 0 and 1: `{0}/{}` flows to `{0,1}/{}` and not to `{}/{}`; `{}/{0}` flows to `{}/{}`, and not back.
use Rattle.std.specs.Prelude.{Bool, ◌&&◌}
use Rattle.std.specs.FinSet.{empty, is_subset}
use Rattle.flow_labels.specs.declared.Label.{Label}

abbrev pub flows : Label → Label → Bool
flows x y = is_subset x.s y.s && is_subset y.i x.i

-- an observer at o sees what is at x
abbrev pub seen : Label → Label → Bool
seen x o = flows x o

-- nothing secret, nothing vouched for
abbrev pub public_label : Label
public_label = record { s = empty; i = empty }
