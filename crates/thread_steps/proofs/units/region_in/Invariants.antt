use Rattle.std.proofs.Common.{◌≡◌, drop}
use Rattle.thread_steps.specs.Ops.{region_in, region_from}
use Rattle.thread_steps.proofs.units.region_in.Given as goal

abbrev pub invariant-loop-number : goal.invariant-loop-number
invariant-loop-number l = region_in l.region l.units ≡ region_from l.number l.region (drop l.number l.units)
