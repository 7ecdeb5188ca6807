-- The unit of a region, as code has it.
use Rattle.std.specs.Prelude.{Option, Some, None}
use Rattle.thread_steps.specs.Ops as ops
use Rattle.thread_steps.specs.declared.units.UnitAt.{UnitAt}

abbrev pub unit_at : Option UnitAt → Option ops.UnitAt
unit_at None = None
unit_at (Some u) = Some (record { number = u.number; it = u.it.now })
