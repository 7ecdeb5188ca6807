use Rattle.std.proofs.Common.{◌≡◌, ◌≤◌, replicate, vec_len}
use Rattle.std.specs.Prelude.{vec_capacity}
use Rattle.lam_value.specs.Shapes.{zero_of}
use Rattle.lam_value.proofs.shapes.zeros.Given as goal

abbrev pub invariant-loop : goal.invariant-loop
invariant-loop l = (l.slots.items ≡ replicate l.counter (zero_of l.kind)) × (vec_len l.slots ≡ l.counter) × (l.len ≤ vec_capacity l.slots)
