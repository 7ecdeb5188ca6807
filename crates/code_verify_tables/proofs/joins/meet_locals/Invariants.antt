use Rattle.std.proofs.Common.{◌≡◌, take, drop, false, length}
use Rattle.guarded_code.specs.Descriptions.{met_known, met_lists}
use Rattle.code_verify_tables.specs.Joined.{joined}
use Rattle.code_verify_tables.proofs.joins.meet_locals.Given as goal

abbrev pub invariant-loop-i : goal.invariant-loop-i
invariant-loop-i l = (length l.a.items ≡ length l.initial.a.items) × (met_lists met_known l.initial.a.items l.b.items ≡ joined (take l.i l.a.items) (met_lists met_known (drop l.i l.a.items) (drop l.i l.b.items))) × (l.changed ≡ false → l.a.items ≡ l.initial.a.items)
