use Rattle.std.proofs.Common.{◌≡◌, length, take}
use Rattle.lam_resolve_tables.proofs.named.Named.cut.Given as goal

abbrev pub invariant-loop-self : goal.invariant-loop-self
invariant-loop-self g l = take l.n l.self.entries.items ≡ take l.n l.initial.self.entries.items

abbrev pub decreases-loop-self : goal.decreases-loop-self
decreases-loop-self g l = length l.self.entries.items
