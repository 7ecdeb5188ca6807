use Rattle.std.proofs.Common.{arith, ◌≤◌, length}
use Rattle.lam_resolve_tables.proofs.NamedLemmas.{cut_keyed}
use Rattle.lam_resolve_tables.proofs.named.Named.cut.Goals as goal

pub returns : goal.returns
returns g c =
    let few : length c.loop-self.self.entries.items ≤ c.args.n = omega (arith, c.loop-self.self.entries.ok) in
    cut_keyed c.args.self.now.entries.items c.loop-self.self.entries.items c.args.n c.loop-self.invariant few
