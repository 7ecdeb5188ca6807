use Rattle.std.proofs.Common.{rules, ◌≡◌, false}
use Rattle.lam_io.specs.Memory.{shelf_fails}
use Rattle.lam_io.proofs.FaultLemmas.{exactly_not}
use Rattle.lam_io.proofs.memory.MemShelfShelf.read.Goals as goal

pub returns-clause-exactly : goal.returns-clause-exactly
returns-clause-exactly c =
    let off : shelf_fails c.args.self.now ≡ false = search rules in
    exactly_not _ _ off c.read_of.ensures.no_fault
