use Rattle.std.proofs.Common.{◌≡◌, length, arith}
use Rattle.world_save_items.proofs.Measuring.{path_inside}
use Rattle.world_save_items.proofs.traversal.path_len.Goals as goal

pub returns-else-cut-eq0 : goal.returns-else-cut-eq0
returns-else-cut-eq0 c = λ path long known.
    let some : length path ≡ 0 → ⊥ = λ none. omega (arith, c.if-cut-eq0.false) in
    let e = path_inside path c.args.entry.now some in
    omega (arith, c.escaped_len-own.ensures, c.more.ensures, c.more-else-cut-eq0.ensures)
