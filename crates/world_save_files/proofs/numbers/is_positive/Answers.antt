use Rattle.std.proofs.Common.{◌≡◌, decimal, rules, arith}
use Rattle.world_save_files.proofs.WholeLemmas.{decimal_laid_out}
use Rattle.world_save_files.proofs.numbers.is_positive.Goals as goal

pub returns-in-Ok : goal.returns-in-Ok
returns-in-Ok c = λ same.
    let e : c.args.number.now ≡ decimal c.in-Ok.n = search rules in
    decimal_laid_out c.args.number.now c.in-Ok.n e (search rules)
