use Rattle.std.proofs.Common.{◌≡◌, rules, arith}
use Rattle.std.specs.Fmt.{signed_decimal}
use Rattle.world_save_files.proofs.WholeLemmas.{signed_laid_out}
use Rattle.world_save_files.proofs.numbers.is_signed.Goals as goal

pub returns-in-Ok : goal.returns-in-Ok
returns-in-Ok c = λ same.
    let e : c.args.number.now ≡ signed_decimal c.in-Ok.n = search rules in
    signed_laid_out c.args.number.now c.in-Ok.n e (search rules)
