use Rattle.std.proofs.lemmas.Result.{err_from_is_err_and}
use Rattle.run_inputs.proofs.Faults.{not_checked}
use Rattle.run_inputs.proofs.code.program_in.Goals as goal

pub returns-in_err-check_program-clause-refused : goal.returns-in_err-check_program-clause-refused
returns-in_err-check_program-clause-refused c =
    let p = err_from_is_err_and c.from_residual.result c.from_residual.ensures.1 in
    rw p.1 (not_checked c.args.bytes.now c.in_err-check_program.field-0.0 p.0 c.in_err-check_program.ensures.exact p.2)
