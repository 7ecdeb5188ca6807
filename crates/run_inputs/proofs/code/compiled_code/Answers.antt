use Rattle.std.proofs.lemmas.Result.{err_from_is_err_and}
use Rattle.region_check.specs.Seen.{checked_tree}
use Rattle.run_inputs.proofs.Faults.{not_compiled}
use Rattle.run_inputs.proofs.code.compiled_code.Goals as goal

pub returns-clause-compiled : goal.returns-clause-compiled
returns-clause-compiled c = λ bytes is. record { program = checked_tree c.args.checked.now; fine = is; makes = c.in_ok-compile.ensures.ok }

pub returns-in_err-compile-clause-refused : goal.returns-in_err-compile-clause-refused
returns-in_err-compile-clause-refused c = λ bytes is.
    let p = err_from_is_err_and c.from_residual.result c.from_residual.ensures.1 in
    rw p.1 (not_compiled bytes (checked_tree c.args.checked.now) c.in_err-compile.field-0.0 p.0 is c.in_err-compile.ensures.long p.2)
