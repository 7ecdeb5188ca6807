use Rattle.std.proofs.lemmas.Result.{err_from_is_err_and}
use Rattle.region_check.specs.Seen.{checked_tree}
use Rattle.run_inputs.proofs.Faults.{not_compiled}
use Rattle.run_inputs.proofs.GuardedCode.{is_run}
use Rattle.run_inputs.proofs.code.run_code.Goals as goal

pub returns-in_err-whole-clause-refused : goal.returns-in_err-whole-clause-refused
returns-in_err-whole-clause-refused c = λ bytes is.
    let p = err_from_is_err_and c.from_residual.result c.from_residual.ensures.1 in
    rw p.1 (not_compiled bytes (checked_tree c.args.checked.now) c.in_err-whole.field-0.0 p.0 is c.in_err-whole.ensures.long p.2)

pub returns-clause-run : goal.returns-clause-run
returns-clause-run c = λ bytes is. is_run bytes (checked_tree c.args.checked.now) c.in_ok-whole.whole c.in_ok-code.code is c.in_ok-whole.ensures.ok c.in_ok-code.ensures.thinned
