use Rattle.std.proofs.Common.{Ok}
use Rattle.std.proofs.lemmas.Result.{err_from_is_err_and}
use Rattle.lam_bytecode.specs.Codes.{CodeTree}
use Rattle.lam_main_plan.specs.Reading.{IsCompiled}
use Rattle.lam_main_replay.proofs.FileLemmas.{no_code_found, no_shelf_input}
use Rattle.lam_main_replay.proofs.program.compiled.Goals as goal

pub returns-in_err-checked-clause-finds : goal.returns-in_err-checked-clause-finds
returns-in_err-checked-clause-finds c =
    let p = err_from_is_err_and c.from_residual.result c.from_residual.ensures.1 in
    rw p.1 (no_code_found (λ (tree : CodeTree). IsCompiled c.args.bytes.now (Ok tree)) c.args.bytes.now c.in_err-checked.field-0.0 p.0 c.in_err-checked.ensures.refused p.2)

pub returns-in_err-checked-clause-no_fault : goal.returns-in_err-checked-clause-no_fault
returns-in_err-checked-clause-no_fault c =
    let p = err_from_is_err_and c.from_residual.result c.from_residual.ensures.1 in
    rw p.1 (no_shelf_input c.in_err-checked.field-0.0 p.0 p.2)

pub returns-in_err-compiled_in-clause-finds : goal.returns-in_err-compiled_in-clause-finds
returns-in_err-compiled_in-clause-finds c =
    let p = err_from_is_err_and c.from_residual-in_err-compiled_in.result c.from_residual-in_err-compiled_in.ensures.1 in
    rw p.1 (no_code_found (λ (tree : CodeTree). IsCompiled c.args.bytes.now (Ok tree)) c.args.bytes.now c.in_err-compiled_in.field-0.0 p.0 (c.in_err-compiled_in.ensures.refused c.args.bytes.now c.in_ok-checked.ensures.fine) p.2)

pub returns-in_err-compiled_in-clause-no_fault : goal.returns-in_err-compiled_in-clause-no_fault
returns-in_err-compiled_in-clause-no_fault c =
    let p = err_from_is_err_and c.from_residual-in_err-compiled_in.result c.from_residual-in_err-compiled_in.ensures.1 in
    rw p.1 (no_shelf_input c.in_err-compiled_in.field-0.0 p.0 p.2)

pub returns-clause-finds : goal.returns-clause-finds
returns-clause-finds c = c.in_ok-compiled_in.ensures.compiled c.args.bytes.now c.in_ok-checked.ensures.fine
