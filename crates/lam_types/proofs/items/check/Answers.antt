use Rattle.std.proofs.lemmas.Result.{err_from_is_err_and}
use Rattle.lam_syntax.specs.Tree.{program_tree}
use Rattle.lam_types.specs.declared.typed.Typed.{Typed}
use Rattle.lam_types.specs.Program.{first_type_break}
use Rattle.lam_types.proofs.Whole.{only_there, first_there, unbroken_there, none_is_true, none_typed}
use Rattle.lam_types.proofs.items.check.Goals as goal

pub returns-in_err-check_program-clause-only : goal.returns-in_err-check_program-clause-only
returns-in_err-check_program-clause-only c =
    let p = err_from_is_err_and c.from_residual.result c.from_residual.ensures.1 in
    rw (p.1, p.2) (λ t. only_there c.as_slice.result.now c.args.p.items.items c.as_slice.ensures.value Typed c.in_err-check_program.field-0.0 c.in_err-check_program.ensures t)

pub returns-in_err-check_program-clause-first : goal.returns-in_err-check_program-clause-first
returns-in_err-check_program-clause-first c =
    let p = err_from_is_err_and c.from_residual.result c.from_residual.ensures.1 in
    rw (p.1, p.2) (first_there c.as_slice.result.now c.args.p.items.items c.as_slice.ensures.value c.in_err-check_program.field-0.0 c.in_err-check_program.ensures)

pub invariant_of-result : goal.invariant_of-result
invariant_of-result c =
    record { unbroken = none_is_true (first_type_break (program_tree c.args.p)) (unbroken_there c.as_slice.result.now c.args.p.items.items c.as_slice.ensures.value c.in_ok-check_program.field-0 c.in_ok-check_program.ensures) }

pub returns-clause-typed : goal.returns-clause-typed
returns-clause-typed c =
    none_typed (program_tree c.args.p) (unbroken_there c.as_slice.result.now c.args.p.items.items c.as_slice.ensures.value c.in_ok-check_program.field-0 c.in_ok-check_program.ensures)
