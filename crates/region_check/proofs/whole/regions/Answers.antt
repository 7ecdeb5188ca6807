use Rattle.std.proofs.lemmas.Result.{err_from_is_err_and}
use Rattle.lam_syntax.specs.Tree.{program_tree}
use Rattle.lam_types.specs.Seen.{tree_of}
use Rattle.region_check.specs.declared.checked.Checked.{Checked}
use Rattle.region_check.specs.Breaks.{first_region_break}
use Rattle.region_check.proofs.Outcome.{only_there, first_there, unbroken_there, none_is_true, none_legal}
use Rattle.region_check.proofs.whole.regions.Goals as goal

pub returns-in_err-check_program-clause-only : goal.returns-in_err-check_program-clause-only
returns-in_err-check_program-clause-only c =
    let p = err_from_is_err_and c.from_residual.result c.from_residual.ensures.1 in
    rw (p.1, p.2) (λ t. only_there (program_tree c.program.result.now) (tree_of c.args.t) c.program.ensures.tree Checked c.in_err-check_program.field-0.0 c.in_err-check_program.ensures t)

pub returns-in_err-check_program-clause-first : goal.returns-in_err-check_program-clause-first
returns-in_err-check_program-clause-first c =
    let p = err_from_is_err_and c.from_residual.result c.from_residual.ensures.1 in
    rw (p.1, p.2) (first_there (program_tree c.program.result.now) (tree_of c.args.t) c.program.ensures.tree c.in_err-check_program.field-0.0 c.in_err-check_program.ensures)

pub invariant_of-result : goal.invariant_of-result
invariant_of-result c =
    record { unbroken = none_is_true (first_region_break (tree_of c.args.t)) (unbroken_there (program_tree c.program.result.now) (tree_of c.args.t) c.program.ensures.tree c.in_ok-check_program.ensures) }

pub returns-clause-legal : goal.returns-clause-legal
returns-clause-legal c =
    none_legal (tree_of c.args.t) (unbroken_there (program_tree c.program.result.now) (tree_of c.args.t) c.program.ensures.tree c.in_ok-check_program.ensures)

pub returns-clause-fine : goal.returns-clause-fine
returns-clause-fine c = unbroken_there (program_tree c.program.result.now) (tree_of c.args.t) c.program.ensures.tree c.in_ok-check_program.ensures
