use Rattle.std.proofs.Common.{ap}
use Rattle.std.proofs.lemmas.Result.{err_from_is_err_and}
use Rattle.lam_syntax.specs.Tree.{program_tree}
use Rattle.lam_main_plan.specs.Refusals.{prints}
use Rattle.lam_main_plan.specs.Plan.{canonical}
use Rattle.lam_main_replay.proofs.FileLemmas.{not_formatted}
use Rattle.lam_main_replay.proofs.program.format_bytes.Goals as goal

pub returns-in_err-program-clause-says : goal.returns-in_err-program-clause-says
returns-in_err-program-clause-says c =
    let p = err_from_is_err_and c.from_residual.result c.from_residual.ensures.1 in
    rw p.1 (not_formatted c.args.bytes.now c.in_err-program.field-0.0 p.0 c.in_err-program.ensures.exact p.2)

pub returns-clause-says : goal.returns-clause-says
returns-clause-says c = canonical (program_tree c.in_ok-program.program) c.in_ok-program.ensures.exact (ap prints c.in_ok-text_of.ensures)
