use Rattle.std.proofs.Common.{arith}
use Rattle.std.proofs.lemmas.Result.{err_from_is_err_and}
use Rattle.lam_main_print.proofs.PrintLemmas.{one_more, front_of_part}
use Rattle.lam_main_print.proofs.print_parts.Goals as goal

pub loop-part-preserved : goal.loop-part-preserved
loop-part-preserved g c = record {
  took = one_more _ _ _ c.args.parts.now c.loop-part.part-index _ (omega arith) c.loop-part.invariant.took c.in_ok-write_all.ensures.all;
  later = omega arith;
}

pub returns-in_err-write_all-clause-goes : goal.returns-in_err-write_all-clause-goes
returns-in_err-write_all-clause-goes g c =
    let p = err_from_is_err_and c.from_residual.result c.from_residual.ensures.1 in
    rw p.1 (front_of_part _ _ _ c.args.parts.now c.loop-part.part-index _ (omega arith) c.loop-part.invariant.took c.in_err-write_all.ensures.front)
