use Rattle.std.proofs.Common.{arith}
use Rattle.std.proofs.lemmas.Result.{err_from_is_err_and}
use Rattle.lam_io.proofs.TookLemmas.{took_piece}
use Rattle.lam_io.proofs.WriteLemmas.{goes_on, stops, ends}
use Rattle.lam_io.proofs.write_all.Goals as goal

pub loop-done-preserved : goal.loop-done-preserved
loop-done-preserved g c = record {
  within = omega (arith, c.in_ok-count.ensures.count.most);
  later = omega arith;
  calls = goes_on _ _ _ _ c.args.text.now c.loop-done.done c.in_ok-count.count (omega arith) c.loop-done.invariant.calls c.in_ok-count.ensures.gives;
  took = took_piece _ _ _ c.args.text.now c.loop-done.done c.in_ok-count.count c.loop-done.invariant.took c.in_ok-count.ensures.took;
}

pub returns-in_err-count-clause-calls : goal.returns-in_err-count-clause-calls
returns-in_err-count-clause-calls g c =
    let p = err_from_is_err_and c.from_residual.result c.from_residual.ensures.1 in
    rw (p.1, p.2) (stops _ _ _ _ c.args.text.now c.loop-done.done c.in_err-count.field-0.0 (omega arith) c.loop-done.invariant.calls c.in_err-count.ensures.gives)

pub returns-clause-calls : goal.returns-clause-calls
returns-clause-calls g c = ends _ _ _ c.args.text.now c.loop-done.done (omega arith) c.loop-done.invariant.calls
