use Rattle.std.proofs.Common.{sym, ◌∙◌}
use Rattle.std.proofs.lemmas.Bool.{or_parts}
use Rattle.code_verify.proofs.Handing.{sweep_more, sweep_stops}
use Rattle.code_verify.proofs.rounds.round.Goals as goal

pub returns-in-Err-clause-err : goal.returns-in-Err-clause-err
returns-in-Err-clause-err c = sweep_stops c.args.code.now c.args.ops.now c.args.table.now.items _ _ _ _ c.loop-at-test.true c.loop-at.invariant.1 c.in-Err.ensures.err

pub loop-at-preserved : goal.loop-at-preserved
loop-at-preserved c =
    (c.in-Ok.ensures.len ∙ c.loop-at.invariant.0, sweep_more c.args.code.now c.args.ops.now c.args.table.now.items _ _ _ _ c.loop-at-test.true c.loop-at.invariant.1 c.in-Ok.ensures.ok, λ f. let h = or_parts _ _ (sym c.either-changed.ensures ∙ f) in c.in-Ok.ensures.same h.1 ∙ c.loop-at.invariant.2 h.0)
