use Rattle.std.proofs.Common.{◌≡◌, ◌∙◌, ◌<◌, length, slice_get, Some, sym, arith}
use Rattle.std.proofs.lemmas.Grind.{common_steps}
use Rattle.std.proofs.lemmas.Option.{gets}
use Rattle.guarded_code.specs.Breaks.{takes_kinds}
use Rattle.code_verify.proofs.Rows.{row_next}
use Rattle.code_verify.proofs.breaks.first_wrong_kind.Goals as goal

pub loop-i-preserved : goal.loop-i-preserved
loop-i-preserved c =
    let lt : c.loop-i.i < length c.args.ops.now = omega arith in
    let here : slice_get c.args.table.now c.loop-i.i ≡ Some c.in-Some.row.now = grind (arith, common_steps, gets) in
    c.loop-i.invariant ∙ row_next (takes_kinds c.args.code.now) c.args.ops.now c.args.table.now c.loop-i.i _ c.in-Some.row.now lt here (sym c.takes_row.ensures ∙ c.if-not-takes_row.false)
