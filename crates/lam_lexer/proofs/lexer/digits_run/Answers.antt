use Rattle.std.proofs.Common.{◌∙◌, sym, arith}
use Rattle.lam_lexer.proofs.Runs.{counted_on, counted_inside, small_value}
use Rattle.lam_lexer.proofs.lexer.digits_run.Goals as goal

pub overflow_add-count : goal.overflow_add-count
overflow_add-count c =
    let g = counted_on c.in-Some.c c.with_digit-value.result c.in-Some.ensures.cases (sym c.is_digit.ensures ∙ c.if-not-is_digit.false) c.with_digit-value.ensures c.loop-c.invariant.counted in
    omega (arith, counted_inside g, c.requires.short)

pub loop-c-preserved : goal.loop-c-preserved
loop-c-preserved c =
    let g = counted_on c.in-Some.c c.with_digit-value.result c.in-Some.ensures.cases (sym c.is_digit.ensures ∙ c.if-not-is_digit.false) c.with_digit-value.ensures c.loop-c.invariant.counted in
    record { utf8 = c.in-Some.ensures.utf8; counted = g; small = small_value _ _ g.value }
