use Rattle.std.proofs.Common.{◌≡◌, arith, true}
use Rattle.lam_lexer.specs.Characters.{stays_on_line}
use Rattle.lam_lexer.proofs.Runs.{lined_on, lined_place}
use Rattle.lam_lexer.proofs.lexer.line_run.Goals as goal

pub overflow_add-to : goal.overflow_add-to
overflow_add-to c =
    let q : stays_on_line c.in-Some.c ≡ true = grind arith in
    let g = lined_on c.in-Some.c _ c.len_utf8.ensures.value c.in-Some.ensures.cases q c.loop-c.invariant.lined in
    omega (arith, lined_place g, c.requires)
