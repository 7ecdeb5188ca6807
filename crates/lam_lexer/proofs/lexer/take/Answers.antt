use Rattle.std.proofs.Common.{arith, refl, subst, chars}
use Rattle.lam_lexer.specs.declared.start.Start.{Start}
use Rattle.lam_lexer.specs.Characters.{first}
use Rattle.lam_lexer.specs.Reading.{Begins}
use Rattle.lam_lexer.proofs.Runs.{one_byte}
use Rattle.lam_lexer.proofs.Steps.{as_begun, nothing_wrong, space_taken, comment_taken, mark_taken, long_mark_taken, two_bytes}
use Rattle.lam_lexer.proofs.lexer.take.Goals as goal

pub overflow_add-result : goal.overflow_add-result
overflow_add-result c = omega (arith, one_byte c.args.c (chars c.args.after.now), c.requires.place)

pub overflow_add-at : goal.overflow_add-at
overflow_add-at c = omega (arith, one_byte c.args.c (chars c.args.after.now), c.requires.place)

pub line_run-to-requires : goal.line_run-to-requires
line_run-to-requires c = omega (arith, one_byte c.args.c (chars c.args.after.now), c.requires.place)

pub overflow_add-result-in-Mark : goal.overflow_add-result-in-Mark
overflow_add-result-in-Mark c = omega (arith, one_byte c.args.c (chars c.args.after.now), c.requires.place)

pub returns-in-Space : goal.returns-in-Space
returns-in-Space c = as_begun c.in-Space.is (space_taken c.args.at c.args.c (chars c.args.after.now) c.args.after c.utf8.after refl)

pub returns-in-Comment : goal.returns-in-Comment
returns-in-Comment c =
    let r = c.line_run-to.ensures in
    as_begun c.in-Comment.is (comment_taken c.args.at c.args.c (chars c.args.after.now) _ r.utf8 _ r.rest r.position)

pub returns-in-Mark : goal.returns-in-Mark
returns-in-Mark c = as_begun c.in-Mark.is (mark_taken c.args.at c.args.c (chars c.args.after.now) c.in-Mark.kind c.args.after c.utf8.after refl)

pub returns-in-LongMark : goal.returns-in-LongMark
returns-in-LongMark c =
    let h = subst (λ (s : Start). Begins s c.args.c (first (chars c.args.after.now))) c.in-LongMark.is c.requires.begins in
    as_begun c.in-LongMark.is (long_mark_taken c.args.at c.args.c (chars c.args.after.now) c.in-LongMark.kind c.behind_first.result c.behind_first.utf8 c.behind_first.ensures h)

pub overflow_add-result-in-LongMark : goal.overflow_add-result-in-LongMark
overflow_add-result-in-LongMark c =
    let h = subst (λ (s : Start). Begins s c.args.c (first (chars c.args.after.now))) c.in-LongMark.is c.requires.begins in
    omega (arith, two_bytes c.args.c (chars c.args.after.now) h, c.requires.place)

pub returns-in-Nothing : goal.returns-in-Nothing
returns-in-Nothing c = nothing_wrong c.in-Nothing.is
