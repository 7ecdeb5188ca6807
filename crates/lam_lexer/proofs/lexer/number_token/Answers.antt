use Rattle.std.proofs.Common.{◌≡◌, ◌∙◌, sym, arith, pos, chars}
use borrow.Author.Differences.{ints}
use mir.Val.{to_z}
use mir.Syntax.{w64}
use Rattle.lam_lexer.specs.Lexed.{great}
use Rattle.lam_lexer.proofs.Runs.{no_value, a_value}
use Rattle.lam_lexer.proofs.Steps.{number_size, number_taken, wrongly_joined}
use Rattle.lam_lexer.proofs.lexer.number_token.Goals as goal

pub returns-in_default : goal.returns-in_default
returns-in_default c = great (no_value _ _ c.digits_run-value.ensures.value c.in_default.is)

pub returns-then-joins_name : goal.returns-then-joins_name
returns-then-joins_name c = wrongly_joined c.digits_run-value.ensures.rest (sym c.joins_name.ensures ∙ c.if-joins_name.true)

pub overflow_add-result-2 : goal.overflow_add-result-2
overflow_add-result-2 c =
    omega (arith, number_size c.args.c (chars c.args.after.now) _ _ c.digits_run-value.ensures.rest c.digits_run-value.ensures.count, c.requires.place)

pub returns : goal.returns
returns c =
    let v = a_value _ _ _ c.digits_run-value.ensures.value c.in-Some.is in
    let z : to_z w64 c.in-Some.n ≡ pos c.in-Some.n = omega (arith, ints, v.1) in
    rw z (number_taken c.args.at c.args.c (chars c.args.after.now) _ c.digits_run-value.ensures.utf8 _ c.in-Some.n c.digits_run-value.ensures.rest c.digits_run-value.ensures.count v.0 v.1 (sym c.joins_name.ensures ∙ c.if-joins_name.false))
