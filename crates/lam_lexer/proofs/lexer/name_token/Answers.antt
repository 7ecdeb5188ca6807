use Rattle.std.proofs.Common.{arith, refl, chars}
use Rattle.lam_lexer.proofs.Steps.{name_size, name_taken}
use Rattle.lam_lexer.proofs.lexer.name_token.Goals as goal

pub overflow_add-to : goal.overflow_add-to
overflow_add-to c =
    omega (arith, name_size c.args.c (chars c.args.after.now) c.name_run.result.0.now (chars c.name_run.result.1.now) c.name_run.ensures.bytes c.name_run.ensures.rest, c.requires.place)

pub returns : goal.returns
returns c = name_taken c.args.at c.args.c (chars c.args.after.now) c.name_run.result.0.now c.word_kind-kind.result c.name_run.result.1 c.name_run.ensures.utf8 _ _ c.name_run.ensures.bytes c.name_run.ensures.rest c.word_kind-kind.ensures refl refl
