use Rattle.std.proofs.Common.{arith, chars}
use Rattle.lam_lexer.proofs.Runs.{one_byte}
use Rattle.lam_lexer.proofs.Steps.{text_taken, text_wrong}
use Rattle.lam_lexer.proofs.lexer.text_token.Goals as goal

pub text_run-requires : goal.text_run-requires
text_run-requires c = omega (arith, one_byte c.args.c (chars c.args.after.now), c.requires)

pub returns-in-Ok-new : goal.returns-in-Ok-new
returns-in-Ok-new c = text_taken c.args.at c.args.c (chars c.args.after.now) c.in-Ok.bytes.items c.in-Ok-new.literal c.in-Ok.rest c.in-Ok.ensures.utf8 c.in-Ok.to c.in-Ok-new.ensures c.in-Ok.ensures.exact

pub returns-in-Err : goal.returns-in-Err
returns-in-Err c = text_wrong c.args.at c.args.c (chars c.args.after.now) c.in-Err.fault c.in-Err.ensures.exact
