use Rattle.std.proofs.Common.{chars}
use Rattle.lam_lexer.proofs.Laws.{finds_tokens, finds_fault}
use Rattle.lam_lexer.proofs.lexer.lex.Goals as goal

pub returns-clause-tokens : goal.returns-clause-tokens
returns-clause-tokens c = finds_tokens (chars c.args.text.now) c.lex_text.result c.lex_text.ensures

pub returns-clause-fault : goal.returns-clause-fault
returns-clause-fault c = finds_fault (chars c.args.text.now) c.lex_text.result c.lex_text.ensures
