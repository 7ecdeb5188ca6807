-- With which tokens statements begin.
use Rattle.std.proofs.Common.{◌≡◌, Option, Some, None, refl}
use Rattle.lam_grammar_laws.specs.Stopping.{begins_next}
use Rattle.lam_lexer.specs.declared.token.Token.{Token}
use Rattle.lam_grammar.specs.Table.{stmt, stmts}
use Rattle.lam_grammar.specs.Program.{lam}

pub stmts_begin : (o : Option Token) → begins_next lam stmts o ≡ begins_next lam stmt o
stmts_begin None = refl
stmts_begin (Some w) = refl
