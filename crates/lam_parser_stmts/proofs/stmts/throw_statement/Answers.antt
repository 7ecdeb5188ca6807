use Rattle.std.proofs.Common.{◌+◌, subst, slice_get, refl}
use Rattle.lam_syntax.specs.Tree.{expr_tree}
use Rattle.lam_grammar.specs.Table.{stmt}
use Rattle.lam_parser_tokens.specs.Reading.{Gives}
use Rattle.lam_parser_tokens.proofs.Rules.{◌▹◌, broke, mark_taken, rule_taken, rule_read, mark_fails, rule_fails}
use Rattle.lam_parser_stmts.proofs.StmtBodies.{stmt_begun, throw_body, throw_means}
use Rattle.lam_parser_parts.proofs.Sums.{with_sum}
use Rattle.lam_parser_stmts.proofs.stmts.throw_statement.Goals as goal

pub returns-in_err-value-clause-reads : goal.returns-in_err-value-clause-reads
returns-in_err-value-clause-reads c = rw (broke _ c.from_residual.ensures.1) (rule_fails (stmt_begun c.requires.begun refl (throw_body c.requires.begun)) tt _ c.in_err-value.ensures.reads)

pub returns-in_err-take-clause-reads : goal.returns-in_err-take-clause-reads
returns-in_err-take-clause-reads c = rw (broke _ c.from_residual-in_err-take.ensures.1) (mark_fails (stmt_begun c.requires.begun refl (throw_body c.requires.begun) ▹ rule_taken (with_sum c.in_ok-value.ensures.depth c.in_ok-value.ensures.reads) c.in_ok-value.ensures.goes_on.0) refl _ c.in_err-take.ensures.takes)

pub returns-clause-reads : goal.returns-clause-reads
returns-clause-reads c = rw c.make_throw.ensures (subst (λ v. Gives (slice_get c.args.tokens.now) stmt c.args.depth c.args.at v (c.in_ok-value.value.next + 1) c.args.depth) (throw_means c.args.word.now c.in_ok-value.value.begin (expr_tree c.in_ok-value.value.expr.value) c.in_ok-take.field-0.now c.requires.begun.fit) (stmt_begun c.requires.begun refl (throw_body c.requires.begun) ▹ rule_taken (with_sum c.in_ok-value.ensures.depth c.in_ok-value.ensures.reads) c.in_ok-value.ensures.goes_on.0 ▹ mark_taken c.in_ok-take.ensures.takes refl ▹ rule_read))
