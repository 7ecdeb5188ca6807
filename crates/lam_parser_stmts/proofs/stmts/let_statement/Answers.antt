use Rattle.std.proofs.Common.{refl}
use Rattle.lam_parser_tokens.proofs.Rules.{◌▹◌, broke, mark_taken, rule_taken, rule_read, mark_fails, rule_fails}
use Rattle.lam_parser_stmts.proofs.StmtBodies.{stmt_begun, let_body}
use Rattle.lam_parser_parts.proofs.Sums.{with_sum}
use Rattle.lam_parser_stmts.proofs.stmts.let_statement.Goals as goal

pub returns-in_err-var-clause-reads : goal.returns-in_err-var-clause-reads
returns-in_err-var-clause-reads c = rw (broke _ c.from_residual.ensures.1) (rule_fails (stmt_begun c.requires.begun refl (let_body c.requires.begun)) tt _ c.in_err-var.ensures.reads)

pub returns-in_err-take-clause-reads : goal.returns-in_err-take-clause-reads
returns-in_err-take-clause-reads c = rw (broke _ c.from_residual-in_err-take.ensures.1) (mark_fails (stmt_begun c.requires.begun refl (let_body c.requires.begun) ▹ rule_taken c.in_ok-var.ensures.reads c.in_ok-var.ensures.goes_on.0) refl _ c.in_err-take.ensures.takes)

pub returns-in_err-value-clause-reads : goal.returns-in_err-value-clause-reads
returns-in_err-value-clause-reads c = rw (broke _ c.from_residual-in_err-value.ensures.1) (rule_fails (stmt_begun c.requires.begun refl (let_body c.requires.begun) ▹ rule_taken c.in_ok-var.ensures.reads c.in_ok-var.ensures.goes_on.0 ▹ mark_taken c.in_ok-take.ensures.takes refl) tt _ c.in_err-value.ensures.reads)

pub returns-in_err-take-2-clause-reads : goal.returns-in_err-take-2-clause-reads
returns-in_err-take-2-clause-reads c = rw (broke _ c.from_residual-in_err-take-2.ensures.1) (mark_fails (stmt_begun c.requires.begun refl (let_body c.requires.begun) ▹ rule_taken c.in_ok-var.ensures.reads c.in_ok-var.ensures.goes_on.0 ▹ mark_taken c.in_ok-take.ensures.takes refl ▹ rule_taken (with_sum c.in_ok-value.ensures.depth c.in_ok-value.ensures.reads) c.in_ok-value.ensures.goes_on.0) refl _ c.in_err-take-2.ensures.takes)

pub returns-clause-reads : goal.returns-clause-reads
returns-clause-reads c = rw c.make_let.ensures (stmt_begun c.requires.begun refl (let_body c.requires.begun) ▹ rule_taken c.in_ok-var.ensures.reads c.in_ok-var.ensures.goes_on.0 ▹ mark_taken c.in_ok-take.ensures.takes refl ▹ rule_taken (with_sum c.in_ok-value.ensures.depth c.in_ok-value.ensures.reads) c.in_ok-value.ensures.goes_on.0 ▹ mark_taken c.in_ok-take-2.ensures.takes refl ▹ rule_read)
