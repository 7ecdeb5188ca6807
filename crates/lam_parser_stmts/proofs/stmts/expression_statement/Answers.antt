use Rattle.std.proofs.Common.{slice_get, refl, arith}
use Rattle.lam_grammar.specs.Table.{stmt, assign_part}
use Rattle.lam_parser_tokens.proofs.Rules.{◌▹◌, broke, begun, mark_taken, rule_taken, maybe_taken, rule_read, mark_fails, rule_fails, left_out}
use Rattle.lam_parser_stmts.proofs.StmtBodies.{expression_body}
use Rattle.lam_parser_parts.proofs.Sums.{with_sum}
use Rattle.lam_parser_stmts.proofs.Assignment.{absent}
use Rattle.lam_parser_stmts.proofs.stmts.expression_statement.Goals as goal

pub returns-in_err-left-clause-reads : goal.returns-in_err-left-clause-reads
returns-in_err-left-clause-reads c = rw (broke _ c.from_residual.ensures.1) (rule_fails (begun (slice_get c.args.tokens.now) stmt c.args.depth c.args.at refl (expression_body c.requires.begun)) refl _ c.in_err-left.ensures.reads)

pub returns-in_err-take-clause-reads : goal.returns-in_err-take-clause-reads
returns-in_err-take-clause-reads c =
    let k = c.in_ok-left.left.next in
    let none = rw c.in_default.is at c.in_ok-equals.ensures.takes in
    rw (broke _ c.from_residual-in_err-take.ensures.1) (mark_fails (begun (slice_get c.args.tokens.now) stmt c.args.depth c.args.at refl (expression_body c.requires.begun) ▹ rule_taken (with_sum c.in_ok-left.ensures.depth c.in_ok-left.ensures.reads) c.in_ok-left.ensures.goes_on.0 ▹ maybe_taken (left_out (slice_get c.args.tokens.now) assign_part c.args.depth k refl (absent (slice_get c.args.tokens.now) k none.no)) (omega arith)) (refl, refl) _ c.in_err-take.ensures.takes)

pub returns-clause-reads : goal.returns-clause-reads
returns-clause-reads c =
    let k = c.in_ok-left.left.next in
    let none = rw c.in_default.is at c.in_ok-equals.ensures.takes in
    rw c.make_do.ensures (begun (slice_get c.args.tokens.now) stmt c.args.depth c.args.at refl (expression_body c.requires.begun) ▹ rule_taken (with_sum c.in_ok-left.ensures.depth c.in_ok-left.ensures.reads) c.in_ok-left.ensures.goes_on.0 ▹ maybe_taken (left_out (slice_get c.args.tokens.now) assign_part c.args.depth k refl (absent (slice_get c.args.tokens.now) k none.no)) (omega arith) ▹ mark_taken c.in_ok-take.ensures.takes refl ▹ rule_read)

pub assignment-requires-clause-left : goal.assignment-requires-clause-left
assignment-requires-clause-left c = with_sum c.in_ok-left.ensures.depth c.in_ok-left.ensures.reads
