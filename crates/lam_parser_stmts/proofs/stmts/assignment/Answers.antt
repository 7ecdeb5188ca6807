use Rattle.std.proofs.Common.{sym, ◌∙◌, slice_get, refl}
use Rattle.lam_grammar.specs.Table.{stmt}
use Rattle.lam_parser_tokens.proofs.Rules.{◌▹◌, broke, begun, mark_taken, rule_taken, rule_read, mark_fails}
use Rattle.lam_parser_stmts.proofs.StmtBodies.{expression_body}
use Rattle.lam_parser_parts.proofs.Sums.{with_sum}
use Rattle.lam_parser_stmts.proofs.Assignment.{no_place, value_fails, assigned}
use Rattle.lam_parser_stmts.proofs.stmts.assignment.Goals as goal

pub returns-then-not-is_place-clause-reads : goal.returns-then-not-is_place-clause-reads
returns-then-not-is_place-clause-reads c = no_place c.args.tokens.now c.args.depth c.args.at c.args.left.next c.args.depth _ _ (begun (slice_get c.args.tokens.now) stmt c.args.depth c.args.at refl (expression_body c.requires.begun) ▹ rule_taken c.requires.left c.requires.behind) _ c.requires.equals (sym (rw c.deref.ensures at c.is_place.ensures) ∙ c.if-not-is_place.true)

pub returns-in_err-value-clause-reads : goal.returns-in_err-value-clause-reads
returns-in_err-value-clause-reads c =
    let place = sym (rw c.deref.ensures at c.is_place.ensures) ∙ c.if-not-is_place.false in
    rw (broke _ c.from_residual.ensures.1) (value_fails c.args.tokens.now c.args.depth c.args.at c.args.left.next c.args.depth _ _ (begun (slice_get c.args.tokens.now) stmt c.args.depth c.args.at refl (expression_body c.requires.begun) ▹ rule_taken c.requires.left c.requires.behind) _ c.requires.equals place _ c.in_err-value.ensures.reads)

pub returns-in_err-take-clause-reads : goal.returns-in_err-take-clause-reads
returns-in_err-take-clause-reads c =
    let place = sym (rw c.deref.ensures at c.is_place.ensures) ∙ c.if-not-is_place.false in
    let value = assigned c.args.tokens.now c.args.depth c.args.at c.args.left.next c.args.depth _ _ (begun (slice_get c.args.tokens.now) stmt c.args.depth c.args.at refl (expression_body c.requires.begun) ▹ rule_taken c.requires.left c.requires.behind) _ c.requires.equals place _ _ (with_sum c.in_ok-value.ensures.depth c.in_ok-value.ensures.reads) c.in_ok-value.ensures.goes_on.0 in
    rw (broke _ c.from_residual-in_err-take.ensures.1) (mark_fails value refl _ c.in_err-take.ensures.takes)

pub returns-clause-reads : goal.returns-clause-reads
returns-clause-reads c =
    let place = sym (rw c.deref.ensures at c.is_place.ensures) ∙ c.if-not-is_place.false in
    let value = assigned c.args.tokens.now c.args.depth c.args.at c.args.left.next c.args.depth _ _ (begun (slice_get c.args.tokens.now) stmt c.args.depth c.args.at refl (expression_body c.requires.begun) ▹ rule_taken c.requires.left c.requires.behind) _ c.requires.equals place _ _ (with_sum c.in_ok-value.ensures.depth c.in_ok-value.ensures.reads) c.in_ok-value.ensures.goes_on.0 in
    rw c.make_assign.ensures (value ▹ mark_taken c.in_ok-take.ensures.takes refl ▹ rule_read)
