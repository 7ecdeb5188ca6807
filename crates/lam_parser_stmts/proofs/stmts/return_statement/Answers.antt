use Rattle.std.proofs.Common.{◌+◌, sym, ◌∙◌, subst, slice_get, refl, arith}
use Rattle.lam_syntax.specs.Tree.{expr_tree}
use Rattle.lam_grammar.specs.Table.{stmt, value_part, expr}
use Rattle.lam_parser_tokens.specs.Reading.{Gives}
use Rattle.lam_parser_tokens.proofs.Rules.{◌▹◌, broke, part_begun, mark_taken, rule_taken, maybe_taken, rule_read, mark_fails, rule_fails, left_out, rule_body_of, no_rule_body_of}
use Rattle.lam_parser_parts.proofs.Steps.{begun_fails}
use Rattle.lam_parser_stmts.proofs.StmtBodies.{stmt_begun, return_body, return_means}
use Rattle.lam_parser_parts.proofs.Sums.{with_sum}
use Rattle.lam_parser_stmts.proofs.stmts.return_statement.Goals as goal

pub returns-in_err-take-clause-reads : goal.returns-in_err-take-clause-reads
returns-in_err-take-clause-reads c =
    let none = left_out (slice_get c.args.tokens.now) value_part c.args.depth (c.args.at + 1) refl (no_rule_body_of c.args.tokens.now (c.args.at + 1) value_part expr (sym c.begins_expression.ensures.is ∙ c.if-not-begins_expression.true) refl (λ b. refl)) in
    rw (broke _ c.from_residual.ensures.1) (mark_fails (stmt_begun c.requires.begun refl (return_body c.requires.begun) ▹ maybe_taken none (omega arith)) (tt, refl) _ c.in_err-take.ensures.takes)

pub returns-then-not-begins_expression-clause-reads : goal.returns-then-not-begins_expression-clause-reads
returns-then-not-begins_expression-clause-reads c =
    let none = left_out (slice_get c.args.tokens.now) value_part c.args.depth (c.args.at + 1) refl (no_rule_body_of c.args.tokens.now (c.args.at + 1) value_part expr (sym c.begins_expression.ensures.is ∙ c.if-not-begins_expression.true) refl (λ b. refl)) in
    rw c.make_return.ensures (stmt_begun c.requires.begun refl (return_body c.requires.begun) ▹ maybe_taken none (omega arith) ▹ mark_taken c.in_ok-take.ensures.takes refl ▹ rule_read)

pub returns-in_err-value-clause-reads : goal.returns-in_err-value-clause-reads
returns-in_err-value-clause-reads c =
    let begins = sym c.begins_expression.ensures.is ∙ c.if-not-begins_expression.false in
    rw (broke _ c.from_residual-in_err-value.ensures.1) (rule_fails (stmt_begun c.requires.begun refl (return_body c.requires.begun)) tt _ (begun_fails (part_begun (slice_get c.args.tokens.now) value_part c.args.depth (c.args.at + 1) (rule_body_of c.args.tokens.now (c.args.at + 1) value_part expr begins refl (λ b. refl))) begins _ c.in_err-value.ensures.reads))

pub returns-in_err-take-2-clause-reads : goal.returns-in_err-take-2-clause-reads
returns-in_err-take-2-clause-reads c =
    let begins = sym c.begins_expression.ensures.is ∙ c.if-not-begins_expression.false in
    let on = c.in_ok-value.ensures.goes_on in
    rw (broke _ c.from_residual-in_err-take-2.ensures.1) (mark_fails (stmt_begun c.requires.begun refl (return_body c.requires.begun) ▹ rule_taken (part_begun (slice_get c.args.tokens.now) value_part c.args.depth (c.args.at + 1) (rule_body_of c.args.tokens.now (c.args.at + 1) value_part expr begins refl (λ b. refl)) ▹ rule_taken (with_sum c.in_ok-value.ensures.depth c.in_ok-value.ensures.reads) on.0 ▹ rule_read) on.0) refl _ c.in_err-take-2.ensures.takes)

pub returns-clause-reads : goal.returns-clause-reads
returns-clause-reads c =
    let begins = sym c.begins_expression.ensures.is ∙ c.if-not-begins_expression.false in
    let on = c.in_ok-value.ensures.goes_on in
    rw (c.make_return-2.ensures, c.into_inner.ensures) (subst (λ v. Gives (slice_get c.args.tokens.now) stmt c.args.depth c.args.at v (c.in_ok-value.value.next + 1) c.args.depth) (return_means c.args.word.now c.in_ok-value.value.begin (expr_tree c.in_ok-value.value.expr.value) c.in_ok-take-2.field-0.now c.requires.begun.fit) (stmt_begun c.requires.begun refl (return_body c.requires.begun) ▹ rule_taken (part_begun (slice_get c.args.tokens.now) value_part c.args.depth (c.args.at + 1) (rule_body_of c.args.tokens.now (c.args.at + 1) value_part expr begins refl (λ b. refl)) ▹ rule_taken (with_sum c.in_ok-value.ensures.depth c.in_ok-value.ensures.reads) on.0 ▹ rule_read) on.0 ▹ mark_taken c.in_ok-take-2.ensures.takes refl ▹ rule_read))
