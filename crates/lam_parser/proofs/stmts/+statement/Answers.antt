use Rattle.std.proofs.Common.{◌+◌, sym, ap, ◌∙◌, subst, slice_get, refl, arith}
use Rattle.lam_syntax.specs.Tree.{expr_tree, stmts_tree, no_stmts}
use Rattle.lam_grammar.specs.Table.{stmt, stmts, block, else_part, handler}
use Rattle.lam_grammar.specs.Meaning.{stmts_value, handler_value}
use Rattle.lam_parser_tokens.specs.Reading.{Gives}
use Rattle.lam_parser_tokens.proofs.Rules.{◌▹◌, broke, begun, part_begun, mark_taken, rule_taken, maybe_taken, rule_read, mark_fails, rule_fails, present, body_of, no_body_of, rule_body_of, no_rule_body_of, opened, left_out, loop_goes_on, loop_ends}
use Rattle.lam_parser_parts.proofs.Steps.{begun_fails, loop_begun_fails, loop_as}
use Rattle.lam_parser.proofs.Lists.{stmts_more, stmts_whole}
use Rattle.lam_parser.proofs.Starts.{stmts_begin}
use Rattle.lam_parser_stmts.proofs.StmtBodies.{stmt_begun, if_body, while_body, while_means, sync_body, sync_means, region_body}
use Rattle.lam_parser_parts.proofs.Sums.{with_sum}
use Rattle.lam_parser.proofs.Blocks.{statement_wanted}
use Rattle.lam_parser.proofs.stmts.+statement.Goals as goal

-- ---- blocks

pub block-returns-in_err-take-clause-reads : goal.block-returns-in_err-take-clause-reads
block-returns-in_err-take-clause-reads t c = rw (broke _ c.from_residual.ensures.1) (mark_fails (begun (slice_get c.args.tokens.now) block c.args.depth c.args.at refl (λ b. refl)) refl _ c.in_err-take.ensures.takes)

pub block-returns-in_err-stmt-clause-reads : goal.block-returns-in_err-stmt-clause-reads
block-returns-in_err-stmt-clause-reads t c =
    let inner = c.args.depth + 1 in
    let k = c.loop-alloc.next in
    let begins = sym c.begins_statement.ensures.is ∙ c.loop-alloc-test.true in
    let b = c.in_err-stmt.field-0.0 in
    rw (broke _ c.from_residual-in_err-stmt.ensures.1) (rule_fails (begun (slice_get c.args.tokens.now) block c.args.depth c.args.at refl (λ b. refl) ▹ mark_taken c.in_ok-take.ensures.takes refl) tt b (loop_begun_fails c.loop-alloc.invariant.loop (stmts_begin (slice_get c.args.tokens.now k) ∙ begins) b (begun_fails (part_begun (slice_get c.args.tokens.now) stmts inner k (rule_body_of c.args.tokens.now k stmts stmt begins refl (λ b. refl))) begins b c.in_err-stmt.ensures.reads)))

pub block-loop-alloc-preserved : goal.block-loop-alloc-preserved
block-loop-alloc-preserved t c =
    let inner = c.args.depth + 1 in
    let k = c.loop-alloc.next in
    let begins = sym c.begins_statement.ensures.is ∙ c.loop-alloc-test.true in
    let part = part_begun (slice_get c.args.tokens.now) stmts inner k (rule_body_of c.args.tokens.now k stmts stmt begins refl (λ b. refl)) in
    let on = c.in_ok-stmt.ensures.goes_on in
    record {
      loop = loop_as (λ os. ap stmts_value (stmts_more c.loop-alloc.body.items _ c.in_ok-stmt.stmt os c.in_ok-push.ensures.items)) (loop_goes_on refl c.loop-alloc.invariant.loop on.0 (rule_taken c.in_ok-stmt.ensures.reads on.0 part) (λ os. refl));
      after = omega (arith, on.0, c.loop-alloc.invariant.after);
      within = omega (arith, on.1);
    }

pub block-returns-in_default-clause-reads : goal.block-returns-in_default-clause-reads
block-returns-in_default-clause-reads t c =
    let brace = begun (slice_get c.args.tokens.now) block c.args.depth c.args.at refl (λ b. refl) ▹ mark_taken c.in_ok-take.ensures.takes refl in
    let inner = c.args.depth + 1 in
    let k = c.loop-alloc.next in
    let none = sym c.begins_statement.ensures.is ∙ c.loop-alloc-test.false in
    let listed = loop_ends no_stmts refl c.loop-alloc.invariant.loop refl (no_rule_body_of c.args.tokens.now k stmts stmt none refl (λ b. refl)) in
    statement_wanted brace c.loop-alloc.invariant.loop (brace ▹ maybe_taken listed (omega (arith, c.loop-alloc.invariant.after))) (rw c.in_default.is at c.in_ok-take_if.ensures.takes)

pub block-returns-clause-reads : goal.block-returns-clause-reads
block-returns-clause-reads t c =
    let inner = c.args.depth + 1 in
    let k = c.loop-alloc.next in
    let none = sym c.begins_statement.ensures.is ∙ c.loop-alloc-test.false in
    let listed = loop_ends no_stmts refl c.loop-alloc.invariant.loop refl (no_rule_body_of c.args.tokens.now k stmts stmt none refl (λ b. refl)) in
    let closed = rw c.in-Some.is at c.in_ok-take_if.ensures.takes in
    subst (λ xs. Gives (slice_get c.args.tokens.now) block c.args.depth c.args.at (stmts_value xs) (k + 1) c.args.depth) (stmts_whole c.loop-alloc.body.items ∙ ap stmts_tree (sym c.fitted.ensures)) (begun (slice_get c.args.tokens.now) block c.args.depth c.args.at refl (λ b. refl) ▹ mark_taken c.in_ok-take.ensures.takes refl ▹ maybe_taken listed (omega (arith, c.loop-alloc.invariant.after)) ▹ mark_taken closed refl ▹ rule_read)

-- ---- `if`

pub if_statement-returns-in_err-test-clause-reads : goal.if_statement-returns-in_err-test-clause-reads
if_statement-returns-in_err-test-clause-reads t c = rw (broke _ c.from_residual.ensures.1) (rule_fails (stmt_begun c.requires.begun refl (if_body c.requires.begun)) tt _ c.in_err-test.ensures.reads)

pub if_statement-returns-in_err-yes-clause-reads : goal.if_statement-returns-in_err-yes-clause-reads
if_statement-returns-in_err-yes-clause-reads t c = rw (broke _ c.from_residual-in_err-yes.ensures.1) (rule_fails (stmt_begun c.requires.begun refl (if_body c.requires.begun) ▹ rule_taken (with_sum c.in_ok-test.ensures.depth c.in_ok-test.ensures.reads) c.in_ok-test.ensures.goes_on.0) refl _ c.in_err-yes.ensures.reads)

pub if_statement-returns-in_err-no-clause-reads : goal.if_statement-returns-in_err-no-clause-reads
if_statement-returns-in_err-no-clause-reads t c = rw (broke _ c.from_residual-in_err-no.ensures.1) (rule_fails (stmt_begun c.requires.begun refl (if_body c.requires.begun) ▹ rule_taken (with_sum c.in_ok-test.ensures.depth c.in_ok-test.ensures.reads) c.in_ok-test.ensures.goes_on.0 ▹ rule_taken c.in_ok-yes.ensures.reads c.in_ok-yes.ensures.goes_on.0) refl _ c.in_err-no.ensures.reads)

pub if_statement-returns-clause-reads : goal.if_statement-returns-clause-reads
if_statement-returns-clause-reads t c = rw c.make_if.ensures (stmt_begun c.requires.begun refl (if_body c.requires.begun) ▹ rule_taken (with_sum c.in_ok-test.ensures.depth c.in_ok-test.ensures.reads) c.in_ok-test.ensures.goes_on.0 ▹ rule_taken c.in_ok-yes.ensures.reads c.in_ok-yes.ensures.goes_on.0 ▹ maybe_taken c.in_ok-no.ensures.reads c.in_ok-no.ensures.goes_on.0 ▹ rule_read)

pub else_part-returns-in_default-clause-reads : goal.else_part-returns-in_default-clause-reads
else_part-returns-in_default-clause-reads t c =
    let none = rw c.in_default.is at c.in_ok-take_if.ensures.takes in
    left_out (slice_get c.args.tokens.now) else_part c.args.depth c.args.at refl (no_body_of else_part none refl (λ b. refl))

pub else_part-returns-in_err-no-clause-reads : goal.else_part-returns-in_err-no-clause-reads
else_part-returns-in_err-no-clause-reads t c =
    let opens = rw c.in-Some.is at c.in_ok-take_if.ensures.takes in
    rw (broke _ c.from_residual-in_err-no.ensures.1) (rule_fails (opened else_part opens refl refl (body_of else_part (present opens) refl (λ b. refl))) tt _ c.in_err-no.ensures.reads)

pub else_part-returns-clause-reads : goal.else_part-returns-clause-reads
else_part-returns-clause-reads t c =
    let opens = rw c.in-Some.is at c.in_ok-take_if.ensures.takes in
    opened else_part opens refl refl (body_of else_part (present opens) refl (λ b. refl)) ▹ rule_taken c.in_ok-no.ensures.reads c.in_ok-no.ensures.goes_on.0 ▹ rule_read

-- ---- `while`

pub while_statement-returns-in_err-test-clause-reads : goal.while_statement-returns-in_err-test-clause-reads
while_statement-returns-in_err-test-clause-reads t c = rw (broke _ c.from_residual.ensures.1) (rule_fails (stmt_begun c.requires.begun refl (while_body c.requires.begun)) tt _ c.in_err-test.ensures.reads)

pub while_statement-returns-in_err-body-clause-reads : goal.while_statement-returns-in_err-body-clause-reads
while_statement-returns-in_err-body-clause-reads t c = rw (broke _ c.from_residual-in_err-body.ensures.1) (rule_fails (stmt_begun c.requires.begun refl (while_body c.requires.begun) ▹ rule_taken (with_sum c.in_ok-test.ensures.depth c.in_ok-test.ensures.reads) c.in_ok-test.ensures.goes_on.0) refl _ c.in_err-body.ensures.reads)

pub while_statement-returns-clause-reads : goal.while_statement-returns-clause-reads
while_statement-returns-clause-reads t c = rw c.make_while.ensures (subst (λ v. Gives (slice_get c.args.tokens.now) stmt c.args.depth c.args.at v c.in_ok-body.next c.args.depth) (while_means c.args.word.now c.in_ok-test.test.begin (expr_tree c.in_ok-test.test.expr.value) (stmts_tree c.in_ok-body.body.items) c.requires.begun.fit) (stmt_begun c.requires.begun refl (while_body c.requires.begun) ▹ rule_taken (with_sum c.in_ok-test.ensures.depth c.in_ok-test.ensures.reads) c.in_ok-test.ensures.goes_on.0 ▹ rule_taken c.in_ok-body.ensures.reads c.in_ok-body.ensures.goes_on.0 ▹ rule_read))

-- ---- `sync`

pub sync_statement-returns-in_err-thing-clause-reads : goal.sync_statement-returns-in_err-thing-clause-reads
sync_statement-returns-in_err-thing-clause-reads t c = rw (broke _ c.from_residual.ensures.1) (rule_fails (stmt_begun c.requires.begun refl (sync_body c.requires.begun)) tt _ c.in_err-thing.ensures.reads)

pub sync_statement-returns-in_err-body-clause-reads : goal.sync_statement-returns-in_err-body-clause-reads
sync_statement-returns-in_err-body-clause-reads t c = rw (broke _ c.from_residual-in_err-body.ensures.1) (rule_fails (stmt_begun c.requires.begun refl (sync_body c.requires.begun) ▹ rule_taken (with_sum c.in_ok-thing.ensures.depth c.in_ok-thing.ensures.reads) c.in_ok-thing.ensures.goes_on.0) refl _ c.in_err-body.ensures.reads)

pub sync_statement-returns-clause-reads : goal.sync_statement-returns-clause-reads
sync_statement-returns-clause-reads t c = rw c.make_sync.ensures (subst (λ v. Gives (slice_get c.args.tokens.now) stmt c.args.depth c.args.at v c.in_ok-body.next c.args.depth) (sync_means c.args.word.now c.in_ok-thing.thing.begin (expr_tree c.in_ok-thing.thing.expr.value) (stmts_tree c.in_ok-body.body.items) c.requires.begun.fit) (stmt_begun c.requires.begun refl (sync_body c.requires.begun) ▹ rule_taken (with_sum c.in_ok-thing.ensures.depth c.in_ok-thing.ensures.reads) c.in_ok-thing.ensures.goes_on.0 ▹ rule_taken c.in_ok-body.ensures.reads c.in_ok-body.ensures.goes_on.0 ▹ rule_read))

-- ---- regions

pub region_statement-returns-in_err-head-clause-reads : goal.region_statement-returns-in_err-head-clause-reads
region_statement-returns-in_err-head-clause-reads t c = rw (broke _ c.from_residual.ensures.1) (rule_fails (stmt_begun c.requires.begun refl (region_body c.requires.begun)) tt _ c.in_err-head.ensures.reads)

pub region_statement-returns-in_err-captures-clause-reads : goal.region_statement-returns-in_err-captures-clause-reads
region_statement-returns-in_err-captures-clause-reads t c = rw (broke _ c.from_residual-in_err-captures.ensures.1) (rule_fails (stmt_begun c.requires.begun refl (region_body c.requires.begun) ▹ rule_taken c.in_ok-head.ensures.reads c.in_ok-head.ensures.goes_on.0) refl _ c.in_err-captures.ensures.reads)

pub region_statement-returns-in_err-body-clause-reads : goal.region_statement-returns-in_err-body-clause-reads
region_statement-returns-in_err-body-clause-reads t c = rw (broke _ c.from_residual-in_err-body.ensures.1) (rule_fails (stmt_begun c.requires.begun refl (region_body c.requires.begun) ▹ rule_taken c.in_ok-head.ensures.reads c.in_ok-head.ensures.goes_on.0 ▹ rule_taken c.in_ok-captures.ensures.reads c.in_ok-captures.ensures.goes_on.0) refl _ c.in_err-body.ensures.reads)

pub region_statement-returns-in_err-caught-clause-reads : goal.region_statement-returns-in_err-caught-clause-reads
region_statement-returns-in_err-caught-clause-reads t c = rw (broke _ c.from_residual-in_err-caught.ensures.1) (rule_fails (stmt_begun c.requires.begun refl (region_body c.requires.begun) ▹ rule_taken c.in_ok-head.ensures.reads c.in_ok-head.ensures.goes_on.0 ▹ rule_taken c.in_ok-captures.ensures.reads c.in_ok-captures.ensures.goes_on.0 ▹ rule_taken c.in_ok-body.ensures.reads c.in_ok-body.ensures.goes_on.0) refl _ c.in_err-caught.ensures.reads)

pub region_statement-returns-clause-reads : goal.region_statement-returns-clause-reads
region_statement-returns-clause-reads t c = rw c.make_region.ensures (stmt_begun c.requires.begun refl (region_body c.requires.begun) ▹ rule_taken c.in_ok-head.ensures.reads c.in_ok-head.ensures.goes_on.0 ▹ rule_taken c.in_ok-captures.ensures.reads c.in_ok-captures.ensures.goes_on.0 ▹ rule_taken c.in_ok-body.ensures.reads c.in_ok-body.ensures.goes_on.0 ▹ rule_taken c.in_ok-caught.ensures.reads c.in_ok-caught.ensures.goes_on.0 ▹ rule_read)

pub handler-returns-in_err-take-clause-reads : goal.handler-returns-in_err-take-clause-reads
handler-returns-in_err-take-clause-reads t c = rw (broke _ c.from_residual.ensures.1) (mark_fails (begun (slice_get c.args.tokens.now) handler c.args.depth c.args.at refl (λ b. refl)) refl _ c.in_err-take.ensures.takes)

pub handler-returns-in_err-take-2-clause-reads : goal.handler-returns-in_err-take-2-clause-reads
handler-returns-in_err-take-2-clause-reads t c = rw (broke _ c.from_residual-in_err-take-2.ensures.1) (mark_fails (begun (slice_get c.args.tokens.now) handler c.args.depth c.args.at refl (λ b. refl) ▹ mark_taken c.in_ok-take.ensures.takes refl) tt _ c.in_err-take-2.ensures.takes)

pub handler-returns-in_err-name-clause-reads : goal.handler-returns-in_err-name-clause-reads
handler-returns-in_err-name-clause-reads t c = rw (broke _ c.from_residual-in_err-name.ensures.1) (mark_fails (begun (slice_get c.args.tokens.now) handler c.args.depth c.args.at refl (λ b. refl) ▹ mark_taken c.in_ok-take.ensures.takes refl ▹ mark_taken c.in_ok-take-2.ensures.takes refl) tt _ c.in_err-name.ensures.takes)

pub handler-returns-in_err-take-3-clause-reads : goal.handler-returns-in_err-take-3-clause-reads
handler-returns-in_err-take-3-clause-reads t c = rw (broke _ c.from_residual-in_err-take-3.ensures.1) (mark_fails (begun (slice_get c.args.tokens.now) handler c.args.depth c.args.at refl (λ b. refl) ▹ mark_taken c.in_ok-take.ensures.takes refl ▹ mark_taken c.in_ok-take-2.ensures.takes refl ▹ mark_taken c.in_ok-name.ensures.takes.1 refl) tt _ c.in_err-take-3.ensures.takes)

pub handler-returns-in_err-body-clause-reads : goal.handler-returns-in_err-body-clause-reads
handler-returns-in_err-body-clause-reads t c = rw (broke _ c.from_residual-in_err-body.ensures.1) (rule_fails (begun (slice_get c.args.tokens.now) handler c.args.depth c.args.at refl (λ b. refl) ▹ mark_taken c.in_ok-take.ensures.takes refl ▹ mark_taken c.in_ok-take-2.ensures.takes refl ▹ mark_taken c.in_ok-name.ensures.takes.1 refl ▹ mark_taken c.in_ok-take-3.ensures.takes refl) tt _ c.in_err-body.ensures.reads)

pub handler-returns-clause-reads : goal.handler-returns-clause-reads
handler-returns-clause-reads t c = subst (λ x. Gives (slice_get c.args.tokens.now) handler c.args.depth c.args.at (handler_value x (stmts_tree c.in_ok-body.body.items)) c.in_ok-body.next c.args.depth) (sym c.in_ok-name.ensures.takes.2) (begun (slice_get c.args.tokens.now) handler c.args.depth c.args.at refl (λ b. refl) ▹ mark_taken c.in_ok-take.ensures.takes refl ▹ mark_taken c.in_ok-take-2.ensures.takes refl ▹ mark_taken c.in_ok-name.ensures.takes.1 refl ▹ mark_taken c.in_ok-take-3.ensures.takes refl ▹ rule_taken c.in_ok-body.ensures.reads c.in_ok-body.ensures.goes_on.0 ▹ rule_read)
