use Rattle.std.proofs.Common.{◌≡◌, refl, slice_get, arith, ◌∙◌, ◌+◌, true, false, sym, ap}
use Rattle.lam_grammar.specs.declared.Level.{Level}
use Rattle.lam_grammar.specs.declared.Level.TheVariants.{Or as or_level, And as and_level, Sum as sum_level, Term as term_level}
use Rattle.lam_grammar.specs.Table.{expr, chain, chain_tail, operand_rule, comparison, comparison_tail, unary, post, post_tail, prim, parens, call_part, arguments, args, args_tail, new_part}
use Rattle.lam_grammar.specs.Meaning.{no_more, no_postfix, exprs_value}
use Rattle.lam_grammar.specs.Examples.{examples}
use Rattle.lam_parser_tokens.proofs.Rules.{◌▹◌, broke, begun, counted_taken, rule_taken, maybe_taken, rule_read, rule_fails, token_deep_fails, present, deep_present, body_of, second_body_of, last_of_two, no_body_of, neither_body_of, opened, counted_opened, left_out, deep_fails, rule_fails_inside, loop_begins, loop_goes_on, loop_ends, loop_strict, loop_deep_fails, loop_mark_fails, loop_rule_fails, part_begun, mark_taken, mark_fails, rule_unwanted, rule_body_of, no_rule_body_of}
use Rattle.lam_syntax.specs.Tree.{no_exprs, expr_tree}
use Rattle.lam_parser_parts.specs.Parts.{no_index, no_close}
use Rattle.lam_parser_parts.proofs.Forms.{prim_body, other_fits, array_body, array_front, arguments_begin, prim_of_parens, prim_begun, prim_unread}
use Rattle.lam_parser_exprs.proofs.Lists.{first_exprs, more_exprs, joined_none}
use Rattle.lam_parser_parts.proofs.Steps.{next_fails, begun_fails, loop_as}
use Rattle.lam_parser_tokens.specs.declared.breaks.Wanted.TheVariants as wanted
use Rattle.lam_parser_parts.specs.declared.primary.Form.TheVariants as form
use Rattle.lam_parser_exprs.proofs.+expression.Goals as goal

first_operand : (l : Level) → examples.first (operand_rule l) ≡ examples.first (chain l)
first_operand or_level = refl
first_operand and_level = refl
first_operand sum_level = refl
first_operand term_level = refl

-- ---- expressions
pub operators::expression-returns-in_err-read-clause-reads : goal.operators::expression-returns-in_err-read-clause-reads
operators::expression-returns-in_err-read-clause-reads t c = rw (broke _ c.from_residual.ensures.1) (rule_fails (begun (slice_get c.args.tokens.now) expr c.args.depth c.args.at refl (λ b. refl)) refl _ c.in_err-read.ensures.reads)

pub operators::expression-returns-clause-reads : goal.operators::expression-returns-clause-reads
operators::expression-returns-clause-reads t c = begun (slice_get c.args.tokens.now) expr c.args.depth c.args.at refl (λ b. refl) ▹ rule_taken c.in_ok-read.ensures.reads c.in_ok-read.ensures.goes_on.0 ▹ rule_read

-- ---- chains
pub operators::chain-returns-in_err-left-clause-reads : goal.operators::chain-returns-in_err-left-clause-reads
operators::chain-returns-in_err-left-clause-reads t c = rw (broke _ c.from_residual.ensures.1) (rule_fails (begun (slice_get c.args.tokens.now) (chain c.args.level) c.args.depth c.args.at refl (λ b. refl)) (first_operand c.args.level) _ c.in_err-left.ensures.reads)

pub operators::chain-loop-left-init : goal.operators::chain-loop-left-init
operators::chain-loop-left-init t c = record {
  goes = loop_begins (rule_taken c.in_ok-left.ensures.reads c.in_ok-left.ensures.goes_on.0 (begun (slice_get c.args.tokens.now) (chain c.args.level) c.args.depth c.args.at refl (λ b. refl))) (λ os. refl);
  after = c.in_ok-left.ensures.goes_on.0;
  within = c.in_ok-left.ensures.goes_on.1;
  low = c.in_ok-left.ensures.depth;
}

pub operators::chain-returns-in_err-token-clause-reads : goal.operators::chain-returns-in_err-token-clause-reads
operators::chain-returns-in_err-token-clause-reads t c =
    let d = c.in_err-token.ensures.takes in
    rw (broke _ c.from_residual-in_err-token.ensures.1) (loop_deep_fails c.loop-left.invariant.goes refl (body_of (chain_tail c.args.level) (deep_present d) refl (λ b. refl)) _ d)

pub operators::chain-returns-in_err-right-clause-reads : goal.operators::chain-returns-in_err-right-clause-reads
operators::chain-returns-in_err-right-clause-reads t c =
    let w = rw c.in-Some.is at c.in_ok-token.ensures.takes in
    rw (broke _ c.from_residual-in_err-right.ensures.1) (loop_rule_fails c.loop-left.invariant.goes (omega arith) (counted_opened (chain_tail c.args.level) w refl refl (body_of (chain_tail c.args.level) (present w) refl (λ b. refl))) tt _ c.in_err-right.ensures.reads)

pub operators::chain-loop-left-preserved : goal.operators::chain-loop-left-preserved
operators::chain-loop-left-preserved t c =
    let w = rw c.in-Some.is at c.in_ok-token.ensures.takes in
    let r = c.in_ok-right.ensures in
    let q = c.in_ok-left-2.ensures.places in
    record {
      goes = rw (c.in_ok-left-2.ensures.tree, q.0, q.1, q.2, c.binary_op-op.ensures) (loop_goes_on refl c.loop-left.invariant.goes (omega (arith, r.goes_on.0)) (rule_taken r.reads r.goes_on.0 (counted_opened (chain_tail c.args.level) w refl refl (body_of (chain_tail c.args.level) (present w) refl (λ b. refl)))) (λ os. refl));
      after = omega (arith, q.1, r.goes_on.0, c.loop-left.invariant.after);
      within = omega (arith, q.1, r.goes_on.1);
      low = omega (arith, q.2, r.depth);
    }

pub operators::chain-returns-clause-reads : goal.operators::chain-returns-clause-reads
operators::chain-returns-clause-reads t c =
    let a = rw c.in_default.is at c.in_ok-token.ensures.takes in
    loop_ends no_more refl c.loop-left.invariant.goes refl (no_body_of (chain_tail c.args.level) a refl (λ b. refl))

-- ---- comparisons
pub operators::comparison-returns-in_err-left-clause-reads : goal.operators::comparison-returns-in_err-left-clause-reads
operators::comparison-returns-in_err-left-clause-reads t c = rw (broke _ c.from_residual.ensures.1) (rule_fails (begun (slice_get c.args.tokens.now) comparison c.args.depth c.args.at refl (λ b. refl)) refl _ c.in_err-left.ensures.reads)

pub operators::comparison-returns-in_err-token-clause-reads : goal.operators::comparison-returns-in_err-token-clause-reads
operators::comparison-returns-in_err-token-clause-reads t c =
    let d = c.in_err-token.ensures.takes in
    let l = c.in_ok-left.ensures in
    rw (broke _ c.from_residual-in_err-token.ensures.1) (deep_fails (begun (slice_get c.args.tokens.now) comparison c.args.depth c.args.at refl (λ b. refl) ▹ rule_taken l.reads l.goes_on.0) refl (body_of comparison_tail (deep_present d) refl (λ b. refl)) _ d)

pub operators::comparison-returns-in_default-clause-reads : goal.operators::comparison-returns-in_default-clause-reads
operators::comparison-returns-in_default-clause-reads t c =
    let a = rw c.in_default.is at c.in_ok-token.ensures.takes in
    let l = c.in_ok-left.ensures in
    begun (slice_get c.args.tokens.now) comparison c.args.depth c.args.at refl (λ b. refl) ▹ rule_taken l.reads l.goes_on.0 ▹ maybe_taken (left_out (slice_get c.args.tokens.now) comparison_tail _ _ refl (no_body_of comparison_tail a refl (λ b. refl))) (omega arith) ▹ rule_read

pub operators::comparison-returns-in_err-right-clause-reads : goal.operators::comparison-returns-in_err-right-clause-reads
operators::comparison-returns-in_err-right-clause-reads t c =
    let w = rw c.in-Some.is at c.in_ok-token.ensures.takes in
    let l = c.in_ok-left.ensures in
    rw (broke _ c.from_residual-in_err-right.ensures.1) (rule_fails_inside (begun (slice_get c.args.tokens.now) comparison c.args.depth c.args.at refl (λ b. refl) ▹ rule_taken l.reads l.goes_on.0) (omega arith) (counted_opened comparison_tail w refl refl (body_of comparison_tail (present w) refl (λ b. refl))) tt _ c.in_err-right.ensures.reads)

pub operators::comparison-returns-clause-reads : goal.operators::comparison-returns-clause-reads
operators::comparison-returns-clause-reads t c =
    let w = rw c.in-Some.is at c.in_ok-token.ensures.takes in
    let l = c.in_ok-left.ensures in
    let r = c.in_ok-right.ensures in
    let q = c.in_ok-joined.ensures.places in
    rw (c.in_ok-joined.ensures.tree, q.0, q.1, q.2, c.binary_op-op.ensures) (begun (slice_get c.args.tokens.now) comparison c.args.depth c.args.at refl (λ b. refl) ▹ rule_taken l.reads l.goes_on.0 ▹ maybe_taken (counted_opened comparison_tail w refl refl (body_of comparison_tail (present w) refl (λ b. refl)) ▹ rule_taken r.reads r.goes_on.0 ▹ rule_read) (omega (arith, r.goes_on.0)) ▹ rule_read)

-- ---- prefixes
pub operators::unary-returns-in_err-token-clause-reads : goal.operators::unary-returns-in_err-token-clause-reads
operators::unary-returns-in_err-token-clause-reads t c =
    let d = c.in_err-token.ensures.takes in
    rw (broke _ c.from_residual.ensures.1) (token_deep_fails (begun (slice_get c.args.tokens.now) unary c.args.depth c.args.at refl (body_of unary (deep_present d) refl (λ b. refl))) _ d)

pub operators::unary-returns-in_err-of-clause-reads : goal.operators::unary-returns-in_err-of-clause-reads
operators::unary-returns-in_err-of-clause-reads t c =
    let w = rw c.in-Some.is at c.in_ok-token.ensures.takes in
    rw (broke _ c.from_residual-in_err-of.ensures.1) (rule_fails (begun (slice_get c.args.tokens.now) unary c.args.depth c.args.at refl (body_of unary (present w) refl (λ b. refl)) ▹ counted_taken w refl) tt _ c.in_err-of.ensures.reads)

pub operators::unary-returns-in-Some-clause-reads : goal.operators::unary-returns-in-Some-clause-reads
operators::unary-returns-in-Some-clause-reads t c =
    let w = rw c.in-Some.is at c.in_ok-token.ensures.takes in
    let r = c.in_ok-of.ensures in
    rw (c.in_ok-make_unary.ensures, c.unary_op-op.ensures) (begun (slice_get c.args.tokens.now) unary c.args.depth c.args.at refl (body_of unary (present w) refl (λ b. refl)) ▹ counted_taken w refl ▹ rule_taken r.reads r.goes_on.0 ▹ rule_read)

pub operators::unary-returns-in_err-read-clause-reads : goal.operators::unary-returns-in_err-read-clause-reads
operators::unary-returns-in_err-read-clause-reads t c =
    let a = rw c.in_default.is at c.in_ok-token.ensures.takes in
    rw (broke _ c.from_residual-in_err-read.ensures.1) (rule_fails (begun (slice_get c.args.tokens.now) unary c.args.depth c.args.at refl (last_of_two unary a refl (λ b. refl))) refl _ c.in_err-read.ensures.reads)

pub operators::unary-returns-clause-reads : goal.operators::unary-returns-clause-reads
operators::unary-returns-clause-reads t c =
    let a = rw c.in_default.is at c.in_ok-token.ensures.takes in
    begun (slice_get c.args.tokens.now) unary c.args.depth c.args.at refl (last_of_two unary a refl (λ b. refl)) ▹ rule_taken c.in_ok-read.ensures.reads c.in_ok-read.ensures.goes_on.0 ▹ rule_read

-- ---- postfix parts
pub operators::postfix-returns-in_err-of-clause-reads : goal.operators::postfix-returns-in_err-of-clause-reads
operators::postfix-returns-in_err-of-clause-reads t c = rw (broke _ c.from_residual.ensures.1) (rule_fails (begun (slice_get c.args.tokens.now) post c.args.depth c.args.at refl (λ b. refl)) refl _ c.in_err-of.ensures.reads)

pub operators::postfix-loop-of-init : goal.operators::postfix-loop-of-init
operators::postfix-loop-of-init t c = record {
  goes = loop_strict _ (λ w e. absurd e) (loop_begins (rule_taken c.in_ok-of.ensures.reads c.in_ok-of.ensures.goes_on.0 (begun (slice_get c.args.tokens.now) post c.args.depth c.args.at refl (λ b. refl))) (λ os. refl));
  after = c.in_ok-of.ensures.goes_on.0;
  within = c.in_ok-of.ensures.goes_on.1;
  low = omega (arith, c.in_ok-of.ensures.depth, c.requires.bounded);
}

pub operators::postfix-returns-in_err-_dot-clause-reads : goal.operators::postfix-returns-in_err-_dot-clause-reads
operators::postfix-returns-in_err-_dot-clause-reads t c =
    let d = c.in_err-_dot.ensures.takes in
    rw (broke _ c.from_residual-in_err-_dot.ensures.1) (loop_deep_fails c.loop-of.invariant.goes refl (body_of post_tail (deep_present d) refl (λ b. refl)) _ d)

pub operators::postfix-returns-in_err-of-2-clause-reads : goal.operators::postfix-returns-in_err-of-2-clause-reads
operators::postfix-returns-in_err-of-2-clause-reads t c =
    let w = rw c.in-Some.is at c.in_ok-_dot.ensures.takes in
    rw (broke _ c.from_residual-in_err-of-2.ensures.1) (loop_mark_fails c.loop-of.invariant.goes (omega arith) (opened post_tail w refl refl (body_of post_tail (present w) refl (λ b. refl))) tt _ c.in_err-of-2.ensures.reads)

pub operators::postfix-loop-of-preserved-in-Some : goal.operators::postfix-loop-of-preserved-in-Some
operators::postfix-loop-of-preserved-in-Some t c =
    let w = rw c.in-Some.is at c.in_ok-_dot.ensures.takes in
    let m = c.in_ok-of-2.ensures.reads in
    record {
      goes = rw (m.tree, m.begins, m.next, m.depth) (loop_strict _ (λ v e. absurd e) (loop_goes_on refl c.loop-of.invariant.goes (omega arith) (counted_taken m.taken refl (opened post_tail w refl refl (body_of post_tail (present w) refl (λ b. refl)))) (λ os. refl)));
      after = omega (arith, m.next, c.loop-of.invariant.after);
      within = c.in_ok-of-2.ensures.within;
      low = omega (arith, m.depth, m.taken.within);
    }

pub operators::postfix-returns-in_err-_bracket-clause-reads : goal.operators::postfix-returns-in_err-_bracket-clause-reads
operators::postfix-returns-in_err-_bracket-clause-reads t c =
    let a = rw c.in_default.is at c.in_ok-_dot.ensures.takes in
    let d = c.in_err-_bracket.ensures.takes in
    rw (broke _ c.from_residual-in_err-_bracket.ensures.1) (loop_deep_fails c.loop-of.invariant.goes refl (second_body_of post_tail a (deep_present d) refl (λ b. refl)) _ d)

pub operators::postfix-returns-in_default-2-clause-reads : goal.operators::postfix-returns-in_default-2-clause-reads
operators::postfix-returns-in_default-2-clause-reads t c =
    let a = rw c.in_default.is at c.in_ok-_dot.ensures.takes in
    let b = rw c.in_default-2.is at c.in_ok-_bracket.ensures.takes in
    loop_ends no_postfix refl c.loop-of.invariant.goes refl (neither_body_of post_tail a b refl (λ v. refl))

pub operators::postfix-returns-in_err-of-3-clause-reads : goal.operators::postfix-returns-in_err-of-3-clause-reads
operators::postfix-returns-in_err-of-3-clause-reads t c =
    let a = rw c.in_default.is at c.in_ok-_dot.ensures.takes in
    let w = rw c.in-Some-2.is at c.in_ok-_bracket.ensures.takes in
    let turn = opened post_tail w refl refl (second_body_of post_tail a (present w) refl (λ b. refl)) in
    rw (broke _ c.from_residual-in_err-of-3.ensures.1) (elim c.in_err-of-3.ensures.reads [
      | no_index h ↦ loop_rule_fails c.loop-of.invariant.goes (omega arith) turn tt _ h
      | no_close k x h ↦ loop_mark_fails c.loop-of.invariant.goes (omega (arith, x.goes_on)) (rule_taken x.reads x.goes_on turn) refl _ h
    ])

pub operators::postfix-loop-of-preserved : goal.operators::postfix-loop-of-preserved
operators::postfix-loop-of-preserved t c =
    let a = rw c.in_default.is at c.in_ok-_dot.ensures.takes in
    let w = rw c.in-Some-2.is at c.in_ok-_bracket.ensures.takes in
    let turn = opened post_tail w refl refl (second_body_of post_tail a (present w) refl (λ b. refl)) in
    let m = c.in_ok-of-3.ensures.reads in
    let x = m.index in
    record {
      goes = rw (m.tree, m.begins, m.next, m.depth) (loop_strict _ (λ v e. absurd e) (loop_goes_on refl c.loop-of.invariant.goes (omega (arith, x.goes_on)) (counted_taken m.taken refl (rule_taken x.reads x.goes_on turn)) (λ os. refl)));
      after = omega (arith, m.next, x.goes_on, c.loop-of.invariant.after);
      within = c.in_ok-of-3.ensures.within;
      low = omega (arith, m.depth, m.taken.within);
    }

pub operators::indexed-returns-in_err-_close-clause-reads : goal.operators::indexed-returns-in_err-_close-clause-reads
operators::indexed-returns-in_err-_close-clause-reads t c =
    let e = c.in_ok-index.ensures in
    rw (broke _ c.from_residual-in_err-_close.ensures.1) (no_close _ (record { begin = c.in_ok-index.index.begin; tree = expr_tree c.in_ok-index.index.expr.value; reads = rw e.depth at e.reads; goes_on = e.goes_on.0 }) c.in_err-_close.ensures.takes)

pub operators::indexed-returns-clause-reads : goal.operators::indexed-returns-clause-reads
operators::indexed-returns-clause-reads t c =
    let e = c.in_ok-index.ensures in
    let q = c.in_ok-element.ensures.places in
    record {
      k = c.in_ok-index.index.next;
      index = record { begin = c.in_ok-index.index.begin; tree = expr_tree c.in_ok-index.index.expr.value; reads = rw e.depth at e.reads; goes_on = e.goes_on.0 };
      close = _;
      taken = c.in_ok-_close.ensures.takes;
      tree = c.in_ok-element.ensures.tree;
      begins = q.0;
      next = q.1;
      depth = q.2;
    }

-- ---- primary expressions
pub primary::primary-returns-in-Parens-clause-reads : goal.primary::primary-returns-in-Parens-clause-reads
primary::primary-returns-in-Parens-clause-reads t c = prim_of_parens c.args.tokens.now c.args.depth c.args.at _ (sym c.form_at.ensures ∙ c.in-Parens.is) c.parens.ensures.goes_on c.parens.ensures.reads

pub primary::primary-returns-in-Other-clause-reads : goal.primary::primary-returns-in-Other-clause-reads
primary::primary-returns-in-Other-clause-reads t c =
    let f = sym c.form_at.ensures ∙ c.in-Other.is in
    rule_unwanted (slice_get c.args.tokens.now) prim c.args.depth c.args.at _ _ wanted.Expression refl refl refl (prim_body (slice_get c.args.tokens.now c.args.at) form.Other f) (other_fits (slice_get c.args.tokens.now c.args.at) f)

pub primary::parens-returns-in_err-open-clause-reads : goal.primary::parens-returns-in_err-open-clause-reads
primary::parens-returns-in_err-open-clause-reads t c = rw (broke _ c.from_residual.ensures.1) (mark_fails (begun (slice_get c.args.tokens.now) parens c.args.depth c.args.at refl (λ before. refl)) refl _ c.in_err-open.ensures.takes)

pub primary::parens-returns-in_err-inner-clause-reads : goal.primary::parens-returns-in_err-inner-clause-reads
primary::parens-returns-in_err-inner-clause-reads t c = rw (broke _ c.from_residual-in_err-inner.ensures.1) (rule_fails (begun (slice_get c.args.tokens.now) parens c.args.depth c.args.at refl (λ before. refl) ▹ mark_taken c.in_ok-open.ensures.takes refl) tt _ c.in_err-inner.ensures.reads)

pub primary::parens-returns-in_err-_close-clause-reads : goal.primary::parens-returns-in_err-_close-clause-reads
primary::parens-returns-in_err-_close-clause-reads t c = rw (broke _ c.from_residual-in_err-_close.ensures.1) (mark_fails (begun (slice_get c.args.tokens.now) parens c.args.depth c.args.at refl (λ before. refl) ▹ mark_taken c.in_ok-open.ensures.takes refl ▹ rule_taken (rw c.in_ok-inner.ensures.depth at c.in_ok-inner.ensures.reads) c.in_ok-inner.ensures.goes_on.0) refl _ c.in_err-_close.ensures.takes)

pub primary::parens-returns-clause-reads : goal.primary::parens-returns-clause-reads
primary::parens-returns-clause-reads t c = begun (slice_get c.args.tokens.now) parens c.args.depth c.args.at refl (λ before. refl) ▹ mark_taken c.in_ok-open.ensures.takes refl ▹ rule_taken (rw c.in_ok-inner.ensures.depth at c.in_ok-inner.ensures.reads) c.in_ok-inner.ensures.goes_on.0 ▹ mark_taken c.in_ok-_close.ensures.takes refl ▹ rule_read

pub primary::named-returns-in_err-name-clause-reads : goal.primary::named-returns-in_err-name-clause-reads
primary::named-returns-in_err-name-clause-reads t c = rw (broke _ c.from_residual.ensures.1) (prim_unread c.args.tokens.now c.args.depth c.args.at form.Name c.requires.begins refl _ (c.in_err-name.ensures.takes _))

pub primary::named-returns-then-not-next_is-clause-reads : goal.primary::named-returns-then-not-next_is-clause-reads
primary::named-returns-then-not-next_is-clause-reads t c =
    let y = arguments_begin (slice_get c.args.tokens.now (c.args.at + 1)) false (sym c.next_is.ensures.is ∙ c.if-not-next_is.true) in
    let none = left_out (slice_get c.args.tokens.now) call_part c.args.depth (c.args.at + 1) refl (no_rule_body_of c.args.tokens.now (c.args.at + 1) call_part arguments y refl (λ before. refl)) in
    rw c.in_ok-expr.ensures (prim_begun c.args.tokens.now c.args.depth c.args.at form.Name c.requires.begins ▹ mark_taken c.in_ok-name.ensures.takes refl ▹ maybe_taken none (omega arith) ▹ rule_read)

pub primary::named-returns-in_err-args-clause-reads : goal.primary::named-returns-in_err-args-clause-reads
primary::named-returns-in_err-args-clause-reads t c =
    let y = arguments_begin (slice_get c.args.tokens.now (c.args.at + 1)) true (sym c.next_is.ensures.is ∙ c.if-not-next_is.false) in
    rw (broke _ c.from_residual-in_err-args.ensures.1) (rule_fails (prim_begun c.args.tokens.now c.args.depth c.args.at form.Name c.requires.begins ▹ mark_taken c.in_ok-name.ensures.takes refl) tt _ (begun_fails (part_begun (slice_get c.args.tokens.now) call_part c.args.depth (c.args.at + 1) (rule_body_of c.args.tokens.now (c.args.at + 1) call_part arguments y refl (λ before. refl))) y _ c.in_err-args.ensures.reads))

pub primary::named-returns-clause-reads : goal.primary::named-returns-clause-reads
primary::named-returns-clause-reads t c =
    let y = arguments_begin (slice_get c.args.tokens.now (c.args.at + 1)) true (sym c.next_is.ensures.is ∙ c.if-not-next_is.false) in
    rw c.in_ok-expr-2.ensures (prim_begun c.args.tokens.now c.args.depth c.args.at form.Name c.requires.begins ▹ mark_taken c.in_ok-name.ensures.takes refl ▹ rule_taken (part_begun (slice_get c.args.tokens.now) call_part c.args.depth (c.args.at + 1) (rule_body_of c.args.tokens.now (c.args.at + 1) call_part arguments y refl (λ before. refl)) ▹ rule_taken c.in_ok-args.ensures.reads c.in_ok-args.ensures.goes_on.0 ▹ rule_read) c.in_ok-args.ensures.goes_on.0 ▹ rule_read)

pub primary::arguments-returns-in_err-_open-clause-reads : goal.primary::arguments-returns-in_err-_open-clause-reads
primary::arguments-returns-in_err-_open-clause-reads t c = rw (broke _ c.from_residual.ensures.1) (mark_fails (begun (slice_get c.args.tokens.now) arguments c.args.depth c.args.at refl (λ before. refl)) refl _ c.in_err-_open.ensures.takes)

pub primary::arguments-returns-in_err-args-clause-reads : goal.primary::arguments-returns-in_err-args-clause-reads
primary::arguments-returns-in_err-args-clause-reads t c = rw (broke _ c.from_residual-in_err-args.ensures.1) (rule_fails (begun (slice_get c.args.tokens.now) arguments c.args.depth c.args.at refl (λ before. refl) ▹ mark_taken c.in_ok-_open.ensures.takes refl) tt _ c.in_err-args.ensures.reads)

pub primary::arguments-returns-in_err-_close-clause-reads : goal.primary::arguments-returns-in_err-_close-clause-reads
primary::arguments-returns-in_err-_close-clause-reads t c = rw (broke _ c.from_residual-in_err-_close.ensures.1) (mark_fails (begun (slice_get c.args.tokens.now) arguments c.args.depth c.args.at refl (λ before. refl) ▹ mark_taken c.in_ok-_open.ensures.takes refl ▹ maybe_taken c.in_ok-args.ensures.reads c.in_ok-args.ensures.goes_on.0) (tt, refl) _ c.in_err-_close.ensures.takes)

pub primary::arguments-returns-clause-reads : goal.primary::arguments-returns-clause-reads
primary::arguments-returns-clause-reads t c = begun (slice_get c.args.tokens.now) arguments c.args.depth c.args.at refl (λ before. refl) ▹ mark_taken c.in_ok-_open.ensures.takes refl ▹ maybe_taken c.in_ok-args.ensures.reads c.in_ok-args.ensures.goes_on.0 ▹ mark_taken c.in_ok-_close.ensures.takes refl ▹ rule_read

pub primary::list-returns-then-not-begins_expression-clause-reads : goal.primary::list-returns-then-not-begins_expression-clause-reads
primary::list-returns-then-not-begins_expression-clause-reads t c =
    let n = sym c.begins_expression.ensures.is ∙ c.if-not-begins_expression.true in
    rw c.new-args.ensures.items (left_out (slice_get c.args.tokens.now) args c.args.depth c.args.at refl (no_rule_body_of c.args.tokens.now c.args.at args expr n refl (λ before. refl)))

pub primary::list-returns-in_err-first-clause-reads : goal.primary::list-returns-in_err-first-clause-reads
primary::list-returns-in_err-first-clause-reads t c =
    let y = sym c.begins_expression.ensures.is ∙ c.if-not-begins_expression.false in
    rw (broke _ c.from_residual.ensures.1) (begun_fails (part_begun (slice_get c.args.tokens.now) args c.args.depth c.args.at (rule_body_of c.args.tokens.now c.args.at args expr y refl (λ before. refl))) y _ c.in_err-first.ensures.reads)

pub primary::list-loop-args-init : goal.primary::list-loop-args-init
primary::list-loop-args-init t c =
    let look = slice_get c.args.tokens.now in
    let y = sym c.begins_expression.ensures.is ∙ c.if-not-begins_expression.false in
    let g = part_begun look args c.args.depth c.args.at (rule_body_of c.args.tokens.now c.args.at args expr y refl (λ before. refl)) in
    let h = loop_begins (rule_taken (rw c.in_ok-first.ensures.depth at c.in_ok-first.ensures.reads) c.in_ok-first.ensures.goes_on.0 g) (λ os. refl) in
    record {
      goes = loop_as (λ os. ap exprs_value (first_exprs _ _ c.in_ok-first.first.expr.value c.new-args.ensures.items (rw c.into_inner.ensures at c.in_ok-push.ensures.items) os)) h;
      after = c.in_ok-first.ensures.goes_on.0;
      within = c.in_ok-first.ensures.goes_on.1;
    }

pub primary::list-returns-in_err-arg-clause-reads : goal.primary::list-returns-in_err-arg-clause-reads
primary::list-returns-in_err-arg-clause-reads t c =
    let k = rw c.in-Some.is at c.in_ok-_comma.ensures.takes in
    rw (broke _ c.from_residual-in_err-arg.ensures.1) (loop_rule_fails c.loop-args.invariant.goes (omega arith) (opened args_tail k refl refl (body_of args_tail (present k) refl (λ before. refl))) tt _ c.in_err-arg.ensures.reads)

pub primary::list-loop-args-preserved : goal.primary::list-loop-args-preserved
primary::list-loop-args-preserved t c =
    let k = rw c.in-Some.is at c.in_ok-_comma.ensures.takes in
    let turn = opened args_tail k refl refl (body_of args_tail (present k) refl (λ before. refl)) in
    let g = c.in_ok-arg.ensures.goes_on in
    let h = loop_goes_on refl c.loop-args.invariant.goes (omega arith) (rule_taken (rw c.in_ok-arg.ensures.depth at c.in_ok-arg.ensures.reads) g.0 turn) (λ os. refl) in
    record {
      goes = loop_as (λ os. ap exprs_value (more_exprs _ _ c.in_ok-arg.arg.expr.value (rw c.into_inner-in-Some.ensures at c.in_ok-push-2.ensures.items) os)) h;
      after = omega (arith, g.0, c.loop-args.invariant.after);
      within = g.1;
    }

pub primary::list-returns-clause-reads : goal.primary::list-returns-clause-reads
primary::list-returns-clause-reads t c =
    let h = loop_ends no_exprs refl c.loop-args.invariant.goes refl (no_body_of args_tail (rw c.in_default.is at c.in_ok-_comma.ensures.takes) refl (λ before. refl)) in
    rw joined_none at h

pub primary::created-returns-in_err-word-clause-reads : goal.primary::created-returns-in_err-word-clause-reads
primary::created-returns-in_err-word-clause-reads t c = rw (broke _ c.from_residual.ensures.1) (prim_unread c.args.tokens.now c.args.depth c.args.at form.New c.requires.begins refl _ (c.in_err-word.ensures.takes _))

pub primary::created-returns-in_err-kind-clause-reads : goal.primary::created-returns-in_err-kind-clause-reads
primary::created-returns-in_err-kind-clause-reads t c = rw (broke _ c.from_residual-in_err-kind.ensures.1) (rule_fails (prim_begun c.args.tokens.now c.args.depth c.args.at form.New c.requires.begins ▹ mark_taken c.in_ok-word.ensures.takes refl) tt _ c.in_err-kind.ensures.reads)

pub primary::created-returns-clause-reads : goal.primary::created-returns-clause-reads
primary::created-returns-clause-reads t c = rw c.in_ok-expr.ensures (prim_begun c.args.tokens.now c.args.depth c.args.at form.New c.requires.begins ▹ mark_taken c.in_ok-word.ensures.takes refl ▹ rule_taken c.in_ok-kind.ensures.reads c.in_ok-kind.ensures.goes_on.0 ▹ rule_read)

pub primary::new_part-returns-clause-reads : goal.primary::new_part-returns-clause-reads
primary::new_part-returns-clause-reads t c =
    let n = sym c.next_is.ensures.is ∙ c.if-next_is.false in
    rule_unwanted (slice_get c.args.tokens.now) new_part c.args.depth c.args.at _ _ wanted.Name refl refl refl (array_body (slice_get c.args.tokens.now c.args.at) n) (sym c.next_is-2.ensures.is ∙ c.if-next_is-2.false)

pub primary::new_array-returns-in_err-_open-clause-reads : goal.primary::new_array-returns-in_err-_open-clause-reads
primary::new_array-returns-in_err-_open-clause-reads t c = rw (broke _ c.from_residual.ensures.1) (next_fails (begun (slice_get c.args.tokens.now) new_part c.args.depth c.args.at refl (array_body (slice_get c.args.tokens.now c.args.at) c.requires.no_name)) (array_front (slice_get c.args.tokens.now c.args.at) c.requires.begins) _ (c.in_err-_open.ensures.takes _))

pub primary::new_array-returns-in_err-element-clause-reads : goal.primary::new_array-returns-in_err-element-clause-reads
primary::new_array-returns-in_err-element-clause-reads t c = rw (broke _ c.from_residual-in_err-element.ensures.1) (rule_fails (begun (slice_get c.args.tokens.now) new_part c.args.depth c.args.at refl (array_body (slice_get c.args.tokens.now c.args.at) c.requires.no_name) ▹ mark_taken c.in_ok-_open.ensures.takes refl) tt _ c.in_err-element.ensures.reads)

pub primary::new_array-returns-in_err-_close-clause-reads : goal.primary::new_array-returns-in_err-_close-clause-reads
primary::new_array-returns-in_err-_close-clause-reads t c = rw (broke _ c.from_residual-in_err-_close.ensures.1) (mark_fails (begun (slice_get c.args.tokens.now) new_part c.args.depth c.args.at refl (array_body (slice_get c.args.tokens.now c.args.at) c.requires.no_name) ▹ mark_taken c.in_ok-_open.ensures.takes refl ▹ rule_taken c.in_ok-element.ensures.reads c.in_ok-element.ensures.goes_on.0) refl _ c.in_err-_close.ensures.takes)

pub primary::new_array-returns-in_err-length-clause-reads : goal.primary::new_array-returns-in_err-length-clause-reads
primary::new_array-returns-in_err-length-clause-reads t c = rw (broke _ c.from_residual-in_err-length.ensures.1) (rule_fails (begun (slice_get c.args.tokens.now) new_part c.args.depth c.args.at refl (array_body (slice_get c.args.tokens.now c.args.at) c.requires.no_name) ▹ mark_taken c.in_ok-_open.ensures.takes refl ▹ rule_taken c.in_ok-element.ensures.reads c.in_ok-element.ensures.goes_on.0 ▹ mark_taken c.in_ok-_close.ensures.takes refl) tt _ c.in_err-length.ensures.reads)

pub primary::new_array-returns-clause-reads : goal.primary::new_array-returns-clause-reads
primary::new_array-returns-clause-reads t c = rw c.array_kind.ensures (begun (slice_get c.args.tokens.now) new_part c.args.depth c.args.at refl (array_body (slice_get c.args.tokens.now c.args.at) c.requires.no_name) ▹ mark_taken c.in_ok-_open.ensures.takes refl ▹ rule_taken c.in_ok-element.ensures.reads c.in_ok-element.ensures.goes_on.0 ▹ mark_taken c.in_ok-_close.ensures.takes refl ▹ rule_taken (rw c.in_ok-length.ensures.depth at c.in_ok-length.ensures.reads) c.in_ok-length.ensures.goes_on.0 ▹ rule_read)

pub primary::label_of-returns-in_err-word-clause-reads : goal.primary::label_of-returns-in_err-word-clause-reads
primary::label_of-returns-in_err-word-clause-reads t c = rw (broke _ c.from_residual.ensures.1) (prim_unread c.args.tokens.now c.args.depth c.args.at form.Label c.requires.begins refl _ (c.in_err-word.ensures.takes _))

pub primary::label_of-returns-in_err-_open-clause-reads : goal.primary::label_of-returns-in_err-_open-clause-reads
primary::label_of-returns-in_err-_open-clause-reads t c = rw (broke _ c.from_residual-in_err-_open.ensures.1) (mark_fails (prim_begun c.args.tokens.now c.args.depth c.args.at form.Label c.requires.begins ▹ mark_taken c.in_ok-word.ensures.takes refl) tt _ c.in_err-_open.ensures.takes)

pub primary::label_of-returns-in_err-s-clause-reads : goal.primary::label_of-returns-in_err-s-clause-reads
primary::label_of-returns-in_err-s-clause-reads t c = rw (broke _ c.from_residual-in_err-s.ensures.1) (rule_fails (prim_begun c.args.tokens.now c.args.depth c.args.at form.Label c.requires.begins ▹ mark_taken c.in_ok-word.ensures.takes refl ▹ mark_taken c.in_ok-_open.ensures.takes refl) tt _ c.in_err-s.ensures.reads)

pub primary::label_of-returns-in_err-_semicolon-clause-reads : goal.primary::label_of-returns-in_err-_semicolon-clause-reads
primary::label_of-returns-in_err-_semicolon-clause-reads t c = rw (broke _ c.from_residual-in_err-_semicolon.ensures.1) (mark_fails (prim_begun c.args.tokens.now c.args.depth c.args.at form.Label c.requires.begins ▹ mark_taken c.in_ok-word.ensures.takes refl ▹ mark_taken c.in_ok-_open.ensures.takes refl ▹ maybe_taken c.in_ok-s.ensures.reads c.in_ok-s.ensures.goes_on.0) (tt, refl) _ c.in_err-_semicolon.ensures.takes)

pub primary::label_of-returns-in_err-i-clause-reads : goal.primary::label_of-returns-in_err-i-clause-reads
primary::label_of-returns-in_err-i-clause-reads t c = rw (broke _ c.from_residual-in_err-i.ensures.1) (rule_fails (prim_begun c.args.tokens.now c.args.depth c.args.at form.Label c.requires.begins ▹ mark_taken c.in_ok-word.ensures.takes refl ▹ mark_taken c.in_ok-_open.ensures.takes refl ▹ maybe_taken c.in_ok-s.ensures.reads c.in_ok-s.ensures.goes_on.0 ▹ mark_taken c.in_ok-_semicolon.ensures.takes refl) tt _ c.in_err-i.ensures.reads)

pub primary::label_of-returns-in_err-_close-clause-reads : goal.primary::label_of-returns-in_err-_close-clause-reads
primary::label_of-returns-in_err-_close-clause-reads t c = rw (broke _ c.from_residual-in_err-_close.ensures.1) (mark_fails (prim_begun c.args.tokens.now c.args.depth c.args.at form.Label c.requires.begins ▹ mark_taken c.in_ok-word.ensures.takes refl ▹ mark_taken c.in_ok-_open.ensures.takes refl ▹ maybe_taken c.in_ok-s.ensures.reads c.in_ok-s.ensures.goes_on.0 ▹ mark_taken c.in_ok-_semicolon.ensures.takes refl ▹ maybe_taken c.in_ok-i.ensures.reads c.in_ok-i.ensures.goes_on.0) (tt, refl) _ c.in_err-_close.ensures.takes)

pub primary::label_of-returns-clause-reads : goal.primary::label_of-returns-clause-reads
primary::label_of-returns-clause-reads t c = rw c.in_ok-expr.ensures (prim_begun c.args.tokens.now c.args.depth c.args.at form.Label c.requires.begins ▹ mark_taken c.in_ok-word.ensures.takes refl ▹ mark_taken c.in_ok-_open.ensures.takes refl ▹ maybe_taken c.in_ok-s.ensures.reads c.in_ok-s.ensures.goes_on.0 ▹ mark_taken c.in_ok-_semicolon.ensures.takes refl ▹ maybe_taken c.in_ok-i.ensures.reads c.in_ok-i.ensures.goes_on.0 ▹ mark_taken c.in_ok-_close.ensures.takes refl ▹ rule_read)

pub primary::spawned-returns-in_err-word-clause-reads : goal.primary::spawned-returns-in_err-word-clause-reads
primary::spawned-returns-in_err-word-clause-reads t c = rw (broke _ c.from_residual.ensures.1) (prim_unread c.args.tokens.now c.args.depth c.args.at form.Spawn c.requires.begins refl _ (c.in_err-word.ensures.takes _))

pub primary::spawned-returns-in_err-caps-clause-reads : goal.primary::spawned-returns-in_err-caps-clause-reads
primary::spawned-returns-in_err-caps-clause-reads t c = rw (broke _ c.from_residual-in_err-caps.ensures.1) (rule_fails (prim_begun c.args.tokens.now c.args.depth c.args.at form.Spawn c.requires.begins ▹ mark_taken c.in_ok-word.ensures.takes refl) tt _ c.in_err-caps.ensures.reads)

pub primary::spawned-returns-in_err-function-clause-reads : goal.primary::spawned-returns-in_err-function-clause-reads
primary::spawned-returns-in_err-function-clause-reads t c = rw (broke _ c.from_residual-in_err-function.ensures.1) (mark_fails (prim_begun c.args.tokens.now c.args.depth c.args.at form.Spawn c.requires.begins ▹ mark_taken c.in_ok-word.ensures.takes refl ▹ rule_taken (rw c.in_ok-caps.ensures.depth at c.in_ok-caps.ensures.reads) c.in_ok-caps.ensures.goes_on.0) refl _ c.in_err-function.ensures.takes)

pub primary::spawned-returns-in_err-args-clause-reads : goal.primary::spawned-returns-in_err-args-clause-reads
primary::spawned-returns-in_err-args-clause-reads t c = rw (broke _ c.from_residual-in_err-args.ensures.1) (rule_fails (prim_begun c.args.tokens.now c.args.depth c.args.at form.Spawn c.requires.begins ▹ mark_taken c.in_ok-word.ensures.takes refl ▹ rule_taken (rw c.in_ok-caps.ensures.depth at c.in_ok-caps.ensures.reads) c.in_ok-caps.ensures.goes_on.0 ▹ mark_taken c.in_ok-function.ensures.takes refl) tt _ c.in_err-args.ensures.reads)

pub primary::spawned-returns-clause-reads : goal.primary::spawned-returns-clause-reads
primary::spawned-returns-clause-reads t c = rw c.in_ok-expr.ensures (prim_begun c.args.tokens.now c.args.depth c.args.at form.Spawn c.requires.begins ▹ mark_taken c.in_ok-word.ensures.takes refl ▹ rule_taken (rw c.in_ok-caps.ensures.depth at c.in_ok-caps.ensures.reads) c.in_ok-caps.ensures.goes_on.0 ▹ mark_taken c.in_ok-function.ensures.takes refl ▹ rule_taken c.in_ok-args.ensures.reads c.in_ok-args.ensures.goes_on.0 ▹ rule_read)
