use Rattle.std.proofs.Common.{◌∙◌, [], sym, ap, refl, slice_get, arith, true, false}
use Rattle.std.proofs.lemmas.List.{append-nil}
use Rattle.lam_grammar.specs.Table.{cap_items, cap_item, cap_tail}
use Rattle.lam_grammar.specs.Meaning.{caps_value}
use Rattle.lam_parser_tokens.proofs.Rules.{broke, part_begun, present, deep_present, body_of, no_body_of, rule_body_of, no_rule_body_of, left_out, opened, rule_taken, loop_begins, loop_goes_on, loop_ends, loop_deep_fails, loop_rule_fails}
use Rattle.lam_parser_parts.proofs.Forms.{cap_begins}
use Rattle.lam_parser_parts.proofs.Lists.{first_caps, more_caps}
use Rattle.lam_parser_parts.proofs.Steps.{begun_fails, loop_as}
use Rattle.lam_parser_parts.proofs.primary.cap_items.Goals as goal

pub returns-then-not-next_is-clause-reads : goal.returns-then-not-next_is-clause-reads
returns-then-not-next_is-clause-reads c = rw c.new-items.ensures.items (left_out (slice_get c.args.tokens.now) cap_items c.args.depth c.args.at refl (no_rule_body_of c.args.tokens.now c.args.at cap_items cap_item (cap_begins (slice_get c.args.tokens.now c.args.at) false (sym c.next_is.ensures.is ∙ c.if-not-next_is.true)) refl (λ before. refl)))

pub returns-in_err-first-clause-reads : goal.returns-in_err-first-clause-reads
returns-in_err-first-clause-reads c =
    let y = cap_begins (slice_get c.args.tokens.now c.args.at) true (sym c.next_is.ensures.is ∙ c.if-not-next_is.false) in
    rw (broke _ c.from_residual.ensures.1) (begun_fails (part_begun (slice_get c.args.tokens.now) cap_items c.args.depth c.args.at (rule_body_of c.args.tokens.now c.args.at cap_items cap_item y refl (λ before. refl))) y _ c.in_err-first.ensures.reads)

pub loop-items-init : goal.loop-items-init
loop-items-init c =
    let look = slice_get c.args.tokens.now in
    let y = cap_begins (look c.args.at) true (sym c.next_is.ensures.is ∙ c.if-not-next_is.false) in
    let g = part_begun look cap_items c.args.depth c.args.at (rule_body_of c.args.tokens.now c.args.at cap_items cap_item y refl (λ before. refl)) in
    let h = loop_begins (rule_taken c.in_ok-first.ensures.reads c.in_ok-first.ensures.goes_on.0 g) (λ os. refl) in
    record {
      goes = loop_as (λ os. ap caps_value (first_caps _ _ c.in_ok-first.first c.new-items.ensures.items c.in_ok-push.ensures.items os)) h;
      after = c.in_ok-first.ensures.goes_on.0;
      within = c.in_ok-first.ensures.goes_on.1;
    }

pub returns-in_err-_comma-clause-reads : goal.returns-in_err-_comma-clause-reads
returns-in_err-_comma-clause-reads c =
    let d = c.in_err-_comma.ensures.takes in
    rw (broke _ c.from_residual-in_err-_comma.ensures.1) (loop_deep_fails c.loop-items.invariant.goes refl (body_of cap_tail (deep_present d) refl (λ before. refl)) _ d)

pub returns-in_err-item-clause-reads : goal.returns-in_err-item-clause-reads
returns-in_err-item-clause-reads c =
    let t = rw c.in-Some.is at c.in_ok-_comma.ensures.takes in
    rw (broke _ c.from_residual-in_err-item.ensures.1) (loop_rule_fails c.loop-items.invariant.goes (omega arith) (opened cap_tail t refl refl (body_of cap_tail (present t) refl (λ before. refl))) tt _ c.in_err-item.ensures.reads)

pub loop-items-preserved : goal.loop-items-preserved
loop-items-preserved c =
    let t = rw c.in-Some.is at c.in_ok-_comma.ensures.takes in
    let g = c.in_ok-item.ensures.goes_on in
    let h = loop_goes_on refl c.loop-items.invariant.goes (omega arith) (rule_taken c.in_ok-item.ensures.reads g.0 (opened cap_tail t refl refl (body_of cap_tail (present t) refl (λ before. refl)))) (λ os. refl) in
    record {
      goes = loop_as (λ os. ap caps_value (more_caps _ _ c.in_ok-item.item c.in_ok-push-2.ensures.items os)) h;
      after = omega (arith, g.0, c.loop-items.invariant.after);
      within = g.1;
    }

pub returns-clause-reads : goal.returns-clause-reads
returns-clause-reads c =
    let h = loop_ends [] refl c.loop-items.invariant.goes refl (no_body_of cap_tail (rw c.in_default.is at c.in_ok-_comma.ensures.takes) refl (λ before. refl)) in
    rw append-nil at h
