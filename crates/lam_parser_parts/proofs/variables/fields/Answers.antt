use Rattle.std.proofs.Common.{sym, ap, ◌∙◌, subst, slice_get, refl, [], arith}
use Rattle.lam_grammar.specs.Table.{variable, fields}
use Rattle.lam_grammar.specs.Meaning.{variables_value}
use Rattle.lam_parser_tokens.specs.Reading.{Gives}
use Rattle.lam_parser_tokens.proofs.Rules.{◌▹◌, broke, part_begun, mark_taken, rule_taken, rule_body_of, no_rule_body_of, loop_goes_on, loop_ends, loop_mark_fails}
use Rattle.lam_parser_parts.proofs.Steps.{begun_fails, loop_begun_fails, loop_as}
use Rattle.lam_parser_parts.proofs.NameLists.{vars_more, vars_whole}
use Rattle.lam_parser_parts.proofs.NameLists.{variable_begins, fields_begin}
use Rattle.lam_parser_parts.proofs.variables.fields.Goals as goal

pub returns-in_err-field-clause-reads : goal.returns-in_err-field-clause-reads
returns-in_err-field-clause-reads c =
    let tokens = c.args.tokens.now in
    let k = c.loop-alloc.next in
    let name = sym c.next_is.ensures.is ∙ c.loop-alloc-test.true in
    let begins = variable_begins (slice_get tokens k) ∙ name in
    rw (broke _ c.from_residual.ensures.1) (loop_begun_fails c.loop-alloc.invariant.loop (fields_begin (slice_get tokens k) ∙ name) _ (begun_fails (part_begun (slice_get tokens) fields c.args.depth k (rule_body_of tokens k fields variable begins refl (λ b. refl))) begins _ c.in_err-field.ensures.reads))

pub returns-in_err-take-clause-reads : goal.returns-in_err-take-clause-reads
returns-in_err-take-clause-reads c =
    let tokens = c.args.tokens.now in
    let k = c.loop-alloc.next in
    let begins = variable_begins (slice_get tokens k) ∙ sym c.next_is.ensures.is ∙ c.loop-alloc-test.true in
    rw (broke _ c.from_residual-in_err-take.ensures.1) (loop_mark_fails c.loop-alloc.invariant.loop c.in_ok-field.ensures.goes_on.0 (part_begun (slice_get tokens) fields c.args.depth k (rule_body_of tokens k fields variable begins refl (λ b. refl)) ▹ rule_taken c.in_ok-field.ensures.reads c.in_ok-field.ensures.goes_on.0) refl _ c.in_err-take.ensures.takes)

pub loop-alloc-preserved : goal.loop-alloc-preserved
loop-alloc-preserved c =
    let tokens = c.args.tokens.now in
    let k = c.loop-alloc.next in
    let begins = variable_begins (slice_get tokens k) ∙ sym c.next_is.ensures.is ∙ c.loop-alloc-test.true in
    let part = part_begun (slice_get tokens) fields c.args.depth k (rule_body_of tokens k fields variable begins refl (λ b. refl)) in
    let on = c.in_ok-field.ensures.goes_on in
    let read = mark_taken c.in_ok-take.ensures.takes refl (rule_taken c.in_ok-field.ensures.reads on.0 part) in
    record {
      loop = loop_as (λ os. ap variables_value (vars_more c.loop-alloc.all.items _ c.in_ok-field.field os c.in_ok-push.ensures.items)) (loop_goes_on refl c.loop-alloc.invariant.loop (omega (arith, on.0)) read (λ os. refl));
      after = omega (arith, on.0, c.loop-alloc.invariant.after);
      within = omega (arith, c.in_ok-take.ensures.within);
    }

pub returns-clause-reads : goal.returns-clause-reads
returns-clause-reads c =
    let tokens = c.args.tokens.now in
    let k = c.loop-alloc.next in
    let none = variable_begins (slice_get tokens k) ∙ sym c.next_is.ensures.is ∙ c.loop-alloc-test.false in
    subst (λ xs. Gives (slice_get tokens) fields c.args.depth c.args.at (variables_value xs) k c.args.depth) (vars_whole c.loop-alloc.all.items) (loop_ends [] refl c.loop-alloc.invariant.loop refl (no_rule_body_of tokens k fields variable none refl (λ b. refl)))
