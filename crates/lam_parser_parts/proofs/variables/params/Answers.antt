use Rattle.std.proofs.Common.{sym, ap, ◌∙◌, subst, slice_get, refl, [], arith}
use Rattle.lam_syntax.specs.Tree.{vars_tree}
use Rattle.lam_grammar.specs.Table.{variable, params, params_tail}
use Rattle.lam_grammar.specs.Meaning.{variables_value}
use Rattle.lam_parser_tokens.specs.Reading.{Gives}
use Rattle.lam_parser_tokens.proofs.Rules.{broke, part_begun, rule_taken, present, body_of, no_body_of, rule_body_of, no_rule_body_of, opened, left_out, loop_begins, loop_goes_on, loop_ends, loop_rule_fails}
use Rattle.lam_parser_parts.proofs.Steps.{begun_fails, loop_as}
use Rattle.lam_parser_parts.proofs.NameLists.{vars_first, vars_more, vars_whole}
use Rattle.lam_parser_parts.proofs.NameLists.{variable_begins}
use Rattle.lam_parser_parts.proofs.variables.params.Goals as goal

pub returns-then-not-next_is-clause-reads : goal.returns-then-not-next_is-clause-reads
returns-then-not-next_is-clause-reads c =
    let tokens = c.args.tokens.now in
    let none = variable_begins (slice_get tokens c.args.at) ∙ sym c.next_is.ensures.is ∙ c.if-not-next_is.true in
    subst (λ xs. Gives (slice_get tokens) params c.args.depth c.args.at (variables_value (vars_tree xs)) c.args.at c.args.depth) (sym c.new-all.ensures.items) (left_out (slice_get tokens) params c.args.depth c.args.at refl (no_rule_body_of tokens c.args.at params variable none refl (λ b. refl)))

pub returns-in_err-first-clause-reads : goal.returns-in_err-first-clause-reads
returns-in_err-first-clause-reads c =
    let tokens = c.args.tokens.now in
    let begins = variable_begins (slice_get tokens c.args.at) ∙ sym c.next_is.ensures.is ∙ c.if-not-next_is.false in
    rw (broke _ c.from_residual.ensures.1) (begun_fails (part_begun (slice_get tokens) params c.args.depth c.args.at (rule_body_of tokens c.args.at params variable begins refl (λ b. refl))) begins _ c.in_err-first.ensures.reads)

pub loop-all-init : goal.loop-all-init
loop-all-init c =
    let tokens = c.args.tokens.now in
    let begins = variable_begins (slice_get tokens c.args.at) ∙ sym c.next_is.ensures.is ∙ c.if-not-next_is.false in
    let part = part_begun (slice_get tokens) params c.args.depth c.args.at (rule_body_of tokens c.args.at params variable begins refl (λ b. refl)) in
    let on = c.in_ok-first.ensures.goes_on in
    record {
      loop = loop_as (λ os. ap variables_value (vars_first c.new-all.result.items _ c.in_ok-first.first os c.new-all.ensures.items c.in_ok-push.ensures.items)) (loop_begins (rule_taken c.in_ok-first.ensures.reads on.0 part) (λ os. refl));
      after = omega (arith, on.0);
      within = omega (arith, on.1);
    }

pub returns-in_err-param-clause-reads : goal.returns-in_err-param-clause-reads
returns-in_err-param-clause-reads c =
    let t = rw c.in-Some.is at c.in_ok-take_if.ensures.takes in
    rw (broke _ c.from_residual-in_err-param.ensures.1) (loop_rule_fails c.loop-all.invariant.loop (omega arith) (opened params_tail t refl refl (body_of params_tail (present t) refl (λ b. refl))) tt _ c.in_err-param.ensures.reads)

pub loop-all-preserved : goal.loop-all-preserved
loop-all-preserved c =
    let t = rw c.in-Some.is at c.in_ok-take_if.ensures.takes in
    let on = c.in_ok-param.ensures.goes_on in
    let part = rule_taken c.in_ok-param.ensures.reads on.0 (opened params_tail t refl refl (body_of params_tail (present t) refl (λ b. refl))) in
    record {
      loop = loop_as (λ os. ap variables_value (vars_more c.loop-all.all.items _ c.in_ok-param.param os c.in_ok-push-2.ensures.items)) (loop_goes_on refl c.loop-all.invariant.loop (omega (arith, on.0)) part (λ os. refl));
      after = omega (arith, on.0, c.loop-all.invariant.after);
      within = omega (arith, on.1);
    }

pub returns-clause-reads : goal.returns-clause-reads
returns-clause-reads c =
    let none = rw c.in_default.is at c.in_ok-take_if.ensures.takes in
    subst (λ xs. Gives (slice_get c.args.tokens.now) params c.args.depth c.args.at (variables_value xs) c.loop-all.next c.args.depth) (vars_whole c.loop-all.all.items) (loop_ends [] refl c.loop-all.invariant.loop refl (no_body_of params_tail none refl (λ b. refl)))
