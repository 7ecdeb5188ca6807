use Rattle.std.proofs.Common.{◌∷◌, sym, ap, ◌∙◌, subst, slice_get, refl, [], arith}
use Rattle.lam_syntax.specs.Tree.{ids_tree}
use Rattle.lam_grammar.specs.Table.{names, names_tail}
use Rattle.lam_grammar.specs.Meaning.{ids_value}
use Rattle.lam_parser_tokens.specs.Reading.{Gives}
use Rattle.lam_parser_tokens.proofs.Rules.{broke, mark_taken, present, body_of, no_body_of, opened, left_out, loop_begins, loop_goes_on, loop_ends, loop_mark_fails}
use Rattle.lam_parser_parts.proofs.Steps.{loop_as}
use Rattle.lam_parser_parts.proofs.NameLists.{ids_before, ids_first, ids_more, ids_whole}
use Rattle.lam_parser_parts.proofs.variables.names.Goals as goal

pub returns-in_default-clause-reads : goal.returns-in_default-clause-reads
returns-in_default-clause-reads c =
    let none = rw c.in_default.is at c.in_ok-first.ensures.takes in
    subst (λ xs. Gives (slice_get c.args.tokens.now) names c.args.depth c.args.at (ids_value (ids_tree xs)) c.args.at c.args.depth) (sym c.new-all.ensures.items) (left_out (slice_get c.args.tokens.now) names c.args.depth c.args.at refl (no_body_of names none refl (λ b. refl)))

pub loop-all-init : goal.loop-all-init
loop-all-init c =
    let t = rw c.in-Some.is at c.in_ok-first.ensures.takes in
    let part = opened names t refl refl (body_of names (present t) refl (λ b. refl)) in
    record {
      loop = loop_as (λ os. ap ids_value (ap (λ x. x ∷ os) (sym c.in_ok-name_of.ensures) ∙ ids_first c.new-all.result.items _ c.in_ok-name_of.field-0 os c.new-all.ensures.items c.in_ok-push.ensures.items)) (loop_begins part (λ os. refl));
      after = omega arith;
      within = omega (arith, rw c.in-Some.is at c.in_ok-first.ensures.within);
    }

pub returns-in_err-take_name-clause-reads : goal.returns-in_err-take_name-clause-reads
returns-in_err-take_name-clause-reads c =
    let t = rw c.in-Some-2.is at c.in_ok-take_if.ensures.takes in
    rw (broke _ c.from_residual-in_err-take_name.ensures.1) (loop_mark_fails c.loop-all.invariant.loop (omega arith) (opened names_tail t refl refl (body_of names_tail (present t) refl (λ b. refl))) tt _ c.in_err-take_name.ensures.takes)

pub loop-all-preserved : goal.loop-all-preserved
loop-all-preserved c =
    let t = rw c.in-Some-2.is at c.in_ok-take_if.ensures.takes in
    let named = c.in_ok-take_name.ensures.takes in
    let items = c.loop-all.all.items in
    let part = mark_taken named.1 refl (opened names_tail t refl refl (body_of names_tail (present t) refl (λ b. refl))) in
    record {
      loop = loop_as (λ os. ap ids_value (ap (λ x. ids_before items (x ∷ os)) (sym named.2) ∙ ids_more items _ c.in_ok-take_name.field-0 os c.in_ok-push-2.ensures.items)) (loop_goes_on refl c.loop-all.invariant.loop (omega arith) part (λ os. refl));
      after = omega (arith, c.loop-all.invariant.after);
      within = omega (arith, c.in_ok-take_name.ensures.within);
    }

pub returns-clause-reads : goal.returns-clause-reads
returns-clause-reads c =
    let none = rw c.in_default-2.is at c.in_ok-take_if.ensures.takes in
    subst (λ xs. Gives (slice_get c.args.tokens.now) names c.args.depth c.args.at (ids_value xs) c.loop-all.next c.args.depth) (ids_whole c.loop-all.all.items) (loop_ends [] refl c.loop-all.invariant.loop refl (no_body_of names_tail none refl (λ b. refl)))
