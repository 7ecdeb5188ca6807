use Rattle.std.proofs.Common.{length, refl, sym, ap, ◌∙◌, arith}
use Rattle.std.proofs.lemmas.Bool.{iff_false}
use Rattle.std.proofs.lemmas.Option.{slice_get_read}
use Rattle.flow_labels.specs.declared.Label.{Label}
use Rattle.flow_labels.specs.Flow.{seen}
use Rattle.lam_machine_terms.specs.Views.{is_seen}
use Rattle.pair_check.proofs.WalkLemmas.{left_out, both_apart, both_in, all_in}
use Rattle.pair_check.proofs.threads.same_seen.Goals.{then-seen+in-Some+else-not-same_context, else-seen}
use Rattle.pair_check.proofs.threads.same_seen.Goals as goal

pub returns-then-not-same_context : goal.returns-then-not-same_context
returns-then-not-same_context c =
    both_apart (is_seen c.args.observer.now) c.args.a.now c.args.b.now c.loop-context.context-index c.loop-context.next c.loop-context.invariant c.context-item.result c.index-b-at.result _ (omega arith) c.context-item.is
    (sym (ap (λ (l : Label). seen l c.args.observer.now) c.label.ensures) ∙ sym c.seen.ensures ∙ c.if-seen.true)
    (c.in-Some.ensures.1 c.index-b-at.result (slice_get_read c.args.b.now (length c.args.b.now) c.in-Some.at c.index-b-at.result refl c.in-Some.ensures.0 c.index-b-at.is))
    (iff_false c.same_context.ensures c.if-not-same_context.true)

pub loop-context-preserved : goal.loop-context-preserved
loop-context-preserved c =
    elim c.if-seen.branch [
      | then-seen+in-Some+else-not-same_context w ↦ rw w.next-is
          (both_in (is_seen c.args.observer.now) c.args.a.now c.args.b.now c.loop-context.context-index c.loop-context.next c.loop-context.invariant c.context-item.result w.index-b-at.result w.in-Some.at (omega arith) c.context-item.is
          (sym (ap (λ (l : Label). seen l c.args.observer.now) c.label.ensures) ∙ sym c.seen.ensures ∙ w.if-seen.true)
          (w.in-Some.ensures.1 w.index-b-at.result (slice_get_read c.args.b.now (length c.args.b.now) w.in-Some.at w.index-b-at.result refl w.in-Some.ensures.0 w.index-b-at.is))
          (w.same_context.ensures.0 w.if-not-same_context.false))
      | else-seen w ↦ rw w.next-is
          (left_out (is_seen c.args.observer.now) c.args.a.now c.args.b.now c.loop-context.context-index c.loop-context.next c.loop-context.invariant c.context-item.result (omega arith) c.context-item.is
          (sym (ap (λ (l : Label). seen l c.args.observer.now) c.label.ensures) ∙ sym c.seen.ensures ∙ w.if-seen.false))
    ]

pub returns : goal.returns
returns c =
    all_in (is_seen c.args.observer.now) c.args.a.now c.args.b.now c.loop-context.context-index c.loop-context.next c.loop-context.invariant (omega arith) c.is_none.result c.next_seen-2.result c.is_none.ensures c.next_seen-2.ensures
