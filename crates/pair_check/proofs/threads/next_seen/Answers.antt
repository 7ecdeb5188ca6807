use Rattle.std.proofs.Common.{sym, ap, ◌∙◌, arith}
use Rattle.flow_labels.specs.declared.Label.{Label}
use Rattle.flow_labels.specs.Flow.{seen}
use Rattle.lam_machine_terms.specs.Views.{is_seen}
use Rattle.pair_check.proofs.WalkLemmas.{found_at}
use Rattle.pair_check.proofs.threads.next_seen.Goals as goal

pub returns-then-seen : goal.returns-then-seen
returns-then-seen c = (
  omega arith,
  λ k there.
      found_at (is_seen c.args.observer.now) c.args.list.now c.args.from c.loop-at.at c.index-list-at.result c.loop-at.invariant (omega arith) c.index-list-at.is
      (sym (ap (λ (l : Label). seen l c.args.observer.now) c.label.ensures) ∙ sym c.seen.ensures ∙ c.if-seen.true) k there,
)
