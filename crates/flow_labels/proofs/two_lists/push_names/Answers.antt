use Rattle.std.proofs.Common.{◌≡◌, ◌++◌, ◌∷◌, [], string_bytes, arith, lit<, ◌∙◌, ap}
use Rattle.flow_labels.specs.TwoLists.{tag_text}
use Rattle.flow_labels.proofs.JoinedLemmas.{first_written, later_written}
use Rattle.flow_labels.proofs.two_lists.push_names.Goals as goal
use Rattle.flow_labels.proofs.two_lists.push_names.Goals.{then-at-gt0+in_ok-push, else-at-gt0}

pub loop-at-preserved : goal.loop-at-preserved
loop-at-preserved c = elim c.if-at-gt0.branch [
  | then-at-gt0+in_ok-push w ↦
      let comma : string_bytes c.if-at-gt0.text ≡ string_bytes c.loop-at.text ++ 44 ∷ [] = ap string_bytes w.text-is ∙ w.in_ok-push.ensures.bytes ∙ ap (λ e. string_bytes c.loop-at.text ++ e) (w.in_ok-push.ensures.ascii (lit< tt)) in
      later_written (tag_text c.args.names.now) c.args.tags.now (string_bytes c.args.text.now) (string_bytes c.loop-at.text) (string_bytes c.if-at-gt0.text) _ c.loop-at.at c.index-tags-at.result (omega arith) (omega arith) c.index-tags-at.is c.loop-at.invariant comma c.in_ok-push_tag.ensures
  | else-at-gt0 w ↦
      first_written (tag_text c.args.names.now) c.args.tags.now (string_bytes c.args.text.now) (string_bytes c.loop-at.text) _ c.loop-at.at c.index-tags-at.result (omega arith) (omega arith) c.index-tags-at.is c.loop-at.invariant (c.in_ok-push_tag.ensures ∙ ap (λ t. string_bytes t ++ tag_text c.args.names.now c.index-tags-at.result) w.text-is)
]
