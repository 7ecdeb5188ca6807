use Rattle.std.proofs.Common.{◌∙◌, ap, take}
use Rattle.world_save_terms.specs.Items.{below}
use Rattle.world_save_items.proofs.Walks.{any_way, found_one, cut_long}
use Rattle.world_save_items.proofs.traversal.find.Goals as goal

pub returns-clause-path : goal.returns-clause-path
returns-clause-path c = any_way c.go_on.result (c.in_ok-lengthen.ensures ∙ ap (λ p. below p c.args.entry.now) c.truncate.ensures.items)

pub returns-clause-steps : goal.returns-clause-steps
returns-clause-steps c =
    let path = take c.args.frame.now.cut c.args.trail.now.path.items in
    let known = c.path_len-bytes.ensures path (cut_long c.args.frame.now.cut c.args.trail.now.path.items c.requires.cut) c.requires.bytes in
    any_way c.go_on.result
    (found_one _ _ _ _ c.in_ok-push.ensures.items (λ i. record { cut = c.args.frame.now.cut; bytes = known i; entry = c.args.entry.now; kind = c.args.kind; name = c.args.name.now }))
