use Rattle.world_save_text.proofs.Writings.{mapped, then}
use Rattle.world_save_text.proofs.Written.{item_pieces}
use Rattle.world_save_text.proofs.tree.write_item.Goals as goal

pub returns : goal.returns
returns c =
    mapped c.write_place.result c.write_place.ensures (λ w.
    item_pieces c.args.names.now c.args.files.now c.args.later c.args.path.now c.args.step.now.kind c.args.step.now.name.now (then c.in_ok-comma.ensures (then c.in_ok-write_head.ensures w)))
