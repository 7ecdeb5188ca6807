use Rattle.json.specs.Print.{escape_byte}
use Rattle.world_save_text.proofs.Writings.{mapped, then}
use Rattle.world_save_text.proofs.Written.{as_label, as_number}
use Rattle.world_save_text.proofs.tree.write_place.Goals as goal

pub returns : goal.returns
unfolding escape_byte
returns c =
    mapped c.raw-5.result c.raw-5.ensures (λ w.
    then c.in_ok-raw.ensures (then (as_label c.args.names.now c.own.ensures c.in_ok-label.ensures)
    (then c.in_ok-raw-2.ensures (then (as_label c.args.names.now c.maker.ensures c.in_ok-label-2.ensures)
    (then c.in_ok-raw-3.ensures (then (as_number c.n.ensures c.in_ok-number.ensures)
    (then c.in_ok-raw-4.ensures (then c.in_ok-write_path.ensures w))))))))
