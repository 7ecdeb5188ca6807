use Rattle.std.specs.Fmt.{digits}
use Rattle.json.specs.Print.{escape_byte}
use Rattle.world_save_text.proofs.Writings.{mapped, then}
use Rattle.world_save_text.proofs.document.write_after_counts.Goals as goal

pub returns : goal.returns
unfolding escape_byte digits
returns c =
    mapped c.raw-7.result c.raw-7.ensures (λ w rows pipes threads.
    then c.in_ok-raw.ensures (then c.in_ok-raw-2.ensures (then c.in_ok-raw-3.ensures (then c.in_ok-write_tags.ensures
    (then c.in_ok-raw-4.ensures (then c.in_ok-raw-5.ensures (then c.in_ok-raw-6.ensures (then c.in_ok-write_tree.ensures w))))))))
