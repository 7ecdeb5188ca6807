use Rattle.std.proofs.Common.{map}
use Rattle.json.specs.Print.{escape_byte}
use Rattle.world_save_terms.specs.Rows.{row_of}
use Rattle.world_save_rows.specs.Seen.{home_seen}
use Rattle.world_save_text.proofs.Writings.{mapped, then}
use Rattle.world_save_text.proofs.document.write_by_homes.Goals as goal

pub returns : goal.returns
unfolding escape_byte
returns c =
    mapped c.write_after_counts.result c.write_after_counts.ensures (λ w pipes threads.
    then c.in_ok-raw.ensures (then c.in_ok-write_homes.ensures (w (map (row_of c.args.contents.now.names.now) (map home_seen c.args.homes.now)) pipes threads)))
