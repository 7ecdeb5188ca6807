use Rattle.std.proofs.Common.{map}
use Rattle.json.specs.Print.{escape_byte}
use Rattle.world_save_rows.specs.Seen.{row_seen}
use Rattle.world_save_text.proofs.Writings.{mapped, then}
use Rattle.world_save_text.proofs.document.write_by_rows.Goals as goal

pub returns : goal.returns
unfolding escape_byte
returns c = mapped c.write_after_counts.result c.write_after_counts.ensures (λ w pipes threads. then c.in_ok-raw.ensures (then c.in_ok-write_rows.ensures (w (map row_seen c.args.rows.now) pipes threads)))
