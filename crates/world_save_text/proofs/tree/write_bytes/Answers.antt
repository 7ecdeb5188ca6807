use Rattle.json.specs.Print.{escape_byte}
use Rattle.world_save_text.proofs.Writings.{mapped, then}
use Rattle.world_save_text.proofs.tree.write_bytes.Goals as goal

pub returns : goal.returns
unfolding escape_byte
returns c = mapped c.digits.result c.digits.ensures (λ w. then c.in_ok-raw.ensures w)
