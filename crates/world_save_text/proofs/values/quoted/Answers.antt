use Rattle.world_save_text.proofs.Writings.{mapped, then}
use Rattle.world_save_text.proofs.values.quoted.Goals as goal

pub returns : goal.returns
returns c = mapped c.raw-2.result c.raw-2.ensures (λ w. then c.in_ok-raw.ensures (then c.in_ok-escaped.ensures w))
