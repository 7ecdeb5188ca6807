use Rattle.world_save_text.proofs.Writings.{mapped, then}
use Rattle.world_save_text.proofs.tags.write_tags.Goals as goal

pub returns : goal.returns
returns c = mapped c.write_each.result c.write_each.ensures (λ w. then c.in_ok-raw.ensures w)
