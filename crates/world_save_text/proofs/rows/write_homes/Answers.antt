use Rattle.world_save_text.proofs.Writings.{mapped, then}
use Rattle.world_save_text.proofs.rows.write_homes.Goals as goal

pub returns : goal.returns
returns c = mapped c.write_each_home.result c.write_each_home.ensures (λ w. then c.in_ok-raw.ensures w)
