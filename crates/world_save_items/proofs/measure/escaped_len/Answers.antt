use Rattle.std.proofs.Common.{refl, arith}
use Rattle.world_save_items.proofs.Measuring.{text_size_is}
use Rattle.world_save_items.proofs.measure.escaped_len.Goals as goal

pub loop-b-init : goal.loop-b-init
loop-b-init c = (let e = text_size_is c.args.text.now in omega arith, refl)
