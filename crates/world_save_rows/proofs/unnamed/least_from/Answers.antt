use Rattle.std.proofs.Common.{ap, ◌∙◌, find}
use Rattle.std.specs.Prelude.{nat_le}
use Rattle.world_save_rows.proofs.Leasts.{found_least}
use Rattle.world_save_rows.proofs.unnamed.least_from.Goals as goal

pub returns : goal.returns
returns c = found_least c.args.count c.args.set.now c.find_from.result (c.find_from.ensures ∙ ap (find (nat_le c.args.count)) c.tags.ensures)
