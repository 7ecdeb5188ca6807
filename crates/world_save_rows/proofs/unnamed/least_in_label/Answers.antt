use Rattle.world_save_rows.proofs.Leasts.{label_least}
use Rattle.world_save_rows.proofs.unnamed.least_in_label.Goals as goal

pub returns : goal.returns
returns c = label_least c.args.count c.args.label.now c.least_from.result c.least_from-2.result c.lesser.result c.least_from.ensures c.least_from-2.ensures c.lesser.ensures
