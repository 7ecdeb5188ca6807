use Rattle.world_save_rows.proofs.Leasts.{home_least}
use Rattle.world_save_rows.proofs.unnamed.least_in_home.Goals as goal

pub returns : goal.returns
returns c = home_least c.args.count c.args.home c.least_in_label.result c.least_in_label-2.result c.lesser.result c.least_in_label.ensures c.least_in_label-2.ensures c.lesser.ensures
