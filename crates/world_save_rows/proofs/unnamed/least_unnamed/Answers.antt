use Rattle.std.proofs.Common.{subst}
use Rattle.world_save_rows.specs.Least.{IsLeastOf, IsAmong}
use Rattle.world_save_rows.proofs.AllTags.{least_is}
use Rattle.world_save_rows.proofs.unnamed.least_unnamed.Goals as goal

pub returns : goal.returns
returns c =
    least_is c.args.names.now c.args.files.now c.facts.ensures c.args.homes.now c.requires c.least_among.result
    (subst (λ n. IsLeastOf (IsAmong n c.args.homes.now) c.least_among.result) c.count.ensures c.least_among.ensures)
