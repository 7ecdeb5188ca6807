use Rattle.std.proofs.Common.{◌∙◌}
use Rattle.region_check.proofs.Sets.{contains_texts}
use Rattle.region_check.proofs.has_name.Goals as goal

pub returns : goal.returns
returns c = c.contains.ensures ∙ contains_texts c.args.x.now c.args.own.now
