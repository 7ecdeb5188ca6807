use Rattle.std.proofs.Common.{◌∙◌}
use Rattle.thread_core_effects.proofs.Lists.{all_tags_is}
use Rattle.thread_core_ops.proofs.operators.are_tags.Goals as goal

pub returns : goal.returns
returns c = c.all_tags.ensures ∙ all_tags_is c.args.values.now
