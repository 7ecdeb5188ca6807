use Rattle.std.proofs.Common.{◌∙◌}
use Rattle.thread_core_effects.proofs.Lists.{some_null_is}
use Rattle.thread_core_effects.proofs.readers.some_null.Goals as goal

pub returns : goal.returns
returns c = c.any_null.ensures ∙ some_null_is c.args.values.now
