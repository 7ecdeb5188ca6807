use Rattle.std.proofs.Common.{sym, ◌∙◌}
use Rattle.barrier_compiler_units.proofs.Places.{there, not_there}
use Rattle.barrier_compiler_units.proofs.pool.place_in.Goals as goal

pub returns-in-Some-clause-placed : goal.returns-in-Some-clause-placed
returns-in-Some-clause-placed c = there c.args.places.now c.args.values.now c.args.constant.now _ c.requires (sym c.in-Some.is ∙ c.copied.ensures ∙ c.get.ensures.value)

pub put_last-requires-clause-new : goal.put_last-requires-clause-new
put_last-requires-clause-new c = not_there c.args.places.now c.args.values.now c.args.constant.now c.requires (sym c.in-None.is ∙ c.copied.ensures ∙ c.get.ensures.value)
