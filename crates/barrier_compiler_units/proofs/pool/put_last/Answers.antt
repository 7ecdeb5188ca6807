use Rattle.barrier_compiler_ops.specs.Views.{constant_value}
use Rattle.barrier_compiler_units.proofs.Places.{kept_more, placed_last}
use Rattle.barrier_compiler_units.proofs.pool.put_last.Goals as goal

pub returns-in-Ok-clause-kept : goal.returns-in-Ok-clause-kept
returns-in-Ok-clause-kept c =
    kept_more c.args.places.now c.put_place.new.places c.args.values.now c.push.new.self c.in_ok-key.key c.in_ok-value_of.field-0 (constant_value c.args.constant.now) c.len-place.result c.requires.kept c.requires.new c.in_ok-key.ensures c.in_ok-value_of.ensures c.len-place.ensures c.in_ok-push.ensures.ok
    c.in-Ok.ensures.ok

pub returns-in-Ok-clause-placed : goal.returns-in-Ok-clause-placed
returns-in-Ok-clause-placed c = placed_last c.args.values.now c.push.new.self c.args.constant.now c.in_ok-value_of.field-0 c.len-place.result c.requires.new c.in_ok-value_of.ensures c.len-place.ensures c.in_ok-push.ensures.ok
