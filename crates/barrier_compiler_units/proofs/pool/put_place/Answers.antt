use Rattle.barrier_compiler_units.proofs.pool.put_place.Goals as goal

pub returns-clause-ok : goal.returns-clause-ok
returns-clause-ok c = c.in_ok-insert.ensures.updates.0
