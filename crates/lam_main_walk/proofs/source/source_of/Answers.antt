use Rattle.lam_main_walk.proofs.source.source_of.Goals as goal

pub returns-clause-found : goal.returns-clause-found
returns-clause-found c = c.source_in-source.ensures.found c.args.bytes.now c.in_ok-checked.ensures.fine

pub returns-clause-refused : goal.returns-clause-refused
returns-clause-refused c = c.source_in-source.ensures.refused c.args.bytes.now c.in_ok-checked.ensures.fine
