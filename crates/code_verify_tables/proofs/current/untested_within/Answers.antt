use Rattle.code_verify_tables.proofs.Deepest.{in_back}
use Rattle.code_verify_tables.proofs.current.untested_within.Goals as goal

pub returns-then-deep-gt0-clause-same : goal.returns-then-deep-gt0-clause-same
returns-then-deep-gt0-clause-same c = in_back _ _ _ _ _ c.as_slices.ensures.items c.untested_in-deep.ensures.same
