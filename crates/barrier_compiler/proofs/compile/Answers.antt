use Rattle.lam_resolve_tree.specs.Tree.{resolved_tree}
use Rattle.region_check.specs.Seen.{checked_tree}
use Rattle.barrier_compiler.proofs.Made.{made_ok, made_err}
use Rattle.barrier_compiler.proofs.Acts.{acts_of}
use Rattle.barrier_compiler.proofs.compile.Goals as goal

pub returns-clause-ok : goal.returns-clause-ok
returns-clause-ok c = made_ok (checked_tree c.args.c.now) (resolved_tree c.in_ok-program.program) c.in_ok-program.ensures.resolved c.emit.result c.emit.ensures.ok

pub returns-clause-long : goal.returns-clause-long
returns-clause-long c = made_err (checked_tree c.args.c.now) (resolved_tree c.in_ok-program.program) c.in_ok-program.ensures.resolved c.emit.result c.emit.ensures.fault

pub returns-clause-acts : goal.returns-clause-acts
returns-clause-acts c = acts_of (checked_tree c.args.c.now) c.resolves.ensures.typed c.resolves.ensures.regions c.compiled_code_acts_as_its_source.ensures

pub returns-in_err-program-clause-acts : goal.returns-in_err-program-clause-acts
returns-in_err-program-clause-acts c = acts_of (checked_tree c.args.c.now) c.resolves.ensures.typed c.resolves.ensures.regions c.compiled_code_acts_as_its_source.ensures
