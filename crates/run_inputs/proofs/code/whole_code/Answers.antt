use Rattle.region_check.specs.Seen.{checked_tree}
use Rattle.run_inputs.proofs.GuardedCode.{resolved_guarded}
use Rattle.run_inputs.proofs.code.whole_code.Goals as goal

pub of-requires : goal.of-requires
of-requires c = resolved_guarded (checked_tree c.args.checked.now) c.in-Ok.code c.resolves.ensures.typed c.resolves.ensures.regions c.in-Ok.ensures.ok
