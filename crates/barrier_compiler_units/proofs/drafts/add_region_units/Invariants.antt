use Rattle.std.proofs.Common.{drop}
use Rattle.lam_resolve_tree.specs.Tree.{functions_tree}
use Rattle.lam_meaning.specs.Scheme.{all_regions}
use Rattle.barrier_compiler_units.specs.Adds.{Goes}
use Rattle.barrier_compiler_units.proofs.drafts.add_region_units.Given as goal

abbrev pub invariant-loop-f : goal.invariant-loop-f
invariant-loop-f l = Goes l.initial.units l.units (all_regions (functions_tree l.functions.items)) (all_regions (functions_tree (drop l.f-index l.functions.items)))
