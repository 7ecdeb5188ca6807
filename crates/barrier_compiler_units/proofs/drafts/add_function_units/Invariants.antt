use Rattle.std.proofs.Common.{drop, map}
use Rattle.lam_resolve_tree.specs.Tree.{functions_tree}
use Rattle.lam_meaning.specs.Scheme.{function_draft}
use Rattle.barrier_compiler_units.specs.Adds.{Goes}
use Rattle.barrier_compiler_units.proofs.drafts.add_function_units.Given as goal

abbrev pub invariant-loop-f : goal.invariant-loop-f
invariant-loop-f l = Goes l.initial.units l.units (map function_draft (functions_tree l.functions.items)) (map function_draft (functions_tree (drop l.f-index l.functions.items)))
