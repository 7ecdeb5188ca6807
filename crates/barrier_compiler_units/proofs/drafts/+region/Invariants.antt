use Rattle.std.proofs.Common.{drop}
use Rattle.lam_resolve_tree.specs.Tree.{stmts_tree}
use Rattle.lam_meaning.specs.Scheme.{regions_in}
use Rattle.barrier_compiler_units.specs.Adds.{Goes}
use Rattle.barrier_compiler_units.proofs.drafts.+region.Given as goal

abbrev pub invariant-add_regions_in-loop-s : goal.invariant-add_regions_in-loop-s
invariant-add_regions_in-loop-s l = Goes l.initial.units l.units (regions_in (stmts_tree l.body.items)) (regions_in (stmts_tree (drop l.s-index l.body.items)))
