use Rattle.std.proofs.Common.{true, false, sym, ◌∙◌, arith}
use Rattle.lam_resolve_tree.specs.Tree.{types_tree}
use Rattle.source_walk_run.proofs.Sorts.{as_tested, left_none, left_all}
use Rattle.source_walk_run.proofs.entries.each_is_of.Goals as goal

pub returns-then-not-is_of : goal.returns-then-not-is_of
returns-then-not-is_of c =
    as_tested false (types_tree c.args.types.now) c.args.args.now
    (left_none c.args.types.now c.args.args.now c.loop-at.at c.index-types-at.result c.index-args-at.result c.loop-at-test.true c.requires c.index-types-at.is c.index-args-at.is (sym c.is_of.ensures ∙ c.if-not-is_of.true) c.loop-at.invariant)

pub returns : goal.returns
returns c = as_tested true (types_tree c.args.types.now) c.args.args.now (left_all c.args.types.now c.args.args.now c.loop-at.at (omega arith) c.requires c.loop-at.invariant)
