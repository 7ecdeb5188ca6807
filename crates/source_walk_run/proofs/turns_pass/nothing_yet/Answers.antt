use Rattle.std.proofs.Common.{refl}
use Rattle.lam_resolve_tree.specs.Tree.{resolved_tree}
use Rattle.source_walk_run.proofs.OneMore.{none_kept}
use Rattle.source_walk_run.proofs.turns_pass.nothing_yet.Goals as goal

pub returns : goal.returns
returns c = none_kept (resolved_tree c.args.who.now.program.now) c.args.who.now.starts.now c.args.who.now.turns.now _ c.in_ok-walks.ensures refl
