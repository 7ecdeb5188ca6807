use Rattle.lam_resolve_tree.specs.Tree.{resolved_tree}
use Rattle.source_walk_parts.specs.States.{state_of}
use Rattle.source_walk_follow.proofs.Standing.{makes_other}
use Rattle.source_walk_follow.proofs.Compared.{not_made, so_made}
use Rattle.source_walk_follow.proofs.turns.compare.Goals as goal

pub returns-then-not-same : goal.returns-then-not-same
returns-then-not-same c =
    makes_other (resolved_tree c.args.program.now) (state_of c.args.w.now) c.args.control.now c.args.ask.now c.requires (not_made c.in_ok-same.same _ c.if-not-same.true c.in_ok-same.ensures)

pub returns : goal.returns
returns c = c.in_ok-next.ensures (resolved_tree c.args.program.now) (so_made c.in_ok-same.same _ c.if-not-same.false c.in_ok-same.ensures)
