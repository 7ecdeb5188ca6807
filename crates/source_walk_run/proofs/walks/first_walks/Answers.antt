use Rattle.std.proofs.Common.{◌≡◌, ℕ, [], length, get_or, refl, ◌∙◌, subst, ap, arith}
use Rattle.std.proofs.lemmas.Option.{slice_get_read}
use Rattle.lam_resolve_tree.specs.Tree.{resolved_tree}
use Rattle.source_walk_run.specs.Walking.{IsMeeting}
use Rattle.source_walk_run.proofs.Placing.{one_more}
use Rattle.source_walk_run.proofs.walks.first_walks.Goals as goal

pub loop-start-preserved : goal.loop-start-preserved
loop-start-preserved c =
    let len = c.len-thread.ensures in
    let many = c.loop-start.walks.ok.0 in
    let same : c.len-thread.result ≡ length c.loop-start.walks.items = omega (arith, len, many) in
    one_more (resolved_tree c.args.program.now) c.args.starts.now c.args.turns.now c.loop-start.start-index c.loop-start.walks.items c.loop-start.invariant c.start-item.result c.in_ok-walk.walk
    (slice_get_read c.args.starts.now (length c.args.starts.now) c.loop-start.start-index c.start-item.result refl c.loop-start-test.true c.start-item.is)
    (subst (λ (n : ℕ). IsMeeting (resolved_tree c.args.program.now) n c.start-item.result [] c.in_ok-walk.walk) (c.turns_at-units.ensures ∙ ap (λ n. get_or c.args.turns.now n 0) same) c.in_ok-walk.ensures.meets) c.in_ok-walk.ensures.asks c.push.new.self.items c.in_ok-push.ensures.items
