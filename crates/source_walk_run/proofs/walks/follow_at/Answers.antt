use Rattle.std.proofs.Common.{length, refl, arith}
use Rattle.std.proofs.lemmas.Option.{slice_get_read}
use Rattle.std.proofs.lemmas.Result.{on_ok_weaker}
use Rattle.lam_resolve_tree.specs.Tree.{resolved_tree}
use Rattle.source_walk_run.proofs.Placing.{follows_set, follows_past}
use Rattle.source_walk_run.proofs.walks.follow_at.Goals as goal

pub follow_turn-requires : goal.follow_turn-requires
follow_turn-requires c =
    c.requires c.args.thread c.index_mut.result.now (slice_get_read c.args.walks.now.items (length c.args.walks.now.items) c.args.thread c.index_mut.result.now refl (omega arith) c.index_mut.ensures.value)

pub returns-then-thread-len : goal.returns-then-thread-len
returns-then-thread-len c =
    on_ok_weaker c.follow_turn.result
    (λ h. follows_set (resolved_tree c.args.program.now) c.args.thread c.args.what.now c.args.walks.now.items c.index_mut.result.now c.follow_turn.new.follower (omega arith) c.index_mut.ensures.value h) c.follow_turn.ensures

pub returns-else-thread-len : goal.returns-else-thread-len
returns-else-thread-len c = follows_past (resolved_tree c.args.program.now) c.args.thread c.args.what.now c.args.walks.now.items (omega arith)
