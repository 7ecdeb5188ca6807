use Rattle.std.proofs.Common.{◌-◌, ◌^◌, ◌+◌, ap, lit<, arith}
use Rattle.lam_resolve_tree.specs.Tree.{resolved_tree}
use Rattle.source_walk_meets.specs.Births.{birth_of}
use Rattle.source_walk_run.proofs.OneMore.{few_begun, one_ask}
use Rattle.source_walk_run.proofs.turns_pass.add_turn.Goals as goal

pub follow_at-requires : goal.follow_at-requires
follow_at-requires c =
    few_begun (resolved_tree c.args.program.now) c.args.turns.now (2 ^ 64 - 1) c.args.kept.now.walks.items c.begin_started.new.walks.items (birth_of c.args.event.now.what) (lit< tt) c.in_ok-begin_started.ensures c.requires.walks

pub overflow_add-kept : goal.overflow_add-kept
overflow_add-kept c =
    let one = one_ask c.args.event.now.what in
    let asks = c.asks-more.ensures in
    let few = c.requires.asks in
    omega (arith, one, asks, few)

pub returns : goal.returns
returns c =
    record {
      between = c.begin_started.new.walks.items;
      begins = c.in_ok-begin_started.ensures;
      follows = c.in_ok-follow_at.ensures;
      asks = ap (λ n. c.args.kept.now.asks + n) c.asks-more.ensures;
    }
