use Rattle.std.proofs.Common.{◌-◌, ◌^◌}
use Rattle.std.proofs.lemmas.Result.{on_ok_weaker}
use Rattle.lam_resolve_tree.specs.Tree.{resolved_tree}
use Rattle.source_walk_run.proofs.OneMore.{kept_event, room, rooms}
use Rattle.source_walk_run.proofs.turns_pass.WalkerKeepsKept.keep.Goals as goal

pub add_turn-added-requires : goal.add_turn-added-requires
add_turn-added-requires c =
    record {
      asks = room (resolved_tree c.args.self.now.program.now) c.args.self.now.starts.now c.args.self.now.turns.now c.args._turn (2 ^ 64 - 1) c.args.kept.now c.requires.few c.requires.before;
      walks = rooms (resolved_tree c.args.self.now.program.now) c.args.self.now.starts.now c.args.self.now.turns.now c.args._turn (2 ^ 64 - 1) c.args.kept.now c.requires.few c.requires.before;
    }

pub returns : goal.returns
returns c =
    on_ok_weaker c.add_turn-added.result
    (kept_event (resolved_tree c.args.self.now.program.now) c.args.self.now.starts.now c.args.self.now.turns.now c.args._turn c.args.event c.args._world.now c.args.kept.now c.add_turn-added.new.kept) c.add_turn-added.ensures
