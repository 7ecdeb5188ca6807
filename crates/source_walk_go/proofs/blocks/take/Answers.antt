use Rattle.std.proofs.Common.{ap, ◌∙◌}
use Rattle.lam_value.specs.declared.values.Value.{Value}
use Rattle.source_walk_parts.specs.States.{state_of, local_set}
use Rattle.source_walk_go.proofs.BlockFrames.{takes_goes}
use Rattle.source_walk_go.proofs.blocks.take.Goals as goal

pub returns-in-Ok : goal.returns-in-Ok
returns-in-Ok c = λ r.
    takes_goes r (state_of c.args.w.now) c.args.depth c.args.body c.args.slot c.args.v c.monitor-control.result (state_of c.set_local.new.w) (state_of c.wait_if_asked.new.w) c.monitor-control.ensures
    (c.set_local.ensures ∙ ap (λ (x : Value). local_set (state_of c.args.w.now) c.args.slot x) c.in_ok-kept.ensures) c.in-Ok.ensures
