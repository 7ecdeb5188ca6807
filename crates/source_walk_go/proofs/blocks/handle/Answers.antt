use Rattle.std.proofs.Common.{ap, ◌∙◌}
use Rattle.lam_value.specs.declared.values.Value.{Value}
use Rattle.source_walk_parts.specs.States.{state_of, local_set}
use Rattle.source_walk_go.proofs.BlockFrames.{handles_goes}
use Rattle.source_walk_go.proofs.blocks.handle.Goals as goal

pub returns : goal.returns
returns c = λ v r.
    handles_goes r (state_of c.args.w.now) c.args.depth c.args.region v c.args.fault c.args.outside (state_of c.set_local.new.w) (state_of c.push.new.w)
    (c.set_local.ensures ∙ ap (λ (x : Value). local_set (state_of c.args.w.now) c.args.region.catch_slot x) c.number_of.ensures) c.in_ok-push.ensures
