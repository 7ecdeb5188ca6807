use Rattle.std.proofs.Common.{map, sym, ◌∙◌}
use Rattle.world_save_items.specs.Steps.{found}
use Rattle.world_save_text.proofs.Openings.{bad_entry, position_is, bad_here, bad_later, none_bad}
use Rattle.world_save_text.proofs.paths.first_bad_entry.Goals as goal

pub loop-at-init : goal.loop-at-init
loop-at-init c = sym (position_is bad_entry (map found c.args.steps.now))
