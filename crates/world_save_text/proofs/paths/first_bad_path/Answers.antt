use Rattle.std.proofs.Common.{◌∙◌}
use Rattle.world_save_text.proofs.Openings.{first_bad}
use Rattle.world_save_text.proofs.paths.first_bad_path.Goals as goal

pub returns : goal.returns
returns c = c.first_bad_entry.ensures ∙ first_bad c.args.files.now c.facts.ensures c.args.steps.now c.requires
