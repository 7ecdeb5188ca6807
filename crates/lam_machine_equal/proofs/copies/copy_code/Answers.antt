use Rattle.std.proofs.Common.{◌∙◌}
use Rattle.lam_machine_equal.proofs.Kept.{equal_parts_keep}
use Rattle.lam_machine_equal.proofs.copies.copy_code.Goals as goal

pub new-requires : goal.new-requires
new-requires c =
    equal_parts_keep c.args.code.now _ _ _ (c.in_ok-units.ensures ∙ c.units.ensures) (c.from_vec.ensures ∙ c.in_ok-constants.ensures ∙ c.constants.ensures)
    (c.in_ok-classes.ensures ∙ c.classes.ensures) c.requires
