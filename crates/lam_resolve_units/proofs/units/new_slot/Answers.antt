use Rattle.std.proofs.Common.{ap, sym, ◌∙◌, ◌++◌, ◌∷◌, []}
use Rattle.lam_resolve_tree.specs.Tree.{types_tree}
use Rattle.lam_resolve_laws.specs.Resolved.{state_as}
use Rattle.lam_resolve_tables.proofs.TableSteps.{types_push}
use Rattle.lam_resolve_units.proofs.UnitSteps.{length_types}
use Rattle.lam_resolve_units.proofs.units.new_slot.Goals as goal

pub returns-clause-slot : goal.returns-clause-slot
returns-clause-slot c = c.len-slot.ensures ∙ c.args.st.now.slots.ok.0 ∙ sym (length_types c.args.st.now.slots.items)

pub returns-clause-added : goal.returns-clause-added
returns-clause-added c =
    ap (λ ts. state_as ts c.args.st.now.regions)
    (ap types_tree c.in_ok-push.ensures.items ∙ types_push c.args.st.now.slots.items c.in_ok-value_type.field-0 ∙ ap (λ t. types_tree c.args.st.now.slots.items ++ t ∷ []) c.in_ok-value_type.ensures)
