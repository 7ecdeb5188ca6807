use Rattle.std.proofs.Common.{◌+◌, ap, sym, ◌∙◌, is_some, Some, refl}
use Rattle.lam_syntax.specs.Tree.{ids_tree}
use Rattle.lam_resolve_laws.specs.Resolved.{then_some, resolve_captures, slots_of, taken_over, locals_from, state_as, types_of}
use Rattle.lam_resolve_tables.specs.Tables.{vars}
use Rattle.lam_resolve_exprs.specs.Values.{locals}
use Rattle.lam_resolve_units.specs.Seen.{state, captured, entered_by}
use Rattle.lam_resolve_units.proofs.PartSteps.{may_enter, enter_done}
use Rattle.lam_resolve_units.proofs.units.enter.Goals as goal

pub resolve_captures-requires : goal.resolve_captures-requires
resolve_captures-requires c = ap is_some (sym (may_enter c.args.regions (locals c.args.scope.now) (ids_tree c.args.xs.now) c.requires).1) ∙ c.requires

pub returns : goal.returns
returns c =
    enter_done (resolve_captures (locals c.args.scope.now) (ids_tree c.args.xs.now)) (captured c.in_ok-found.found.items) c.args.regions (c.args.regions + 1) c.in_ok-captures.captures.items (vars c.in_ok-vars.vars.items)
    (locals c.in_ok-unit.unit.scope) (state c.in_ok-unit.unit.state) c.in_ok-found.ensures refl
    (c.in_ok-captures.ensures ∙ ap (λ l. slots_of (captured l)) c.as_slice.ensures.value)
    (c.in_ok-vars.ensures ∙ ap (λ l. taken_over (captured l)) c.as_slice-2.ensures.value)
    (c.in_ok-unit.ensures.scope ∙ ap (λ l. locals_from 0 (vars l)) c.as_slice-3.ensures.value)
    (c.in_ok-unit.ensures.state ∙ ap (λ l. state_as (types_of (vars l)) (c.args.regions + 1)) c.as_slice-3.ensures.value)
    ∙ ap (λ o. then_some o (λ cs. Some (entered_by cs c.args.regions))) (sym (may_enter c.args.regions (locals c.args.scope.now) (ids_tree c.args.xs.now) c.requires).1)
