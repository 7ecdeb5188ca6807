use Rattle.std.proofs.Common.{◌≡◌, ap, ◌∙◌, is_some}
use Rattle.lam_syntax.specs.Unplaced.{unplaced}
use Rattle.lam_resolve_tree.specs.Tree.{resolved_tree}
use Rattle.lam_resolve_tree.specs.Typing.{IsTypedTree}
use Rattle.lam_resolve_tree.specs.Regions.{AreNumbered}
use Rattle.lam_resolve_tree.specs.Slots.{SlotsDiffer}
use Rattle.lam_resolve_tree.specs.Limits.{WithinLimits}
use Rattle.lam_resolve_laws.specs.Resolved.{resolved}
use Rattle.lam_resolve_laws.specs.Names.{names_of, program_named}
use Rattle.lam_resolve_tables.proofs.Options.{if_ok}
use Rattle.lam_resolve.proofs.ProgramSteps.{holds_of}
use Rattle.region_check.specs.Seen.{checked_tree}
use Rattle.lam_resolve.proofs.checked.resolve.Goals as goal

pub resolve_program-requires : goal.resolve_program-requires
resolve_program-requires c = ap (λ p. is_some (resolved p)) c.program.ensures.tree ∙ c.resolves.ensures.some

pub returns-clause-resolved : goal.returns-clause-resolved
returns-clause-resolved c = if_ok c.resolve_program.result _ _ c.resolve_program.ensures (λ r e. e ∙ ap resolved c.program.ensures.tree)

pub returns-clause-typed : goal.returns-clause-typed
returns-clause-typed c =
    if_ok c.resolve_program.result _ _ c.resolve_program.ensures (λ r e. holds_of (resolved (checked_tree c.args.c.now)) (resolved_tree r) IsTypedTree (e ∙ ap resolved c.program.ensures.tree) c.resolves.ensures.typed)

pub returns-clause-slots : goal.returns-clause-slots
returns-clause-slots c =
    if_ok c.resolve_program.result _ _ c.resolve_program.ensures (λ r e. holds_of (resolved (checked_tree c.args.c.now)) (resolved_tree r) SlotsDiffer (e ∙ ap resolved c.program.ensures.tree) c.resolves.ensures.slots)

pub returns-clause-regions : goal.returns-clause-regions
returns-clause-regions c =
    if_ok c.resolve_program.result _ _ c.resolve_program.ensures (λ r e. holds_of (resolved (checked_tree c.args.c.now)) (resolved_tree r) AreNumbered (e ∙ ap resolved c.program.ensures.tree) c.resolves.ensures.regions)

pub returns-clause-limits : goal.returns-clause-limits
returns-clause-limits c =
    if_ok c.resolve_program.result _ _ c.resolve_program.ensures (λ r e. holds_of (resolved (checked_tree c.args.c.now)) (resolved_tree r) WithinLimits (e ∙ ap resolved c.program.ensures.tree) c.resolves.ensures.limits)

pub returns-clause-reads : goal.returns-clause-reads
returns-clause-reads c =
    if_ok c.resolve_program.result _ _ c.resolve_program.ensures
    (λ r e. holds_of (resolved (checked_tree c.args.c.now)) (resolved_tree r) (λ r. program_named (names_of (checked_tree c.args.c.now)) r ≡ unplaced (checked_tree c.args.c.now)) (e ∙ ap resolved c.program.ensures.tree) c.resolves.ensures.reads)
