use Rattle.region_check.specs.Seen.{checked_tree}
use Rattle.lam_resolve_laws.proofs.Laws.{resolves, resolves_typed, resolves_slots, resolves_regions, resolves_limits, resolves_reads}
use Rattle.lam_resolve_laws.proofs.resolves.Goals as goal

pub returns-clause-some : goal.returns-clause-some
returns-clause-some c = resolves (checked_tree c.args.c.now) c.program-tree.ensures.typed c.program-tree.ensures.legal

pub returns-clause-typed : goal.returns-clause-typed
returns-clause-typed c = resolves_typed (checked_tree c.args.c.now) c.program-tree.ensures.typed c.program-tree.ensures.legal

pub returns-clause-slots : goal.returns-clause-slots
returns-clause-slots c = resolves_slots (checked_tree c.args.c.now) c.program-tree.ensures.typed c.program-tree.ensures.legal

pub returns-clause-regions : goal.returns-clause-regions
returns-clause-regions c = resolves_regions (checked_tree c.args.c.now) c.program-tree.ensures.typed c.program-tree.ensures.legal

pub returns-clause-limits : goal.returns-clause-limits
returns-clause-limits c = resolves_limits (checked_tree c.args.c.now) c.program-tree.ensures.typed c.program-tree.ensures.legal

pub returns-clause-reads : goal.returns-clause-reads
returns-clause-reads c = resolves_reads (checked_tree c.args.c.now) c.program-tree.ensures.typed c.program-tree.ensures.legal
