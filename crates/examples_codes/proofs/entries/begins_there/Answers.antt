use Rattle.lam_resolve_tree.specs.Tree.{resolved_tree}
use Rattle.region_check.specs.Seen.{checked_tree}
use Rattle.lam_resolve_laws.specs.Resolved.{resolved}
use Rattle.examples_codes.proofs.FirstThread.{begins}
use Rattle.examples_codes.proofs.entries.begins_there.Goals as goal

pub returns : goal.returns
returns c = λ t r is.
    begins r (resolved_tree c.in_ok-program.program) (resolved (checked_tree c.args.checked.now)) c.args.run.now.code c.code.result.now c.args.run.now.start c.start.result.now c.threads.result.now c.in_ok-first.first c.in_ok-program.ensures.resolved is (c.has_entry-entry.ensures c.if-not-entry.false) c.in_ok-first.ensures c.code.ensures c.start.ensures c.threads.ensures.threads (c.is_alone-alone.ensures t)
