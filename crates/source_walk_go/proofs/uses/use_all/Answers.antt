use Rattle.lam_resolve_tree.specs.Tree.{resolved_tree}
use Rattle.source_walk_parts.proofs.Steps.{if_ok}
use Rattle.source_walk_parts.specs.States.{state_of}
use Rattle.source_walk_go.proofs.Calls.{by_use}
use Rattle.source_walk_go.proofs.uses.use_all.Goals as goal

pub returns-in-Call : goal.returns-in-Call
returns-in-Call c = if_ok c.call.result _ _ c.call.ensures (λ d h. by_use c.in-Call.is h)

pub returns-in-Builtin : goal.returns-in-Builtin
returns-in-Builtin c = if_ok c.built_in.result _ _ c.built_in.ensures (λ d h. by_use c.in-Builtin.is (h (resolved_tree c.args.program.now)))

pub returns-in-Secrets : goal.returns-in-Secrets
returns-in-Secrets c = by_use c.in-Secrets.is (c.next_tags.ensures (resolved_tree c.args.program.now) (state_of c.args.w.now))

pub returns-in-Vouchers : goal.returns-in-Vouchers
returns-in-Vouchers c = if_ok c.labels.result _ _ c.labels.ensures (λ d h. by_use c.in-Vouchers.is (h (resolved_tree c.args.program.now) (state_of c.args.w.now)))

pub returns : goal.returns
returns c = by_use c.in-Spawn.is (c.spawn.ensures (resolved_tree c.args.program.now) (state_of c.args.w.now))
