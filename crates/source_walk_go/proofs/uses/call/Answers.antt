use Rattle.std.proofs.Common.{arith}
use Rattle.lam_resolve_tree.specs.Tree.{resolved_tree}
use Rattle.source_walk_parts.proofs.Steps.{if_ok}
use Rattle.source_walk_parts.specs.States.{state_of}
use Rattle.source_walk_go.proofs.Calls.{too_deep, call_spent, no_function, function_at, none_at}
use Rattle.source_walk_go.proofs.uses.call.Goals as goal

pub returns-then-w-ge-CALLS_LIMIT : goal.returns-then-w-ge-CALLS_LIMIT
returns-then-w-ge-CALLS_LIMIT c = too_deep (resolved_tree c.args.program.now) (state_of c.args.w.now) c.args.depth c.args.args c.args.function (omega arith)

pub returns-then-w-eq0 : goal.returns-then-w-eq0
returns-then-w-eq0 c = call_spent (resolved_tree c.args.program.now) (state_of c.args.w.now) c.args.depth c.args.args c.args.function (omega arith) (omega arith)

pub returns-in-None : goal.returns-in-None
returns-in-None c = no_function (resolved_tree c.args.program.now) (state_of c.args.w.now) c.args.depth c.args.args c.args.function (omega arith) (omega arith) (none_at c.deref.result.now c.args.program.now.functions.items c.args.function c.deref.ensures.value (c.in-None.ensures.lookup).3)

pub returns-in-Some : goal.returns-in-Some
returns-in-Some c = if_ok c.call_of.result _ _ c.call_of.ensures (λ d h. h (resolved_tree c.args.program.now) c.args.function (function_at c.deref.result.now c.args.program.now.functions.items c.args.function c.in-Some.callee.now c.deref.ensures.value ((c.in-Some.ensures.lookup).3).0 (c.in-Some.ensures.lookup).1))
