use Rattle.std.proofs.Common.{arith}
use Rattle.barrier_compiler_ops.proofs.ExprArms.{at_item}
use Rattle.barrier_compiler_units.proofs.Trees.{function_added, functions_done}
use Rattle.barrier_compiler_units.proofs.drafts.add_function_units.Goals as goal

pub loop-f-preserved : goal.loop-f-preserved
loop-f-preserved c =
    function_added _ c.args.functions.now.items c.loop-f.f-index c.f-item.result (grind (arith, c.deref-f-items.ensures.value)) (at_item _ _ c.loop-f.f-index c.f-item.result c.deref-f-items.ensures.value c.f-item.is) c.loop-f.invariant c.add_function.ensures

pub returns : goal.returns
returns c = functions_done _ c.args.functions.now.items c.loop-f.f-index (grind (arith, c.deref-f-items.ensures.value)) c.loop-f.invariant
