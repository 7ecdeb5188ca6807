use Rattle.std.proofs.Common.{arith, ◌∙◌, ◌-◌}
use Rattle.barrier_compiler_ops.proofs.Arms.{given_back, none_left, all_left, one_less}
use Rattle.barrier_compiler_ops.proofs.blocks.emit_returns.Goals as goal

pub loop-left-init : goal.loop-left-init
loop-left-init c =
    record {
      within = grind (arith, c.len-left.ensures, c.args.held.now.ok.0);
      goes = all_left _ c.args.held.now.items c.len-left.result (c.len-left.ensures ∙ c.args.held.now.ok.0);
    }

pub loop-left-preserved : goal.loop-left-preserved
loop-left-preserved c =
    record {
      within = omega (arith, c.loop-left.invariant.within);
      goes = given_back _ c.args.held.now.items (c.loop-left.left - 1) c.index.result.now (omega (arith, c.loop-left.invariant.within, c.loop-left-test.true)) c.index.ensures (one_less c.args.held.now.items c.loop-left.left (omega arith) c.loop-left.invariant.goes) c.load.ensures c.push.ensures;
    }

pub returns : goal.returns
returns c = none_left _ c.args.held.now.items c.loop-left.left (omega arith) c.loop-left.invariant.goes
