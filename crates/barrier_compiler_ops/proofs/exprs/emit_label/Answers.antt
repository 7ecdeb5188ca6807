use Rattle.std.proofs.Common.{subst}
use Rattle.barrier_compiler_ops.specs.Emits.{IsCount}
use Rattle.barrier_compiler_ops.proofs.exprs.emit_label.Goals as goal

pub returns : goal.returns
returns c =
    record {
      secrecy = c.count-secrecy.result;
      integrity = c.count-integrity.result;
      s = subst (λ n. IsCount c.args.out.now c.count-secrecy.result n) c.len.ensures c.count-secrecy.ensures;
      i = subst (λ n. IsCount c.args.out.now c.count-integrity.result n) c.len-2.ensures c.count-integrity.ensures;
      emits = c.push.ensures;
    }
