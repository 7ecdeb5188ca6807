use Rattle.std.proofs.Common.{◌∙◌, suc, drop, sym}
use Rattle.thread_steps.specs.Ops.{may_write}
use Rattle.thread_core_calls.proofs.Heads.{tested_none, tested_some}
use Rattle.thread_core_calls.proofs.access.write_barrier.Goals as goal

pub returns-in-None : goal.returns-in-None
returns-in-None c = λ locals. sym (tested_none c.args.stack.now c.args.below (may_write c.args.label.now) (sym c.in-None.ensures))

pub returns-in-Some : goal.returns-in-Some
returns-in-Some c =
    λ locals. c.writing.ensures locals c.args.stack.now (drop (suc c.args.below) c.args.stack.now)
    ∙ sym (tested_some c.args.stack.now c.args.below (may_write c.args.label.now) c.in-Some.v.now (sym c.in-Some.ensures))
