use Rattle.thread_core_ops.proofs.Many.{made_label}
use Rattle.thread_core_ops.proofs.operators.make_label.Goals as goal

pub returns-in-Fine : goal.returns-in-Fine
returns-in-Fine c =
    λ locals. made_label c.args.secrecy c.args.integrity c.args.stack.now c.in-Some.tags.now c.split_at.result.0.now c.split_at.result.1.now _ c.in-Some.ensures.0
    c.in-Some.ensures.1 c.split_at.ensures.front c.split_at.ensures.back c.in-Fine.ensures

pub returns-in-Faults : goal.returns-in-Faults
returns-in-Faults c =
    λ locals. made_label c.args.secrecy c.args.integrity c.args.stack.now c.in-Some.tags.now c.split_at.result.0.now c.split_at.result.1.now _ c.in-Some.ensures.0
    c.in-Some.ensures.1 c.split_at.ensures.front c.split_at.ensures.back c.in-Faults.ensures

pub returns-in-Wrong : goal.returns-in-Wrong
returns-in-Wrong c =
    λ locals. made_label c.args.secrecy c.args.integrity c.args.stack.now c.in-Some.tags.now c.split_at.result.0.now c.split_at.result.1.now _ c.in-Some.ensures.0
    c.in-Some.ensures.1 c.split_at.ensures.front c.split_at.ensures.back c.in-Wrong.ensures
