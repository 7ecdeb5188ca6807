use Rattle.std.proofs.lemmas.Result.{IfOk-weaker}
use Rattle.thread_core_answers.proofs.Keeping.{answer_keeps}
use Rattle.thread_core_answers.proofs.pauses.prepare_by.Goals as goal

pub returns-clause-kept : goal.returns-clause-kept
returns-clause-kept c =
    IfOk-weaker c.with_memory.result _ _
    (λ p h s a t k. answer_keeps c.args.code.now c.args.thread p.after c.args.ask.now c.args.answer s a h t k)
    c.with_memory.ensures.after
