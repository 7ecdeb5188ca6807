use Rattle.std.proofs.Common.{sym, ◌∙◌}
use Rattle.thread_host_run.proofs.Touching.{of_quiet}
use Rattle.thread_host_run.proofs.ready_list.after_ask.Goals as goal

pub returns-else-touches_others-clause-lists : goal.returns-else-touches_others-clause-lists
returns-else-touches_others-clause-lists c = λ before e turn is lists.
    c.after_quiet_turn.ensures.lists before e turn (of_quiet c.args.ask.now e.what (sym c.touches_others.ensures ∙ c.if-touches_others.false) is) lists
