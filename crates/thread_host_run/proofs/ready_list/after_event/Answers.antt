use Rattle.std.proofs.Common.{◌∙◌, refl, sym, ap, subst}
use Rattle.thread_host_run.specs.Kept.{IsAsk}
use Rattle.thread_host_run.specs.Quiet.{is_quiet}
use Rattle.thread_host_run.proofs.ready_list.after_event.Goals as goal

pub returns-in-Private-clause-lists : goal.returns-in-Private-clause-lists
returns-in-Private-clause-lists c = λ before e turn is lists. c.after_quiet_turn.ensures.lists before e turn (ap is_quiet (is ∙ c.in-Private.is)) lists

pub returns-in-Asked-clause-lists : goal.returns-in-Asked-clause-lists
returns-in-Asked-clause-lists c = λ before e turn is lists. c.after_ask.ensures.lists before e turn (subst (IsAsk c.in-Asked.ask) (sym (is ∙ c.in-Asked.is)) refl) lists
