use Rattle.std.proofs.Common.{◌∙◌, sym, ap}
use Rattle.std.proofs.lemmas.Result.{IfOk-weaker}
use Rattle.std.specs.Prelude.{drop}
use Rattle.thread_steps.specs.Next.{standing_in}
use Rattle.thread_core.specs.Turning.{asked, asked_in}
use Rattle.thread_core.proofs.Tops.{first_is, first_none}
use Rattle.thread_core.proofs.Untested.{context_exact, shared_same}
use Rattle.thread_core.proofs.threads.asked.Goals as goal

pub returns-in-None-clause-shared : goal.returns-in-None-clause-shared
returns-in-None-clause-shared c = λ e. sym (ap (asked_in c.args.code.now) (first_none c.args.thread.now.contexts (sym c.in-None.ensures)))

pub returns-in-None-clause-finds : goal.returns-in-None-clause-finds
returns-in-None-clause-finds c = λ e. sym (ap (asked_in c.args.code.now) (first_none c.args.thread.now.contexts (sym c.in-None.ensures)))

pub returns-in-Some-clause-shared : goal.returns-in-Some-clause-shared
returns-in-Some-clause-shared c =
    let first = first_is c.args.thread.now.contexts c.in-Some.c.now (sym c.in-Some.ensures) in
    IfOk-weaker c.context_ask.result _ _
    (λ a h e. h ∙ (shared_same c.args.code.now c.in-Some.c.now (sym (ap (standing_in c.args.code.now) first) ∙ e) ∙ sym (ap (asked_in c.args.code.now) first)))
    c.context_ask.ensures

pub returns-in-Some-clause-finds : goal.returns-in-Some-clause-finds
returns-in-Some-clause-finds c =
    let first = first_is c.args.thread.now.contexts c.in-Some.c.now (sym c.in-Some.ensures) in
    IfOk-weaker c.context_ask.result _ _
    (λ a h finds.
    h ∙ (ap asked (context_exact c.args.code.now c.in-Some.c.now (finds c.in-Some.c.now (drop 1 c.args.thread.now.contexts) first)) ∙ sym (ap (asked_in c.args.code.now) first)))
    c.context_ask.ensures
