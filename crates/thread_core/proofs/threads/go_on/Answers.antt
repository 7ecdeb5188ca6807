use Rattle.std.proofs.Common.{◌∙◌, sym, ap, subst}
use Rattle.std.proofs.lemmas.Result.{IfOk-weaker}
use Rattle.thread_core.specs.Untested.{untested_standing, StandsAs}
use Rattle.thread_core.proofs.Untested.{stands_as, stands_exact}
use Rattle.thread_core.proofs.threads.go_on.Goals as goal

pub returns-clause-near : goal.returns-clause-near
returns-clause-near c =
    IfOk-weaker c.go_on_by.result _ _
    (λ s h.
    subst (StandsAs c.args.code.now c.args.thread.now) (sym (h ∙ ap (λ k. untested_standing k c.args.thread.now) c.code.ensures.code)) (stands_as c.args.code.now c.args.thread.now))
    c.go_on_by.ensures.stands

pub returns-clause-stands : goal.returns-clause-stands
returns-clause-stands c =
    IfOk-weaker c.go_on_by.result _ _
    (λ s h f. h ∙ (ap (λ k. untested_standing k c.args.thread.now) c.code.ensures.code ∙ stands_exact c.args.code.now c.args.thread.now f))
    c.go_on_by.ensures.stands
