use Rattle.std.proofs.Common.{◌∙◌, sym, ap, subst}
use Rattle.thread_core.specs.Untested.{untested_standing, StandsAs}
use Rattle.thread_core.proofs.Untested.{stands_as, stands_exact}
use Rattle.thread_core.proofs.threads.outlook.Goals as goal

pub returns-clause-near : goal.returns-clause-near
returns-clause-near c =
    subst (StandsAs c.args.code.now c.args.thread.now) (sym (c.seen_ahead.ensures.standing ∙ ap (λ k. untested_standing k c.args.thread.now) c.code.ensures.code)) (stands_as c.args.code.now c.args.thread.now)

pub returns-clause-standing : goal.returns-clause-standing
returns-clause-standing c = λ h. c.seen_ahead.ensures.standing ∙ (ap (λ k. untested_standing k c.args.thread.now) c.code.ensures.code ∙ stands_exact c.args.code.now c.args.thread.now h)
