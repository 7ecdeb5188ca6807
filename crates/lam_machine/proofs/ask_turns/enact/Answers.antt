use Rattle.std.proofs.Common.{◌<◌, List, length, sym, subst, ◌∙◌}
use Rattle.thread_steps.specs.Threads.{Thread}
use Rattle.lam_machine.proofs.AskLemmas.{born_longer, born_gone}
use Rattle.lam_machine.proofs.ask_turns.enact.Goals as goal

pub settle_at-requires-clause-there : goal.settle_at-requires-clause-there
settle_at-requires-clause-there c =
    subst (λ (xs : List Thread). c.args.thread < length xs) (sym c.in-Ok.ensures.ok.1)
    (born_longer c.args.code.now c.args.effect c.args.threads.now.items c.args.thread c.requires.there)

pub returns-in-Err-settle_at-clause-same_threads : goal.returns-in-Err-settle_at-clause-same_threads
returns-in-Err-settle_at-clause-same_threads c =
    c.truncate.ensures.items ∙ born_gone c.args.code.now c.args.effect c.args.threads.now.items _ _ _ c.in-Ok.ensures.ok.0 c.in-Ok.ensures.ok.1 c.in-Err-settle_at.ensures.same_threads
