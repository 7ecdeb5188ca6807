use Rattle.thread_core_stretches.proofs.Rows.{went_further}
use Rattle.thread_core_stretches.proofs.stretch.Stretch.go_for.Goals as goal

pub returns-clause-stands : goal.returns-clause-stands
returns-clause-stands c = λ h. went_further c.args.code.now c.args.self.now c.go_privately.new.thread c.in_ok-taken.taken c.in_ok-taken.ensures.ok h
