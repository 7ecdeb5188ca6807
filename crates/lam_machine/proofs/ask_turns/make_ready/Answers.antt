use Rattle.lam_machine.specs.Asking.{Took}
use Rattle.lam_machine.proofs.ask_turns.make_ready.Goals as goal

pub returns : goal.returns
unfolding Took
returns c = record { before = c.prepare.ensures.before; after = c.prepare.ensures.after; err = c.prepare.ensures.err }
