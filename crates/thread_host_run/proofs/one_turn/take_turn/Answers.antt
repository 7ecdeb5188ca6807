use Rattle.std.proofs.Common.{subst}
use Rattle.lam_machine.specs.Machine.{IsStep}
use Rattle.thread_host_run.proofs.RunLemmas.{none_taken}
use Rattle.thread_host_run.proofs.one_turn.take_turn.Goals as goal

pub unreachable-requires : goal.unreachable-requires
unreachable-requires c =
    none_taken c.args.code.now c.args.world.now c.args.thread c.requires.ready (subst (λ o. IsStep c.args.code.now c.args.thread c.args.world.now o c.step.new.world) c.in-None.is c.in_ok-step.ensures.ok).0
