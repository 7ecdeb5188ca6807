use Rattle.std.proofs.Common.{subst}
use Rattle.lam_machine_terms.specs.Worlds.{World}
use Rattle.lam_machine_runs.specs.Stops.{stopped_at}
use Rattle.lam_main_replay.specs.Stops.{IsStop}
use Rattle.lam_main_pair.specs.Halves.{IsNoted}
use Rattle.lam_main_pair.proofs.PairLemmas.{no_run_found}
use Rattle.lam_main_pair.proofs.half.noted.Goals as goal

pub returns-in-Err-agenda_of-clause-finds : goal.returns-in-Err-agenda_of-clause-finds
returns-in-Err-agenda_of-clause-finds c =
    no_run_found (IsNoted c.args.code.now c.args.observer.now c.args.start c.args.turns.now) c.args.turns.now c.in-Err-agenda_of.fault c.run_halt.result (stopped_at c.args.code.now c.args.turns.now c.args.start) (subst (λ (w : World). IsStop c.in-Err-agenda_of.fault (stopped_at c.args.code.now c.args.turns.now w)) c.in-Ok.ensures c.in-Err-agenda_of.ensures.stops) c.run_halt.ensures
