use Rattle.guarded_code.proofs.RoundFacts.{is_last, ends_there, breaks_there}
use Rattle.guarded_code.proofs.rounds_end.Goals as goal

pub returns : goal.returns
returns c = record { last = is_last; holds = ends_there; breaks = breaks_there }
