use Rattle.lam_machine_laws.proofs.OwnLemmas.{follow}
use Rattle.lam_machine_laws.proofs.threads_follow_their_turns.Goals as goal

pub returns : goal.returns
returns c = follow
