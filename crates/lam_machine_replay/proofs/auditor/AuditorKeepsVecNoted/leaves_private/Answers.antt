use Rattle.lam_machine_replay.proofs.NotedLemmas.{private_unnoted}
use Rattle.lam_machine_replay.proofs.auditor.AuditorKeepsVecNoted.leaves_private.Goals as goal

pub returns : goal.returns
returns c = λ ms m kept. private_unnoted ms m kept.items
