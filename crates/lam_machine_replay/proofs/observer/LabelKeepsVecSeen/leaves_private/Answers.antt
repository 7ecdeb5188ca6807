use Rattle.lam_machine_replay.proofs.SeenLemmas.{private_unseen}
use Rattle.lam_machine_replay.proofs.observer.LabelKeepsVecSeen.leaves_private.Goals as goal

pub returns : goal.returns
returns c = λ ms m kept. private_unseen c.args.self.now ms m kept.items
