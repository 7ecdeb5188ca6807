use Rattle.lam_machine_laws.proofs.SoundSteps.{stay_sound}
use Rattle.lam_machine_laws.proofs.worlds_stay_sound.Goals as goal

pub returns : goal.returns
returns c = stay_sound
