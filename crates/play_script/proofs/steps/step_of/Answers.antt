use Rattle.play_script.specs.Script.{play_of}
use Rattle.play_script.proofs.WordLemmas.{no_step}
use Rattle.play_script.proofs.steps.step_of.Goals as goal

pub returns-in_default : goal.returns-in_default
returns-in_default c = no_step (play_of c.args.script.now) c.args.words.now c.in_default.len_below
