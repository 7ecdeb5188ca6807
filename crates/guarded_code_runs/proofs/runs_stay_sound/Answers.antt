use Rattle.guarded_code_runs.proofs.Sound.{sound_entries, sound_step, sound_moments, sound_replay, sound_finds}
use Rattle.guarded_code_runs.proofs.runs_stay_sound.Goals as goal

pub returns : goal.returns
returns c =
    record {
      entries = λ code is guarded w. sound_entries code w is guarded;
      turns = sound_step;
      runs = λ code w turns h. (sound_moments code w turns h, sound_replay code w turns h);
      finds = sound_finds;
    }
