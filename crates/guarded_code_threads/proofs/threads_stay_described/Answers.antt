use Rattle.guarded_code_threads.proofs.Keeping.{starts_described, private_turns_keep, answers_keep}
use Rattle.guarded_code_threads.proofs.Spawning.{spawns_at_entries}
use Rattle.guarded_code_threads.proofs.threads_stay_described.Goals as goal

pub returns : goal.returns
returns c = record { starts = starts_described; turns = private_turns_keep; answers = answers_keep; spawns = spawns_at_entries }
