use Rattle.guarded_code_runs.proofs.Keeping.{entries_are_described, turns_keep, runs_keep}
use Rattle.guarded_code_runs.proofs.runs_stay_described.Goals as goal

pub returns : goal.returns
returns c = record { entries = entries_are_described; turns = turns_keep; runs = runs_keep }
