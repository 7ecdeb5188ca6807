use Rattle.std.proofs.Common.{[]}
use Rattle.lam_main_walk.proofs.SourceLemmas.{at_entries}
use Rattle.lam_main_walk.proofs.entries.starts_stand_at_entries.Goals as goal

pub returns : goal.returns
returns c = λ bytes code r run spells text start is. at_entries r code start (c.sources_run_as_meant.ensures bytes code r run spells text start is [])
