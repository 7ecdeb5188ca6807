use Rattle.closed_laws.proofs.OnceLemmas.{ends_once}
use Rattle.closed_laws.proofs.each_start_ends_once.Goals as goal

pub returns : goal.returns
returns c = ends_once
