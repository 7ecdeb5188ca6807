use Rattle.world_doc_laws.proofs.Units.{int_functions}
use Rattle.world_doc_laws.proofs.Thinner.{thinned_entries, thinned_starts}
use Rattle.world_doc_laws.proofs.runs.entries_are_functions.Goals as goal

pub returns : goal.returns
returns c = record {
  scheme = int_functions;
  thinned = thinned_entries c.thinned_code_keeps_units.ensures.units;
  starts = thinned_starts c.thinned_code_keeps_units.ensures.units c.thinned_code_keeps_units.ensures.names;
}
