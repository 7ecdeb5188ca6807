use Rattle.thinned_code.proofs.Thinned.{stays_code, keeps_units, keeps_names}
use Rattle.thinned_code.proofs.thinned_code_keeps_units.Goals as goal

pub returns : goal.returns
returns c = record { code = stays_code; units = keeps_units; names = keeps_names }
