use Rattle.lam_main_laws.proofs.Meaning.{sources_mean}
use Rattle.lam_main_laws.proofs.meant.sources_run_as_meant.Goals as goal

pub returns : goal.returns
returns c = sources_mean c.compiled_code_is_guarded.ensures.scheme c.thinned_scheme_acts.ensures.acts c.thinned_code_keeps_units.ensures.code c.entries_are_functions.ensures.scheme c.entries_are_functions.ensures.thinned c.runs_of_documents_mean.ensures
