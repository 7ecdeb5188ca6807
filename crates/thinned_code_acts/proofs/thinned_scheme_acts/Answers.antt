use Rattle.lam_meaning_laws.proofs.Units.{takes_params}
use Rattle.lam_meaning.specs.Scheme.{scheme}
use Rattle.thinned_code_acts.proofs.thinned_scheme_acts.Goals as goal

pub returns : goal.returns
returns c = record {
  functions = λ r f fn e. takes_params r f fn e;
  acts = λ r typed numbered is guarded. c.thinned_code_acts.ensures.acts (scheme r) r is guarded (λ f fn e. takes_params r f fn e) (c.compiled_code_acts_as_its_source.ensures r typed numbered);
}
