use Rattle.thinned_code_acts.proofs.Acting.{acts, keeps_functions}
use Rattle.thinned_code_acts.proofs.thinned_code_acts.Goals as goal

pub returns : goal.returns
returns c = record { acts = λ code r. acts code r (c.threads_stay_described.ensures.starts code) (c.threads_stay_described.ensures.turns code) (c.threads_stay_described.ensures.answers code) (c.turns_of_thinned_code_match.ensures.starts code) (c.turns_of_thinned_code_match.ensures.next code) (c.turns_of_thinned_code_match.ensures.answers code) (c.turns_of_thinned_code_match.ensures.place code); functions = keeps_functions }
