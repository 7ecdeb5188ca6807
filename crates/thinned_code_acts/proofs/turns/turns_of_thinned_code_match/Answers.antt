use Rattle.thinned_code_acts.proofs.Nexts.{next_matches, place_kept}
use Rattle.thinned_code_acts.proofs.Answers.{starts_match, answers_match}
use Rattle.thinned_code_acts.proofs.turns.turns_of_thinned_code_match.Goals as goal

pub returns : goal.returns
returns c = record { starts = starts_match; next = next_matches; answers = answers_match; place = place_kept }
