use Rattle.lam_machine_valid.proofs.AnswerLemmas.{follow_the_rows}
use Rattle.lam_machine_valid.proofs.answers_follow_the_rows.Goals as goal

pub returns : goal.returns
returns c = follow_the_rows
