use Rattle.lam_machine_valid.proofs.PrivateLemmas.{name_what_lives}
use Rattle.lam_machine_valid.proofs.next_turns_name_what_lives.Goals as goal

pub returns : goal.returns
returns c = name_what_lives
