use Rattle.guarded_code.proofs.RoundFacts.{meets_rules, says_most}
use Rattle.guarded_code.proofs.rounds_describe.Goals as goal

pub returns : goal.returns
returns c = record { rules = meets_rules; most = says_most }
