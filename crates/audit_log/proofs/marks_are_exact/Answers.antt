use Rattle.audit_log.proofs.LogLemmas.{marks_exact}
use Rattle.audit_log.proofs.marks_are_exact.Goals as goal

pub returns : goal.returns
returns c = marks_exact
