use Rattle.audit_log.proofs.LogLemmas.{audits_read}
use Rattle.audit_log.proofs.audits_are_read.Goals as goal

pub returns : goal.returns
returns c = audits_read
