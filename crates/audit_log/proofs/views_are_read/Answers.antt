use Rattle.audit_log.proofs.LogLemmas.{views_read}
use Rattle.audit_log.proofs.views_are_read.Goals as goal

pub returns : goal.returns
returns c = views_read
