use Rattle.audit_log_lines.proofs.AuditLemmas.{audit_private}
use Rattle.audit_log_lines.proofs.audits_leave_private.Goals as goal

pub returns : goal.returns
returns c = audit_private
