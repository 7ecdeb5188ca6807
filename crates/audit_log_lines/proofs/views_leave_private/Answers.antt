use Rattle.audit_log_lines.proofs.ViewLemmas.{view_private}
use Rattle.audit_log_lines.proofs.views_leave_private.Goals as goal

pub returns : goal.returns
returns c = view_private c.views_are_read.ensures
