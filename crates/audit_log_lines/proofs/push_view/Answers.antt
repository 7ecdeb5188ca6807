use Rattle.std.proofs.lemmas.Result.{on_ok_weaker}
use Rattle.audit_log_lines.proofs.ViewLemmas.{view_kept}
use Rattle.audit_log_lines.proofs.push_view.Goals as goal

pub returns : goal.returns
returns c = on_ok_weaker c.push_seen_of-pushed.result (view_kept c.views_are_read.ensures c.args.names.now c.args.label.now c.args.event c.args.world.now c.args.text.now c.push_seen_of-pushed.new.text) c.push_seen_of-pushed.ensures
