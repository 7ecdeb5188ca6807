use Rattle.lam_main_replay.proofs.KeepLemmas.{leaves_private_by}
use Rattle.lam_main_replay.proofs.viewer_text.NamedViewerKeepsString.leaves_private.Goals as goal

pub returns : goal.returns
returns c = leaves_private_by c.args.self.now.who c.args.self.now.names c.views_leave_private.ensures c.audits_leave_private.ensures
