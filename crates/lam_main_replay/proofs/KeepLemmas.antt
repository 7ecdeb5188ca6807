-- What a viewer keeps of the turns of a run.
use Rattle.std.proofs.Common.{◌≡◌, List, String, string_bytes}
use Rattle.std.specs.declared.alloc.Global.{Global}
use Rattle.flow_labels.specs.declared.Label.{Label}
use Rattle.lam_machine_terms.specs.Turns.{Moment}
use Rattle.audit_log_lines.specs.Keeping.{LeavesPrivate}
use Rattle.audit_log_lines.specs.Kept.{IsView, IsAudit}
use Rattle.lam_main_words.specs.Words.{Text}
use Rattle.lam_main_replay.specs.declared.viewer.Viewer.{Viewer}
use Rattle.lam_main_replay.specs.declared.viewer.Viewer.TheVariants.{Observer, Auditor}
use Rattle.lam_main_replay.specs.Asked.{lines_for}

abbrev pub IsText : Viewer → List Text → List Moment → String Global → Type 0
IsText who names ms text = string_bytes text ≡ lines_for who names ms

pub leaves_private_by : (who : Viewer) (names : List Text) → ((ns : List Text) (o : Label) → LeavesPrivate (IsView ns o)) → ((ns : List Text) → LeavesPrivate (IsAudit ns)) → LeavesPrivate (IsText who names)
leaves_private_by (Observer label) names views audits = views names label
leaves_private_by Auditor names views audits = audits names
