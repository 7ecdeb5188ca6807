-- The texts that are kept of the moments of a run, from its start on.
use Rattle.std.specs.Prelude.{◌≡◌, List, String, string_bytes}
use Rattle.std.specs.declared.alloc.Global.{Global}
use Rattle.flow_labels.specs.TwoLists.{Text}
use Rattle.flow_labels.specs.declared.Label.{Label}
use Rattle.lam_machine_terms.specs.Turns.{Moment}
use Rattle.audit_log.specs.Log.{view_lines, audit_lines}

-- what an observer reads of them
abbrev pub IsView : List Text → Label → List Moment → String Global → Type 0
IsView names o ms text = string_bytes text ≡ view_lines names o ms

-- what an auditor reads of them
abbrev pub IsAudit : List Text → List Moment → String Global → Type 0
IsAudit names ms text = string_bytes text ≡ audit_lines names ms
