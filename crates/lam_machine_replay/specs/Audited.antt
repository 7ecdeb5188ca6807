-- What an auditor notes of one turn.
use Rattle.std.specs.Prelude.{ℕ, cond, ◌||◌, is_some, Option, Some, None}
use Rattle.flow_labels.specs.declared.Label.{Label}
use Rattle.flow_labels.specs.declared.Denied.{Denied}
use Rattle.flow_labels.specs.Flow.{flows}
use Rattle.capabilities.specs.declared.Caps.{Caps}
use Rattle.capabilities.specs.Changes.{used}
use Rattle.lam_asks.specs.declared.answer.Event.{Event}
use Rattle.audit_log_notes.specs.Notes.{refusal_of}
use Rattle.audit_log_notes.specs.declared.Noted.{Noted}
use Rattle.lam_machine_replay.specs.Told.{product_label}

abbrev pub taken_by : Label → Option Label → Option Caps
taken_by p None = None
taken_by p (Some own) = cond (flows p own) None (Some (used p own))

-- the capabilities that a release took
abbrev pub taken : Event → Option Caps
taken e = taken_by e.label (product_label e.what)

-- a release, or a refusal
abbrev pub note : ℕ → Event → Option Caps → Option Denied → Option Noted
note turn e by refusal = cond (is_some by || is_some refusal) (Some (record { turn = turn; event = e; by = by })) None

abbrev pub noted_of : ℕ → Event → Option Noted
noted_of turn e = note turn e (taken e) (refusal_of e.what)
