-- What is counted of one turn, by its event.
use Rattle.std.specs.Prelude.{◌+◌, ◌<◌, ℕ, Bool, false, not, if◌then◌else◌, Option, Some, None}
use Rattle.flow_labels.specs.declared.Label.{Label}
use Rattle.flow_labels.specs.Flow.{flows}
use Rattle.lam_asks.specs.declared.answer.Event.{Event}
use Rattle.lam_machine_replay.specs.Told.{product_label}
use Rattle.audit_log_notes.specs.declared.Sums.{Sums}
use Rattle.audit_log_notes.specs.Sums.{is_said, is_refused}

-- what has this label, if something was made, is not above the acting label
abbrev pub goes_below : Label → Option Label → Bool
goes_below p None = false
goes_below p (Some own) = not (flows p own)

-- the event tells of a release
abbrev pub tells_release : Event → Bool
tells_release e = goes_below e.label (product_label e.what)

-- one more, where it is so
abbrev pub counted : ℕ → Bool → ℕ
counted n so = if so then n + 1 else n

-- the sums with one turn more
abbrev pub with_turn : Sums → Event → Sums
with_turn s e = record { said = counted s.said (is_said e.what); releases = counted s.releases (tells_release e); refused = counted s.refused (is_refused e.what) }

-- no sum has reached a number
pub record AreBelow (s : Sums) (n : ℕ) : Type 0 where
  pub said : s.said < n
  pub releases : s.releases < n
  pub refused : s.refused < n
