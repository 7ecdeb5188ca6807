-- What an observer sees of one turn.
use Rattle.std.specs.Prelude.{ℕ, Bool, true, false, cond, Option, Some, None}
use Rattle.flow_labels.specs.declared.Label.{Label}
use Rattle.flow_labels.specs.Flow.{seen}
use Rattle.capabilities.specs.declared.Caps.{Caps}
use Rattle.capabilities.specs.Changes.{used}
use Rattle.lam_asks.specs.declared.answer.What.{What}
use Rattle.lam_asks.specs.declared.answer.What.TheVariants.{Private, Asked}
use Rattle.lam_asks.specs.declared.answer.Event.{Event}
use Rattle.lam_machine_terms.specs.Worlds.{World}
use Rattle.audit_log_notes.specs.declared.Content.{Content}
use Rattle.audit_log_notes.specs.declared.Seen.{Seen}
use Rattle.audit_log_notes.specs.declared.Seen.TheVariants as seen_as
use Rattle.lam_machine_replay.specs.Told.{product_label, product}

abbrev pub is_private : What → Bool
is_private Private = true
is_private (Asked ask answer) = false

-- a turn of a thread that it sees: an ask, and nothing where it is private
abbrev pub own_turn : Event → Option Seen
own_turn e = cond (is_private e.what) None (Some (seen_as.Event e))

abbrev pub told : ℕ → Caps → Option Content → Option Seen
told thread by None = None
told thread by (Some content) = Some (seen_as.Release thread content by)

-- a turn of another thread: what it made, where the observer sees that
abbrev pub past_by : Label → Event → Option Content → Option Label → Option Seen
past_by o e made None = None
past_by o e made (Some own) = cond (seen own o) (told e.thread (used e.label own) made) None

abbrev pub past : Label → Event → World → Option Seen
past o e after = past_by o e (product after e.thread e.what) (product_label e.what)

-- a turn, by its event and the world after it
abbrev pub seen_of : Label → Event → World → Option Seen
seen_of o e after = cond (seen e.label o) (own_turn e) (past o e after)
