-- What an observer notes of a turn, by the turn's event and the world after it.
use Rattle.std.specs.Prelude.{ℕ, Bool, List, [], cond, replicate, Option, Some, None}
use Rattle.flow_labels.specs.declared.Label.{Label}
use Rattle.flow_labels.specs.Flow.{seen}
use Rattle.capabilities.specs.declared.Caps.{Caps}
use Rattle.capabilities.specs.Changes.{used}
use Rattle.lam_asks.specs.declared.answer.Event.{Event}
use Rattle.lam_machine_terms.specs.Worlds.{World}
use Rattle.lam_machine_terms.specs.Views as views
use Rattle.lam_machine_terms.specs.Views.{Item}
use Rattle.audit_log_notes.specs.declared.Content.{Content}
use Rattle.lam_machine_replay.specs.Told.{product_label, product}
use Rattle.pair_check_agenda.specs.Agendas.{made_of}

abbrev pub released : ℕ → Caps → Option Content → Option Item
released thread by None = None
released thread by (Some content) = Some (views.past (record { thread = thread; content = Some (made_of content); by = Some by }))

abbrev pub past_by : Label → Event → Option Content → Option Label → Option Item
past_by o e made None = None
past_by o e made (Some own) = cond (seen own o) (released e.thread (used e.label own) made) None

-- a turn of a thread that is not seen: what it made, where the observer sees that
abbrev pub past : Label → Event → World → Option Item
past o e after = past_by o e (product after e.thread e.what) (product_label e.what)

-- a turn: its thread, where that is seen
abbrev pub noted_of : Label → Event → World → Option Item
noted_of o e after = cond (seen e.label o) (Some (views.turn e.thread)) (past o e after)

-- so many private turns of a thread: as many times the thread, where it is seen
abbrev pub private_noted : Bool → ℕ → ℕ → List Item
private_noted is_seen thread many = cond is_seen (replicate many (views.turn thread)) []
