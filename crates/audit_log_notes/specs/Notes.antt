-- What an observer sees of the moments of a run, and what an auditor notes of them.
use Rattle.std.specs.Prelude.{ℕ, ◌+◌, cond, List, [], ◌∷◌, ◌++◌, Option, Some, None}
use Rattle.std.specs.List.{flat_map}
use Rattle.flow_labels.specs.declared.Label.{Label}
use Rattle.flow_labels.specs.declared.Denied.{Denied}
use Rattle.capabilities.specs.declared.Caps.{Caps}
use Rattle.lam_asks.specs.declared.answer.Answer.{Answer}
use Rattle.lam_asks.specs.declared.answer.Answer.TheVariants.{Refused}
use Rattle.lam_asks.specs.declared.answer.What.{What}
use Rattle.lam_asks.specs.declared.answer.What.TheVariants.{Private, Asked}
use Rattle.lam_asks.specs.declared.answer.Event.{Event}
use Rattle.lam_asks.specs.declared.ask.Ask.{Ask}
use Rattle.lam_asks.specs.declared.ask.Ask.TheVariants.{Barred}
use Rattle.lam_machine_terms.specs.Serves.{Made, a_region, a_thing}
use Rattle.lam_machine_terms.specs.Turns.{Moment}
use Rattle.lam_machine_terms.specs.Views.{Entry, event, release, is_release, used_by, trace}
use Rattle.audit_log_notes.specs.declared.Content.{Content}
use Rattle.audit_log_notes.specs.declared.Content.TheVariants.{Context, Thing}
use Rattle.audit_log_notes.specs.declared.Seen.{Seen}
use Rattle.audit_log_notes.specs.declared.Seen.TheVariants as seen
use Rattle.audit_log_notes.specs.declared.Noted.{Noted}

-- ---- what an observer sees

-- what is told of what a release makes: only a region and a thing can be made by one
abbrev pub content_in : Option Made → Option Content
content_in (Some (a_region label caps depth region args)) = Some (Context label caps depth region args)
content_in (Some (a_thing name thing slots)) = Some (Thing thing slots)
content_in made = None

abbrev pub released : ℕ → Option Content → Option Caps → List Seen
released thread (Some content) (Some by) = seen.Release thread content by ∷ []
released thread content by = []

-- an ask is seen; a private turn is left out
abbrev pub asked : Event → What → List Seen
asked e Private = []
asked e (Asked ask answer) = seen.Event e ∷ []

-- what is seen at an entry of the trace
abbrev pub shown : Entry → List Seen
shown (event e) = asked e e.what
shown (release r) = released r.thread (content_in r.content) r.by

-- what an observer sees of the moments of a run
abbrev pub seen_by : Label → List Moment → List Seen
seen_by o ms = flat_map shown (trace o ms)

-- ---- what an auditor notes

abbrev pub refusal_in : Answer → Option Denied
refusal_in (Refused d) = Some d
refusal_in answer = None

-- a barrier of the code finds beforehand what would be refused, and counts as a refusal
abbrev pub refusal_by : Ask → Option Denied → Option Denied
refusal_by (Barred d) answered = Some d
refusal_by ask answered = answered

-- the rule and the tag by which a turn was refused what it wanted
abbrev pub refusal_of : What → Option Denied
refusal_of Private = None
refusal_of (Asked ask answer) = refusal_by ask (refusal_in answer)

abbrev pub refused : ℕ → Event → Option Denied → List Noted
refused turn e None = []
refused turn e (Some d) = record { turn = turn; event = e; by = None } ∷ []

-- a release with what it used, a refusal, or nothing
abbrev pub noted_at : ℕ → Moment → List Noted
noted_at turn m =
    cond (is_release m) (record { turn = turn; event = m.event; by = used_by m.event.label m.made } ∷ [])
    (refused turn m.event (refusal_of m.event.what))

abbrev pub noted_from : ℕ → List Moment → List Noted
noted_from turn [] = []
noted_from turn (m ∷ ms) = noted_at turn m ++ noted_from (turn + 1) ms

-- what an auditor notes of a run's moments; turns are counted from 0
abbrev pub noted_in : List Moment → List Noted
noted_in ms = noted_from 0 ms
