-- The lines of what an observer saw, and of what an auditor notes.
--
-- An observer reads the events, and of a release past it what was made:
-- t0 {}/{} enter {a}/{} caps +{}-{a} region 0 (7) = entered
-- release t0 enter {}/{} caps +{}-{} depth 2 region 1 (7) by +{}-{a}
-- release t0 copy arr<{a}/{}|{}/{}|0>[2] = 0,0 by +{}-{a}
--
-- An auditor reads the turn, who acted at which label, and what was released or why it was refused:
-- 12 t0 {a}/{} enter {}/{} by +{}-{a}
-- 44 t0 {a}/{} copy arr<{a}/{}|{}/{}|0>[2] by +{}-{a} public
-- 8 t0 {}/{} refused AddS a
use Rattle.std.specs.Prelude.{◌≡◌, ℕ, ◌+◌, Bool, true, false, ◌&&◌, cond, List, [], ◌∷◌, ◌++◌, codes, decimal, Option, Some, None, refl}
use Rattle.std.specs.List.{flat_map}
use Rattle.std.specs.FinSet.{is_subset}
use Rattle.flow_labels.specs.TwoLists.{Text}
use Rattle.flow_labels.specs.LabelText.{label_text}
use Rattle.flow_labels.specs.declared.Label.{Label}
use Rattle.flow_labels.specs.declared.Denied.{Denied}
use Rattle.flow_labels.specs.declared.Rule.TheVariants.{ReadS, AddS}
use Rattle.capabilities.specs.declared.Caps.{Caps}
use Rattle.capabilities.specs.CapsText.{caps_text}
use Rattle.lam_value.specs.Texts.{value_text, values_text}
use Rattle.lam_asks.specs.declared.answer.Answer.TheVariants.{Done, Val, Refused}
use Rattle.lam_asks.specs.declared.answer.What.{What}
use Rattle.lam_asks.specs.declared.answer.What.TheVariants.{Asked}
use Rattle.lam_asks.specs.declared.answer.Event.{Event}
use Rattle.lam_asks.specs.declared.ask.Ask.TheVariants.{CopyTo, Mint, Enter, Barred}
use Rattle.audit_log_notes.specs.Turns.{Moment}
use Rattle.audit_log_notes.specs.Views.{Entry, event, release, is_release, used_by, trace}
use Rattle.audit_log_texts.specs.Lines.{spaced, line, thread_text, head_text, group_text, denied_text, event_line}
use Rattle.audit_log_notes.specs.Notes.{content_in, refusal_of}
use Rattle.audit_log_notes.specs.declared.Content.{Content}
use Rattle.audit_log_notes.specs.declared.Content.TheVariants.{Context, Thing}
use Rattle.audit_log_notes.specs.declared.Seen.{Seen}
use Rattle.audit_log_notes.specs.declared.Seen.TheVariants as seen
use Rattle.audit_log_notes.specs.declared.Noted.{Noted}

-- ---- what an observer reads

abbrev pub content_words : List Text → Content → List Text
content_words names (Context label caps depth region args) =
    codes "enter" ∷ label_text names label ∷ codes "caps" ∷ caps_text names caps
    ∷ codes "depth" ∷ decimal depth ∷ codes "region" ∷ decimal region ∷ group_text names args ∷ []
content_words names (Thing name slots) = codes "copy" ∷ value_text names name ∷ codes "=" ∷ values_text names slots ∷ []

abbrev pub content_text : List Text → Content → Text
content_text names c = spaced (content_words names c)

abbrev pub release_line : List Text → ℕ → Content → Caps → Text
release_line names t c by = line (codes "release" ∷ thread_text t ∷ content_text names c ∷ codes "by" ∷ caps_text names by ∷ [])

abbrev pub seen_line : List Text → Seen → Text
seen_line names (seen.Event e) = event_line names e
seen_line names (seen.Release t c by) = release_line names t c by

abbrev pub seen_lines : List Text → List Seen → Text
seen_lines names [] = []
seen_lines names (s ∷ ss) = seen_line names s ++ seen_lines names ss

-- the line of an entry of the trace: a private turn has none
abbrev pub released_line : List Text → ℕ → Option Content → Option Caps → Text
released_line names t (Some c) (Some by) = release_line names t c by
released_line names t c by = []

abbrev pub entry_line : List Text → Entry → Text
entry_line names (event e) = event_line names e
entry_line names (release r) = released_line names r.thread (content_in r.content) r.by

-- what an observer reads of the moments of a run
abbrev pub view_lines : List Text → Label → List Moment → Text
view_lines names o ms = flat_map (entry_line names) (trace o ms)

-- ---- what an auditor reads

-- the turn, and who acted at which label
abbrev pub turn_text : List Text → ℕ → Event → Text
turn_text names turn e = spaced (decimal turn ∷ head_text names e.thread e.label ∷ [])

-- each capability of `by` is a public one
abbrev pub are_public : Caps → Caps → Bool
are_public public by = is_subset by.plus public.plus && is_subset by.minus public.minus

abbrev pub public_mark : Bool → Text
public_mark true = codes " public"
public_mark false = []

-- the capabilities that a release took, marked where all of them are public
abbrev pub taken_text : List Text → Caps → Caps → Text
taken_text names public by = codes "by " ++ (caps_text names by ++ public_mark (are_public public by))

-- what was released, after the turn
abbrev pub release_note : List Text → Caps → Text → What → Caps → Text
release_note names public turn (Asked (Enter label caps region args) answer) by =
    line (turn ∷ codes "enter" ∷ label_text names label ∷ taken_text names public by ∷ [])
release_note names public turn (Asked (CopyTo r own) (Val v)) by = line (turn ∷ codes "copy" ∷ value_text names v ∷ taken_text names public by ∷ [])
release_note names public turn what by = []

-- by what it was refused, after the turn
abbrev pub refusal_note : List Text → Text → Option Denied → Text
refusal_note names turn None = []
refusal_note names turn (Some d) = line (turn ∷ codes "refused" ∷ denied_text names d ∷ [])

abbrev pub note_line : List Text → Caps → ℕ → Event → Option Caps → Text
note_line names public turn e (Some by) = release_note names public (turn_text names turn e) e.what by
note_line names public turn e None = refusal_note names (turn_text names turn e) (refusal_of e.what)

-- the lines of what was noted, where these capabilities are public
abbrev pub noted_lines : List Text → Caps → List Noted → Text
noted_lines names public [] = []
noted_lines names public (n ∷ ns) = note_line names public n.turn n.event n.by ++ noted_lines names public ns

-- the line of a moment: a release with what it used, by what is public in the moment's world, or a refusal
abbrev pub moment_line : List Text → ℕ → Moment → Text
moment_line names turn m = note_line names m.world.public turn m.event (cond (is_release m) (used_by m.event.label m.made) None)

abbrev pub lines_from : List Text → ℕ → List Moment → Text
lines_from names turn [] = []
lines_from names turn (m ∷ ms) = moment_line names turn m ++ lines_from names (turn + 1) ms

-- what an auditor reads of the moments of a run; turns are counted from 0
abbrev pub audit_lines : List Text → List Moment → Text
audit_lines names ms = lines_from names 0 ms

-- ---- worked examples: a refusal whose turn, thread and label are printed already, and an ask that was not refused

a_name : List Text
a_name = codes "a" ∷ []

refusal_line : refusal_note a_name (codes "8 t0 {}/{}") (refusal_of (Asked Mint (Refused (record { rule = AddS; tag = 0 })))) ≡ codes "8 t0 {}/{} refused AddS a\n"
unfolding a_name
refusal_line = refl

barrier_line : refusal_note a_name (codes "9 t0 {}/{}") (refusal_of (Asked (Barred (record { rule = ReadS; tag = 0 })) Done)) ≡ codes "9 t0 {}/{} refused ReadS a\n"
unfolding a_name
barrier_line = refl

no_refusal_line : refusal_note [] (codes "9 t0 {}/{}") (refusal_of (Asked Mint Done)) ≡ []
no_refusal_line = refl
