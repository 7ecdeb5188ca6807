-- What is kept of a run is whole.
use Rattle.std.specs.Prelude.{◌≡◌, ℕ, true, false, List, [], ◌∷◌, Option, Some, None, slice_get}
use Rattle.std.specs.List.{Contains}
use Rattle.flow_labels.specs.declared.Label.{Label}
use Rattle.flow_labels.specs.declared.Denied.{Denied}
use Rattle.capabilities.specs.declared.Caps.{Caps}
use Rattle.capabilities.specs.Changes.{used}
use Rattle.lam_value.specs.declared.names.Name.{Name}
use Rattle.lam_value.specs.declared.values.Value.{Value}
use Rattle.lam_asks.specs.declared.answer.Answer.TheVariants.{Entered, Val}
use Rattle.lam_asks.specs.declared.answer.What.{What}
use Rattle.lam_asks.specs.declared.answer.What.TheVariants.{Asked}
use Rattle.lam_asks.specs.declared.ask.Ask.TheVariants.{CopyTo, Enter}
use Rattle.lam_bytecode.specs.Codes.{CodeTree}
use Rattle.lam_machine_terms.specs.Worlds.{World}
use Rattle.lam_machine_terms.specs.Serves.{Made, a_region, a_thing, made_label}
use Rattle.lam_machine_terms.specs.Turns.{Moment, step}
use Rattle.lam_machine_terms.specs.Views.{release, release_of, is_release, is_past, used_by}
use Rattle.audit_log_notes.specs.Notes.{content_in, shown, refusal_of, noted_in}
use Rattle.audit_log_notes.specs.declared.Content.{Content}
use Rattle.audit_log_notes.specs.declared.Seen.TheVariants as seen
use Rattle.audit_log_notes.specs.declared.Noted.{Noted}

-- ---- releases

-- a region that was entered as it was asked for, or a copy, which was answered with the value that leads to it
pub data IsEntryOrCopyOf : What → Option Made → Type 0 where
  entry : (label : Label) (caps : Caps) (depth region : ℕ) (args : List Value) → IsEntryOrCopyOf (Asked (Enter label caps region args) Entered) (Some (a_region label caps depth region args))
  copy : (r : Value) (own : Label) (name : Name) (thing : Value) (slots : List Value) → IsEntryOrCopyOf (Asked (CopyTo r own) (Val thing)) (Some (a_thing name thing slots))

-- all that a release made is kept for who sees it, with the capabilities that it took
pub record IsKept (m : Moment) : Type 0 where
  pub made : Made
  pub it : m.made ≡ Some made
  pub content : Content
  pub told : content_in (Some made) ≡ Some content
  pub kept : shown (release (release_of m)) ≡ seen.Release m.event.thread content (used m.event.label (made_label made)) ∷ []

pub record IsTold (m : Moment) : Type 0 where
  pub form : IsEntryOrCopyOf m.event.what m.made
  pub kept : IsKept m

abbrev pub ReleasesAreTold : CodeTree → Type 0
ReleasesAreTold code = (w : World) (t : ℕ) (m : Moment) → step code w t ≡ Some m → is_release m ≡ true → IsTold m

-- ---- audits

abbrev pub release_note_of : ℕ → Moment → Noted
release_note_of turn m = record { turn = turn; event = m.event; by = used_by m.event.label m.made }

abbrev pub refusal_note_of : ℕ → Moment → Noted
refusal_note_of turn m = record { turn = turn; event = m.event; by = None }

-- a note is that of a release at its turn, or of a refusal
pub data IsNoteOf (n : Noted) (m : Moment) : Type 0 where
  of_release : is_release m ≡ true → n ≡ release_note_of n.turn m → IsNoteOf n m
  of_refusal : (d : Denied) → is_release m ≡ false → refusal_of m.event.what ≡ Some d → n ≡ refusal_note_of n.turn m → IsNoteOf n m

pub record IsWhole (ms : List Moment) : Type 0 where
  pub releases : (turn : ℕ) (m : Moment) → slice_get ms turn ≡ Some m → is_release m ≡ true → Contains (noted_in ms) (release_note_of turn m)
  -- whoever the release is past
  pub past : (o : Label) (turn : ℕ) (m : Moment) → slice_get ms turn ≡ Some m → is_past o m ≡ true → Contains (noted_in ms) (release_note_of turn m)
  pub refusals : (turn : ℕ) (m : Moment) (d : Denied) → slice_get ms turn ≡ Some m → is_release m ≡ false → refusal_of m.event.what ≡ Some d → Contains (noted_in ms) (refusal_note_of turn m)
  pub nothing_else : (n : Noted) → Contains (noted_in ms) n → (m : Moment) × (slice_get ms n.turn ≡ Some m) × IsNoteOf n m

abbrev pub AuditsAreWhole : Type 0
AuditsAreWhole = (ms : List Moment) → IsWhole ms
