-- The lists that are kept of a run have the lines of the run.
use Rattle.std.specs.Prelude.{◌≡◌, ◌↔◌, IsTrue, List}
use Rattle.std.specs.List.{AllByRecursion}
use Rattle.flow_labels.specs.TwoLists.{Text}
use Rattle.flow_labels.specs.declared.Label.{Label}
use Rattle.capabilities.specs.declared.Caps.{Caps}
use Rattle.capabilities.specs.Changes.{Covers}
use Rattle.audit_log_notes.specs.Turns.{Moment}
use Rattle.audit_log_notes.specs.Notes.{seen_by, noted_in}
use Rattle.audit_log.specs.Log.{seen_lines, view_lines, are_public, noted_lines, audit_lines}

abbrev pub ViewsAreRead : Type 0
ViewsAreRead = (names : List Text) (o : Label) (ms : List Moment) → seen_lines names (seen_by o ms) ≡ view_lines names o ms

-- in the world of each moment these capabilities are public, as they are throughout a run that starts with them
abbrev pub ArePublicIn : Caps → List Moment → Type 0
ArePublicIn public ms = AllByRecursion (λ (m : Moment). m.world.public ≡ public) ms

abbrev pub AuditsAreRead : Type 0
AuditsAreRead = (names : List Text) (public : Caps) (ms : List Moment) → ArePublicIn public ms → noted_lines names public (noted_in ms) ≡ audit_lines names ms

-- a line is marked exactly where the public capabilities cover what the release took
abbrev pub MarksAreExact : Type 0
MarksAreExact = (public by : Caps) → IsTrue (are_public public by) ↔ Covers public by
