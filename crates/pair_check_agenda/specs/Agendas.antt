-- What an agenda in the memory of a program stands for.
use Rattle.std.specs.Prelude.{◌≡◌, List, map, Some}
use Rattle.flow_labels.specs.declared.Label.{Label}
use Rattle.lam_machine_terms.specs.Serves.{Made, a_region, a_thing, name_in}
use Rattle.lam_machine_terms.specs.Turns.{Moment}
use Rattle.lam_machine_terms.specs.Views.{Item, turn, past, agenda}
use Rattle.lam_machine_terms.specs.Views as views
use Rattle.audit_log_notes.specs.declared.Content.{Content}
use Rattle.audit_log_notes.specs.declared.Content.TheVariants.{Context, Thing}
use Rattle.pair_check_agenda.specs.declared.entry.Release.{Release}
use Rattle.pair_check_agenda.specs.declared.entry.Entry.{Entry}
use Rattle.pair_check_agenda.specs.declared.entry.Entry.TheVariants.{Turn, Past}

-- what was made, by what is told of it
abbrev pub made_of : Content → Made
made_of (Context label caps depth region args) = a_region label caps depth region args
made_of (Thing v slots) = a_thing (name_in v) v slots

abbrev pub release_in : Release → views.Release
release_in r = record { thread = r.thread; content = Some (made_of r.content); by = Some r.by }

abbrev pub item_in : Entry → Item
item_in (Turn thread) = turn thread
item_in (Past r) = past (release_in r.value)

abbrev pub items_in : List Entry → List Item
items_in es = map item_in es

-- these items are the agenda of some moments
abbrev pub IsAgenda : Label → List Moment → List Item → Type 0
IsAgenda o ms xs = xs ≡ agenda o ms
