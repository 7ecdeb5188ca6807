-- How agendas are stored, for what holds them.
use Rattle.std.specs.Prelude.{◌≡◌, ◌⊎◌, ℕ, List, Option, refl}
use Rattle.std.proofs.Common.{inl, inr}
use Rattle.std.specs.Coded.{Coded, code_by, coded×, coded⊎, coded_ℕ, coded_list, coded_option}
use Rattle.flow_labels.specs.declared.Label.{Label}
use Rattle.capabilities.specs.declared.Caps.{Caps}
use Rattle.lam_value.specs.declared.names.Name.{Name}
use Rattle.lam_value.specs.declared.values.Value.{Value}
use Rattle.lam_value.specs.contracts.values.Value as value
use Rattle.lam_value.specs.Names.{coded_name}
use Rattle.lam_value.specs.NameParts.{coded_label}
use Rattle.thread_core_state.specs.Coding.{coded_caps, coded_values}
use Rattle.lam_machine_terms.specs.Serves.{Made, a_region, a_thing, a_file, a_dir, a_pipe, a_thread}
use Rattle.lam_machine_terms.specs.Views.{Release, Item, turn, past}

abbrev pub Region : Type 0
Region = Label × (Caps × (ℕ × (ℕ × List Value)))

abbrev pub Thing : Type 0
Thing = Name × (Value × List Value)

abbrev pub Parts : Type 0
Parts = Region ⊎ (Thing ⊎ ((Name ⊎ Name) ⊎ (Name ⊎ ℕ)))

abbrev pub made_parts : Made → Parts
made_parts (a_region l k depth region args) = inl (l, (k, (depth, (region, args))))
made_parts (a_thing n v slots) = inr (inl (n, (v, slots)))
made_parts (a_file n) = inr (inr (inl (inl n)))
made_parts (a_dir n) = inr (inr (inl (inr n)))
made_parts (a_pipe n) = inr (inr (inr (inl n)))
made_parts (a_thread t) = inr (inr (inr (inr t)))

abbrev pub made_from : Parts → Made
made_from (inl r) = a_region r.0 r.1.0 r.1.1.0 r.1.1.1.0 r.1.1.1.1
made_from (inr (inl t)) = a_thing t.0 t.1.0 t.1.1
made_from (inr (inr (inl (inl n)))) = a_file n
made_from (inr (inr (inl (inr n)))) = a_dir n
made_from (inr (inr (inr (inl n)))) = a_pipe n
made_from (inr (inr (inr (inr t)))) = a_thread t

abbrev pub made_back : (m : Made) → made_from (made_parts m) ≡ m
made_back (a_region l k depth region args) = refl
made_back (a_thing n v slots) = refl
made_back (a_file n) = refl
made_back (a_dir n) = refl
made_back (a_pipe n) = refl
made_back (a_thread t) = refl

abbrev pub coded_made : Coded Made
coded_made =
    code_by Parts
    (coded⊎ (coded× coded_label (coded× coded_caps (coded× coded_ℕ (coded× coded_ℕ coded_values))))
    (coded⊎ (coded× coded_name (coded× value.the_row.coded coded_values))
    (coded⊎ (coded⊎ coded_name coded_name) (coded⊎ coded_name coded_ℕ))))
    made_parts made_from made_back

abbrev pub coded_release : Coded Release
coded_release =
    code_by (ℕ × (Option Made × Option Caps)) (coded× coded_ℕ (coded× (coded_option coded_made) (coded_option coded_caps)))
    (λ r. (r.thread, (r.content, r.by))) (λ p. record { thread = p.0; content = p.1.0; by = p.1.1 }) (λ _. refl)

abbrev pub item_parts : Item → ℕ ⊎ Release
item_parts (turn thread) = inl thread
item_parts (past r) = inr r

abbrev pub item_from : ℕ ⊎ Release → Item
item_from (inl thread) = turn thread
item_from (inr r) = past r

abbrev pub item_back : (x : Item) → item_from (item_parts x) ≡ x
item_back (turn thread) = refl
item_back (past r) = refl

abbrev pub coded_items : Coded (List Item)
coded_items = coded_list (code_by (ℕ ⊎ Release) (coded⊎ coded_ℕ coded_release) item_parts item_from item_back)
