-- What is noted of one moment, by its event and its world.
use Rattle.std.proofs.Common.{◌≡◌, Bool, true, false, cond, List, [], ◌∷◌, ◌++◌, Option, Some, None, refl, sym, ap, ◌∙◌}
use Rattle.std.specs.Prelude.{not, ◌&&◌, ◌||◌, map}
use Rattle.std.specs.Option.{option_to_list}
use Rattle.std.proofs.lemmas.List.{map-append}
use Rattle.std.proofs.lemmas.List.Elements.{filter-append}
use Rattle.flow_labels.specs.declared.Label.{Label}
use Rattle.flow_labels.specs.Flow.{seen}
use Rattle.capabilities.specs.declared.Caps.{Caps}
use Rattle.capabilities.specs.Changes.{used}
use Rattle.lam_machine_terms.specs.Serves.{Made}
use Rattle.lam_machine_terms.specs.Turns.{Moment}
use Rattle.lam_machine_terms.specs.Views.{Item, turn, past, shows, release_of, used_by, is_noted, noted, item_of, agenda}
use Rattle.audit_log_notes.specs.declared.Content.{Content}
use Rattle.lam_machine_replay.specs.Told.{product_label, product, IsProduct, IsToldBy}
use Rattle.lam_machine_replay.proofs.SeenLemmas.{shown_not}
use Rattle.pair_check_agenda.specs.Agendas.{made_of}
use Rattle.pair_check_agenda.specs.Noting as noting
use Rattle.pair_check_agenda.specs.Noting.{released, past_by, noted_of}
use Rattle.pair_check_agenda.proofs.MadeLemmas.{IsNamed, IsNamedBy, made_told, content_told}

module _ (o : Label) (m : Moment) where
  -- a turn of a thread that is seen
  seen_noted : seen m.event.label o ≡ true → agenda o (m ∷ []) ≡ option_to_list (noted_of o m.event m.world)
  seen_noted e =
      ap (λ b. map (item_of o) (cond (b || (not b && shows o m.made)) (m ∷ []) [])) e
      ∙ ap (λ b. cond b (turn m.event.thread) (past (release_of m)) ∷ []) e
      ∙ sym (ap (λ b. option_to_list (cond b (Some (turn m.event.thread)) (noting.past o m.event m.world))) e)

  -- another's turn, by whether what it made is shown
  abbrev other : Bool → List Item
  other b = map (item_of o) (cond b (m ∷ []) [])

  abbrev told : Option Content
  told = product m.world m.event.thread m.event.what

  release_noted : (own : Label) → product_label m.event.what ≡ Some own → IsProduct m own → IsNamed m.made → seen m.event.label o ≡ false → (b : Bool) → other b ≡ option_to_list (cond b (released m.event.thread (used m.event.label own) told) None)
  release_noted own at is named e true =
      let c = content_told m.world m.event.thread m.event.what own at in
      let made : m.made ≡ Some (made_of c.0) = made_told m.made named c.0 (is.content ∙ c.1) in
      ap (λ b. cond b (turn m.event.thread) (past (release_of m)) ∷ []) e
      ∙ ap (λ (x : Option Made). past (record { thread = m.event.thread; content = x; by = used_by m.event.label m.made }) ∷ []) made
      ∙ ap (λ (x : Option Caps). past (record { thread = m.event.thread; content = Some (made_of c.0); by = x }) ∷ []) is.by
      ∙ sym (ap (λ (x : Option Content). option_to_list (released m.event.thread (used m.event.label own) x)) c.1)
  release_noted own at is named e false = refl

  other_noted : (x : Option Label) → product_label m.event.what ≡ x → IsToldBy m x → IsNamedBy x m.made → seen m.event.label o ≡ false → other (shows o m.made) ≡ option_to_list (past_by o m.event told x)
  other_noted None at is named e = ap other (shown_not o m e is)
  other_noted (Some own) at is named e = ap other (is.shown o) ∙ release_noted own at is named e (seen own o)

  past_noted : IsToldBy m (product_label m.event.what) → IsNamedBy (product_label m.event.what) m.made → seen m.event.label o ≡ false → agenda o (m ∷ []) ≡ option_to_list (noted_of o m.event m.world)
  past_noted is named e =
      ap (λ b. map (item_of o) (cond (b || (not b && shows o m.made)) (m ∷ []) [])) e
      ∙ other_noted (product_label m.event.what) refl is named e
      ∙ sym (ap (λ b. option_to_list (cond b (Some (turn m.event.thread)) (noting.past o m.event m.world))) e)

pub noted_one : (o : Label) (m : Moment) → IsToldBy m (product_label m.event.what) → IsNamedBy (product_label m.event.what) m.made → agenda o (m ∷ []) ≡ option_to_list (noted_of o m.event m.world)
noted_one o m is named = go (seen m.event.label o) refl
  where
    go : (b : Bool) → seen m.event.label o ≡ b → agenda o (m ∷ []) ≡ option_to_list (noted_of o m.event m.world)
    go true e = seen_noted o m e
    go false e = past_noted o m is named e

-- what is noted of moments, one after another
pub agenda_join : (o : Label) (ms ns : List Moment) → agenda o (ms ++ ns) ≡ agenda o ms ++ agenda o ns
agenda_join o ms ns = ap (λ xs. map (item_of o) xs) (filter-append (is_noted o) ms ns) ∙ map-append (item_of o) (noted o ms) (noted o ns)
