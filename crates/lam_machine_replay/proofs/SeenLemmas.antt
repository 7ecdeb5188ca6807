-- What is seen of one moment, by its event and its world.
use Rattle.std.proofs.Common.{◌≡◌, ℕ, Bool, true, false, cond, List, [], ◌∷◌, ◌++◌, Option, Some, None, refl, sym, ap, ◌∙◌, append-nil}
use Rattle.std.specs.Prelude.{not, ◌&&◌, ◌||◌, map}
use Rattle.std.specs.List.{flat_map}
use Rattle.std.specs.Option.{option_to_list}
use Rattle.std.proofs.lemmas.List.{map-append}
use Rattle.std.proofs.lemmas.List.Elements.{filter-append}
use Rattle.std.proofs.lemmas.Grind.{flat_map-append}
use Rattle.std.proofs.Math.Bool.{true≢false}
use Rattle.flow_labels.specs.declared.Label.{Label}
use Rattle.flow_labels.specs.Flow.{seen}
use Rattle.capabilities.specs.declared.Caps.{Caps}
use Rattle.capabilities.specs.Changes.{used}
use Rattle.lam_asks.specs.declared.answer.What.{What}
use Rattle.lam_asks.specs.declared.answer.What.TheVariants.{Private, Asked}
use Rattle.lam_asks.specs.declared.answer.Event.{Event}
use Rattle.lam_bytecode.specs.Codes.{CodeTree}
use Rattle.lam_machine_terms.specs.Worlds.{World}
use Rattle.lam_machine_terms.specs.Turns.{Moment}
use Rattle.lam_machine_terms.specs.Views.{event, release, is_release, shows, release_of, used_by, is_noted, noted, entry_of, trace}
use Rattle.lam_machine_laws.proofs.DownLemmas.{two_release}
use Rattle.audit_log_notes.specs.Notes.{released, asked, shown, seen_by}
use Rattle.audit_log_notes.specs.declared.Content.{Content}
use Rattle.audit_log_notes.specs.declared.Seen.{Seen}
use Rattle.audit_log_notes.specs.declared.Seen.TheVariants as seen_as
use Rattle.lam_machine_replay.specs.Told.{product_label, product, IsProduct, IsToldBy}
use Rattle.lam_machine_replay.specs.Viewed.{is_private, own_turn, told, past_by, past, seen_of}
use Rattle.lam_machine_replay.specs.Keeping.{KeepsEvent}

own_listed : (e : Event) (what : What) → asked e what ++ [] ≡ option_to_list (cond (is_private what) None (Some (seen_as.Event e)))
own_listed e Private = refl
own_listed e (Asked ask answer) = refl

told_listed : (t : ℕ) (by : Caps) (x : Option Content) → released t x (Some by) ++ [] ≡ option_to_list (told t by x)
told_listed t by None = refl
told_listed t by (Some c) = refl

module _ (o : Label) (m : Moment) where
  own_seen : seen m.event.label o ≡ true → seen_by o (m ∷ []) ≡ option_to_list (seen_of o m.event m.world)
  own_seen e =
      ap (λ b. flat_map shown (map (entry_of o) (cond (b || (not b && shows o m.made)) (m ∷ []) []))) e
      ∙ ap (λ b. shown (cond b (event m.event) (release (release_of m))) ++ []) e
      ∙ own_listed m.event m.event.what
      ∙ sym (ap (λ b. option_to_list (cond b (own_turn m.event) (past o m.event m.world))) e)

  no_code : CodeTree
  no_code = record { units = []; constants = []; classes = [] }

  -- what is shown of another's turn is a release
  pub shown_not : seen m.event.label o ≡ false → is_release m ≡ false → shows o m.made ≡ false
  shown_not e r = go (shows o m.made) refl
    where
      go : (b : Bool) → shows o m.made ≡ b → b ≡ false
      go true s = absurd (true≢false (sym ((two_release no_code).past o m (ap (λ b. not b && shows o m.made) e ∙ s)) ∙ r))
      go false s = refl

  -- another's turn, by whether what it made is shown
  abbrev other : Bool → List Seen
  other b = flat_map shown (map (entry_of o) (cond b (m ∷ []) []))

  release_seen : (own : Label) → IsProduct m own → seen m.event.label o ≡ false → (b : Bool) → other b ≡ option_to_list (cond b (told m.event.thread (used m.event.label own) (product m.world m.event.thread m.event.what)) None)
  release_seen own is e true =
      ap (λ b. shown (cond b (event m.event) (release (release_of m))) ++ []) e
      ∙ ap (λ x. released m.event.thread x (used_by m.event.label m.made) ++ []) is.content
      ∙ ap (λ x. released m.event.thread (product m.world m.event.thread m.event.what) x ++ []) is.by
      ∙ told_listed m.event.thread (used m.event.label own) (product m.world m.event.thread m.event.what)
  release_seen own is e false = refl

  other_seen : (x : Option Label) → IsToldBy m x → seen m.event.label o ≡ false → other (shows o m.made) ≡ option_to_list (past_by o m.event (product m.world m.event.thread m.event.what) x)
  other_seen None is e = ap other (shown_not e is)
  other_seen (Some own) is e = ap other (is.shown o) ∙ release_seen own is e (seen own o)

  past_seen : IsToldBy m (product_label m.event.what) → seen m.event.label o ≡ false → seen_by o (m ∷ []) ≡ option_to_list (seen_of o m.event m.world)
  past_seen is e =
      ap (λ b. flat_map shown (map (entry_of o) (cond (b || (not b && shows o m.made)) (m ∷ []) []))) e
      ∙ other_seen (product_label m.event.what) is e
      ∙ sym (ap (λ b. option_to_list (cond b (own_turn m.event) (past o m.event m.world))) e)

seen_one : (o : Label) (m : Moment) → IsToldBy m (product_label m.event.what) → seen_by o (m ∷ []) ≡ option_to_list (seen_of o m.event m.world)
seen_one o m is = go (seen m.event.label o) refl
  where
    go : (b : Bool) → seen m.event.label o ≡ b → seen_by o (m ∷ []) ≡ option_to_list (seen_of o m.event m.world)
    go true e = own_seen o m e
    go false e = past_seen o m is e

-- of moments in a row both parts are seen
seen_by-append : (o : Label) (ms ns : List Moment) → seen_by o (ms ++ ns) ≡ seen_by o ms ++ seen_by o ns
seen_by-append o ms ns =
    ap (λ xs. flat_map shown (map (entry_of o) xs)) (filter-append (is_noted o) ms ns)
    ∙ ap (λ xs. flat_map shown xs) (map-append (entry_of o) (noted o ms) (noted o ns))
    ∙ flat_map-append shown (trace o ms) (trace o ns)

-- with one moment more, what is seen of it is put behind
pub seen_more : (o : Label) (ms : List Moment) (m : Moment) → IsToldBy m (product_label m.event.what) → seen_by o (ms ++ m ∷ []) ≡ seen_by o ms ++ option_to_list (seen_of o m.event m.world)
seen_more o ms m is = seen_by-append o ms (m ∷ []) ∙ ap (λ xs. seen_by o ms ++ xs) (seen_one o m is)

pub seen_kept : (o : Label) (n : ℕ) (e : Event) (after : World) (before kept : List Seen) → kept ≡ before ++ option_to_list (seen_of o e after) → KeepsEvent (λ ms all. all ≡ seen_by o ms) n e after before kept
seen_kept o n e after before kept new m of_event of_world is ms many old =
    new
    ∙ ap (λ xs. xs ++ option_to_list (seen_of o e after)) old
    ∙ ap (λ x. seen_by o ms ++ option_to_list (seen_of o x after)) (sym of_event)
    ∙ ap (λ w. seen_by o ms ++ option_to_list (seen_of o m.event w)) (sym of_world)
    ∙ sym (seen_more o ms m is)

-- whoever acts
either : {X : Type 0} (b : Bool) (x : Option X) → cond b x x ≡ x
either true x = refl
either false x = refl

pub nothing_seen : (o : Label) (e : Event) (after : World) → e.what ≡ Private → seen_of o e after ≡ None
nothing_seen o e after is =
    ap (λ what. cond (seen e.label o) (cond (is_private what) None (Some (seen_as.Event e))) (past_by o e (product after e.thread what) (product_label what))) is
    ∙ either (seen e.label o) None

-- of a private moment nothing is seen
pub private_unseen : (o : Label) (ms : List Moment) (m : Moment) (all : List Seen) → m.event.what ≡ Private → IsToldBy m (product_label m.event.what) → all ≡ seen_by o ms → all ≡ seen_by o (ms ++ m ∷ [])
private_unseen o ms m all is told old =
    old
    ∙ sym (append-nil (seen_by o ms))
    ∙ ap (λ x. seen_by o ms ++ option_to_list x) (sym (nothing_seen o m.event m.world is))
    ∙ sym (seen_more o ms m told)
