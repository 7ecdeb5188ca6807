-- How a walk goes on with an answer.
use Rattle.std.proofs.Common.{◌≡◌, ℕ, ◌-◌, true, List, ◌++◌, length, map, replicate, refl, sym, ap, ◌∙◌}
use Rattle.std.proofs.lemmas.List.{length-map}
use Rattle.std.specs.Prelude.{slice_get}
use Rattle.flow_labels.specs.declared.Label.{Label}
use Rattle.capabilities.specs.declared.Caps.{Caps}
use Rattle.lam_value.specs.declared.values.Value.{Value}
use Rattle.lam_value.specs.declared.values.Value.TheVariants.{Nothing}
use Rattle.lam_value.specs.declared.shapes.Shape.TheVariants.{Class}
use Rattle.lam_asks.specs.declared.answer.Outcome.{Outcome}
use Rattle.lam_asks.specs.declared.answer.Answer.{Answer}
use Rattle.lam_asks.specs.declared.ask.Ask.{Ask}
use Rattle.lam_asks.specs.declared.ask.Ask.TheVariants as ask
use Rattle.lam_asks.specs.Suits.{suits}
use Rattle.lam_resolve_tree.specs.Tree.{ResolvedTree}
use Rattle.lam_meaning.specs.Trees.{Tree, on_end, value_reply, nothing_gained, done_reply, value_or_null}
use Rattle.lam_meaning.specs.Means.{class_fields, enter_reply}
use Rattle.lam_meaning.specs.Plays.{asks_of}
use Rattle.source_walk_state.specs.declared.Sort.{Sort as Written}
use Rattle.source_walk_state.specs.declared.Sort.TheVariants.{Number}
use Rattle.source_walk_state.specs.declared.Region.{Region}
use Rattle.source_walk_state.specs.declared.Outside.{Outside}
use Rattle.source_walk_state.specs.declared.BeforeRegion.TheVariants as part
use Rattle.source_walk_state.specs.declared.Reply.{Reply}
use Rattle.source_walk_state.specs.declared.Frame.TheVariants as frame
use Rattle.source_walk_state.specs.declared.Control.{Control}
use Rattle.source_walk_state.specs.declared.Control.TheVariants as control
use Rattle.source_walk_state.specs.Meaning.{sort_seen, valued, region_args, region_locals, entered, replied, after, own_of, place_of}
use Rattle.source_walk_state.proofs.Delimiters as laws
use Rattle.source_walk_parts.specs.States.{State, pushed, begun, left_at}
use Rattle.source_walk_follow.specs.Standing.{asks_left, GoesOn}
use Rattle.source_walk_follow.proofs.Standing.{suited, none_behind}

module _ (r : ResolvedTree) (s : State) (x : Answer) (d : Control) (t : State) where
  -- a tree that is left is one whose asks are left
  same_asks : {tree : Tree (Unit {0})} → left_at r d t ≡ tree → (xs : List Answer) → map (λ q. q.ask) (asks_of tree xs) ≡ asks_left r d t xs
  same_asks e xs = ap (λ u. map (λ q. q.ask) (asks_of u xs)) (sym e)

  pub ask_goes : (a : Ask) (q : Written) (y : Reply) → suits (sort_seen q) a x ≡ true → left_at r d t ≡ on_end (replied a y s.units s.own x) (after r s.frames s.place) → GoesOn r (control.Ask a q y) s a x d t
  unfolding left_at on_end
  ask_goes a q y h e = suited r s (control.Ask a q y) a x d t (λ z. on_end (replied a y s.units s.own z) (after r s.frames s.place)) refl h (same_asks e)

  pub new_goes : (c : ℕ) → suits (sort_seen Number) (ask.New (Class c (class_fields (slice_get r.classes c)))) x ≡ true → left_at r d t ≡ on_end (value_reply nothing_gained s.units s.own x) (after r s.frames s.place) → GoesOn r (control.New c) s (ask.New (Class c (class_fields (slice_get r.classes c)))) x d t
  unfolding left_at on_end
  new_goes c h e =
      suited r s (control.New c) (ask.New (Class c (class_fields (slice_get r.classes c)))) x d t (λ z. on_end (value_reply nothing_gained s.units s.own z) (after r s.frames s.place)) refl h (same_asks e)

  pub spawn_goes : (f : ℕ) (vs : List Value) (k : Caps) → suits (sort_seen Number) (ask.Spawn f vs k) x ≡ true → left_at r d t ≡ on_end (value_reply nothing_gained s.units s.own x) (after r s.frames s.place) → GoesOn r (control.Spawn f vs k) s (ask.Spawn f vs k) x d t
  unfolding left_at on_end
  spawn_goes f vs k h e = suited r s (control.Spawn f vs k) (ask.Spawn f vs k) x d t (λ z. on_end (value_reply nothing_gained s.units s.own z) (after r s.frames s.place)) refl h (same_asks e)

  pub enter_goes : (depth : ℕ) (l : Label) (k : Caps) (y : Region) → suits (sort_seen Number) (ask.Enter l k y.number (region_args s.own y)) x ≡ true →
      left_at r d t ≡ on_end (valued (enter_reply (entered r depth l k y (region_locals s.own y) s.units s.own) s.units s.own x)) (after r s.frames s.place) → GoesOn r (control.Enter depth l k y) s (ask.Enter l k y.number (region_args s.own y)) x d t
  unfolding left_at on_end
  enter_goes depth l k y h e =
      suited r s (control.Enter depth l k y) (ask.Enter l k y.number (region_args s.own y)) x d t (λ z. on_end (valued (enter_reply (entered r depth l k y (region_locals s.own y) s.units s.own) s.units s.own z)) (after r s.frames s.place)) refl h (same_asks e)

module _ (r : ResolvedTree) (s : State) (x : Answer) where
  pub end_goes : (o : Outcome) (t : State) → suits (sort_seen Number) (ask.End o) x ≡ true → GoesOn r (control.End o) s (ask.End o) x control.Over t
  unfolding left_at on_end
  end_goes o t h = suited r s (control.End o) (ask.End o) x control.Over t (λ z. done_reply tt s.units s.own z) refl h (λ xs. none_behind s.units s.own x xs)

-- the body of a region that was entered
module _ (r : ResolvedTree) (s : State) (depth : ℕ) (l : Label) (k : Caps) (x : Region) (out : Outside) where
  body_left : (t : State) → t ≡ pushed (begun s l k (region_locals (own_of out) x)) (frame.Region depth x (part.Body out)) → left_at r (control.Block depth x.body) t ≡ on_end (valued (entered r depth l k x (region_locals (own_of out) x) s.units (own_of out))) (after r s.frames (place_of out))
  unfolding left_at
  body_left t e =
      ap (λ y. left_at r (control.Block depth x.body) y) e ∙ sym (laws.enters_body r depth s.frames x out l k (region_locals (own_of out) x) s.units)

  pub body_goes : (ls : List Value) (t : State) → own_of out ≡ s.own → place_of out ≡ s.place → ls ≡ region_locals s.own x → t ≡ pushed (begun s l k ls) (frame.Region depth x (part.Body out)) →
      left_at r (control.Block depth x.body) t ≡ on_end (valued (entered r depth l k x (region_locals s.own x) s.units s.own)) (after r s.frames s.place)
  body_goes ls t o p e h =
      let same : ls ≡ region_locals (own_of out) x = e ∙ ap (λ y. region_locals y x) (sym o) in
      body_left t (h ∙ ap (λ y. pushed (begun s l k y) (frame.Region depth x (part.Body out))) same)
      ∙ (ap (λ y. on_end (valued (entered r depth l k x (region_locals y x) s.units y)) (after r s.frames (place_of out))) o ∙ ap (λ y. on_end (valued (entered r depth l k x (region_locals s.own x) s.units s.own)) (after r s.frames y)) p)

-- the locals of a region
pub locals_are : (ls : List Value) (from : List ℕ) (slots : ℕ) (args all : List Value) → args ≡ map (λ n. value_or_null (slice_get ls n)) from → all ≡ args ++ replicate (slots - length args) Nothing →
    all ≡ map (λ n. value_or_null (slice_get ls n)) from ++ replicate (slots - length from) Nothing
locals_are ls from slots args all e h =
    h ∙ (ap (λ y. y ++ replicate (slots - length y) Nothing) e ∙ ap (λ n. map (λ n. value_or_null (slice_get ls n)) from ++ replicate (slots - n) Nothing) (length-map from (λ n. value_or_null (slice_get ls n))))
