-- Faults and returns, and the ends of calls and regions.
use Rattle.std.proofs.Common.{◌≡◌, ℕ, ◌+◌, ◌<◌, true, false, List, [], ◌∷◌, refl, sym, ap, ◌∙◌, subst, inr, arith}
use denote.Bor.{Bor}
use Rattle.flow_labels.specs.declared.Label.{Label}
use Rattle.lam_value.specs.declared.values.Value.{Value}
use Rattle.lam_value.specs.declared.values.Value.TheVariants.{Nothing, Obj, Arr}
use Rattle.lam_asks.specs.declared.fault.Fault.{Fault}
use Rattle.lam_asks.specs.declared.answer.Outcome.TheVariants as outcome
use Rattle.lam_asks.specs.declared.ask.Ask.TheVariants as ask
use Rattle.lam_resolve_tree.specs.declared.Expr.{Expr}
use Rattle.lam_resolve_tree.specs.Tree.{ResolvedTree}
use Rattle.lam_meaning.specs.Trees.{Own, raises, leaves, on_end, and_then, local}
use Rattle.lam_meaning.specs.Means.{give_back, returns}
use Rattle.source_walk_state.specs.declared.Sort.TheVariants.{Number}
use Rattle.source_walk_state.specs.declared.Reply.TheVariants as reply
use Rattle.source_walk_state.specs.declared.Region.{Region}
use Rattle.source_walk_state.specs.declared.Outside.{Outside}
use Rattle.source_walk_state.specs.declared.BeforeRegion.{BeforeRegion}
use Rattle.source_walk_state.specs.declared.BeforeRegion.TheVariants as part
use Rattle.source_walk_state.specs.declared.Frame.{Frame}
use Rattle.source_walk_state.specs.declared.Frame.TheVariants as frame
use Rattle.source_walk_state.specs.declared.Control.{Control}
use Rattle.source_walk_state.specs.declared.Control.TheVariants as control
use Rattle.source_walk_state.specs.Meaning.{valued, open_of, after, own_of, place_of}
use Rattle.source_walk_state.proofs.Opening.{asks_done}
use Rattle.source_walk_state.proofs.Delimiters as laws
use Rattle.source_walk_parts.specs.Controls.{monitor_control}
use Rattle.source_walk_parts.specs.Weights.{frames_weight, pending}
use Rattle.source_walk_go.specs.Choices.{is_region_delimiter}
use Rattle.source_walk_parts.specs.States.{State, pushed, pushed_if, with_frames, at_place, returned, outside_of, left_at, Goes}

not_true : false ≡ true → ⊥
not_true h = cc

module _ (r : ResolvedTree) (s : State) where
  -- ---- values

  pub call_ends : (v : Value) (calls : ℕ) (ls : List Value) (t : State) → t ≡ returned s calls ls → Goes r (control.Give v) (pushed s (frame.Called calls ls)) (control.Give Nothing) t
  unfolding left_at on_end
  call_ends v calls ls t e = rw e (record { left = refl; less = inr (refl, omega arith) })

  pub catch_ends : (v : Value) (out : Outside) (d : Control) (t : State) → d ≡ control.Ask ask.Leave Number reply.Done → t ≡ outside_of s out → Goes r (control.Give v) (pushed s (frame.Catch out)) d t
  unfolding left_at on_end
  catch_ends v out d t e h =
      subst (λ y. Goes r (control.Give v) (pushed s (frame.Catch out)) y t) (sym e)
      (subst (λ y. Goes r (control.Give v) (pushed s (frame.Catch out)) (control.Ask ask.Leave Number reply.Done) y) (sym h)
      (record { left = ap (λ y. on_end y (after r s.frames (place_of out))) (sym (asks_done ask.Leave s.units (own_of out))); less = inr (refl, omega arith) }))

  -- ---- faults

  pub raises_end : (f : Fault) → s.frames ≡ [] → Goes r (control.Raise f) s (control.End (outcome.Failed f)) s
  unfolding left_at on_end
  raises_end f e =
      subst (λ fs. Goes r (control.Raise f) (with_frames s fs) (control.End (outcome.Failed f)) (with_frames s fs)) (sym e) (record { left = refl; less = inr (refl, omega arith) })

  pub raise_call : (f : Fault) (calls : ℕ) (ls : List Value) (t : State) → t ≡ returned s calls ls → Goes r (control.Raise f) (pushed s (frame.Called calls ls)) (control.Raise f) t
  unfolding left_at on_end
  raise_call f calls ls t e = rw e (record { left = refl; less = inr (refl, omega arith) })

  pub suppresses : (f : Fault) (out : Outside) (d : Control) (t : State) → d ≡ control.Ask (ask.Suppressed f) Number reply.Done → t ≡ outside_of s out → Goes r (control.Raise f) (pushed s (frame.Catch out)) d t
  unfolding left_at on_end
  suppresses f out d t e h =
      subst (λ y. Goes r (control.Raise f) (pushed s (frame.Catch out)) y t) (sym e)
      (subst (λ y. Goes r (control.Raise f) (pushed s (frame.Catch out)) (control.Ask (ask.Suppressed f) Number reply.Done) y) (sym h)
      (record { left = ap (λ y. on_end y (after r s.frames (place_of out))) (sym (asks_done (ask.Suppressed f) s.units (own_of out))); less = inr (refl, omega arith) }))

  pub catches_goes : (f : Fault) (depth : ℕ) (x : Region) (out : Outside) (d : Control) (t : State) → d ≡ control.Ask (ask.Caught f) Number reply.Done → t ≡ pushed s (frame.Region depth x (part.Caught f out)) → Goes r (control.Raise f) (pushed s (frame.Region depth x (part.Body out))) d t
  unfolding left_at on_end
  catches_goes f depth x out d t e h =
      subst (λ y. Goes r (control.Raise f) (pushed s (frame.Region depth x (part.Body out))) y t) (sym e)
      (subst (λ y. Goes r (control.Raise f) (pushed s (frame.Region depth x (part.Body out))) (control.Ask (ask.Caught f) Number reply.Done) y) (sym h)
      (record { left = sym (laws.catches r depth s.frames x out f s.place s.units s.own); less = inr (refl, omega arith) }))

  pub raise_outside : (f : Fault) (depth : ℕ) (x : Region) (g : Fault) (out : Outside) (t : State) → t ≡ at_place s (place_of out) → Goes r (control.Raise f) (pushed s (frame.Region depth x (part.Caught g out))) (control.Raise f) t
  unfolding left_at on_end
  raise_outside f depth x g out t e = rw e (record { left = refl; less = inr (refl, omega arith) })

  pub raise_label : (f : Fault) (depth : ℕ) (x : Region) (e : Bor Expr) → Goes r (control.Raise f) (pushed s (frame.Region depth x (part.Label e))) (control.Raise f) s
  unfolding left_at on_end
  raise_label f depth x e = record { left = refl; less = inr (refl, omega arith) }

  pub raise_caps : (f : Fault) (depth : ℕ) (x : Region) (l : Value) → Goes r (control.Raise f) (pushed s (frame.Region depth x (part.Caps l))) (control.Raise f) s
  unfolding left_at on_end
  raise_caps f depth x l = record { left = refl; less = inr (refl, omega arith) }

  -- a frame that is no delimiter
  pub raise_passes : (f : Fault) (g : Frame) → ((calls : ℕ) (ls : List Value) → g ≡ frame.Called calls ls → ⊥) → ((depth : ℕ) (x : Region) (b : BeforeRegion) → g ≡ frame.Region depth x b → ⊥) → ((out : Outside) → g ≡ frame.Catch out → ⊥) →
      Goes r (control.Raise f) (pushed s g) (control.Raise f) s
  unfolding left_at on_end
  raise_passes f (frame.Called calls ls) h i j = absurd (h calls ls refl)
  raise_passes f (frame.Region depth x b) h i j = absurd (i depth x b refl)
  raise_passes f (frame.Catch out) h i j = absurd (j out refl)
  raise_passes f (frame.Loop depth e a false) h i j = record { left = refl; less = inr (refl, omega arith) }
  raise_passes f g h i j = record { left = refl; less = inr (refl, omega arith) }

  -- ---- returns

  pub leaves_end : (v : Value) → s.frames ≡ [] → Goes r (control.Leave v) s (control.End (outcome.Value v)) s
  unfolding left_at on_end
  leaves_end v e =
      subst (λ fs. Goes r (control.Leave v) (with_frames s fs) (control.End (outcome.Value v)) (with_frames s fs)) (sym e) (record { left = refl; less = inr (refl, omega arith) })

  pub leave_call : (v : Value) (calls : ℕ) (ls : List Value) (t : State) → t ≡ returned s calls ls → Goes r (control.Leave v) (pushed s (frame.Called calls ls)) (control.Give v) t
  unfolding left_at on_end
  leave_call v calls ls t e = rw e (record { left = refl; less = inr (refl, omega arith) })

  -- no `return` comes to the delimiters of a region
  pub leave_stops : (v : Value) (g : Frame) → is_region_delimiter g ≡ true → Goes r (control.Leave v) (pushed s g) control.Broken s
  unfolding left_at on_end
  leave_stops v (frame.Catch out) h = record { left = refl; less = inr (refl, omega arith) }
  leave_stops v (frame.Region depth x (part.Body out)) h = record { left = refl; less = inr (refl, omega arith) }
  leave_stops v (frame.Region depth x (part.Caught f out)) h = record { left = refl; less = inr (refl, omega arith) }
  leave_stops v g h = absurd (not_true h)

  -- a frame that is no delimiter, and holds no monitor
  passing : (v : Value) (g : Frame) → ((f : Fault) (n : ℕ) (o : Own) → after r (g ∷ s.frames) s.place (raises f n o) ≡ after r s.frames s.place (raises f n o)) → ((w : Value) (n : ℕ) (o : Own) → after r (g ∷ s.frames) s.place (leaves w n o) ≡ after r s.frames s.place (leaves w n o)) →
      on_end (valued (returns (open_of s.frames) v s.units s.own)) (after r s.frames s.place) ≡ on_end (valued (returns (open_of s.frames) v s.units s.own)) (after r (g ∷ s.frames) s.place)
  passing v g up out = sym (laws.returns_same (after r (g ∷ s.frames) s.place) (after r s.frames s.place) up (open_of s.frames) v s.units s.own out)

  pub leave_passes : (v : Value) (g : Frame) → is_region_delimiter g ≡ false → ((slot : ℕ) → g ≡ frame.Held slot → ⊥) → ((calls : ℕ) (ls : List Value) → g ≡ frame.Called calls ls → ⊥) → Goes r (control.Leave v) (pushed s g) (control.Leave v) s
  unfolding left_at on_end
  leave_passes v (frame.Held slot) e k h = absurd (k slot refl)
  leave_passes v (frame.Called calls ls) e k h = absurd (h calls ls refl)
  leave_passes v (frame.Catch out) e k h = absurd (not_true (sym e))
  leave_passes v (frame.Region depth x (part.Label l)) e k h = record { left = passing v (frame.Region depth x (part.Label l)) (λ f n o. refl) (λ w n o. refl); less = inr (refl, omega arith) }
  leave_passes v (frame.Region depth x (part.Caps l)) e k h = record { left = passing v (frame.Region depth x (part.Caps l)) (λ f n o. refl) (λ w n o. refl); less = inr (refl, omega arith) }
  leave_passes v (frame.Region depth x b) e k h = absurd (not_true (sym e))
  leave_passes v (frame.Loop depth c a false) e k h = record { left = passing v (frame.Loop depth c a false) (λ f n o. refl) (λ w n o. refl); less = inr (refl, omega arith) }
  leave_passes v g e k h = record { left = passing v g (λ f n o. refl) (λ w n o. refl); less = inr (refl, omega arith) }

  -- the monitor of a `sync` is given back first
  module _ (slot : ℕ) (v : Value) where
    behind : (n : ℕ) (o : Own) → on_end (valued (returns (open_of s.frames) v n o)) (after r (frame.Held slot ∷ s.frames) s.place) ≡ on_end (valued (returns (open_of s.frames) v n o)) (after r s.frames s.place)
    unfolding on_end
    behind n o = laws.returns_same (after r (frame.Held slot ∷ s.frames) s.place) (after r s.frames s.place) (λ f n o. refl) (open_of s.frames) v n o (λ w n o. refl)

    abbrev First : Value → Type 0
    First x =
        left_at r (monitor_control false x) (pushed_if (monitor_control false x) s (frame.Leaving v))
        ≡ on_end (valued (and_then (give_back x s.units s.own) (λ _ n o. returns (open_of s.frames) v n o))) (after r (frame.Held slot ∷ s.frames) s.place)

    giving : (x : Value) → First x
    unfolding left_at on_end
    giving (Obj x) =
        sym (laws.asks_then (ask.MonLeave (Obj x)) s.units s.own (λ n o. returns (open_of s.frames) v n o) (after r (frame.Held slot ∷ s.frames) s.place) (after r (frame.Leaving v ∷ s.frames) s.place) (λ n o. behind n o) (λ f n o. refl))
    giving (Arr x len) =
        sym (laws.asks_then (ask.MonLeave (Arr x len)) s.units s.own (λ n o. returns (open_of s.frames) v n o) (after r (frame.Held slot ∷ s.frames) s.place) (after r (frame.Leaving v ∷ s.frames) s.place) (λ n o. behind n o) (λ f n o. refl))
    giving x = refl

    -- two for the `return` and its frame, before
    lighter : (x : Value) → pending (monitor_control false x) (pushed_if (monitor_control false x) s (frame.Leaving v)).frames < 2 + frames_weight s.frames
    lighter (Obj x) = omega arith
    lighter x = omega arith

    same_units : (x : Value) → (pushed_if (monitor_control false x) s (frame.Leaving v)).units ≡ s.units
    same_units (Obj x) = refl
    same_units x = refl

    leaves_held : Goes r (control.Leave v) (pushed s (frame.Held slot)) (monitor_control false (local s.own slot)) (pushed_if (monitor_control false (local s.own slot)) s (frame.Leaving v))
    unfolding left_at
    leaves_held =
        record {
          left = giving (local s.own slot);
          less = inr (same_units (local s.own slot), omega (arith, lighter (local s.own slot)));
        }

    pub leave_held : (x : Value) (d : Control) (t : State) → x ≡ local s.own slot → d ≡ monitor_control false x → t ≡ pushed_if d s (frame.Leaving v) → Goes r (control.Leave v) (pushed s (frame.Held slot)) d t
    leave_held x d t e h g =
        subst (λ y. Goes r (control.Leave v) (pushed s (frame.Held slot)) d y) (sym g)
        (subst (λ y. Goes r (control.Leave v) (pushed s (frame.Held slot)) y (pushed_if y s (frame.Leaving v))) (sym (h ∙ ap (monitor_control false) e)) leaves_held)
