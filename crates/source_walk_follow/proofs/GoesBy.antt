-- How a walk goes on with an answer, by the control at which it stands.
use Rattle.std.proofs.Common.{◌≡◌, ℕ, true, List, Option, Some, None, refl, sym, subst}
use Rattle.std.specs.Prelude.{slice_get}
use Rattle.std.proofs.lemmas.Option.{same_Some}
use Rattle.flow_labels.specs.declared.Label.{Label}
use Rattle.capabilities.specs.declared.Caps.{Caps}
use Rattle.lam_value.specs.declared.values.Value.{Value}
use Rattle.lam_value.specs.declared.shapes.Shape.TheVariants.{Class}
use Rattle.lam_asks.specs.declared.answer.Outcome.{Outcome}
use Rattle.lam_asks.specs.declared.answer.Answer.{Answer}
use Rattle.lam_asks.specs.declared.ask.Ask.{Ask}
use Rattle.lam_asks.specs.declared.ask.Ask.TheVariants as ask
use Rattle.lam_asks.specs.Suits.{suits}
use Rattle.lam_resolve_tree.specs.Tree.{ResolvedTree}
use Rattle.lam_meaning.specs.Trees.{Own, on_end, value_reply, nothing_gained}
use Rattle.lam_meaning.specs.Means.{class_fields, enter_reply}
use Rattle.source_walk_state.specs.declared.Sort.{Sort as Written}
use Rattle.source_walk_state.specs.declared.Region.{Region}
use Rattle.source_walk_state.specs.declared.Reply.{Reply}
use Rattle.source_walk_state.specs.declared.Control.{Control}
use Rattle.source_walk_state.specs.declared.Control.TheVariants as control
use Rattle.source_walk_state.specs.Meaning.{sort_seen, valued, region_args, region_locals, entered, replied, after}
use Rattle.source_walk_parts.specs.States.{State, left_at}
use Rattle.source_walk_follow.specs.Standing.{made_by, place_sort, GoesOn}
use Rattle.source_walk_follow.proofs.Replies.{ask_goes, new_goes, spawn_goes, enter_goes, end_goes}

module _ (r : ResolvedTree) (s : State) (b : Ask) (x : Answer) (d : Control) (t : State) where
  abbrev pub GoesBy : Control → Type 0
  GoesBy c = suits (sort_seen (place_sort c)) b x ≡ true → made_by r c s.own ≡ Some b → GoesOn r c s b x d t

  pub by_ask : (c : Control) (a : Ask) (q : Written) (y : Reply) → c ≡ control.Ask a q y → left_at r d t ≡ on_end (replied b y s.units s.own x) (after r s.frames s.place) → GoesBy c
  by_ask c a q y e h =
      subst (λ z. GoesBy z) (sym e) (λ k m. subst (λ z. GoesOn r (control.Ask z q y) s b x d t) (sym (same_Some a b m)) (ask_goes r s x d t b q y k h))

  pub by_new : (c : Control) (n : ℕ) → c ≡ control.New n → left_at r d t ≡ on_end (value_reply nothing_gained s.units s.own x) (after r s.frames s.place) → GoesBy c
  by_new c n e h =
      subst (λ z. GoesBy z) (sym e)
      (λ k m.
      let made : Ask = ask.New (Class n (class_fields (slice_get r.classes n))) in
      let same : made ≡ b = same_Some made b m in
      subst (λ z. GoesOn r (control.New n) s z x d t) same (new_goes r s x d t n (subst (λ z. suits (sort_seen (place_sort (control.New n))) z x ≡ true) (sym same) k) h))

  pub by_spawn : (c : Control) (f : ℕ) (vs : List Value) (caps : Caps) → c ≡ control.Spawn f vs caps → left_at r d t ≡ on_end (value_reply nothing_gained s.units s.own x) (after r s.frames s.place) → GoesBy c
  by_spawn c f vs caps e h =
      subst (λ z. GoesBy z) (sym e)
      (λ k m.
      let same : ask.Spawn f vs caps ≡ b = same_Some (ask.Spawn f vs caps) b m in
      subst (λ z. GoesOn r (control.Spawn f vs caps) s z x d t) same (spawn_goes r s x d t f vs caps (subst (λ z. suits (sort_seen (place_sort (control.Spawn f vs caps))) z x ≡ true) (sym same) k) h))

  pub by_enter : (c : Control) (depth : ℕ) (l : Label) (caps : Caps) (y : Region) → c ≡ control.Enter depth l caps y →
      left_at r d t ≡ on_end (valued (enter_reply (entered r depth l caps y (region_locals s.own y) s.units s.own) s.units s.own x)) (after r s.frames s.place) → GoesBy c
  by_enter c depth l caps y e h =
      subst (λ z. GoesBy z) (sym e)
      (λ k m.
      let made : Ask = ask.Enter l caps y.number (region_args s.own y) in
      let same : made ≡ b = same_Some made b m in
      subst (λ z. GoesOn r (control.Enter depth l caps y) s z x d t) same (enter_goes r s x d t depth l caps y (subst (λ z. suits (sort_seen (place_sort (control.Enter depth l caps y))) z x ≡ true) (sym same) k) h))

module _ (r : ResolvedTree) (s : State) (b : Ask) (x : Answer) where
  pub by_end : (c : Control) (o : Outcome) (t : State) → c ≡ control.End o → GoesBy r s b x control.Over t c
  by_end c o t e =
      subst (λ z. GoesBy r s b x control.Over t z) (sym e)
      (λ k m.
      let same : ask.End o ≡ b = same_Some (ask.End o) b m in
      subst (λ z. GoesOn r (control.End o) s z x control.Over t) same (end_goes r s x o t (subst (λ z. suits (sort_seen (place_sort (control.End o))) z x ≡ true) (sym same) k)))

-- a control of none of these forms makes no ask
pub makes_none : (r : ResolvedTree) (o : Own) (c : Control) → ((a : Ask) (q : Written) (y : Reply) → c ≡ control.Ask a q y → ⊥) → ((n : ℕ) → c ≡ control.New n → ⊥) → ((f : ℕ) (vs : List Value) (k : Caps) → c ≡ control.Spawn f vs k → ⊥) →
    ((d : ℕ) (l : Label) (k : Caps) (y : Region) → c ≡ control.Enter d l k y → ⊥) → ((x : Outcome) → c ≡ control.End x → ⊥) → made_by r c o ≡ None
makes_none r o (control.Ask a q y) f g h i j = absurd (f a q y refl)
makes_none r o (control.New n) f g h i j = absurd (g n refl)
makes_none r o (control.Spawn n vs k) f g h i j = absurd (h n vs k refl)
makes_none r o (control.Enter d l k y) f g h i j = absurd (i d l k y refl)
makes_none r o (control.End x) f g h i j = absurd (j x refl)
makes_none r o c f g h i j = refl

pub no_ask : (a : Ask) (o : Option Ask) → o ≡ None → o ≡ Some a → ⊥
no_ask a o e h = cc
