-- What is left behind an answer.
use Rattle.std.proofs.Common.{◌≡◌, ℕ, refl, sym, ap, ◌∙◌}
use Rattle.flow_labels.specs.declared.Denied.{Denied as Denial}
use Rattle.capabilities.specs.Changes.{with_both, joined}
use Rattle.lam_value.specs.declared.names.Name.{Name}
use Rattle.lam_value.specs.declared.values.Value.{Value}
use Rattle.lam_value.specs.declared.values.Value.TheVariants.{Nothing, Tag, CapV}
use Rattle.flow_labels.specs.Tags.{Tags}
use Rattle.lam_asks.specs.declared.fault.Fault.{Fault}
use Rattle.lam_asks.specs.declared.fault.Fault.TheVariants.{Denied}
use Rattle.lam_asks.specs.declared.answer.Answer.{Answer}
use Rattle.lam_asks.specs.declared.answer.Answer.TheVariants.{Done, Entered, Val, Refused, Failed}
use Rattle.lam_asks.specs.declared.ask.Ask.{Ask}
use Rattle.lam_asks.specs.declared.ask.Ask.TheVariants as ask
use Rattle.lam_resolve_tree.specs.Tree.{ResolvedTree}
use Rattle.lam_meaning.specs.Trees.{Own, with_caps, Tree, on_end, value_reply, done_reply, gained}
use Rattle.lam_meaning.specs.Means.{enter_reply}
use Rattle.source_walk_state.specs.declared.Control.{Control}
use Rattle.source_walk_state.specs.declared.Control.TheVariants as control
use Rattle.source_walk_state.specs.Meaning.{valued, after}
use Rattle.source_walk_parts.specs.States.{State, with_own, left_at}

-- ---- what an answer brings

pub gains_of_ask : (a : Ask) (v : Value) (o : Own) → (a ≡ ask.Mint → ⊥) → ((p : Name) → a ≡ ask.ReceiveCaps p → ⊥) → gained a v o ≡ o
gains_of_ask ask.Mint v o m p = absurd (m refl)
gains_of_ask (ask.ReceiveCaps x) v o m p = absurd (p x refl)
gains_of_ask a v o m p = refl

pub gains_of_mint : (v : Value) (o : Own) → ((t : ℕ) → v ≡ Tag t → ⊥) → gained ask.Mint v o ≡ o
gains_of_mint (Tag t) o h = absurd (h t refl)
gains_of_mint v o h = refl

gains_of_caps : (p : Name) (v : Value) (o : Own) → ((plus minus : Tags) → v ≡ CapV plus minus → ⊥) → gained (ask.ReceiveCaps p) v o ≡ o
gains_of_caps p (CapV plus minus) o h = absurd (h plus minus refl)
gains_of_caps p v o h = refl

pub gains_of_received : (a : Ask) (p : Name) (v : Value) (o : Own) → a ≡ ask.ReceiveCaps p → ((plus minus : Tags) → v ≡ CapV plus minus → ⊥) → gained a v o ≡ o
gains_of_received a p v o e h = ap (λ x. gained x v o) e ∙ gains_of_caps p v o h

pub mint_gained : (a : Ask) (v : Value) (t : ℕ) (o : Own) → a ≡ ask.Mint → v ≡ Tag t → with_caps o (with_both o.caps t) ≡ gained a v o
mint_gained a v t o e h = sym (ap (λ x. gained x v o) e ∙ ap (λ x. gained ask.Mint x o) h)

pub caps_gained : (a : Ask) (p : Name) (v : Value) (plus minus : Tags) (o : Own) → a ≡ ask.ReceiveCaps p → v ≡ CapV plus minus → with_caps o (joined o.caps (record { plus = plus; minus = minus })) ≡ gained a v o
caps_gained a p v plus minus o e h = sym (ap (λ x. gained x v o) e ∙ ap (λ x. gained (ask.ReceiveCaps p) x o) h)

-- ---- by the answer

module _ (r : ResolvedTree) (s : State) (x : Answer) where
  abbrev ValueLeft : (Value → Own → Own) → Control → State → Type 0
  ValueLeft gains d t = left_at r d t ≡ on_end (value_reply gains s.units s.own x) (after r s.frames s.place)

  abbrev NullLeft : Control → Type 0
  NullLeft d = left_at r d s ≡ on_end (done_reply Nothing s.units s.own x) (after r s.frames s.place)

  abbrev EnterLeft : Tree (Unit {0}) → Control → Type 0
  EnterLeft tree d = left_at r d s ≡ on_end (valued (enter_reply tree s.units s.own x)) (after r s.frames s.place)

  pub given_value : (gains : Value → Own → Own) (v : Value) (t : State) → x ≡ Val v → t ≡ with_own s (gains v s.own) → ValueLeft gains (control.Give v) t
  unfolding left_at on_end
  given_value gains v t e h = ap (λ y. left_at r (control.Give v) y) h ∙ ap (λ y. on_end (value_reply gains s.units s.own y) (after r s.frames s.place)) (sym e)

  pub given_refusal : (gains : Value → Own → Own) (d : Denial) → x ≡ Refused d → ValueLeft gains (control.Raise Denied) s
  unfolding left_at on_end
  given_refusal gains d e = ap (λ y. on_end (value_reply gains s.units s.own y) (after r s.frames s.place)) (sym e)

  pub given_failure : (gains : Value → Own → Own) (f : Fault) → x ≡ Failed f → ValueLeft gains (control.Raise f) s
  unfolding left_at on_end
  given_failure gains f e = ap (λ y. on_end (value_reply gains s.units s.own y) (after r s.frames s.place)) (sym e)

  pub given_done : (gains : Value → Own → Own) → x ≡ Done → ValueLeft gains control.Broken s
  unfolding left_at on_end
  given_done gains e = ap (λ y. on_end (value_reply gains s.units s.own y) (after r s.frames s.place)) (sym e)

  pub given_entry : (gains : Value → Own → Own) → x ≡ Entered → ValueLeft gains control.Broken s
  unfolding left_at on_end
  given_entry gains e = ap (λ y. on_end (value_reply gains s.units s.own y) (after r s.frames s.place)) (sym e)

  pub null_done : x ≡ Done → NullLeft (control.Give Nothing)
  unfolding left_at on_end
  null_done e = ap (λ y. on_end (done_reply Nothing s.units s.own y) (after r s.frames s.place)) (sym e)

  pub null_refusal : (d : Denial) → x ≡ Refused d → NullLeft (control.Raise Denied)
  unfolding left_at on_end
  null_refusal d e = ap (λ y. on_end (done_reply Nothing s.units s.own y) (after r s.frames s.place)) (sym e)

  pub null_failure : (f : Fault) → x ≡ Failed f → NullLeft (control.Raise f)
  unfolding left_at on_end
  null_failure f e = ap (λ y. on_end (done_reply Nothing s.units s.own y) (after r s.frames s.place)) (sym e)

  pub null_value : (v : Value) → x ≡ Val v → NullLeft control.Broken
  unfolding left_at on_end
  null_value v e = ap (λ y. on_end (done_reply Nothing s.units s.own y) (after r s.frames s.place)) (sym e)

  pub null_entry : x ≡ Entered → NullLeft control.Broken
  unfolding left_at on_end
  null_entry e = ap (λ y. on_end (done_reply Nothing s.units s.own y) (after r s.frames s.place)) (sym e)

  pub enter_refusal : (tree : Tree (Unit {0})) (d : Denial) → x ≡ Refused d → EnterLeft tree (control.Raise Denied)
  unfolding left_at on_end
  enter_refusal tree d e = ap (λ y. on_end (valued (enter_reply tree s.units s.own y)) (after r s.frames s.place)) (sym e)

  pub enter_failure : (tree : Tree (Unit {0})) (f : Fault) → x ≡ Failed f → EnterLeft tree (control.Raise f)
  unfolding left_at on_end
  enter_failure tree f e = ap (λ y. on_end (valued (enter_reply tree s.units s.own y)) (after r s.frames s.place)) (sym e)

  pub enter_value : (tree : Tree (Unit {0})) (v : Value) → x ≡ Val v → EnterLeft tree control.Broken
  unfolding left_at on_end
  enter_value tree v e = ap (λ y. on_end (valued (enter_reply tree s.units s.own y)) (after r s.frames s.place)) (sym e)

  pub enter_done : (tree : Tree (Unit {0})) → x ≡ Done → EnterLeft tree control.Broken
  unfolding left_at on_end
  enter_done tree e = ap (λ y. on_end (valued (enter_reply tree s.units s.own y)) (after r s.frames s.place)) (sym e)

  pub enter_entered : (tree : Tree (Unit {0})) (d : Control) (t : State) → x ≡ Entered → left_at r d t ≡ on_end (valued tree) (after r s.frames s.place) → left_at r d t ≡ on_end (valued (enter_reply tree s.units s.own x)) (after r s.frames s.place)
  enter_entered tree d t e h = h ∙ ap (λ y. on_end (valued (enter_reply tree s.units s.own y)) (after r s.frames s.place)) (sym e)
