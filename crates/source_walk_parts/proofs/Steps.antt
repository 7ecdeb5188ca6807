-- Controls that go on as a tree of values, before the frames that are there.
use Rattle.std.proofs.Common.{Result, Ok, Err, IfOk, OnOk, ◌≡◌, ℕ, ◌≤◌, Bool, true, false, cond, nat_le, pos, negsuc, Some, List, refl, sym, ap, ◌∙◌, subst, inr, arith}
use Rattle.flow_labels.specs.declared.Denied.{Denied as Denial}
use Rattle.lam_value.specs.declared.values.Value.{Value}
use Rattle.lam_value.specs.declared.values.Value.TheVariants.{Int, CapV}
use Rattle.lam_value.specs.declared.shapes.Kind.{Kind}
use Rattle.lam_value.specs.declared.shapes.Shape.TheVariants.{Array}
use Rattle.thread_steps.specs.Limits.{length_limit}
use Rattle.lam_meaning.specs.Means.{on_number, makes_array, throws}
use Rattle.lam_asks.specs.declared.fault.Fault.{Fault}
use Rattle.lam_asks.specs.declared.fault.Fault.TheVariants.{Long}
use Rattle.lam_asks.specs.declared.ask.Ask.{Ask}
use Rattle.lam_asks.specs.declared.ask.Ask.TheVariants as ask
use Rattle.lam_asks.specs.Suits.{numbers}
use Rattle.thread_steps.specs.Operators as operators
use Rattle.thread_steps.specs.Operators.{Pure}
use Rattle.thread_steps.specs.Builtins as calls
use Rattle.thread_steps.specs.Builtins.{Calls}
use Rattle.lam_resolve_tree.specs.Tree.{ResolvedTree}
use Rattle.lam_meaning.specs.Trees.{asked, Tree, broken, on_end, gives, fails, purely, ask_value, ask_unit, unless_denied, gained}
use Rattle.source_walk_state.specs.declared.Sort.{Sort}
use Rattle.source_walk_state.specs.declared.Sort.TheVariants.{Number}
use Rattle.source_walk_state.specs.declared.Reply.TheVariants as reply
use Rattle.source_walk_state.specs.declared.Frame.{Frame}
use Rattle.source_walk_state.specs.declared.Frame.TheVariants as frame
use Rattle.source_walk_state.specs.declared.Control.{Control}
use Rattle.source_walk_state.specs.declared.Control.TheVariants as control
use Rattle.source_walk_state.specs.Meaning.{sort_seen, valued, spawns, called_as, after}
use Rattle.source_walk_state.proofs.Opening.{asks_value, asks_done}
use Rattle.source_walk_state.proofs.Delimiters.{bars, bars_unit}
use Rattle.source_walk_parts.specs.Weights.{frame_weight}
use Rattle.source_walk_parts.specs.Controls.{pure_control, calls_control, array_control, thrown_control, spawn_control}
use Rattle.source_walk_parts.specs.States.{State, pushed, is_ask, pushed_if, left_at, Goes, IsWaiting, IsLeft}

-- what follows of a value that there is
pub if_ok : {A E : Type 0} (res : Result A E) (P Q : A → Type 0) → IfOk res P → ((a : A) → P a → Q a) → IfOk res Q
if_ok (Ok a) P Q h f = f a h
if_ok (Err e) P Q h f = tt

pub on_ok : {A E : Type 0} (res : Result A E) {P Q : Type 0} → OnOk res P → (P → Q) → OnOk res Q
on_ok (Ok a) h f = f h
on_ok (Err e) h f = tt

-- ---- a frame that waits where the control asks

pub asked_if : (b : Bool) (c : Control) (s t : State) (f : Frame) → b ≡ is_ask c → b ≡ true → t ≡ pushed s f → t ≡ pushed_if c s f
asked_if b c s t f e g h = h ∙ ap (λ (x : Bool). cond x (pushed s f) s) (sym g ∙ e)

pub unasked_if : (b : Bool) (c : Control) (s : State) (f : Frame) → b ≡ is_ask c → b ≡ false → s ≡ pushed_if c s f
unasked_if b c s f e g = ap (λ (x : Bool). cond x (pushed s f) s) (sym g ∙ e)

-- what holds of the control that comes first, and of the state with its frame
pub by_waiting : {c : Control} {f : Frame} {s : State} {d : Control} {t : State} (P : Control → State → Type 0) → IsWaiting c f s d t → P c (pushed s f) → P d t
by_waiting {c = c} {t = t} P w h = subst (λ (x : Control). P x t) (sym w.control) (subst (λ (x : State). P c x) (sym w.state) h)

module _ (r : ResolvedTree) (s : State) where
  pub gives_left : (v : Value) → IsLeft r (gives v s.units s.own) 1 s (control.Give v) s
  unfolding left_at on_end
  gives_left v = record { left = refl; units = refl; least = omega arith }

  pub fails_left : (f : Fault) → IsLeft r (fails f s.units s.own) 1 s (control.Raise f) s
  unfolding left_at on_end
  fails_left f = record { left = refl; units = refl; least = omega arith }

  pub broken_left : IsLeft r broken 1 s control.Broken s
  unfolding left_at on_end
  broken_left = record { left = refl; units = refl; least = omega arith }

  pub pure_left : (x : Pure) → IsLeft r (purely s.units s.own x) 1 s (pure_control x) s
  pure_left (operators.fine v) = gives_left v
  pure_left (operators.faults f) = fails_left f
  pure_left operators.wrong = broken_left

  -- an ask whose answer is the value, and what it brings
  pub asks_left : (q : Sort) (a : Ask) (tree : Tree Value) → tree ≡ ask_value (asked (sort_seen q) a) s.units s.own → ((v : Value) → gained a v s.own ≡ s.own) → IsLeft r tree 1 s (control.Ask a q reply.Value) s
  unfolding left_at on_end
  asks_left q a tree e h =
      record { left = ap (λ t. on_end t (after r s.frames s.place)) (sym (e ∙ asks_value (sort_seen q) a s.units s.own h)); units = refl; least = omega arith }

  pub acts_left : (a : Ask) (tree : Tree Value) → tree ≡ valued (ask_unit a s.units s.own) → IsLeft r tree 1 s (control.Ask a Number reply.Done) s
  unfolding left_at on_end
  acts_left a tree e =
      record { left = ap (λ t. on_end t (after r s.frames s.place)) (sym (e ∙ asks_done a s.units s.own)); units = refl; least = omega arith }

  pub calls_left : (q : Sort) (x : Calls) → IsLeft r (called_as (sort_seen q) s.units s.own x) 1 s (calls_control q x) s
  unfolding left_at on_end
  calls_left q (calls.now v) = gives_left v
  calls_left q (calls.faults f) = fails_left f
  calls_left q (calls.asks a) = record { left = refl; units = refl; least = omega arith }
  calls_left q (calls.acts a) = record { left = refl; units = refl; least = omega arith }
  calls_left q calls.wrong = broken_left

  array_left_by : (k : Kind) (m : ℕ) (b : Bool) → IsLeft r (cond b (ask_value (asked numbers (ask.New (Array k m))) s.units s.own) (fails Long s.units s.own)) 1 s (cond b (control.Ask (ask.New (Array k m)) Number reply.Value) (control.Raise Long)) s
  array_left_by k m true = asks_left Number (ask.New (Array k m)) (ask_value (asked numbers (ask.New (Array k m))) s.units s.own) refl (λ v. refl)
  array_left_by k m false = fails_left Long

  pub array_left : (k : Kind) (v : Value) → IsLeft r (on_number v (λ z. makes_array k z s.units s.own)) 1 s (array_control k v) s
  array_left k (Int (pos m)) = array_left_by k m (nat_le m length_limit)
  array_left k (Int (negsuc m)) = fails_left Long
  array_left k v = broken_left

  pub thrown_left : (v : Value) → IsLeft r (valued (throws v s.units s.own)) 1 s (thrown_control v) s
  unfolding left_at on_end
  thrown_left (Int z) = record { left = refl; units = refl; least = omega arith }
  thrown_left v = record { left = refl; units = refl; least = omega arith }

  pub spawn_left : (f : ℕ) (c : Value) (vs : List Value) → IsLeft r (spawns f c vs s.units s.own) 1 s (spawn_control f c vs) s
  unfolding left_at on_end
  spawn_left f (CapV p m) vs = record { left = refl; units = refl; least = omega arith }
  spawn_left f c vs = record { left = refl; units = refl; least = omega arith }

module _ (r : ResolvedTree) (s : State) (e : Denial) (d : Control) (t : State) (w : IsWaiting (control.Ask (ask.Barred e) Number reply.Done) frame.Bar s d t) where
  pub bars_left : (tree : Tree Value) → IsLeft r (unless_denied (Some e) s.units s.own tree) 1 s d t
  unfolding left_at on_end
  bars_left tree =
      by_waiting (λ x u. IsLeft r (unless_denied (Some e) s.units s.own tree) 1 s x u) w
      (record { left = sym (bars r s.frames s.place s.units s.own e tree); units = refl; least = omega arith })

  pub bars_unit_left : (tree : Tree (Unit {0})) → IsLeft r (valued (unless_denied (Some e) s.units s.own tree)) 1 s d t
  unfolding left_at on_end
  bars_unit_left tree =
      by_waiting (λ x u. IsLeft r (valued (unless_denied (Some e) s.units s.own tree)) 1 s x u) w
      (record { left = sym (bars_unit r s.frames s.place s.units s.own e tree); units = refl; least = omega arith })

-- a frame that is no delimiter goes on with a value as this tree does
module _ (r : ResolvedTree) (s : State) (v : Value) (f : Frame) where
  pub goes_by : (tree : Tree Value) (m : ℕ) (d : Control) (t : State) → left_at r (control.Give v) (pushed s f) ≡ on_end tree (after r s.frames s.place) → m ≤ frame_weight f → IsLeft r tree m s d t → Goes r (control.Give v) (pushed s f) d t
  goes_by tree m d t e h i = record { left = i.left ∙ sym e; less = inr (i.units, omega (arith, i.least)) }
