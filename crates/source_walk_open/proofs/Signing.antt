-- The tags of `caps`, from left to right.
use Rattle.std.proofs.Common.{◌≡◌, ℕ, ◌+◌, ◌<◌, ◌≤◌, List, [], ◌∷◌, length, drop, get_or, refl, sym, ap, ◌∙◌, subst, arith, add-one, drop-cons, drop_of_length-le}
use Rattle.std.specs.Prelude.{slice_get}
use Rattle.capabilities.specs.Changes.{no_caps}
use Rattle.lam_value.specs.declared.values.Value.{Value}
use Rattle.lam_value.specs.declared.values.Value.TheVariants.{CapV}
use Rattle.lam_asks.specs.declared.fault.Fault.{Fault}
use Rattle.thread_steps.specs.Operators as operators
use Rattle.thread_steps.specs.Operators.{Pure, with_sign}
use Rattle.lam_resolve_tree.specs.declared.CapItem.{CapItem}
use Rattle.lam_resolve_tree.specs.Tree.{CapSlot, caps_of, cap_tree, caps_tree}
use Rattle.lam_meaning.specs.Trees.{Tree, on_end, gives, fails, broken, purely, value_or_null, and_then}
use Rattle.lam_meaning.specs.Means.{signed}
use Rattle.source_walk_state.specs.declared.Control.{Control}
use Rattle.source_walk_state.specs.declared.Control.TheVariants.{Give, Raise, Broken}
use Rattle.source_walk_parts.specs.Controls.{pure_control}
use Rattle.source_walk_parts.specs.States.{State, left_at}
use Rattle.source_walk_open.specs.Signed.{with_item, with_items}
use Rattle.source_walk_open.specs.Opens.{Opens, OpensExpr}

-- a fault stays
raised_stays : (f : Fault) (ls : List Value) (xs : List CapSlot) → with_items (Raise f) ls xs ≡ Raise f
raised_stays f ls [] = refl
raised_stays f ls (x ∷ xs) = raised_stays f ls xs

broken_stays : (ls : List Value) (xs : List CapSlot) → with_items Broken ls xs ≡ Broken
broken_stays ls [] = refl
broken_stays ls (x ∷ xs) = broken_stays ls xs

-- the controls that there are, as trees
module _ (s : State) where
  abbrev Signs : Tree Value → Control → Type 0
  Signs tree d = Opens (λ r. tree) 2 s d s

  given : (v : Value) → Signs (gives v s.units s.own) (Give v)
  unfolding left_at on_end
  given v = record { left = λ r. refl; units = refl; less = omega arith }

  raised : (f : Fault) → Signs (fails f s.units s.own) (Raise f)
  unfolding left_at on_end
  raised f = record { left = λ r. refl; units = refl; less = omega arith }

  is_broken : Signs broken Broken
  unfolding left_at on_end
  is_broken = record { left = λ r. refl; units = refl; less = omega arith }

  signs_on : (xs : List CapSlot) → ((v : Value) → Signs (signed xs v s.units s.own) (with_items (Give v) s.own.locals xs)) → (p : Pure) →
      Signs (and_then (purely s.units s.own p) (λ c n o. signed xs c n o)) (with_items (pure_control p) s.own.locals xs)
  unfolding on_end
  signs_on xs each (operators.fine v) = each v
  signs_on xs each (operators.faults f) = subst (λ d. Signs (fails f s.units s.own) d) (sym (raised_stays f s.own.locals xs)) (raised f)
  signs_on xs each operators.wrong = subst (λ d. Signs broken d) (sym (broken_stays s.own.locals xs)) is_broken

  signs : (v : Value) (xs : List CapSlot) → Signs (signed xs v s.units s.own) (with_items (Give v) s.own.locals xs)
  unfolding on_end
  signs v [] = given v
  signs v (x ∷ xs) = signs_on xs (λ w. signs w xs) (with_sign x.plus v (value_or_null (slice_get s.own.locals x.slot)))

  pub caps_open : (depth : ℕ) (items : List CapItem) → OpensExpr depth (caps_of (caps_tree items)) s (with_items (Give (CapV no_caps.plus no_caps.minus)) s.own.locals (caps_tree items)) s
  caps_open depth items = let h = signs (CapV no_caps.plus no_caps.minus) (caps_tree items) in record { left = h.left; units = h.units; less = h.less }

-- one more item of a list that is gone over
item_done : (d : Control) (ls : List Value) (xs : List CapItem) (i : ℕ) (x : CapItem) → i < length xs → with_items d ls (caps_tree (drop i xs)) ≡ with_items (with_item d ls (cap_tree (get_or xs i x))) ls (caps_tree (drop (i + 1) xs))
item_done d ls xs i x h = let e : drop i xs ≡ get_or xs i x ∷ drop (i + 1) xs = rw (add-one) (drop-cons xs i x h) in ap (λ l. with_items d ls (caps_tree l)) e

pub item_more : (start d c : Control) (ls : List Value) (xs : List CapItem) (i : ℕ) (x : CapItem) → i < length xs → start ≡ with_items d ls (caps_tree (drop i xs)) → c ≡ with_item d ls (cap_tree (get_or xs i x)) → start ≡ with_items c ls (caps_tree (drop (i + 1) xs))
item_more start d c ls xs i x h k e = k ∙ item_done d ls xs i x h ∙ ap (λ a. with_items a ls (caps_tree (drop (i + 1) xs))) (sym e)

pub items_done : (d : Control) (ls : List Value) (xs : List CapItem) (i : ℕ) → length xs ≤ i → with_items d ls (caps_tree (drop i xs)) ≡ d
items_done d ls xs i h = ap (λ l. with_items d ls (caps_tree l)) (drop_of_length-le xs h)
