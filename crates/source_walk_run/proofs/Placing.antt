-- Walks one by one: the first ones, one more at the end, and the next state of one.
use Rattle.std.proofs.Common.{◌≡◌, inl, inr, ◌⊎◌, ℕ, zero, suc, ◌+◌, ◌<◌, ◌≤◌, List, [], ◌∷◌, ◌++◌, length, map, take, get_or, Option, Some, None, refl, sym, ap, ◌∙◌, subst, arith, add-one}
use Rattle.std.specs.Prelude.{slice_get, slice_set}
use Rattle.std.specs.Option.{option_map}
use Rattle.std.proofs.Math.Seq.{take-suc}
use Rattle.std.proofs.lemmas.List.{length_push, map-append}
use Rattle.std.proofs.lemmas.Option.{slice_get_within, slice_get_read, same_Some}
use Rattle.lam_asks.specs.declared.answer.What.{What}
use Rattle.lam_resolve_tree.specs.Tree.{ResolvedTree}
use Rattle.source_walk_state.specs.declared.Beginning.{Beginning}
use Rattle.source_walk_meets.specs.Births.{Birth}
use Rattle.source_walk_meets.proofs.Lists.{split_get}
use Rattle.source_walk_follow.specs.declared.followers.Follower.{Follower}
use Rattle.source_walk_follow.specs.Following.{asks_met, place_left, FollowsTurn}
use Rattle.source_walk_run.specs.Beginnings.{beginning_of}
use Rattle.source_walk_run.specs.Walking.{IsMeeting, Begins, FollowsAt}

-- ---- one is put in place of another

set_length : {X : Type 0} (xs : List X) (t : ℕ) (x : X) → length (slice_set xs t x) ≡ length xs
set_length [] t x = refl
set_length (y ∷ xs) zero x = refl
set_length (y ∷ xs) (suc t) x = ap suc (set_length xs t x)

set_here : {X : Type 0} (xs : List X) (t : ℕ) (x y : X) → slice_get (slice_set xs t x) t ≡ Some y → x ≡ y
set_here [] t x y e = absurd cc
set_here (z ∷ xs) zero x y e = same_Some x y e
set_here (z ∷ xs) (suc t) x y e = set_here xs t x y e

set_apart : {X : Type 0} (xs : List X) (t u : ℕ) (x : X) → (u ≡ t → ⊥) → slice_get (slice_set xs t x) u ≡ slice_get xs u
set_apart [] t u x apart = refl
set_apart (z ∷ xs) zero zero x apart = absurd (apart refl)
set_apart (z ∷ xs) zero (suc u) x apart = refl
set_apart (z ∷ xs) (suc t) zero x apart = refl
set_apart (z ∷ xs) (suc t) (suc u) x apart = set_apart xs t u x (λ e. apart (ap suc e))

pub follows_set : (r : ResolvedTree) (t : ℕ) (what : What) (walks : List Follower) (old new : Follower) → t < length walks → old ≡ get_or walks t old → FollowsTurn r old what new → FollowsAt r t what walks (slice_set walks t new)
follows_set r t what walks old new lt is turn =
    record {
      many = set_length walks t new;
      here = λ w v e f.
          subst (λ (x : Follower). FollowsTurn r w what x) (set_here walks t new v f)
          (subst (λ (x : Follower). FollowsTurn r x what new) (same_Some old w (sym (slice_get_read walks (length walks) t old refl lt is) ∙ e)) turn);
      apart = λ u apart. set_apart walks t u new apart;
    }

pub follows_past : (r : ResolvedTree) (t : ℕ) (what : What) (walks : List Follower) → length walks ≤ t → FollowsAt r t what walks walks
follows_past r t what walks le = record { many = refl; here = λ w v e f. absurd (let lt = slice_get_within walks t w e in omega (arith, lt, le)); apart = λ u apart. refl }

-- ---- who begins

pub none_begins : (r : ResolvedTree) (turns : List ℕ) (o : Option Birth) (walks : List Follower) → None ≡ option_map beginning_of o → Begins r turns o walks walks
none_begins r turns None walks e = refl
none_begins r turns (Some birth) walks e = absurd cc

pub one_begins : (r : ResolvedTree) (turns : List ℕ) (o : Option Birth) (before after : List Follower) (b : Beginning) (w : Follower) → Some b ≡ option_map beginning_of o → after ≡ before ++ w ∷ [] → IsMeeting r (get_or turns (length before) 0) b [] w → asks_met w ≡ 0 → Begins r turns o before after
one_begins r turns None before after b w e is meets none = absurd cc
one_begins r turns (Some birth) before after b w e is meets none =
    record { walk = w; walks = is; meets = subst (λ (x : Beginning). IsMeeting r (get_or turns (length before) 0) x [] w) (same_Some b (beginning_of birth) e) meets; asks = none }

-- ---- the first ones, up to a place

pub record AreUpTo (r : ResolvedTree) (starts : List Beginning) (turns : List ℕ) (at : ℕ) (walks : List Follower) : Type 0 where
  pub many : length walks ≡ at
  pub each : (u : ℕ) (b : Beginning) (w : Follower) → slice_get starts u ≡ Some b → slice_get walks u ≡ Some w → IsMeeting r (get_or turns u 0) b [] w
  pub asks : (u : ℕ) (w : Follower) → slice_get walks u ≡ Some w → asks_met w ≡ 0

pub none_yet : (r : ResolvedTree) (starts : List Beginning) (turns : List ℕ) (walks : List Follower) → walks ≡ [] → AreUpTo r starts turns 0 walks
none_yet r starts turns walks e =
    subst (λ (l : List Follower). AreUpTo r starts turns 0 l) (sym e) (record { many = refl; each = λ u b w h k. absurd cc; asks = λ u w k. absurd cc })

module _ (r : ResolvedTree) (starts : List Beginning) (turns : List ℕ) (at : ℕ) (walks : List Follower) (up : AreUpTo r starts turns at walks) (b : Beginning) (w : Follower) (there : slice_get starts at ≡ Some b) (meets : IsMeeting r (get_or turns (length walks) 0) b [] w) (none : asks_met w ≡ 0) where
  last_is : (v : Follower) (u j : ℕ) → u ≡ length walks + j → slice_get (w ∷ []) j ≡ Some v → (at ≡ u) × (w ≡ v)
  last_is v u j f k =
      let lt = slice_get_within (w ∷ []) j v k in
      let many = up.many in
      let first : j ≡ 0 = omega (arith, lt) in
      ((omega (arith, f, first, many)), same_Some w v (sym (ap (slice_get (w ∷ [])) first) ∙ k))

  meets_by : (u : ℕ) (c : Beginning) (v : Follower) → slice_get starts u ≡ Some c → (slice_get walks u ≡ Some v) ⊎ ((j : ℕ) × (u ≡ length walks + j) × (slice_get (w ∷ []) j ≡ Some v)) → IsMeeting r (get_or turns u 0) c [] v
  meets_by u c v h (inl k) = up.each u c v h k
  meets_by u c v h (inr (j, f, k)) =
      let last = last_is v u j f k in
      subst (λ (x : Follower). IsMeeting r (get_or turns u 0) c [] x) last.1
      (subst (λ (x : Beginning). IsMeeting r (get_or turns u 0) x [] w) (same_Some b c (sym there ∙ ap (slice_get starts) last.0 ∙ h)) (subst (λ n. IsMeeting r (get_or turns n 0) b [] w) (up.many ∙ last.0) meets))

  none_by : (u : ℕ) (v : Follower) → (slice_get walks u ≡ Some v) ⊎ ((j : ℕ) × (u ≡ length walks + j) × (slice_get (w ∷ []) j ≡ Some v)) → asks_met v ≡ 0
  none_by u v (inl k) = up.asks u v k
  none_by u v (inr (j, f, k)) = ap asks_met (sym (last_is v u j f k).1) ∙ none

  pub one_more : (all : List Follower) → all ≡ walks ++ w ∷ [] → AreUpTo r starts turns (at + 1) all
  one_more all e =
      subst (λ (l : List Follower). AreUpTo r starts turns (at + 1) l) (sym e)
      (record {
        many = length_push walks w ∙ ap (λ n. n + 1) up.many;
        each = λ u c v h k. meets_by u c v h (split_get walks (w ∷ []) u v k);
        asks = λ u v k. none_by u v (split_get walks (w ∷ []) u v k);
      })

-- ---- where each has departed

pub place_more : (walks : List Follower) (i : ℕ) (w : Follower) (places all : List (Option ℕ)) → i < length walks → w ≡ get_or walks i w → places ≡ map place_left (take i walks) → all ≡ places ++ place_left w ∷ [] → all ≡ map place_left (take (i + 1) walks)
place_more walks i w places all lt is up e = e ∙ ap (λ l. l ++ place_left w ∷ []) up ∙ sym (map-append place_left (take i walks) (w ∷ [])) ∙ ap (map place_left) (sym taken)
  where
    taken : take (i + 1) walks ≡ take i walks ++ w ∷ []
    taken = rw (add-one) (take-suc walks i w lt ∙ ap (λ y. take i walks ++ y ∷ []) (sym is))
