-- The asks of a walk that stands.
use Rattle.std.proofs.Common.{◌≡◌, ℕ, Bool, true, false, cond, List, [], ◌∷◌, map, Option, Some, None, refl, sym, ap, ◌∙◌, subst}
use Rattle.std.specs.Prelude.{slice_get}
use Rattle.std.proofs.lemmas.Option.{same_Some, none-some}
use Rattle.lam_asks.specs.declared.answer.Answer.{Answer}
use Rattle.lam_asks.specs.declared.answer.Answer.TheVariants.{Val}
use Rattle.lam_value.specs.declared.shapes.Shape.TheVariants.{Class}
use Rattle.lam_asks.specs.declared.ask.Ask.{Ask}
use Rattle.lam_asks.specs.declared.ask.Ask.TheVariants as ask
use Rattle.lam_asks.specs.Suits.{fits, suits}
use Rattle.lam_resolve_tree.specs.Tree.{ResolvedTree}
use Rattle.lam_meaning.specs.Trees.{Own, Asked, asked, Tree, asks, on_end, done_reply}
use Rattle.lam_meaning.specs.Means.{class_fields}
use Rattle.lam_meaning.specs.Plays.{asks_of}
use Rattle.source_walk_state.specs.declared.Control.{Control}
use Rattle.source_walk_state.specs.declared.Control.TheVariants as control
use Rattle.source_walk_state.specs.Meaning.{sort_seen, region_args}
use Rattle.source_walk_parts.specs.States.{State, left_at}
use Rattle.source_walk_follow.specs.Standing.{stands, made_by, place_sort, asks_left, GoesOn, MakesOther}

-- the asks of a tree that asks something
abbrev asks_by : Bool → Asked → List Asked → List Ask
asks_by b q qs = map (λ q. q.ask) (cond b (q ∷ qs) (q ∷ []))

first_by : (b : Bool) (q : Asked) (qs : List Asked) → slice_get (asks_by b q qs) 0 ≡ Some q.ask
first_by true q qs = refl
first_by false q qs = refl

first_asked : {A : Type 0} (q : Asked) (go : Answer → Tree A) (xs : List Answer) → slice_get (map (λ q. q.ask) (asks_of (asks q go) xs)) 0 ≡ Some q.ask
first_asked q go [] = refl
first_asked q go (x ∷ xs) = first_by (fits q.want x) q (asks_of (go x) xs)

-- a control that asks, as a tree
module _ (r : ResolvedTree) (s : State) where
  abbrev Asks : Control → Ask → Type 0
  Asks c a = (go : Answer → Tree (Unit {0})) × (left_at r c s ≡ asks (asked (sort_seen (place_sort c)) a) go)

  pub asks_there : (c : Control) (a : Ask) → made_by r c s.own ≡ Some a → Asks c a
  unfolding left_at on_end
  asks_there (control.Ask b q y) a h = let it : Asks (control.Ask b q y) b = (_, refl) in subst (λ x. Asks (control.Ask b q y) x) (same_Some b a h) it
  asks_there (control.New n) a h = let it : Asks (control.New n) (ask.New (Class n (class_fields (slice_get r.classes n)))) = (_, refl) in subst (λ x. Asks (control.New n) x) (same_Some (ask.New (Class n (class_fields (slice_get r.classes n)))) a h) it
  asks_there (control.Spawn f vs k) a h = let it : Asks (control.Spawn f vs k) (ask.Spawn f vs k) = (_, refl) in subst (λ x. Asks (control.Spawn f vs k) x) (same_Some (ask.Spawn f vs k) a h) it
  asks_there (control.Enter d l k x) a h = let it : Asks (control.Enter d l k x) (ask.Enter l k x.number (region_args s.own x)) = (_, refl) in subst (λ y. Asks (control.Enter d l k x) y) (same_Some (ask.Enter l k x.number (region_args s.own x)) a h) it
  asks_there (control.End x) a h = let it : Asks (control.End x) (ask.End x) = (_, refl) in subst (λ y. Asks (control.End x) y) (same_Some (ask.End x) a h) it
  asks_there c a h = absurd (none-some a h)

  pub nothing_there : (c : Control) → stands c ≡ true → made_by r c s.own ≡ None → (xs : List Answer) → asks_left r c s xs ≡ []
  unfolding left_at on_end
  nothing_there control.Over h e xs = refl
  nothing_there control.Spent h e xs = refl
  nothing_there control.Broken h e xs = refl
  nothing_there c h e xs = cc

  first_there : (c : Control) (a : Ask) → made_by r c s.own ≡ Some a → (xs : List Answer) → slice_get (asks_left r c s xs) 0 ≡ Some a
  first_there c a h xs = let k = asks_there c a h in ap (λ t. slice_get (map (λ q. q.ask) (asks_of t xs)) 0) k.1 ∙ first_asked (asked (sort_seen (place_sort c)) a) k.0 xs

  other_by : (c : Control) (a : Ask) (o : Option Ask) → made_by r c s.own ≡ o → stands c ≡ true → (o ≡ Some a → ⊥) → MakesOther r c s a
  other_by c a None e h g xs k = none-some a (sym (ap (λ l. slice_get l 0) (nothing_there c h e xs)) ∙ k)
  other_by c a (Some b) e h g xs k = g (sym (first_there c b e xs) ∙ k)

  -- it asks something else, or nothing
  pub makes_other : (c : Control) (a : Ask) → stands c ≡ true → (made_by r c s.own ≡ Some a → ⊥) → MakesOther r c s a
  makes_other c a h g = other_by c a (made_by r c s.own) refl h g

  -- an answer that does not suit ends the asks
  pub unsuited : (c : Control) (a : Ask) (x : Answer) (t : State) → made_by r c s.own ≡ Some a → suits (sort_seen (place_sort c)) a x ≡ false → GoesOn r c s a x control.Broken t
  unfolding left_at on_end
  unsuited c a x t h e xs =
      let k = asks_there c a h in
      ap (λ t. map (λ q. q.ask) (asks_of t (x ∷ xs))) k.1 ∙ ap (λ b. asks_by b (asked (sort_seen (place_sort c)) a) (asks_of (k.0 x) xs)) e

  -- one that suits goes on with its tree
  pub suited : (c : Control) (a : Ask) (x : Answer) (d : Control) (t : State) (go : Answer → Tree (Unit {0})) → left_at r c s ≡ asks (asked (sort_seen (place_sort c)) a) go → suits (sort_seen (place_sort c)) a x ≡ true →
      ((xs : List Answer) → map (λ q. q.ask) (asks_of (go x) xs) ≡ asks_left r d t xs) → GoesOn r c s a x d t
  suited c a x d t go e h same xs =
      ap (λ t. map (λ q. q.ask) (asks_of t (x ∷ xs))) e
      ∙ (ap (λ b. asks_by b (asked (sort_seen (place_sort c)) a) (asks_of (go x) xs)) h ∙ ap (λ l. a ∷ l) (same xs))

-- the last ask has none behind it
pub none_behind : (n : ℕ) (o : Own) (x : Answer) (xs : List Answer) → map (λ q. q.ask) (asks_of (done_reply {A = Unit {0}} tt n o x) xs) ≡ []
none_behind n o (Val v) xs = refl
none_behind n o x xs = refl

-- where it settled before
pub settled_goes : (r : ResolvedTree) (c d : Control) (s u : State) (a : Ask) (x : Answer) (e : Control) (t : State) → left_at r d u ≡ left_at r c s → GoesOn r d u a x e t → GoesOn r c s a x e t
settled_goes r c d s u a x e t same goes xs = ap (λ t. map (λ q. q.ask) (asks_of t (x ∷ xs))) (sym same) ∙ goes xs

pub settled_other : (r : ResolvedTree) (c d : Control) (s u : State) (a : Ask) → left_at r d u ≡ left_at r c s → MakesOther r d u a → MakesOther r c s a
settled_other r c d s u a same other xs k = other xs (ap (λ t. slice_get (map (λ q. q.ask) (asks_of t xs)) 0) same ∙ k)
