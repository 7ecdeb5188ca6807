-- The tags without a name in the labels of homes that are counted are all that there are.
use Rattle.std.proofs.Common.{◌≡◌, ◌≤◌, ◌<◌, ◌⊎◌, inl, inr, ℕ, zero, suc, Bool, true, false, List, [], ◌∷◌, map, length, slice_get, Option, Some, None, refl, sym, ap, ◌∙◌, subst, arith}
use Rattle.std.specs.Prelude.{IsTrue, MatchOption, is_some, unwrap_or}
use Rattle.std.specs.FinMap.{get, contains_key}
use Rattle.std.specs.List.{Contains}
use Rattle.std.proofs.lemmas.List.Elements.{All-from_recursion, All-contains}
use Rattle.flow_labels.specs.TwoLists.{Text}
use Rattle.flow_labels.specs.declared.Label.{Label}
use Rattle.lam_value.specs.declared.names.Name.{Name}
use Rattle.lam_value.specs.Homes.{Home, home_of, Counts, count_in, IsListing}
use Rattle.lam_value.proofs.Listings.{listed_at, place_of}
use Rattle.labelled_files.specs.declared.directory.EntryKind.{EntryKind}
use Rattle.labelled_files.specs.declared.directory.EntryKind.TheVariants.{File, Dir}
use Rattle.labelled_files.specs.Trees.{Tree, lives_as, IsSound}
use Rattle.world_save_terms.specs.Items.{Item, items_of}
use Rattle.world_save_terms.specs.Refusals.{IsTagOf, IsItemLabel, IsHomeLabel, IsUnnamed, AllNamed, IsLeastUnnamed}
use Rattle.world_save_rows.specs.declared.home_list.HomeCount.{HomeCount}
use Rattle.world_save_rows.specs.Seen.{home_seen}
use Rattle.world_save_rows.specs.Least.{IsLeastOf, IsInLabel, IsInHome, IsAmong}
use Rattle.world_save_rows.proofs.Entries.{items_live}

-- ---- places of a list of homes

place_seen : (hs : List HomeCount) (i : ℕ) (h : HomeCount) → slice_get hs i ≡ Some h → slice_get (map home_seen hs) i ≡ Some (home_seen h)
place_seen [] i h e = cc
place_seen (x ∷ hs) zero h e = let same : x ≡ h = cc in ap (λ y. Some (home_seen y)) same
place_seen (x ∷ hs) (suc i) h e = place_seen hs i h e

seen_place : (hs : List HomeCount) (i : ℕ) (e : Home × ℕ) → slice_get (map home_seen hs) i ≡ Some e → (h : HomeCount) × (slice_get hs i ≡ Some h) × (home_seen h ≡ e)
seen_place [] i e at = absurd cc
seen_place (x ∷ hs) zero e at = let same : home_seen x ≡ e = cc in (x, refl, same)
seen_place (x ∷ hs) (suc i) e at = seen_place hs i e at

module _ (count : ℕ) where
  among_at : (hs : List HomeCount) (t : ℕ) → IsAmong count hs t → (i : ℕ) × (h : HomeCount) × (slice_get hs i ≡ Some h) × IsInHome count h t
  among_at [] t a = absurd a
  among_at (h ∷ hs) t (inl x) = (0, h, refl, x)
  among_at (h ∷ hs) t (inr x) = let p = among_at hs t x in (suc p.0, p.1, p.2, p.3)

  at_among : (hs : List HomeCount) (t i : ℕ) (h : HomeCount) → slice_get hs i ≡ Some h → IsInHome count h t → IsAmong count hs t
  at_among [] t i h e x = absurd cc
  at_among (k ∷ hs) t zero h e x = let same : k ≡ h = cc in inl (subst (λ y. IsInHome count y t) (sym same) x)
  at_among (k ∷ hs) t (suc i) h e x = inr (at_among hs t i h e x)

-- ---- counters

is_there : (m : Counts) (h : Home) (n : ℕ) → get m h ≡ Some n → IsTrue (contains_key m h)
is_there m h n e = ap is_some e

counted : (o : Option ℕ) (n : ℕ) → n < unwrap_or o 0 → is_some o ≡ true
counted None n h = absurd (omega (arith, h))
counted (Some x) n h = refl

some_of : (o : Option ℕ) → is_some o ≡ true → (n : ℕ) × (o ≡ Some n)
some_of None e = absurd cc
some_of (Some n) e = (n, refl)

module _ (names : List Text) (t : Tree) (sound : IsSound t) (hs : List HomeCount) (listed : IsListing (map home_seen hs) t.counts) where
  -- a label of a home that is listed is one of a home that is counted
  home_label : (i : ℕ) (h : HomeCount) → slice_get hs i ≡ Some h → (l : Label) → (l ≡ h.own.now) ⊎ (l ≡ h.maker.now) → IsHomeLabel t l
  home_label i h at l is =
      let home = home_of h.maker.now h.own.now in
      (home, (is_there t.counts home h.next (listed_at (map home_seen hs) t.counts listed i home h.next (place_seen hs i h at)), is))

  unnamed_here : (tag i : ℕ) (h : HomeCount) → slice_get hs i ≡ Some h → IsInHome (length names) h tag → IsUnnamed names t tag
  unnamed_here tag i h at (inl x) = (x.0, (h.maker.now, (inr (home_label i h at h.maker.now (inr refl)), x.1)))
  unnamed_here tag i h at (inr x) = (x.0, (h.own.now, (inr (home_label i h at h.own.now (inl refl)), x.1)))

  among_unnamed : (tag : ℕ) → IsAmong (length names) hs tag → IsUnnamed names t tag
  among_unnamed tag a = let p = among_at (length names) hs tag a in unnamed_here tag p.0 p.1 p.2 p.3

  -- and the other way round
  in_home : (tag : ℕ) (h : HomeCount) (k : Home) (n : ℕ) → home_seen h ≡ (k, n) → (l : Label) → (l ≡ k.own) ⊎ (l ≡ k.maker) → length names ≤ tag → IsTagOf tag l → IsInHome (length names) h tag
  in_home tag h k n e l (inl is) le x = inr (le, subst (IsTagOf tag) (is ∙ ap (λ (y : Home × ℕ). y.0.own) (sym e)) x)
  in_home tag h k n e l (inr is) le x = inl (le, subst (IsTagOf tag) (is ∙ ap (λ (y : Home × ℕ). y.0.maker) (sym e)) x)

  among_home : (tag : ℕ) (l : Label) → IsHomeLabel t l → length names ≤ tag → IsTagOf tag l → IsAmong (length names) hs tag
  among_home tag l h le x =
      let n = some_of (get t.counts h.0) h.1.0 in
      let p = place_of (map home_seen hs) t.counts listed h.0 n.0 n.1 in
      let q = seen_place hs p.0 (h.0, n.0) p.1 in
      at_among (length names) hs tag p.0 q.0 q.1 (in_home tag q.0 h.0 n.0 q.2 l h.1.1 le x)

  lives_counted : (kind : EntryKind) (n : Name) → IsTrue (lives_as kind t n) → IsTrue (contains_key t.counts (home_of n.maker n.own))
  lives_counted File n h = counted (get t.counts (home_of n.maker n.own)) n.n (sound.counted.0 n h)
  lives_counted Dir n h = counted (get t.counts (home_of n.maker n.own)) n.n (sound.counted.1 n h)

  -- the label of an item is one of a home that is counted
  item_label : (l : Label) → IsItemLabel t l → IsHomeLabel t l
  item_label l h =
      let i = h.0 in
      let lives = All-contains (λ (j : Item). IsTrue (lives_as j.target.kind t j.target.name)) (items_of t) i (All-from_recursion (λ (j : Item). IsTrue (lives_as j.target.kind t j.target.name)) (items_of t) (items_live t sound)) h.1.0 in
      (home_of i.target.name.maker i.target.name.own, (lives_counted i.target.kind i.target.name lives, h.1.1))

  unnamed_among : (tag : ℕ) → IsUnnamed names t tag → IsAmong (length names) hs tag
  unnamed_among tag (le, (l, (inl item, x))) = among_home tag l (item_label l item) le x
  unnamed_among tag (le, (l, (inr home, x))) = among_home tag l home le x

  pub least_is : (r : Option ℕ) → IsLeastOf (IsAmong (length names) hs) r → MatchOption r (AllNamed names t) (IsLeastUnnamed names t)
  least_is None h = λ tag u. h tag (unnamed_among tag u)
  least_is (Some tag) h = record { is = among_unnamed tag h.0; least = λ other u. h.1 other (unnamed_among other u) }
