-- What stands before a `/` in the path of an item is the path of an earlier item. So the first path that is no text is that
-- of the first entry with a name that is none.
use Rattle.std.proofs.Common.{◌≡◌, ◌+◌, ◌<◌, ◌≤◌, ◌⊎◌, inl, inr, ℕ, zero, suc, Bool, true, false, cond, not, List, [], ◌∷◌, ◌++◌, map, take, drop, get_or, Some, None, refl, sym, ap, ◌∙◌, subst, arith}
use Rattle.std.specs.Prelude.{◌&&◌, ◌||◌, IsTrue, nat_eq, nat_le, nat_lt, length, position}
use Rattle.std.specs.List.{AllByRecursion, flat_map, list_any, position_from, position_or_len}
use Rattle.std.specs.FinMap.{len}
use Rattle.std.specs.Str.{is_utf8}
use Rattle.std.proofs.lemmas.Bool.Decides.{nat_tests}
use Rattle.flow_labels.specs.TwoLists.{Text}
use Rattle.lam_value.specs.declared.names.Name.{Name}
use Rattle.labelled_files.specs.declared.directory.Target.{Target}
use Rattle.labelled_files.specs.declared.directory.EntryKind.{EntryKind}
use Rattle.labelled_files.specs.declared.directory.EntryKind.TheVariants.{File, Dir}
use Rattle.labelled_files.specs.Entries.{Entries, text_eq, is_entry_name}
use Rattle.labelled_files.specs.Trees.{Tree, entries_at, IsSound}
use Rattle.world_save_terms.specs.Items.{Item, below as under, held_by, at_entry, items_below, items_of}
use Rattle.world_save_terms.specs.Refusals.{bad_path}
use Rattle.world_save_items.specs.Steps.{Found, found, path_of, items_from, IsWalk}
use Rattle.world_save_items.specs.declared.traversal.Step.{Step}
use Rattle.world_save_rows.proofs.Entries.{IsGood, entries_good}
use Rattle.world_save_text.proofs.Lists.{from_place, past_end}
use Rattle.world_save_text.proofs.Seams.{seam}

-- ---- names of entries have no `/`

second : (a b : Bool) → (a && b) ≡ true → b ≡ true
second true b e = e
second false b e = absurd cc

negated : (a : Bool) → not a ≡ true → a ≡ false
negated true e = absurd cc
negated false e = refl

first : (a b : Bool) → (a && b) ≡ true → a ≡ true
first true b e = refl
first false b e = absurd cc

abbrev has_slash : Text → Bool
has_slash text = list_any (λ b. nat_eq b 47) text

no_slash : (text : Text) → IsTrue (is_entry_name text) → has_slash text ≡ false
no_slash text e =
    let some = second (nat_le 1 (length text)) _ e in
    let short = second (nat_le (length text) 255) _ some in
    negated (has_slash text) (first (not (has_slash text)) _ short)

or_true : (b : Bool) → (b || true) ≡ true
or_true true = refl
or_true false = refl

slash_inside : (a b : Text) → has_slash (a ++ 47 ∷ b) ≡ true
slash_inside [] b = refl
slash_inside (x ∷ a) b = ap (λ t. nat_eq x 47 || t) (slash_inside a b) ∙ or_true (nat_eq x 47)

none_inside : (text a b : Text) → has_slash text ≡ false → text ≡ a ++ 47 ∷ b → ⊥
none_inside text a b free e = let both : false ≡ true = sym free ∙ ap has_slash e ∙ slash_inside a b in cc

-- ---- a path, cut before a `/`

-- the cut is before the last entry's name, or earlier
abbrev IsCut : Text → Text → Type 0
IsCut xs a = (a ≡ xs) ⊎ ((b : Text) × (xs ≡ a ++ 47 ∷ b))

cut_later : (x c : ℕ) (xs a : Text) → x ≡ c → IsCut xs a → IsCut (x ∷ xs) (c ∷ a)
cut_later x c xs a e (inl is) = inl (λ i. sym e i ∷ is i)
cut_later x c xs a e (inr (b, is)) = inr (b, λ i. e i ∷ is i)

cuts : (xs text a b : Text) → has_slash text ≡ false → xs ++ 47 ∷ text ≡ a ++ 47 ∷ b → IsCut xs a
cuts [] text [] b free e = inl refl
cuts [] text (c ∷ a) b free e = let rest : text ≡ a ++ 47 ∷ b = cc in absurd (none_inside text a b free rest)
cuts (x ∷ xs) text [] b free e = let same : x ≡ 47 = cc in inr (xs, ap (λ y. y ∷ xs) same)
cuts (x ∷ xs) text (c ∷ a) b free e =
    let same : x ≡ c = cc in
    let rest : xs ++ 47 ∷ text ≡ a ++ 47 ∷ b = cc in
    cut_later x c xs a same (cuts xs text a b free rest)

-- ---- items, each after those that its path opens with

abbrev pub And : (Text → Type 0) → Text → Text → Type 0
And K path a = K a ⊎ (a ≡ path)

abbrev pub AreOpened : (Text → Type 0) → List Item → Type 0
AreOpened K [] = Unit {0}
AreOpened K (i ∷ is) = ((a b : Text) → i.path ≡ a ++ 47 ∷ b → K a) × AreOpened (And K i.path) is

weaker : (K L : Text → Type 0) → ((a : Text) → K a → L a) → (is : List Item) → AreOpened K is → AreOpened L is
weaker K L f [] h = tt
weaker K L f (i ∷ is) h = ((λ a b e. f a (h.0 a b e)), weaker (And K i.path) (And L i.path) more is h.1)
  where
    more : (a : Text) → And K i.path a → And L i.path a
    more a (inl k) = inl (f a k)
    more a (inr e) = inr e

both : (K : Text → Type 0) (xs ys : List Item) → AreOpened K xs → AreOpened K ys → AreOpened K (xs ++ ys)
both K [] ys g h = h
both K (x ∷ xs) ys g h = (g.0, both (And K x.path) xs ys g.1 (weaker K (And K x.path) (λ a k. inl k) ys h))

-- a directory with this path was found, if it is not the root, and all that its path opens with
abbrev Stands : (Text → Type 0) → Text → Type 0
Stands K path = ((path ≡ []) ⊎ K path) × ((a b : Text) → path ≡ a ++ 47 ∷ b → K a)

module _ (K : Text → Type 0) (path text : Text) (stands : Stands K path) (free : has_slash text ≡ false) where
  by_cut : (x : ℕ) (xs a : Text) → path ≡ x ∷ xs → IsCut (x ∷ xs) a → K a
  by_cut x xs a is (inl same) = known stands.0
    where
      known : (path ≡ []) ⊎ K path → K a
      known (inl none) = let never : x ∷ xs ≡ [] = sym is ∙ none in absurd cc
      known (inr k) = subst K (is ∙ sym same) k
  by_cut x xs a is (inr (b, e)) = stands.1 a b (is ∙ e)

  opened_at : (p a b : Text) → path ≡ p → under p text ≡ a ++ 47 ∷ b → K a
  opened_at [] a b is e = absurd (none_inside text a b free e)
  opened_at (x ∷ xs) a b is e = by_cut x xs a is (cuts (x ∷ xs) text a b free e)

  opened : (a b : Text) → under path text ≡ a ++ 47 ∷ b → K a
  opened a b e = opened_at path a b refl e

  stands_below : Stands (And K (under path text)) (under path text)
  stands_below = (inr (inr refl), (λ a b e. inl (opened a b e)))

module _ (t : Tree) (sound : IsSound t) where
  held_opened : (K : Text → Type 0) (k : EntryKind) (is : List Item) → AreOpened K is → AreOpened K (held_by k is)
  held_opened K File is h = tt
  held_opened K Dir is h = h

  entries_opened :
      (inside : Text → Name → List Item) → ((K : Text → Type 0) (path : Text) (dir : Name) → Stands K path → AreOpened K (inside path dir)) → (K : Text → Type 0) (path : Text) → Stands K path →
      (es : Entries) → AllByRecursion (IsGood t sound) es → AreOpened K (flat_map (at_entry inside path) es)
  entries_opened inside h K path stands [] good = tt
  entries_opened inside h K path stands (e ∷ es) good =
      let free = no_slash e.0 good.0.0 in
      both K (at_entry inside path e) (flat_map (at_entry inside path) es)
      (opened K path e.0 stands free, held_opened (And K (under path e.0)) e.1.kind (inside (under path e.0) e.1.name) (h (And K (under path e.0)) (under path e.0) e.1.name (stands_below K path e.0 stands free)))
      (entries_opened inside h K path stands es good.1)

  below_opened : (depth : ℕ) (K : Text → Type 0) (path : Text) (dir : Name) → Stands K path → AreOpened K (items_below depth t path dir)
  unfolding items_below
  below_opened zero K path dir stands = tt
  below_opened (suc depth) K path dir stands = entries_opened (items_below depth t) (below_opened depth) K path stands (entries_at t dir) (entries_good t sound dir)

  abbrev Nowhere : Text → Type 0
  Nowhere a = ⊥

  nothing : (a b : Text) → [] ≡ a ++ 47 ∷ b → ⊥
  nothing [] b e = cc
  nothing (x ∷ a) b e = cc

  all_opened : AreOpened Nowhere (items_of t)
  all_opened = below_opened (len t.dirs) Nowhere [] t.root (inl refl, nothing)

-- ---- the first path that is no text

entry_alone : (K : Text → Type 0) → ((a : Text) → K a → is_utf8 a ≡ true) → (p entry : Text) → ((a b : Text) → under p entry ≡ a ++ 47 ∷ b → K a) → is_utf8 (under p entry) ≡ is_utf8 entry
entry_alone K known [] entry h = refl
entry_alone K known (x ∷ xs) entry h = seam (x ∷ xs) entry (known (x ∷ xs) (h (x ∷ xs) entry refl))

abbrev pub bad_entry : Found → Bool
bad_entry f = not (is_utf8 f.entry)

abbrev bad_item : Item → Bool
bad_item i = not (is_utf8 i.path)

still : (K : Text → Type 0) → ((a : Text) → K a → is_utf8 a ≡ true) → (path : Text) → is_utf8 path ≡ true → (a : Text) → And K path a → is_utf8 a ≡ true
still K known path e a (inl k) = known a k
still K known path e a (inr is) = ap is_utf8 is ∙ e

-- `position` counts from 0
module _ {X : Type 0} (p : X → Bool) where
  same_test : (k n : ℕ) → nat_lt k n ≡ nat_lt (1 + k) (suc n)
  same_test k n = by (nat_lt k n) (nat_lt (1 + k) (suc n)) refl refl
    where
      by : (a b : Bool) → nat_lt k n ≡ a → nat_lt (1 + k) (suc n) ≡ b → a ≡ b
      by true true e f = refl
      by false false e f = refl
      by true false e f = absurd (grind (arith, nat_tests))
      by false true e f = absurd (grind (arith, nat_tests))

  zero_below : (n : ℕ) → true ≡ nat_lt 0 (suc n)
  zero_below n = sym (grind (arith, nat_tests))

  from_place_on : (i : ℕ) (xs : List X) → position_from p i xs ≡ cond (nat_lt (position_or_len p xs) (length xs)) (Some (i + position_or_len p xs)) None
  from_place_on i [] = refl
  from_place_on i (x ∷ xs) = by (p x) (from_place_on (i + 1) xs)
    where
      here_zero : (n : ℕ) → n ≡ n + 0
      here_zero n = omega arith

      one_on : (n k : ℕ) → n + 1 + k ≡ n + (1 + k)
      one_on n k = omega arith

      by : (b : Bool) → position_from p (i + 1) xs ≡ cond (nat_lt (position_or_len p xs) (length xs)) (Some (i + 1 + position_or_len p xs)) None →
          cond b (Some i) (position_from p (i + 1) xs) ≡ cond (nat_lt (cond (not b) (1 + position_or_len p xs) 0) (suc (length xs))) (Some (i + cond (not b) (1 + position_or_len p xs) 0)) None
      by true more = λ j. cond (zero_below (length xs) j) (Some (here_zero i j)) None
      by false more = more ∙ (λ j. cond (same_test (position_or_len p xs) (length xs) j) (Some (one_on i (position_or_len p xs) j)) None)

  pub position_is : (xs : List X) → position_from p 0 xs ≡ position p xs
  position_is xs = from_place_on 0 xs ∙ ap (λ n. cond (nat_lt (position_or_len p xs) (length xs)) (Some n) None) (none_before (position_or_len p xs))
    where
      none_before : (n : ℕ) → 0 + n ≡ n
      none_before n = omega arith

same_first : (K : Text → Type 0) → ((a : Text) → K a → is_utf8 a ≡ true) → (path : Text) (at : ℕ) (fs : List Found) → AreOpened K (items_from path fs) → position_from bad_entry at fs ≡ position_from bad_item at (items_from path fs)
same_first K known path at [] h = refl
same_first K known path at (f ∷ fs) h =
    let alone = entry_alone K known (take f.cut path) f.entry h.0 in
    ap (λ b. cond (not b) (Some at) (position_from bad_entry (at + 1) fs)) (sym alone)
    ∙ by (is_utf8 (path_of path f)) refl (λ e. same_first (And K (path_of path f)) (still K known (path_of path f) e) (path_of path f) (at + 1) fs h.1)
  where
    by : (b : Bool) → is_utf8 (path_of path f) ≡ b → (is_utf8 (path_of path f) ≡ true → position_from bad_entry (at + 1) fs ≡ position_from bad_item (at + 1) (items_from (path_of path f) fs)) →
        cond (not b) (Some at) (position_from bad_entry (at + 1) fs) ≡ cond (not b) (Some at) (position_from bad_item (at + 1) (items_from (path_of path f) fs))
    by false e more = refl
    by true e more = more e

pub first_bad : (t : Tree) → IsSound t → (steps : List Step) → IsWalk t steps → position bad_entry (map found steps) ≡ bad_path t
first_bad t sound steps walk =
    sym (position_is bad_entry (map found steps))
    ∙ same_first (Nowhere t sound) (λ a k. absurd k) [] 0 (map found steps) (subst (AreOpened (Nowhere t sound)) (sym walk.items) (all_opened t sound))
    ∙ position_is bad_item (items_from [] (map found steps)) ∙ ap (position bad_item) walk.items

-- ---- a search, step by step

module _ (steps : List Step) (at : ℕ) (step : Step) (less : at < length steps) (is : step ≡ get_or steps at step) where
  here : map found (drop at steps) ≡ found step ∷ map found (drop (at + 1) steps)
  here = ap (map found) (from_place steps at step less is)

  pub bad_here : is_utf8 step.entry.now ≡ false → position_from bad_entry at (map found (drop at steps)) ≡ Some at
  bad_here e = ap (position_from bad_entry at) here ∙ ap (λ b. cond (not b) (Some at) (position_from bad_entry (at + 1) (map found (drop (at + 1) steps)))) e

  pub bad_later : is_utf8 step.entry.now ≡ true → position_from bad_entry at (map found (drop at steps)) ≡ position_from bad_entry (at + 1) (map found (drop (at + 1) steps))
  bad_later e = ap (position_from bad_entry at) here ∙ ap (λ b. cond (not b) (Some at) (position_from bad_entry (at + 1) (map found (drop (at + 1) steps)))) e

pub none_bad : (steps : List Step) (at : ℕ) → length steps ≤ at → position_from bad_entry at (map found (drop at steps)) ≡ None
none_bad steps at past = ap (λ ss. position_from bad_entry at (map found ss)) (past_end steps at past)
