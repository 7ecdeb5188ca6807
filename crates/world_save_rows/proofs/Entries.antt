-- What holds of each entry of a directory, and of each item that can be reached from the root.
use Rattle.std.proofs.Common.{◌≡◌, ℕ, zero, suc, Bool, true, false, cond, List, [], ◌∷◌, ◌++◌, Some, None, refl, sym, ap, ◌∙◌, subst}
use Rattle.std.specs.Prelude.{IsTrue}
use Rattle.std.specs.List.{AllByRecursion, IsDistinct, flat_map}
use Rattle.std.specs.Map.{lookup, keys_of}
use Rattle.std.specs.FinMap.{len}
use Rattle.std.specs.Cmp.{IsEquivalence}
use Rattle.std.specs.Cmp.Lexicographic.{nat_list_eq_equiv}
use Rattle.std.proofs.lemmas.Map.{lookup-none}
use Rattle.flow_labels.specs.TwoLists.{Text}
use Rattle.lam_value.specs.declared.names.Name.{Name}
use Rattle.labelled_files.specs.declared.directory.Target.{Target}
use Rattle.labelled_files.specs.declared.directory.EntryKind.{EntryKind}
use Rattle.labelled_files.specs.declared.directory.EntryKind.TheVariants.{File, Dir}
use Rattle.labelled_files.specs.Entries.{Entries, text_eq, is_entry_name}
use Rattle.labelled_files.specs.Trees.{Tree, entries_at, lives_as, AreListed, IsSound}
use Rattle.world_save_terms.specs.Items.{Item, below as under, held_by, at_entry, items_below, items_of}

-- what holds of each entry that is found holds of each that is listed
module _ (P : Text × Target → Type 0) where
  passed : (x : Text × Target) (k : Text) → AllByRecursion (λ y. text_eq x.0 y ≡ false) (k ∷ []) → text_eq k x.0 ≡ false
  passed x k h = nat_list_eq_equiv.symm k x.0 ∙ h.0

  pub each_entry : (es : Entries) → IsDistinct text_eq (keys_of es) → ((text : Text) (target : Target) → lookup (text_eq text) es ≡ Some target → P (text, target)) → AllByRecursion P es
  unfolding IsDistinct
  each_entry [] distinct h = tt
  each_entry (e ∷ es) distinct h = (
    h e.0 e.1 (ap (λ b. cond b (Some e.1) (lookup (text_eq e.0) es)) (nat_list_eq_equiv.refl e.0)),
    each_entry es distinct.1 (λ text target found. h text target (later text target found (text_eq text e.0) refl)),
  )
    where
      absent : (fs : Entries) → AllByRecursion (λ y. text_eq e.0 y ≡ false) (keys_of fs) → lookup (text_eq e.0) fs ≡ None
      absent [] a = refl
      absent (f ∷ fs) a = (λ i. cond (a.0 i) (Some f.1) (lookup (text_eq e.0) fs)) ∙ absent fs a.1

      alike : (text : Text) → text_eq text e.0 ≡ true → (fs : Entries) → lookup (text_eq text) fs ≡ lookup (text_eq e.0) fs
      alike text same [] = refl
      alike text same (f ∷ fs) = λ i. cond (nat_list_eq_equiv.congr text e.0 f.0 same i) (Some f.1) (alike text same fs i)

      later : (text : Text) (target : Target) → lookup (text_eq text) es ≡ Some target → (b : Bool) → text_eq text e.0 ≡ b → cond b (Some e.1) (lookup (text_eq text) es) ≡ Some target
      later text target found true same = let none : lookup (text_eq text) es ≡ None = alike text same es ∙ absent es distinct.0 in cc
      later text target found false same = found

module _ (t : Tree) (sound : IsSound t) where
  -- each entry has a name that an entry may have, and what it leads to lives
  abbrev pub IsGood : Text × Target → Type 0
  IsGood e = IsTrue (is_entry_name e.0) × IsTrue (lives_as e.1.kind t e.1.name)

  pub entries_good : (dir : Name) → AllByRecursion IsGood (entries_at t dir)
  entries_good dir = let listed = sound.listed dir in each_entry IsGood (entries_at t dir) listed.distinct listed.good

  abbrev Lives : Item → Type 0
  Lives i = IsTrue (lives_as i.target.kind t i.target.name)

  all_append : (xs ys : List Item) → AllByRecursion Lives xs → AllByRecursion Lives ys → AllByRecursion Lives (xs ++ ys)
  all_append [] ys a b = b
  all_append (x ∷ xs) ys a b = (a.0, all_append xs ys a.1 b)

  held_live : (k : EntryKind) (is : List Item) → AllByRecursion Lives is → AllByRecursion Lives (held_by k is)
  held_live File is h = tt
  held_live Dir is h = h

  entries_live : (inside : Text → Name → List Item) → ((path : Text) (dir : Name) → AllByRecursion Lives (inside path dir)) → (path : Text) (es : Entries) → AllByRecursion IsGood es → AllByRecursion Lives (flat_map (at_entry inside path) es)
  entries_live inside h path [] good = tt
  entries_live inside h path (e ∷ es) good =
      all_append (at_entry inside path e) (flat_map (at_entry inside path) es)
      (good.0.1, held_live e.1.kind (inside (under path e.0) e.1.name) (h (under path e.0) e.1.name))
      (entries_live inside h path es good.1)

  below_live : (depth : ℕ) (path : Text) (dir : Name) → AllByRecursion Lives (items_below depth t path dir)
  unfolding items_below
  below_live zero path dir = tt
  below_live (suc depth) path dir = entries_live (items_below depth t) (below_live depth) path (entries_at t dir) (entries_good dir)

  -- what can be reached lives
  pub items_live : AllByRecursion (λ (i : Item). IsTrue (lives_as i.target.kind t i.target.name)) (items_of t)
  items_live = below_live (len t.dirs) [] t.root
