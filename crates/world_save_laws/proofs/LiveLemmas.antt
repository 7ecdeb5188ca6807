-- Each item of files and directories lives.
use Rattle.std.proofs.Common.{◌≡◌, ◌<◌, ℕ, zero, suc, List, [], ◌∷◌, ◌++◌, length, get_or, refl, sym, ap, ◌∙◌, subst, arith, append_assoc}
use Rattle.std.specs.Prelude.{IsTrue}
use Rattle.std.specs.List.{AllByRecursion, Contains, IsDistinct, flat_map}
use Rattle.std.specs.Map.{lookup, keys_of}
use Rattle.std.specs.FinMap.{len}
use Rattle.flow_labels.specs.TwoLists.{Text}
use Rattle.lam_value.specs.declared.names.Name.{Name}
use Rattle.labelled_files.specs.declared.directory.EntryKind.{EntryKind}
use Rattle.labelled_files.specs.declared.directory.EntryKind.TheVariants.{File, Dir}
use Rattle.labelled_files.specs.Entries.{Entries, text_eq}
use Rattle.labelled_files.specs.Trees.{Tree, lives_as, entries_at, IsSound}
use Rattle.world_save_terms.specs.Items.{Item, below, at_entry, items_below, items_of}
use Rattle.world_save_laws.proofs.MadeLemmas.{found_middle}

abbrev Live : Tree → Item → Type 0
Live t i = IsTrue (lives_as i.target.kind t i.target.name)

both : (P : Item → Type 0) (xs ys : List Item) → AllByRecursion P xs → AllByRecursion P ys → AllByRecursion P (xs ++ ys)
both P [] ys h k = k
both P (x ∷ xs) ys h k = (h.0, both P xs ys h.1 k)

module _ (t : Tree) (sound : IsSound t) where
  held_live : (inside : Text → Name → List Item) → ((path : Text) (n : Name) → AllByRecursion (Live t) (inside path n)) → (path text : Text) (kind : EntryKind) (n : Name) → IsTrue (lives_as kind t n) → AllByRecursion (Live t) (at_entry inside path (text, record { kind = kind; name = n }))
  held_live inside each path text File n lives = (lives, tt)
  held_live inside each path text Dir n lives = (lives, each (below path text) n)

  entries_live :
      (inside : Text → Name → List Item) → ((path : Text) (n : Name) → AllByRecursion (Live t) (inside path n)) → (path : Text) (dir : Name) (es done : Entries) → entries_at t dir ≡ done ++ es → AllByRecursion (Live t) (flat_map (at_entry inside path) es)
  entries_live inside each path dir [] done all = tt
  entries_live inside each path dir (e ∷ es) done all =
      let listed = sound.listed dir in
      let mid = found_middle done e es (subst (λ xs. IsDistinct text_eq (keys_of xs)) all listed.distinct) in
      let lives = (listed.good e.0 e.1 (ap (lookup (text_eq e.0)) all ∙ mid.1)).1 in
      both (Live t) (at_entry inside path e) (flat_map (at_entry inside path) es) (held_live inside each path e.0 e.1.kind e.1.name lives)
      (entries_live inside each path dir es (done ++ e ∷ []) (all ∙ sym (append_assoc done (e ∷ []) es)))

  below_live : (k : ℕ) (path : Text) (dir : Name) → AllByRecursion (Live t) (items_below k t path dir)
  unfolding items_below
  below_live zero path dir = tt
  below_live (suc k) path dir = entries_live (items_below k t) (below_live k) path dir (entries_at t dir) [] refl

  one_of : (xs : List Item) → AllByRecursion (Live t) xs → (k : ℕ) (i : Item) → k < length xs → get_or xs k i ≡ i → Live t i
  one_of [] all k i l e = absurd (omega arith)
  one_of (x ∷ xs) all zero i l e = subst (Live t) e all.0
  one_of (x ∷ xs) all (suc k) i l e = one_of xs all.1 k i (omega arith) e

  pub item_lives : (i : Item) → Contains (items_of t) i → IsTrue (lives_as i.target.kind t i.target.name)
  item_lives i c = one_of (items_of t) (below_live (len t.dirs) [] t.root) c.0 i c.1 c.2
