-- Lists of objects, read one after another into what is there: the items of the tree, and counters.
use Rattle.std.proofs.Common.{◌≡◌, ℕ, suc, ◌+◌, ◌<◌, List, length, get_or, drop, Ok, refl, sym, ap, ◌∙◌, arith}
use Rattle.std.specs.Prelude.{codes}
use Rattle.serde_json.specs.Data.{Data, Items, item, Members}
use Rattle.serde_json.specs.Find.{as_object}
use Rattle.serde_json.specs.View.{view, items_view}
use Rattle.serde_json.specs.declared.value.Value.{Value as Json}
use Rattle.flow_labels.specs.TwoLists.{Text}
use Rattle.lam_value.specs.Homes.{Counts}
use Rattle.labelled_files.specs.Trees.{Tree}
use Rattle.world_doc_terms.specs.Breaks.{Reading, formed, ◌>>=◌}
use Rattle.world_doc_terms.specs.Stores.{with_item, with_items}
use Rattle.world_doc_terms.specs.Numbered.{with_count_item, with_counts, with_numbered_item, with_numbered_items}
use Rattle.world_doc_stores.specs.Contents.{item_in, count_in_item, numbered_item_in}
use Rattle.world_doc_stores.specs.declared.fault.WorldFault.{WorldFault}
use Rattle.world_doc_stores.specs.Meaning.{Fails}
use Rattle.world_doc_stores.proofs.Steps.{bind_assoc, fails_same, fails_here}
use Rattle.world_doc_stores.proofs.ListLemmas.{items_more}

-- one object and all of a list, each by its index
module _ {S : Type 0} (name : Text) (one : ℕ → S → Members → Reading S) (all : ℕ → S → Items → Reading S)
    (step : (i : ℕ) (s : S) (d : Data) (ds : Items) → all i s (item d ds) ≡ (formed name (as_object d) >>= λ ms. one i s ms >>= λ u. all (suc i) u ds)) where
  abbrev one_in : ℕ → S → Data → Reading S
  one_in i s d = formed name (as_object d) >>= one i s

  all_at : (xs : List Json) (i : ℕ) (x : Json) (s : S) → i < length xs → x ≡ get_or xs i x → all i s (items_view (drop i xs)) ≡ (one_in i s (view x) >>= λ u. all (i + 1) u (items_view (drop (i + 1) xs)))
  all_at xs i x s h is =
      ap (all i s) (items_more xs i x h is) ∙
      step i s (view x) (items_view (drop (i + 1) xs)) ∙
      sym (bind_assoc (formed name (as_object (view x))) (one i s) (λ u. all (suc i) u (items_view (drop (i + 1) xs)))) ∙
      ap (λ (n : ℕ). one_in i s (view x) >>= λ u. all n u (items_view (drop (i + 1) xs))) (omega arith)

  one_read : (xs : List Json) (i : ℕ) (x : Json) (s u : S) (r : Reading S) → i < length xs → x ≡ get_or xs i x → r ≡ all i s (items_view (drop i xs)) → one_in i s (view x) ≡ Ok u → r ≡ all (i + 1) u (items_view (drop (i + 1) xs))
  one_read xs i x s u r h is so_far e = so_far ∙ all_at xs i x s h is ∙ ap (λ r. r >>= λ u. all (i + 1) u (items_view (drop (i + 1) xs))) e

  not_read : (f : WorldFault) (xs : List Json) (i : ℕ) (x : Json) (s : S) (r : Reading S) → i < length xs → x ≡ get_or xs i x → r ≡ all i s (items_view (drop i xs)) → Fails f (one_in i s (view x)) → Fails f r
  not_read f xs i x s r h is so_far e = fails_same (sym (so_far ∙ all_at xs i x s h is)) (fails_here f (one_in i s (view x)) (λ u. all (i + 1) u (items_view (drop (i + 1) xs))) e)

module _ (names : List Text) where
  -- ---- the tree of versions 1 and 2

  pub one_placed : (xs : List Json) (i : ℕ) (x : Json) (t u : Tree) (r : Reading Tree) → i < length xs → x ≡ get_or xs i x → r ≡ with_items names i t (items_view (drop i xs)) → item_in names i t (view x) ≡ Ok u → r ≡ with_items names (i + 1) u (items_view (drop (i + 1) xs))
  one_placed = one_read (codes "tree") (with_item names) (with_items names) (λ i t d ds. refl)

  pub not_placed : (f : WorldFault) (xs : List Json) (i : ℕ) (x : Json) (t : Tree) (r : Reading Tree) → i < length xs → x ≡ get_or xs i x → r ≡ with_items names i t (items_view (drop i xs)) → Fails f (item_in names i t (view x)) → Fails f r
  not_placed = not_read (codes "tree") (with_item names) (with_items names) (λ i t d ds. refl)

  -- ---- the tree of version 3

  pub one_numbered : (xs : List Json) (i : ℕ) (x : Json) (t u : Tree) (r : Reading Tree) → i < length xs → x ≡ get_or xs i x → r ≡ with_numbered_items names i t (items_view (drop i xs)) → numbered_item_in names i t (view x) ≡ Ok u → r ≡ with_numbered_items names (i + 1) u (items_view (drop (i + 1) xs))
  one_numbered = one_read (codes "tree") (with_numbered_item names) (with_numbered_items names) (λ i t d ds. refl)

  pub not_numbered : (f : WorldFault) (xs : List Json) (i : ℕ) (x : Json) (t : Tree) (r : Reading Tree) → i < length xs → x ≡ get_or xs i x → r ≡ with_numbered_items names i t (items_view (drop i xs)) → Fails f (numbered_item_in names i t (view x)) → Fails f r
  not_numbered = not_read (codes "tree") (with_numbered_item names) (with_numbered_items names) (λ i t d ds. refl)

  -- ---- its counters

  pub one_counted : (xs : List Json) (i : ℕ) (x : Json) (m k : Counts) (r : Reading Counts) → i < length xs → x ≡ get_or xs i x → r ≡ with_counts names m (items_view (drop i xs)) → count_in_item names m (view x) ≡ Ok k → r ≡ with_counts names k (items_view (drop (i + 1) xs))
  one_counted = one_read (codes "counts") (λ _ m ms. with_count_item names m ms) (λ _ m ds. with_counts names m ds) (λ i m d ds. refl)

  pub not_counted : (f : WorldFault) (xs : List Json) (i : ℕ) (x : Json) (m : Counts) (r : Reading Counts) → i < length xs → x ≡ get_or xs i x → r ≡ with_counts names m (items_view (drop i xs)) → Fails f (count_in_item names m (view x)) → Fails f r
  not_counted = not_read (codes "counts") (λ _ m ms. with_count_item names m ms) (λ _ m ds. with_counts names m ds) (λ i m d ds. refl)
