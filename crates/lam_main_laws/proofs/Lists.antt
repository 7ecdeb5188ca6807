-- Lists of JSON that are made of the numbers below one: their text, and what they are read as.
use Rattle.std.proofs.Common.{◌≡◌, ℕ, zero, suc, ◌+◌, ◌<◌, ◌≤◌, ◌&&◌, true, false, Bool, List, [], ◌∷◌, ◌++◌, Some, option_and_then, option_map, codes, decimal, refl, sym, ap, subst, ◌∙◌, inl, inr, arith, append_assoc}
use Rattle.std.specs.List.{flat_map, range_with_len}
use Rattle.std.specs.Fmt.{digits}
use Rattle.std.specs.Str.{bytes_eq}
use Rattle.std.proofs.lemmas.Bool.{and_parts, cases_eq}
use Rattle.std.proofs.lemmas.Slice.Eq.{bytes_eq-Decides}
use Rattle.json.specs.Tree as tree
use Rattle.json.specs.Print.{escape_byte, quoted}
use Rattle.serde_json.specs.Data.{Data, Items, no_items, item}
use Rattle.serde_json.specs.Read.{of_json, of_items}
use Rattle.serde_json.specs.Written.{outline, items_outline, compact_text, items_text}
use Rattle.lam_make.specs.Made.{Text, listed, tag_word}

-- ---- words

-- the name of a tag
abbrev pub tag_name : ℕ → Text
tag_name k = 116 ∷ decimal k

-- a test that holds of each number below n
abbrev pub all_below : (ℕ → Bool) → ℕ → Bool
all_below p zero = true
all_below p (suc n) = p n && all_below p n

pub below : (p : ℕ → Bool) (n : ℕ) → all_below p n ≡ true → (k : ℕ) → k < n → p k ≡ true
below p zero e k h = absurd (omega arith)
below p (suc n) e k h =
    let both = and_parts (p n) (all_below p n) e in
    elim (cases_eq k n) [ inl same ↦ subst (λ (m : ℕ). p m ≡ true) (sym same) both.0 | inr other ↦ below p n both.1 k (omega arith) ]

all_plain : all_below (λ k. bytes_eq (quoted (tag_name k)) (tag_word k)) 64 ≡ true
unfolding escape_byte digits
all_plain = refl

-- a name has no byte that JSON escapes
pub plain : (k : ℕ) → k < 64 → quoted (tag_name k) ≡ tag_word k
plain k h = (bytes_eq-Decides (quoted (tag_name k)) (tag_word k)).0 (below (λ j. bytes_eq (quoted (tag_name j)) (tag_word j)) 64 all_plain k h)

regroup_item : (a b c d : Text) → a ++ (b ++ (c ++ d)) ≡ ((a ++ b) ++ c) ++ d
regroup_item a b c d = simp append_assoc

-- ---- lists

-- what is made of each number
abbrev pub items_of : (ℕ → Data) → List ℕ → Items
items_of f [] = no_items
items_of f (k ∷ ks) = item (f k) (items_of f ks)

module _ (f : ℕ → Data) (g : ℕ → Text) (n : ℕ) (same : (k : ℕ) → k < n → compact_text (f k) ≡ g k) where
  more_text : (a m : ℕ) → a + m ≤ n → items_text true (items_of f (range_with_len a m)) ≡ flat_map (λ k. codes "," ++ g k) (range_with_len a m) ++ codes "]"
  more_text a zero h = refl
  more_text a (suc m) h =
      ap (λ (t : Text). codes "," ++ (t ++ items_text true (items_of f (range_with_len (a + 1) m)))) (same a (omega arith))
      ∙ ap (λ (t : Text). codes "," ++ (g a ++ t)) (more_text (a + 1) m (omega arith))
      ∙ regroup_item (codes ",") (g a) (flat_map (λ k. codes "," ++ g k) (range_with_len (a + 1) m)) (codes "]")

  pub list_text : (m : ℕ) → m ≤ n → items_text false (items_of f (range_with_len 0 m)) ≡ listed g m ++ codes "]"
  unfolding listed
  list_text zero h = refl
  list_text (suc m) h =
      ap (λ (t : Text). t ++ items_text true (items_of f (range_with_len 1 m))) (same 0 (omega arith))
      ∙ ap (λ (t : Text). g 0 ++ t) (more_text 1 m (omega arith))
      ∙ sym (append_assoc (g 0) (flat_map (λ k. codes "," ++ g k) (range_with_len 1 m)) (codes "]"))

module _ (f g : ℕ → Data) (n : ℕ) (same : (k : ℕ) → k < n → of_json (outline (f k)) ≡ Some (g k)) where
  pub list_data : (a m : ℕ) → a + m ≤ n → of_items (items_outline (items_of f (range_with_len a m))) ≡ Some (items_of g (range_with_len a m))
  list_data a zero h = refl
  list_data a (suc m) h =
      ap (λ o. option_and_then (λ d. option_map (item d) (of_items (items_outline (items_of f (range_with_len (a + 1) m))))) o) (same a (omega arith))
      ∙ ap (option_map (item (g a))) (list_data (a + 1) m (omega arith))

module _ (f : ℕ → Data) (d : ℕ) (shallow : (k : ℕ) → tree.depth (outline (f k)) ≤ d) where
  pub list_depth : (ks : List ℕ) → tree.items_depth (items_outline (items_of f ks)) ≤ d
  list_depth [] = omega arith
  list_depth (k ∷ ks) = omega (arith, shallow k, list_depth ks)

module _ (f : ℕ → Data) (n : ℕ) (numbers : (k : ℕ) → k < n → tree.HasNumbers (outline (f k))) where
  pub list_numbers : (a m : ℕ) → a + m ≤ n → tree.ItemsHaveNumbers (items_outline (items_of f (range_with_len a m)))
  list_numbers a zero h = tt
  list_numbers a (suc m) h = (numbers a (omega arith), list_numbers (a + 1) m (omega arith))
