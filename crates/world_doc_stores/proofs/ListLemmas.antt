-- Items of a list, and tags by their names, item by item.
use Rattle.std.proofs.Common.{◌≡◌, ℕ, suc, ◌+◌, ◌<◌, true, false, cond, List, [], ◌∷◌, ◌++◌, length, get_or, take, drop, zero, lit<, Ok, refl, sym, ap, subst, ◌∙◌, arith}
use Rattle.std.proofs.lemmas.List.{drop_more}
use Rattle.std.proofs.lemmas.Bool.Decides.{nat_tests}
use Rattle.std.proofs.lemmas.Str.{IsUtf8-from_ascii}
use Rattle.std.specs.Str.{IsUtf8}
use Rattle.std.specs.List.{prefix_len}
use Rattle.flow_labels.specs.Names.{is_word}
use Rattle.serde_json.specs.Events.{items_len}
use Rattle.serde_json.specs.Data.{item}
use Rattle.serde_json.specs.View.{view, items_view}
use Rattle.serde_json.specs.declared.value.Value.{Value}
use Rattle.flow_labels.specs.TwoLists.{Text}
use Rattle.world_doc_terms.specs.Breaks.{Reading}
use Rattle.world_doc_terms.specs.Tags.{tag_of, tags_of}
use Rattle.world_doc_stores.specs.declared.fault.WorldFault.{WorldFault}
use Rattle.world_doc_stores.specs.Meaning.{Fails}
use Rattle.world_doc_stores.proofs.Steps.{fails_same, onto, onto_more, onto_fails}

-- the items from a place on
pub items_more : (xs : List Value) (i : ℕ) (x : Value) → i < length xs → x ≡ get_or xs i x → items_view (drop i xs) ≡ item (view x) (items_view (drop (i + 1) xs))
items_more xs i x h is = ap items_view (drop_more xs i x h) ∙ ap (λ (y : Value). item (view y) (items_view (drop (i + 1) xs))) (sym is)

pub items_count : (xs : List Value) → items_len (items_view xs) ≡ length xs
items_count [] = refl
items_count (x ∷ xs) = ap suc (items_count xs)

-- ---- tags

pub tags_more : (at : Text) (names : List Text) (xs : List Value) (i : ℕ) (x : Value) (done : List ℕ) (t : ℕ) (all : Reading (List ℕ)) → i < length xs → x ≡ get_or xs i x → all ≡ onto done (tags_of at names (items_view (drop i xs))) → tag_of at names (view x) ≡ Ok t →
    all ≡ onto (done ++ t ∷ []) (tags_of at names (items_view (drop (i + 1) xs)))
tags_more at names xs i x done t all h is so_far e =
    so_far ∙ ap (λ ds. onto done (tags_of at names ds)) (items_more xs i x h is) ∙ onto_more done (tag_of at names (view x)) t (tags_of at names (items_view (drop (i + 1) xs))) e

pub tags_stop : (f : WorldFault) (at : Text) (names : List Text) (xs : List Value) (i : ℕ) (x : Value) (done : List ℕ) (all : Reading (List ℕ)) → i < length xs → x ≡ get_or xs i x → all ≡ onto done (tags_of at names (items_view (drop i xs))) → Fails f (tag_of at names (view x)) → Fails f all
tags_stop f at names xs i x done all h is so_far e =
    fails_same (sym (so_far ∙ ap (λ ds. onto done (tags_of at names ds)) (items_more xs i x h is))) (onto_fails f done (tag_of at names (view x)) (tags_of at names (items_view (drop (i + 1) xs))) e)

-- ---- the text of a word

word_is_ascii : (b : ℕ) → is_word b ≡ true → b < 128
word_is_ascii b e = grind (arith, nat_tests)

words_are_ascii : (bs : Text) (i : ℕ) → get_or (take (prefix_len is_word bs) bs) i 0 < 128
words_are_ascii [] = λ i. lit< tt
words_are_ascii (b ∷ bs) = elim (is_word b) as (λ v. is_word b ≡ v → (i : ℕ) → get_or (take (cond v (1 + prefix_len is_word bs) 0) (b ∷ bs)) i 0 < 128) [
  | true ↦ λ e i. one_more b (prefix_len is_word bs) (word_is_ascii b e) (words_are_ascii bs) i
  | false ↦ λ e i. lit< tt
] refl
  where
    at : (c : ℕ) (cs : Text) (i : ℕ) → c < 128 → ((i : ℕ) → get_or cs i 0 < 128) → get_or (c ∷ cs) i 0 < 128
    at c cs zero h later = h
    at c cs (suc i) h later = later i

    one_more : (c n : ℕ) → c < 128 → ((i : ℕ) → get_or (take n bs) i 0 < 128) → (i : ℕ) → get_or (take (1 + n) (c ∷ bs)) i 0 < 128
    one_more c n h later i = let one : 1 + n ≡ suc n = omega arith in rw one (at c (take n bs) i h later)

pub word_is_text : (bs : Text) (n : ℕ) → n ≡ prefix_len is_word bs → IsUtf8 (take n bs)
word_is_text bs n is = subst (λ (k : ℕ). IsUtf8 (take k bs)) (sym is) (IsUtf8-from_ascii (take (prefix_len is_word bs) bs) (words_are_ascii bs))
