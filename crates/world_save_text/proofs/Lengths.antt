-- A document has the same length, in whatever order its rows stand.
use Rattle.std.proofs.Common.{◌≡◌, ◌+◌, ◌≤◌, ◌<◌, ℕ, zero, suc, Bool, true, false, List, [], ◌∷◌, ◌++◌, map, length, refl, sym, ap, ◌∙◌, arith, length-append}
use Rattle.std.specs.Prelude.{IsPermutation, codes}
use Rattle.std.specs.List.{sum_by}
use Rattle.std.proofs.lemmas.List.Recursion.{is_sum_by}
use Rattle.std.proofs.lemmas.List.Sorted.{IsPermutation-map, length_permutation, sum_by-IsPermutation}
use Rattle.json.specs.Print.{quoted, escape_byte}
use Rattle.serde_json.specs.Data.{Data}
use Rattle.serde_json.specs.Written.{compact_text}
use Rattle.flow_labels.specs.TwoLists.{Text}
use Rattle.world_save_terms.specs.Rows.{Row}
use Rattle.world_save_terms.specs.Document.{Parts, row_data, list_text, text_of}
use Rattle.world_save_text.specs.declared.document.Contents.{Contents}
use Rattle.world_save_text.specs.Pieces.{items_left, after_counts}
use Rattle.world_save_text.specs.Texts.{parts_with, text_with}

abbrev size : Data → ℕ
size d = 1 + length (compact_text d)

abbrev total : List Data → ℕ
total [] = 0
total (d ∷ ds) = size d + total ds

total_is : (ds : List Data) → total ds ≡ sum_by size ds
total_is = is_sum_by total size refl (λ d ds. refl)

length_later : (ds : List Data) → length (items_left true ds) ≡ 1 + total ds
length_later [] = refl
length_later (d ∷ ds) = let more = length_later ds in let e = length-append (compact_text d) (items_left true ds) in omega (arith, more, e)

length_first : (d : Data) (ds : List Data) → 1 + length (items_left false (d ∷ ds)) ≡ length (items_left true (d ∷ ds))
length_first d ds = omega arith

same_length : (ds es : List Data) → IsPermutation ds es → length (items_left false ds) ≡ length (items_left false es)
same_length [] [] p = refl
same_length [] (e ∷ es) p = let n = length_permutation [] (e ∷ es) p in absurd (omega (arith, n))
same_length (d ∷ ds) [] p = let n = length_permutation (d ∷ ds) [] p in absurd (omega (arith, n))
same_length (d ∷ ds) (e ∷ es) p =
    let a = length_later (d ∷ ds) in
    let b = length_later (e ∷ es) in
    let m = length_first d ds in
    let n = length_first e es in
    let s = total_is (d ∷ ds) ∙ sym (sum_by-IsPermutation size (d ∷ ds) (e ∷ es) p) ∙ sym (total_is (e ∷ es)) in
    omega (arith, a, b, m, n, s)

abbrev head : Text
head = 123 ∷ (quoted (codes "counts") ++ 58 ∷ [])

split : (p : Parts) (pipes threads : Text) → text_of p pipes threads ≡ head ++ (list_text p.counts ++ after_counts p pipes threads)
unfolding escape_byte
split p pipes threads = refl

length_of : (p : Parts) (pipes threads : Text) → length (text_of p pipes threads) ≡ length head + (length (list_text p.counts) + length (after_counts p pipes threads))
length_of p pipes threads =
    ap length (split p pipes threads) ∙ length-append head (list_text p.counts ++ after_counts p pipes threads)
    ∙ ap (λ n. length head + n) (length-append (list_text p.counts) (after_counts p pipes threads))

pub any_order : (c : Contents) (rows others : List Row) (pipes threads : Data) → IsPermutation rows others → length (text_with c rows pipes threads) ≡ length (text_with c others pipes threads)
any_order c rows others pipes threads p =
    let e = same_length (map row_data rows) (map row_data others) (IsPermutation-map row_data rows others p) in
    length_of (parts_with c rows pipes threads) c.pipes.now c.threads.now
    ∙ ap (λ n. length head + (suc n + length (after_counts (parts_with c rows pipes threads) c.pipes.now c.threads.now))) e
    ∙ sym (length_of (parts_with c others pipes threads) c.pipes.now c.threads.now)
