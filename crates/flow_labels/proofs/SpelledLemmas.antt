-- The words of a text that two lists of names spell are the names, at their places.
use Rattle.std.proofs.Common.{◌≡◌, ℕ, ◌+◌, ◌-◌, ◌<◌, Bool, true, false, not, eqb, List, [], ◌∷◌, ◌++◌, length, take, drop, map, get_or, Some, Ok, refl, sym, ap, ◌∙◌, arith, append_assoc, append-nil, add-zero, suc}
use Rattle.std.specs.List.{list_all, prefix_len}
use Rattle.std.proofs.Math.Seq.{take-append_seam, drop-append_seam}
use Rattle.std.proofs.lemmas.Bool.{and_from, and_parts, eq-eqb, or_right}
use Rattle.std.proofs.lemmas.Bool.Decides.{nat_tests}
use Rattle.std.proofs.lemmas.List.Folds.{list_all-append}
use Rattle.std.proofs.lemmas.Option.{slice_get-get_or}
use Rattle.tag_sets.specs.Tags.{Tags, tags_of}
use Rattle.tag_sets.specs.Rising.{has}
use Rattle.tag_sets.proofs.TagLemmas.{has-tags_of, from_list-tags_of}
use Rattle.flow_labels.specs.Names.{is_word, is_name, place_of, AreNames}
use Rattle.flow_labels.specs.TwoLists.{Text, AllNames, after_commas, joined, braced, spelled, Spells, placed, first_names, second_names, tag_text, sets_text}
use Rattle.flow_labels.specs.Reading.{closing, words, tags_of_names, sets_of, first_end, sets_in, HasNames, ListsAreRead, SetsAreRead}
use Rattle.flow_labels.specs.LabelText.{label_or, LabelsAreRead, TextsAreRead}
use Rattle.flow_labels.specs.declared.two_lists.Form.{Form}
use Rattle.flow_labels.specs.declared.two_lists.Form.TheVariants.{Label as label_form, Caps}
use Rattle.flow_labels.proofs.NameLemmas.{name_is_words, named_at, place_at}
use Rattle.flow_labels.proofs.FormLemmas.{form_read}

-- ---- words
moved : (t word : Text) (m n : ℕ) → m ≡ n → words t word m ≡ words t word n
moved t word m n e = ap (words t word) e

pub words-name : (n t word : Text) (at : ℕ) → list_all is_word n ≡ true → words (n ++ t) word at ≡ words t (word ++ n) (at + length n)
words-name [] t word at all = sym (ap (λ (w : Text). words t w (at + 0)) (append-nil word) ∙ moved t word (at + 0) at (add-zero at))
words-name (c ∷ cs) t word at all =
    let both = and_parts (is_word c) (list_all is_word cs) all in
    let later : words (cs ++ t) (word ++ c ∷ []) (at + 1) ≡ words t ((word ++ c ∷ []) ++ cs) (at + 1 + length cs) = words-name cs t (word ++ c ∷ []) (at + 1) both.1 in
    let here : words (c ∷ (cs ++ t)) word at ≡ words (cs ++ t) (word ++ c ∷ []) (at + 1) = rw both.0 refl in
    here ∙ later ∙ ap (λ (w : Text). words t w (at + 1 + length cs)) (append_assoc word (c ∷ []) cs) ∙ moved t (word ++ c ∷ cs) (at + 1 + length cs) (at + suc (length cs)) (omega arith)

closing-name : (n : Text) (at : ℕ) → is_name n ≡ true → closing n (at + length n) ≡ (at, n) ∷ []
closing-name [] at e = absurd cc
closing-name (c ∷ cs) at e = let same : at + suc (length cs) - suc (length cs) ≡ at = omega arith in ap (λ (k : ℕ). (k, c ∷ cs) ∷ []) same

-- what ends a list ends its last word
abbrev pub EndsWord : Text → Type 0
EndsWord tail = (word : Text) (at : ℕ) → words tail word at ≡ closing word at

words-after : (ns : List Text) (tail word : Text) (at : ℕ) → AllNames ns → EndsWord tail → words (after_commas ns ++ tail) word at ≡ closing word at ++ placed (at + 1) ns
words-after [] tail word at all ends = ends word at ∙ sym (append-nil (closing word at))
words-after (n ∷ ns) tail word at all ends =
    let inner : words ((n ++ after_commas ns) ++ tail) [] (at + 1) ≡ placed (at + 1) (n ∷ ns) =
    ap (λ (t : Text). words t [] (at + 1)) (append_assoc n (after_commas ns) tail)
    ∙ words-name n (after_commas ns ++ tail) [] (at + 1) (name_is_words n all.0)
    ∙ words-after ns tail n (at + 1 + length n) all.1 ends
    ∙ ap (λ (ws : List (ℕ × Text)). ws ++ placed (at + 1 + length n + 1) ns) (closing-name n (at + 1) all.0) in
    ap (λ (ws : List (ℕ × Text)). closing word at ++ ws) inner

pub words-joined : (ns : List Text) (tail : Text) (at : ℕ) → AllNames ns → EndsWord tail → words (joined ns ++ tail) [] at ≡ placed at ns
words-joined [] tail at all ends = ends [] at
words-joined (n ∷ ns) tail at all ends =
    ap (λ (t : Text). words t [] at) (append_assoc n (after_commas ns) tail)
    ∙ words-name n (after_commas ns ++ tail) [] at (name_is_words n all.0)
    ∙ words-after ns tail n (at + length n) all.1 ends
    ∙ ap (λ (ws : List (ℕ × Text)). ws ++ placed (at + length n + 1) ns) (closing-name n at all.0)

nothing_ends : EndsWord []
nothing_ends word at = refl

brace_ends : EndsWord (125 ∷ [])
brace_ends word at = append-nil (closing word at)

-- ---- the cut at the first brace that ends a list
word_passes : (b : ℕ) → is_word b ≡ true → not (eqb b 125) ≡ true
word_passes b e = let no : eqb b 125 ≡ false = grind (arith, nat_tests) in rw no refl

all_pass : (n : Text) → list_all is_word n ≡ true → list_all (λ b. not (eqb b 125)) n ≡ true
all_pass [] e = refl
all_pass (c ∷ cs) e = let both = and_parts (is_word c) (list_all is_word cs) e in rw (word_passes c both.0) (all_pass cs both.1)

all_append : (p : ℕ → Bool) (xs ys : Text) → list_all p xs ≡ true → list_all p ys ≡ true → list_all p (xs ++ ys) ≡ true
all_append p xs ys e f = list_all-append p xs ys ∙ and_from (list_all p xs) (list_all p ys) e f

after_pass : (ns : List Text) → AllNames ns → list_all (λ b. not (eqb b 125)) (after_commas ns) ≡ true
after_pass [] all = refl
after_pass (n ∷ ns) all = all_append (λ b. not (eqb b 125)) n (after_commas ns) (all_pass n (name_is_words n all.0)) (after_pass ns all.1)

joined_pass : (ns : List Text) → AllNames ns → list_all (λ b. not (eqb b 125)) (joined ns) ≡ true
joined_pass [] all = refl
joined_pass (n ∷ ns) all = all_append (λ b. not (eqb b 125)) n (after_commas ns) (all_pass n (name_is_words n all.0)) (after_pass ns all.1)

front_len : (p : ℕ → Bool) (xs ys : Text) (y : ℕ) → list_all p xs ≡ true → p y ≡ false → prefix_len p (xs ++ y ∷ ys) ≡ length xs
front_len p [] ys y all stop = rw stop refl
front_len p (x ∷ xs) ys y all stop =
    let both = and_parts (p x) (list_all p xs) all in
    let later : prefix_len p (xs ++ y ∷ ys) ≡ length xs = front_len p xs ys y both.1 stop in
    rw both.0 (rw later (omega arith))

-- the text up to the first brace that ends a list, and from it on
sets_at : (names : List Text) (front rest : Text) → list_all (λ b. not (eqb b 125)) front ≡ true → sets_in names (front ++ 125 ∷ rest) ≡ sets_of names (words front [] 0) (words (125 ∷ rest) [] (length front))
sets_at names front rest all =
    let cut : first_end (front ++ 125 ∷ rest) ≡ length front = front_len (λ b. not (eqb b 125)) front rest 125 all refl in
    let one : take (length front) (front ++ 125 ∷ rest) ≡ front = take-append_seam front (125 ∷ rest) in
    let two : drop (length front) (front ++ 125 ∷ rest) ≡ 125 ∷ rest = drop-append_seam front (125 ∷ rest) in
    ap (λ (k : ℕ). sets_of names (words (take k (front ++ 125 ∷ rest)) [] 0) (words (drop k (front ++ 125 ∷ rest)) [] k)) cut
    ∙ (λ i. sets_of names (words (one i) [] 0) (words (two i) [] (length front)))

bare : (ns : List Text) (at : ℕ) → AllNames ns → words (joined ns) [] at ≡ placed at ns
bare ns at all = ap (λ (t : Text). words t [] at) (sym (append-nil (joined ns))) ∙ words-joined ns [] at all nothing_ends

spelled_sets : (form : Form) (names a b : List Text) → AllNames a → AllNames b → sets_in names (spelled form a b) ≡ sets_of names (first_names form a) (second_names form a b)
spelled_sets label_form names a b alla allb =
    let place : suc (length (joined a)) + 1 + 1 + 1 ≡ 0 + 1 + length (joined a) + 3 = omega arith in
    sets_at names (123 ∷ joined a) (47 ∷ braced b []) (joined_pass a alla)
    ∙ (λ i. sets_of names (bare a 1 alla i) (words-joined b (125 ∷ []) (suc (length (joined a)) + 1 + 1 + 1) allb brace_ends i))
    ∙ ap (λ (k : ℕ). sets_of names (placed 1 a) (placed k b)) place
spelled_sets Caps names a b alla allb =
    let place : suc (suc (length (joined a))) + 1 + 1 + 1 ≡ 1 + 1 + length (joined a) + 3 = omega arith in
    sets_at names (43 ∷ 123 ∷ joined a) (45 ∷ braced b []) (joined_pass a alla)
    ∙ (λ i. sets_of names (bare a 2 alla i) (words-joined b (125 ∷ []) (suc (suc (length (joined a))) + 1 + 1 + 1) allb brace_ends i))
    ∙ ap (λ (k : ℕ). sets_of names (placed 2 a) (placed k b)) place

pub lists_are_read : ListsAreRead
lists_are_read form names text a b spells = ap (sets_in names) spells.text_is ∙ spelled_sets form names a b spells.first spells.second

-- ---- names of tags
abbrev pub EachHasName : List Text → List ℕ → Type 0
EachHasName names [] = Unit {0}
EachHasName names (t ∷ ts) = (t < length names) × EachHasName names ts

each_has_name : (names : List Text) (ts : List ℕ) → ((t : ℕ) → has ts t ≡ true → t < length names) → EachHasName names ts
each_has_name names [] h = tt
each_has_name names (t ∷ ts) h = (h t (rw (eq-eqb t t refl) refl), each_has_name names ts (λ u e. h u (or_right (eqb t u) (has ts u) e)))

tag_text-is : (names : List Text) (t : ℕ) → t < length names → tag_text names t ≡ get_or names t []
tag_text-is names t less = rw (slice_get-get_or names t [] less) refl

all_named : (names : List Text) (ts : List ℕ) → AreNames names → EachHasName names ts → AllNames (map (tag_text names) ts)
all_named names [] all has = tt
all_named names (t ∷ ts) all has = (ap is_name (tag_text-is names t has.0) ∙ named_at names t [] has.0 all, all_named names ts all has.1)

tags_again : (names : List Text) (ts : List ℕ) (at : ℕ) → AreNames names → EachHasName names ts → tags_of_names names (placed at (map (tag_text names) ts)) ≡ Ok ts
tags_again names [] at all has = refl
tags_again names (t ∷ ts) at all has =
    let here : place_of names (tag_text names t) ≡ Some t = ap (place_of names) (tag_text-is names t has.0) ∙ place_at names t [] has.0 all in
    let later : tags_of_names names (placed (at + length (tag_text names t) + 1) (map (tag_text names) ts)) ≡ Ok ts = tags_again names ts _ all has.1 in
    rw (here, later) refl

of_set : (names : List Text) (s : Tags) → HasNames names s → EachHasName names (tags_of s)
of_set names s h = each_has_name names (tags_of s) (λ t e. h t (sym (has-tags_of s t) ∙ e))

sets_again : (names : List Text) (a b : Tags) (m n : ℕ) → AreNames names → HasNames names a → HasNames names b → sets_of names (placed m (map (tag_text names) (tags_of a))) (placed n (map (tag_text names) (tags_of b))) ≡ Ok (record { first = a; second = b })
sets_again names a b m n all ha hb =
    let one : tags_of_names names (placed m (map (tag_text names) (tags_of a))) ≡ Ok (tags_of a) = tags_again names (tags_of a) m all (of_set names a ha) in
    let two : tags_of_names names (placed n (map (tag_text names) (tags_of b))) ≡ Ok (tags_of b) = tags_again names (tags_of b) n all (of_set names b hb) in
    rw (one, two) (λ i. Ok (record { first = from_list-tags_of a i; second = from_list-tags_of b i }))

spells_sets : (form : Form) (names : List Text) (a b : Tags) → AreNames names → HasNames names a → HasNames names b → Spells form (sets_text form names a b) (map (tag_text names) (tags_of a)) (map (tag_text names) (tags_of b))
spells_sets form names a b all ha hb = record { first = all_named names (tags_of a) all (of_set names a ha); second = all_named names (tags_of b) all (of_set names b hb); text_is = refl }

pub sets_are_read : SetsAreRead
sets_are_read form names a b all ha hb =
    let spells = spells_sets form names a b all ha hb in
    (form_read form (sets_text form names a b) (_, _, spells), lists_are_read form names (sets_text form names a b) _ _ spells ∙ sets_again names a b _ _ all ha hb)

-- ---- labels
pub labels_are_read : LabelsAreRead
labels_are_read names text secrecy integrity spells = λ i. label_or (form_read label_form text (secrecy, integrity, spells) i) (lists_are_read label_form names text secrecy integrity spells i)

pub texts_are_read : TextsAreRead
texts_are_read names l all hs hi = let both = sets_are_read label_form names l.s l.i all hs hi in (λ i. label_or (both.0 i) (both.1 i))
