-- Reading a text word by word.
use Rattle.std.proofs.Common.{◌≡◌, ℕ, ◌+◌, ◌-◌, ◌<◌, ◌≤◌, true, false, List, [], ◌∷◌, ◌++◌, length, take, drop, get_or, Result, Ok, Err, refl, sym, ap, ◌∙◌, subst, arith, slice_range, append_assoc, add-one, append-nil, length-take-le, length-drop}
use Rattle.std.proofs.Math.Seq.{drop-cons}
use Rattle.std.proofs.lemmas.List.{take_more, get_or-drop, drop_all}
use Rattle.flow_labels.specs.declared.two_lists.TagFault.{TagFault}
use Rattle.flow_labels.specs.declared.two_lists.TagFault.TheVariants.{NoTag, NoMemory}
use Rattle.flow_labels.specs.Names.{is_word, place_of}
use Rattle.flow_labels.specs.Reading.{◌>>=◌, found, tags_of_names, words, closing, word_tag, Fails, TakesWord}

-- what is read, after what was read before
abbrev pub with_front : List ℕ → Result (List ℕ) ℕ → Result (List ℕ) ℕ
with_front front read = read >>= λ ts. Ok (front ++ ts)

with_front-nil : (r : Result (List ℕ) ℕ) → with_front [] r ≡ r
with_front-nil (Ok x) = refl
with_front-nil (Err e) = refl

with_front-append : (a b : List ℕ) (r : Result (List ℕ) ℕ) → with_front a (with_front b r) ≡ with_front (a ++ b) r
with_front-append a b (Ok x) = ap Ok (sym (append_assoc a b x))
with_front-append a b (Err e) = refl

-- a word is read before the others
tags_of_names-closing : (names : List (List ℕ)) (word : List ℕ) (at : ℕ) (vs : List (ℕ × List ℕ)) → tags_of_names names (closing word at ++ vs) ≡ (word_tag names word (at - length word) >>= λ ts. with_front ts (tags_of_names names vs))
tags_of_names-closing names [] at vs = sym (with_front-nil _)
tags_of_names-closing names (w ∷ ws) at vs =
    elim (found (place_of names (w ∷ ws)) (at - length (w ∷ ws))) as (λ r. (r >>= λ t. tags_of_names names vs >>= λ ts. Ok (t ∷ ts)) ≡ ((r >>= λ t. Ok (t ∷ [])) >>= λ ts. with_front ts (tags_of_names names vs))) [ Ok x ↦ refl | Err e ↦ refl ]

fails-with_front : (e : TagFault) (front : List ℕ) (r : Result (List ℕ) ℕ) → Fails e r → Fails e (with_front front r)
fails-with_front NoMemory front r h = tt
fails-with_front (NoTag at) front r h = rw h refl

fails-bind : {A B : Type 0} (e : TagFault) (r : Result A ℕ) (f : A → Result B ℕ) → Fails e r → Fails e (r >>= f)
fails-bind NoMemory r f h = tt
fails-bind (NoTag at) r f h = rw h refl

-- the step at a byte that ends a word
pub word_taken : (names : List (List ℕ)) (word rest front new ts : List ℕ) (b at place : ℕ) (whole : Result (List ℕ) ℕ) → with_front front (tags_of_names names (words (b ∷ rest) word at)) ≡ whole → is_word b ≡ false → place ≡ at - length word → word_tag names word place ≡ Ok ts → new ≡ front ++ ts → with_front new (tags_of_names names (words rest [] (at + 1))) ≡ whole
word_taken names word rest front new ts b at place whole so_far plain there tag made =
    let vs : List (ℕ × List ℕ) = words rest [] (at + 1) in
    let ends : words (b ∷ rest) word at ≡ closing word at ++ vs = rw plain refl in
    let tag_there : word_tag names word (at - length word) ≡ Ok ts = rw (← there) tag in
    let reads : tags_of_names names (words (b ∷ rest) word at) ≡ with_front ts (tags_of_names names vs) = ap (tags_of_names names) ends ∙ tags_of_names-closing names word at vs ∙ rw tag_there refl in
    rw made (sym (with_front-append front ts (tags_of_names names vs))) ∙ ap (with_front front) (sym reads) ∙ so_far

pub word_refused : (names : List (List ℕ)) (word rest front : List ℕ) (b at place : ℕ) (e : TagFault) (whole : Result (List ℕ) ℕ) → with_front front (tags_of_names names (words (b ∷ rest) word at)) ≡ whole → is_word b ≡ false → place ≡ at - length word → Fails e (word_tag names word place) → Fails e whole
word_refused names word rest front b at place e whole so_far plain there failed =
    let vs : List (ℕ × List ℕ) = words rest [] (at + 1) in
    let ends : words (b ∷ rest) word at ≡ closing word at ++ vs = rw plain refl in
    let reads : tags_of_names names (words (b ∷ rest) word at) ≡ (word_tag names word (at - length word) >>= λ ts. with_front ts (tags_of_names names vs)) = ap (tags_of_names names) ends ∙ tags_of_names-closing names word at vs in
    subst (λ (r : Result (List ℕ) ℕ). Fails e r) so_far (fails-with_front e front _ (subst (λ (r : Result (List ℕ) ℕ). Fails e r) (sym reads) (fails-bind e (word_tag names word (at - length word)) _ (subst (λ (n : ℕ). Fails e (word_tag names word n)) there failed))))

-- the step at a byte of a word
pub word_grows : (names : List (List ℕ)) (word longer rest front : List ℕ) (b at : ℕ) (whole : Result (List ℕ) ℕ) → with_front front (tags_of_names names (words (b ∷ rest) word at)) ≡ whole → is_word b ≡ true → longer ≡ word ++ b ∷ [] → with_front front (tags_of_names names (words rest longer (at + 1))) ≡ whole
word_grows names word longer rest front b at whole so_far wordy made =
    let goes_on : words (b ∷ rest) word at ≡ words rest longer (at + 1) = rw (wordy, made) refl in
    ap (λ ws. with_front front (tags_of_names names ws)) (sym goes_on) ∙ so_far

-- the last word
pub last_taken : (names : List (List ℕ)) (word front new ts : List ℕ) (at place : ℕ) (whole : Result (List ℕ) ℕ) → with_front front (tags_of_names names (words [] word at)) ≡ whole → place ≡ at - length word → word_tag names word place ≡ Ok ts → new ≡ front ++ ts → whole ≡ Ok new
last_taken names word front new ts at place whole so_far there tag made =
    let tag_there : word_tag names word (at - length word) ≡ Ok ts = rw (← there) tag in
    let ends : closing word at ≡ closing word at ++ [] = sym (append-nil _) in
    let reads : tags_of_names names (closing word at) ≡ Ok (ts ++ []) = ap (tags_of_names names) ends ∙ tags_of_names-closing names word at [] ∙ rw tag_there refl in
    sym so_far ∙ ap (with_front front) reads ∙ ap Ok (rw (append-nil, made) refl)

pub last_refused : (names : List (List ℕ)) (word front : List ℕ) (at place : ℕ) (e : TagFault) (whole : Result (List ℕ) ℕ) → with_front front (tags_of_names names (words [] word at)) ≡ whole → place ≡ at - length word → Fails e (word_tag names word place) → Fails e whole
last_refused names word front at place e whole so_far there failed =
    let ends : closing word at ≡ closing word at ++ [] = sym (append-nil _) in
    let reads : tags_of_names names (closing word at) ≡ (word_tag names word (at - length word) >>= λ ts. with_front ts (tags_of_names names [])) = ap (tags_of_names names) ends ∙ tags_of_names-closing names word at [] in
    subst (λ (r : Result (List ℕ) ℕ). Fails e r) so_far (fails-with_front e front _ (subst (λ (r : Result (List ℕ) ℕ). Fails e r) (sym reads) (fails-bind e (word_tag names word (at - length word)) _ (subst (λ (n : ℕ). Fails e (word_tag names word n)) there failed))))

slice_range-more : (text : List ℕ) (start at : ℕ) → start ≤ at → at < length text → slice_range text start (at + 1) ≡ slice_range text start at ++ get_or text at 0 ∷ []
slice_range-more text start at before less =
    let one : at + 1 - start ≡ (at - start) + 1 = omega arith in
    let there : start + (at - start) ≡ at = omega arith in
    let within : at - start < length (drop start text) = omega (arith, length-drop start text) in
    ap (λ n. take n (drop start text)) one ∙ take_more (drop start text) (at - start) 0 within ∙ ap (λ b. take (at - start) (drop start text) ++ b ∷ []) (get_or-drop start text (at - start) 0 ∙ ap (λ n. get_or text n 0) there)

length-slice_range : (text : List ℕ) (start at : ℕ) → start ≤ at → at ≤ length text → length (slice_range text start at) ≡ at - start
length-slice_range text start at before within = length-take-le (at - start) (drop start text) (omega (arith, length-drop start text))

rest_at : (text : List ℕ) (at : ℕ) → at < length text → drop at text ≡ get_or text at 0 ∷ drop (at + 1) text
rest_at text at less = rw add-one (drop-cons text at 0 less)

-- what was read up to a place, and what is left, is what is read of all
abbrev pub SoFar : List (List ℕ) → List ℕ → ℕ → List ℕ → ℕ → ℕ → Type 0
SoFar names text from front start at = with_front front (tags_of_names names (words (drop at text) (slice_range text start at) (from + at))) ≡ tags_of_names names (words text [] from)

at_byte : (names : List (List ℕ)) (text : List ℕ) (from : ℕ) (front : List ℕ) (start at : ℕ) → at < length text → SoFar names text from front start at → with_front front (tags_of_names names (words (get_or text at 0 ∷ drop (at + 1) text) (slice_range text start at) (from + at))) ≡ tags_of_names names (words text [] from)
at_byte names text from front start at less so_far = ap (λ rest. with_front front (tags_of_names names (words rest (slice_range text start at) (from + at)))) (sym (rest_at text at less)) ∙ so_far

place_is : (text : List ℕ) (from start at : ℕ) → start ≤ at → at ≤ length text → from + start ≡ (from + at) - length (slice_range text start at)
place_is text from start at before within = omega (arith, length-slice_range text start at before within)

empty_range : (text : List ℕ) (at : ℕ) → slice_range text at at ≡ []
empty_range text at = let none : at - at ≡ 0 = omega arith in ap (λ n. take n (drop at text)) none

pub after_word : (names : List (List ℕ)) (text : List ℕ) (from : ℕ) (front new : List ℕ) (start at : ℕ) (u : Unit {0}) → start ≤ at → at < length text → SoFar names text from front start at → is_word (get_or text at 0) ≡ false → TakesWord names front new (slice_range text start at) (from + start) (Ok u) → SoFar names text from new (at + 1) (at + 1)
after_word names text from front new start at u before less so_far plain takes =
    let moved : from + (at + 1) ≡ from + at + 1 = omega arith in
    ap (λ word. with_front new (tags_of_names names (words (drop (at + 1) text) word (from + (at + 1))))) (empty_range text (at + 1))
    ∙ ap (λ n. with_front new (tags_of_names names (words (drop (at + 1) text) [] n))) moved
    ∙ word_taken names _ (drop (at + 1) text) front new takes.0 (get_or text at 0) (from + at) (from + start) _ (at_byte names text from front start at less so_far) plain (place_is text from start at before (omega arith)) takes.1 takes.2

pub after_letter : (names : List (List ℕ)) (text : List ℕ) (from : ℕ) (front : List ℕ) (start at : ℕ) → start ≤ at → at < length text → SoFar names text from front start at → is_word (get_or text at 0) ≡ true → SoFar names text from front start (at + 1)
after_letter names text from front start at before less so_far wordy =
    let moved : from + (at + 1) ≡ from + at + 1 = omega arith in
    ap (λ n. with_front front (tags_of_names names (words (drop (at + 1) text) (slice_range text start (at + 1)) n))) moved
    ∙ word_grows names _ _ (drop (at + 1) text) front (get_or text at 0) (from + at) _ (at_byte names text from front start at less so_far) wordy (slice_range-more text start at before less)

pub refused_word : (names : List (List ℕ)) (text : List ℕ) (from : ℕ) (front : List ℕ) (start at : ℕ) (e : TagFault) → start ≤ at → at < length text → SoFar names text from front start at → is_word (get_or text at 0) ≡ false → Fails e (word_tag names (slice_range text start at) (from + start)) → Fails e (tags_of_names names (words text [] from))
refused_word names text from front start at e before less so_far plain failed =
    word_refused names _ (drop (at + 1) text) front (get_or text at 0) (from + at) (from + start) e _ (at_byte names text from front start at less so_far) plain (place_is text from start at before (omega arith)) failed

at_end : (names : List (List ℕ)) (text : List ℕ) (from : ℕ) (front : List ℕ) (start at : ℕ) → at ≡ length text → SoFar names text from front start at → with_front front (tags_of_names names (words [] (slice_range text start at) (from + at))) ≡ tags_of_names names (words text [] from)
at_end names text from front start at all so_far = ap (λ rest. with_front front (tags_of_names names (words rest (slice_range text start at) (from + at)))) (sym (drop_all at text (omega arith))) ∙ so_far

pub after_last : (names : List (List ℕ)) (text : List ℕ) (from : ℕ) (front new : List ℕ) (start at : ℕ) (u : Unit {0}) → start ≤ at → at ≡ length text → SoFar names text from front start at → TakesWord names front new (slice_range text start (length text)) (from + start) (Ok u) → tags_of_names names (words text [] from) ≡ Ok new
after_last names text from front new start at u before all so_far takes =
    let whole : SoFar names text from front start (length text) = subst (λ (n : ℕ). SoFar names text from front start n) all so_far in
    last_taken names (slice_range text start (length text)) front new takes.0 (from + length text) (from + start) _ (at_end names text from front start (length text) refl whole) (place_is text from start (length text) (omega arith) (omega arith)) takes.1 takes.2

pub refused_last : (names : List (List ℕ)) (text : List ℕ) (from : ℕ) (front : List ℕ) (start at : ℕ) (e : TagFault) → start ≤ at → at ≡ length text → SoFar names text from front start at → Fails e (word_tag names (slice_range text start (length text)) (from + start)) → Fails e (tags_of_names names (words text [] from))
refused_last names text from front start at e before all so_far failed =
    let whole : SoFar names text from front start (length text) = subst (λ (n : ℕ). SoFar names text from front start n) all so_far in
    last_refused names (slice_range text start (length text)) front (from + length text) (from + start) e _ (at_end names text from front start (length text) refl whole) (place_is text from start (length text) (omega arith) (omega arith)) failed
