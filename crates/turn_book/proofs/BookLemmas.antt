-- Exactly the books are read, each as its turns, and what is no book is refused at its least broken line.
use Rattle.std.proofs.Common.{◌≡◌, ℕ, ◌+◌, ◌^◌, ◌<◌, ◌≤◌, true, false, cond, ltb, lit<, List, [], ◌∷◌, ◌++◌, length, take, drop, Some, None, Result, Ok, Err, replicate, refl, sym, ap, subst, ◌∙◌, arith, append_assoc, append-nil, length-append, All, IfOk, IfErr, zero, suc}
use Rattle.std.specs.Str.{bytes_eq}
use Rattle.std.proofs.lemmas.Slice.Eq.{bytes_eq-Decides}
use Rattle.std.proofs.lemmas.List.{take-append-drop, length-replicate}
use Rattle.std.proofs.lemmas.List.Elements.{recursion_from_All}
use Rattle.std.proofs.lemmas.Bool.{false≢true, ltb-true, ltb-false, le-ltb}
use Rattle.std.proofs.lemmas.Option.{none-some, same_Some}
use Rattle.turn_book.specs.Book.{Text, Stretch, stretches, head, line_text, lines_text, book, expanded, Differs, AreLongest, AreTurns, BeginsWithLine, LastIs, IsNoLine, BooksBefore, IsBroken}
use Rattle.turn_book.specs.Reading.{◌>>=◌, cut, stretch_of, last_is, with_stretch, turns_from, turns_of, Gives}
use Rattle.turn_book.specs.declared.BookFault.{BookFault}
use Rattle.turn_book.specs.declared.BookFault.TheVariants.{BadHead, BadLine, SameThread, TooMany, NoMemory}
use Rattle.turn_book.proofs.CutLemmas.{IsCut, cut_is, line_read, no_line_read}
use Rattle.turn_book.proofs.WrittenLemmas.{begins_read, read_begins, read_line_text, written_read, IsLine, line_back}
use Rattle.turn_book.proofs.StretchLemmas.{line_before, AreLow, stretches-expanded, stretches_longest, expanded-stretches, stretches_low, expanded_low, last_of_stretch, last_means, means_last}

-- ---- stretches that go on after turns
-- the turns with those of stretches
abbrev pub after : List ℕ → List Stretch → List ℕ
after ts [] = ts
after ts (s ∷ ss) = after (ts ++ replicate s.count s.thread) ss

abbrev pub Goes : List ℕ → List Stretch → Type 0
Goes ts [] = Unit {0}
Goes ts (s ∷ ss) = (last_is ts s.thread ≡ false) × (s.thread ≤ 4095) × (0 < s.count) × (length ts + s.count ≤ 1000000) × Goes (ts ++ replicate s.count s.thread) ss

after-expanded : (ts : List ℕ) (ss : List Stretch) → after ts ss ≡ ts ++ expanded ss
after-expanded ts [] = sym (append-nil ts)
after-expanded ts (s ∷ ss) = after-expanded (ts ++ replicate s.count s.thread) ss ∙ append_assoc ts (replicate s.count s.thread) (expanded ss)

differs_next : (ts : List ℕ) (n t : ℕ) (ss : List Stretch) → 0 < n → Goes (ts ++ replicate n t) ss → Differs t ss
differs_next ts n t [] some h = tt
differs_next ts n t (s ∷ ss) some h = sym (last_of_stretch ts n t s.thread some) ∙ h.0

goes_longest : (ts : List ℕ) (ss : List Stretch) → Goes ts ss → AreLongest ss
goes_longest ts [] h = tt
goes_longest ts (s ∷ ss) h = (h.2, differs_next ts s.count s.thread ss h.2 h.4, goes_longest (ts ++ replicate s.count s.thread) ss h.4)

goes_low : (ts : List ℕ) (ss : List Stretch) → Goes ts ss → AreLow ss
goes_low ts [] h = tt
goes_low ts (s ∷ ss) h = (h.1, goes_low (ts ++ replicate s.count s.thread) ss h.4)

longer_by : (ts : List ℕ) (n t : ℕ) → length (ts ++ replicate n t) ≡ length ts + n
longer_by ts n t = length-append ts (replicate n t) ∙ ap (λ k. length ts + k) (length-replicate n t)

goes_few : (ts : List ℕ) (ss : List Stretch) → length ts ≤ 1000000 → Goes ts ss → length (after ts ss) ≤ 1000000
goes_few ts [] few h = few
goes_few ts (s ∷ ss) few h = goes_few (ts ++ replicate s.count s.thread) ss (omega (arith, longer_by ts s.count s.thread, h.3)) h.4

abbrev NextDiffers : List ℕ → List Stretch → Type 0
NextDiffers ts [] = Unit {0}
NextDiffers ts (s ∷ ss) = last_is ts s.thread ≡ false

next_differs : (ts : List ℕ) (n t : ℕ) (ss : List Stretch) → 0 < n → Differs t ss → NextDiffers (ts ++ replicate n t) ss
next_differs ts n t [] some h = tt
next_differs ts n t (s ∷ ss) some h = last_of_stretch ts n t s.thread some ∙ h

longest_goes : (ts : List ℕ) (ss : List Stretch) → NextDiffers ts ss → AreLongest ss → AreLow ss → length ts + length (expanded ss) ≤ 1000000 → Goes ts ss
longest_goes ts [] d h low few = tt
longest_goes ts (s ∷ ss) d h low few =
    let sum : length (replicate s.count s.thread ++ expanded ss) ≡ s.count + length (expanded ss) = length-append (replicate s.count s.thread) (expanded ss) ∙ ap (λ k. k + length (expanded ss)) (length-replicate s.count s.thread) in
    let so_many : length (ts ++ replicate s.count s.thread) ≡ length ts + s.count = longer_by ts s.count s.thread in
    (d, low.0, h.0, omega arith, longest_goes (ts ++ replicate s.count s.thread) ss (next_differs ts s.count s.thread ss h.0 h.1) h.2 low.1 (omega arith))

-- ---- lines that are read
big : (n : ℕ) → n ≤ 1000000 → n < 2 ^ 64
big n h = let most : 1000000 < 2 ^ 64 = lit< tt in below n 1000000 (2 ^ 64) h most
  where
    below : (a b c : ℕ) → a ≤ b → b < c → a < c
    below a b c h g = omega arith

one_line : (ts : List ℕ) (text line rest : Text) (k : ℕ) (s : Stretch) → cut 10 text ≡ Some (line, rest) → stretch_of line ≡ Some s → turns_from ts [] text k ≡ (with_stretch ts k (Some s) >>= λ more. turns_from more [] rest (k + 1))
one_line ts text line rest k s parts is = line_read ts [] text (line, rest) k parts ∙ ap (λ o. with_stretch ts k o >>= λ more. turns_from more [] rest (k + 1)) is

lines_go : (ts : List ℕ) (ss : List Stretch) (k : ℕ) → Goes ts ss → turns_from ts [] (lines_text ss) k ≡ Ok (after ts ss)
lines_go ts [] k h = refl
lines_go ts (s ∷ ss) k h =
    let read = written_read s (lines_text ss) h.1 h.2 (big s.count (omega (arith, h.3))) (big s.thread (omega (arith, h.1))) in
    let room : ltb 1000000 (length ts + s.count) ≡ false = le-ltb 1000000 (length ts + s.count) h.3 in
    let other : last_is ts s.thread ≡ false = h.0 in
    one_line ts (line_text s (lines_text ss)) read.0 (lines_text ss) k s read.1 read.2 ∙ rw (other, room) (lines_go (ts ++ replicate s.count s.thread) ss (k + 1) h.4)

-- ---- what a text is
-- why reading stops where it stops
abbrev Cause : List ℕ → Text → ℕ → BookFault → Type 0
Cause now rest k (BadLine n) = (n ≡ k) × IsNoLine rest
Cause now rest k (SameThread n) = (n ≡ k) × ((s : Stretch) × BeginsWithLine rest s × (last_is now s.thread ≡ true))
Cause now rest k (TooMany n) = (n ≡ k) × ((s : Stretch) × BeginsWithLine rest s × (last_is now s.thread ≡ false) × (1000000 < length now + s.count))
Cause now rest k BadHead = ⊥
Cause now rest k NoMemory = ⊥

abbrev Ends : List ℕ → Text → ℕ → Result (List ℕ) BookFault → Type 0
Ends now rest k (Ok ts) = (rest ≡ []) × (ts ≡ now)
Ends now rest k (Err f) = Cause now rest k f

record Reading (ts : List ℕ) (text : Text) (k : ℕ) : Type 0 where
  lines : List Stretch
  rest : Text
  text_is : text ≡ lines_text lines ++ rest
  goes : Goes ts lines
  ends : Ends (after ts lines) rest (k + length lines) (turns_from ts [] text k)

at_once : (ts : List ℕ) (text : Text) (k : ℕ) (r : Result (List ℕ) BookFault) → turns_from ts [] text k ≡ r → Ends ts text k r → Reading ts text k
at_once ts text k r is h = record { lines = []; rest = text; text_is = refl; goes = tt; ends = subst (Ends ts text (k + 0)) (sym is) (subst (λ (n : ℕ). Ends ts text n r) (let same : k ≡ k + 0 = omega arith in same) h) }

no_line_there : (text : Text) (s : Stretch) → cut 10 text ≡ None → BeginsWithLine text s → ⊥
no_line_there text s none h = let read = begins_read text s h in none-some _ (sym none ∙ read.0)

bad_line_there : (text line rest : Text) (s : Stretch) → cut 10 text ≡ Some (line, rest) → stretch_of line ≡ None → BeginsWithLine text s → ⊥
bad_line_there text line rest s parts none h =
    let read = begins_read text s h in
    let same : h.thread ++ 32 ∷ h.count ≡ line = ap (λ (p : Text × Text). p.0) (same_Some _ _ (sym read.0 ∙ parts)) in
    none-some _ (sym none ∙ ap stretch_of (sym same) ∙ read.1)

some_text : (mark : ℕ) (text line rest : Text) → cut mark text ≡ Some (line, rest) → 0 < length text
some_text mark text line rest parts = let c : IsCut mark text line rest = cut_is mark text (line, rest) parts in omega (arith, c.shorter)

at_the_end : (ts : List ℕ) (text : Text) (k : ℕ) → cut 10 text ≡ None → Reading ts text k
at_the_end ts [] k none = at_once ts [] k (Ok ts) refl (refl, refl)
at_the_end ts (b ∷ bs) k none = at_once ts (b ∷ bs) k (Err (BadLine k)) (no_line_read ts [] (b ∷ bs) k none) (refl, record { more = omega arith; no_line = λ s h. no_line_there (b ∷ bs) s none h })

at_bad_line : (ts : List ℕ) (text line rest : Text) (k : ℕ) → cut 10 text ≡ Some (line, rest) → stretch_of line ≡ None → Reading ts text k
at_bad_line ts text line rest k parts none =
    at_once ts text k (Err (BadLine k)) (line_read ts [] text (line, rest) k parts ∙ ap (λ o. with_stretch ts k o >>= λ more. turns_from more [] rest (k + 1)) none)
    (refl, record { more = some_text 10 text line rest parts; no_line = λ s h. bad_line_there text line rest s parts none h })

one_more : (ts : List ℕ) (text line rest : Text) (k : ℕ) (s : Stretch) → cut 10 text ≡ Some (line, rest) → stretch_of line ≡ Some s → last_is ts s.thread ≡ false → length ts + s.count ≤ 1000000 → Reading (ts ++ replicate s.count s.thread) rest (k + 1) → Reading ts text k
one_more ts text line rest k s parts is other fits later =
    let l : IsLine line s = line_back line s is in
    let room : ltb 1000000 (length ts + s.count) ≡ false = le-ltb 1000000 (length ts + s.count) fits in
    let here : turns_from ts [] text k ≡ turns_from (ts ++ replicate s.count s.thread) [] rest (k + 1) = one_line ts text line rest k s parts is ∙ rw (other, room) refl in
    let count_fits : s.count < 2 ^ 64 = big s.count (omega arith) in
    let thread_fits : s.thread < 2 ^ 64 = big s.thread (omega (arith, l.low)) in
    let number : k + 1 + length later.lines ≡ k + suc (length later.lines) = omega arith in
    record {
      lines = s ∷ later.lines;
      rest = later.rest;
      text_is = read_line_text text line rest s parts is count_fits thread_fits ∙ ap (line_text s) later.text_is ∙ line_before s (lines_text later.lines ++ later.rest) ∙ sym (append_assoc (line_text s []) (lines_text later.lines) later.rest) ∙ ap (λ (t : Text). t ++ later.rest) (sym (line_before s (lines_text later.lines)));
      goes = (other, l.low, l.some, fits, later.goes);
      ends = subst (Ends (after (ts ++ replicate s.count s.thread) later.lines) later.rest (k + suc (length later.lines))) (sym here) (subst (λ (n : ℕ). Ends (after (ts ++ replicate s.count s.thread) later.lines) later.rest n (turns_from (ts ++ replicate s.count s.thread) [] rest (k + 1))) number later.ends);
    }

at_line : (ts : List ℕ) (text line rest : Text) (k : ℕ) (s : Stretch) → cut 10 text ≡ Some (line, rest) → stretch_of line ≡ Some s → (last_is ts s.thread ≡ false → length ts + s.count ≤ 1000000 → Reading (ts ++ replicate s.count s.thread) rest (k + 1)) → Reading ts text k
at_line ts text line rest k s parts is later =
    elim (last_is ts s.thread) as (λ v. last_is ts s.thread ≡ v → Reading ts text k) [
      | true ↦ λ last. at_once ts text k (Err (SameThread k)) (one_line ts text line rest k s parts is ∙ rw last refl) (refl, (s, read_begins text line rest s parts is, last))
      | false ↦ λ other. elim (ltb 1000000 (length ts + s.count)) as (λ v. ltb 1000000 (length ts + s.count) ≡ v → Reading ts text k) [
        | true ↦ λ past. at_once ts text k (Err (TooMany k)) (one_line ts text line rest k s parts is ∙ rw (other, past) refl) (refl, (s, read_begins text line rest s parts is, other, ltb-true 1000000 (length ts + s.count) past))
        | false ↦ λ room. one_more ts text line rest k s parts is other (ltb-false 1000000 (length ts + s.count) room) (later other (ltb-false 1000000 (length ts + s.count) room))
      ] refl
    ] refl

reading : (fuel : ℕ) (ts : List ℕ) (text : Text) (k : ℕ) → length text ≤ fuel → Reading ts text k
reading zero ts text k short = elim (cut 10 text) as (λ o. cut 10 text ≡ o → Reading ts text k) [
  | None ↦ λ none. at_the_end ts text k none
  | Some p ↦ λ parts. absurd (omega (arith, some_text 10 text p.0 p.1 parts))
] refl
reading (suc fuel) ts text k short = elim (cut 10 text) as (λ o. cut 10 text ≡ o → Reading ts text k) [
  | None ↦ λ none. at_the_end ts text k none
  | Some p ↦ λ parts.
      let c : IsCut 10 text p.0 p.1 = cut_is 10 text p parts in
      let shorter : length p.1 ≤ fuel = omega (arith, c.shorter) in
      elim (stretch_of p.0) as (λ o. stretch_of p.0 ≡ o → Reading ts text k) [
        | None ↦ λ none. at_bad_line ts text p.0 p.1 k parts none
        | Some s ↦ λ is. at_line ts text p.0 p.1 k s parts is (λ other fits. reading fuel (ts ++ replicate s.count s.thread) p.1 (k + 1) shorter)
      ] refl
] refl

-- ---- turns of a book
turns_so_far : (ss : List Stretch) → Goes [] ss → AreTurns (after [] ss)
turns_so_far ss h = record {
  few = goes_few [] ss (omega arith) h;
  threads = subst (All (λ t. t ≤ 4095)) (sym (after-expanded [] ss)) (expanded_low ss (goes_low [] ss h));
}

stretches_so_far : (ss : List Stretch) → Goes [] ss → stretches (after [] ss) ≡ ss
stretches_so_far ss h = ap stretches (after-expanded [] ss) ∙ stretches-expanded ss (goes_longest [] ss h)

-- ---- the laws
headed : (text : Text) → bytes_eq (take 11 text) head ≡ true → text ≡ head ++ drop 11 text
headed text e = sym (take-append-drop 11 text) ∙ ap (λ (h : Text). h ++ drop 11 text) ((bytes_eq-Decides (take 11 text) head).0 e)

read_after_head : (rest : Text) → turns_of (head ++ rest) ≡ turns_from [] [] rest 2
read_after_head rest = refl

no_next : (ss : List Stretch) → NextDiffers [] ss
no_next [] = tt
no_next (s ∷ ss) = refl

-- each book is read as its turns
pub book_read : (ts : List ℕ) → AreTurns ts → turns_of (book ts) ≡ Ok ts
book_read ts h =
    let few : length ts ≤ 1000000 = h.few in
    let same : expanded (stretches ts) ≡ ts = expanded-stretches ts in
    let goes : Goes [] (stretches ts) = longest_goes [] (stretches ts) (no_next (stretches ts)) (stretches_longest ts) (stretches_low ts (recursion_from_All (λ t. t ≤ 4095) ts h.threads)) (omega (arith, ap length same)) in
    read_after_head (lines_text (stretches ts)) ∙ lines_go [] (stretches ts) 2 goes ∙ ap Ok (after-expanded [] (stretches ts) ∙ same)

-- what is read is a book
pub read_book : (text : Text) (ts : List ℕ) → turns_of text ≡ Ok ts → AreTurns ts × (text ≡ book ts)
read_book text ts = elim (bytes_eq (take 11 text) head) as (λ v. bytes_eq (take 11 text) head ≡ v → cond v (turns_from [] [] (drop 11 text) 2) (Err BadHead) ≡ Ok ts → AreTurns ts × (text ≡ book ts)) [
  | true ↦ λ was e. is_book text ts was e
  | false ↦ λ was e. absurd cc
] refl
  where
    is_book : (text : Text) (ts : List ℕ) → bytes_eq (take 11 text) head ≡ true → turns_from [] [] (drop 11 text) 2 ≡ Ok ts → AreTurns ts × (text ≡ book ts)
    is_book text ts was e =
        let r : Reading [] (drop 11 text) 2 = reading (length (drop 11 text)) [] (drop 11 text) 2 (omega arith) in
        let ends : (r.rest ≡ []) × (ts ≡ after [] r.lines) = subst (Ends (after [] r.lines) r.rest (2 + length r.lines)) e r.ends in
        let lines : drop 11 text ≡ lines_text r.lines = r.text_is ∙ ap (λ (t : Text). lines_text r.lines ++ t) ends.0 ∙ append-nil (lines_text r.lines) in
        let parts : r.lines ≡ stretches ts = sym (stretches_so_far r.lines r.goes) ∙ ap stretches (sym ends.1) in
        (subst AreTurns (sym ends.1) (turns_so_far r.lines r.goes), headed text was ∙ ap (λ (t : Text). head ++ t) (lines ∙ ap lines_text parts))

-- the lines before a broken one are a book
books : (text rest : Text) (ss : List Stretch) (n : ℕ) → text ≡ head ++ (lines_text ss ++ rest) → Goes [] ss → n ≡ 2 + length ss → BooksBefore text n (after [] ss) rest
books text rest ss n is goes at =
    let same : stretches (after [] ss) ≡ ss = stretches_so_far ss goes in
    let before : head ++ (lines_text ss ++ rest) ≡ (head ++ lines_text ss) ++ rest = sym (append_assoc head (lines_text ss) rest) in
    record {
      turns = turns_so_far ss goes;
      text_is = is ∙ before ∙ ap (λ us. (head ++ lines_text us) ++ rest) (sym same);
      line_is = at ∙ ap (λ us. 2 + length us) (sym same) ∙ (let turned : 2 + length (stretches (after [] ss)) ≡ length (stretches (after [] ss)) + 2 = omega arith in turned);
    }

not_last : (ts : List ℕ) (t : ℕ) → last_is ts t ≡ false → ¬ LastIs ts t
not_last ts t e h = false≢true (sym e ∙ last_means ts t h)

broken_at : (text rest : Text) (ss : List Stretch) (f : BookFault) → text ≡ head ++ (lines_text ss ++ rest) → Goes [] ss → Cause (after [] ss) rest (2 + length ss) f → IsBroken text f
broken_at text rest ss (BadLine n) is goes h = (after [] ss, rest, books text rest ss n is goes h.0, h.1)
broken_at text rest ss (SameThread n) is goes h = (after [] ss, rest, books text rest ss n is goes h.0, (h.1.0, h.1.1, means_last (after [] ss) h.1.0.thread h.1.2))
broken_at text rest ss (TooMany n) is goes h = (after [] ss, rest, books text rest ss n is goes h.0, (h.1.0, h.1.1, not_last (after [] ss) h.1.0.thread h.1.2, h.1.3))
broken_at text rest ss BadHead is goes h = absurd h
broken_at text rest ss NoMemory is goes h = tt

-- what is refused is broken as it says
pub refused_broken : (text : Text) (f : BookFault) → turns_of text ≡ Err f → IsBroken text f
refused_broken text f = elim (bytes_eq (take 11 text) head) as (λ v. bytes_eq (take 11 text) head ≡ v → cond v (turns_from [] [] (drop 11 text) 2) (Err BadHead) ≡ Err f → IsBroken text f) [
  | true ↦ λ was e. in_lines text f was e
  | false ↦ λ was e. at_head text f was e
] refl
  where
    in_lines : (text : Text) (f : BookFault) → bytes_eq (take 11 text) head ≡ true → turns_from [] [] (drop 11 text) 2 ≡ Err f → IsBroken text f
    in_lines text f was e =
        let r : Reading [] (drop 11 text) 2 = reading (length (drop 11 text)) [] (drop 11 text) 2 (omega arith) in
        broken_at text r.rest r.lines f (headed text was ∙ ap (λ (t : Text). head ++ t) r.text_is) r.goes (subst (Ends (after [] r.lines) r.rest (2 + length r.lines)) e r.ends)

    inside : {x y : BookFault} → ◌≡◌ {A = Result (List ℕ) BookFault} (Err x) (Err y) → x ≡ y
    inside e = cc

    no_head : (text rest : Text) → bytes_eq (take 11 text) head ≡ false → text ≡ head ++ rest → ⊥
    no_head text rest was is = false≢true (sym was ∙ ap (λ (t : Text). bytes_eq (take 11 t) head) is)

    at_head : (text : Text) (f : BookFault) → bytes_eq (take 11 text) head ≡ false → ◌≡◌ {A = Result (List ℕ) BookFault} (Err BadHead) (Err f) → IsBroken text f
    at_head text f was e = subst (IsBroken text) (inside e) (λ rest is. no_head text rest was is)

-- ---- what the code gives
pub gives_ok : (r : Result (List ℕ) BookFault) (text : Text) → Gives (λ (t : List ℕ). t) r (turns_of text) → IfOk r (λ t. AreTurns t × (text ≡ book t))
gives_ok (Ok t) text h = read_book text t h
gives_ok (Err f) text h = tt

pub gives_only : (r : Result (List ℕ) BookFault) (text : Text) → Gives (λ (t : List ℕ). t) r (turns_of text) → (t : List ℕ) → AreTurns t → text ≡ book t → Gives (λ (u : List ℕ). u) r (Ok t)
gives_only r text h t turns is = subst (Gives (λ (u : List ℕ). u) r) (ap turns_of is ∙ book_read t turns) h

pub gives_broken : (r : Result (List ℕ) BookFault) (text : Text) → Gives (λ (t : List ℕ). t) r (turns_of text) → IfErr r (IsBroken text)
gives_broken (Ok t) text h = tt
gives_broken (Err NoMemory) text h = tt
gives_broken (Err f) text h = refused_broken text f h
