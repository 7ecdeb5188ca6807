-- A line is read, and the lines after it.
use Rattle.std.proofs.Common.{◌≡◌, ℕ, ◌+◌, ◌-◌, ◌^◌, ◌<◌, ◌≤◌, true, false, ◌&&◌, cond, eqb, ltb, leb, min, lit<, List, [], ◌∷◌, ◌++◌, length, take, Option, Some, None, option_map, Result, Ok, Err, replicate, refl, sym, ap, subst, ◌∙◌, arith, length-append}
use Rattle.std.proofs.lemmas.Bool.{ltb-false, lt-ltb, le-ltb, le-leb, lt-leb}
use Rattle.std.proofs.lemmas.Bool.Decides.{nat_tests}
use Rattle.std.proofs.lemmas.Option.{same_Some}
use Rattle.std.proofs.lemmas.List.{take_all, length-replicate}
use Rattle.turn_book.specs.Book.{Text, Stretch}
use Rattle.turn_book.specs.Cuts.{stretch_seen}
use Rattle.turn_book.specs.Reading.{◌>>=◌, cut, numbers_in, stretch_or, stretch_of, last_is, with_stretch, at_end, turns_from, saturated, Fails}
use Rattle.decimal_text.specs.Decimal.{number_of}
use Rattle.turn_book.specs.declared.BookFault.{BookFault}
use Rattle.turn_book.specs.declared.BookFault.TheVariants.{BadHead, BadLine, SameThread, TooMany, NoMemory}
use Rattle.turn_book.specs.declared.lines.Stretch.{Stretch as Line}
use Rattle.turn_book.proofs.CutLemmas.{line_read, no_line_read, IsCut, cut_is}

-- ---- numbers that fit
low_same : (t most : ℕ) → 4095 < most → leb (min t most) 4095 ≡ leb t 4095
low_same t most big = elim (leb t 4095) as (λ v. leb t 4095 ≡ v → leb (min t most) 4095 ≡ v) [
  | true ↦ λ e. let small : t ≤ 4095 = grind (arith, nat_tests) in le-leb (min t most) 4095 (omega arith)
  | false ↦ λ e. let great : 4095 < t = grind (arith, nat_tests) in lt-leb (min t most) 4095 (omega arith)
] refl

some_same : (n most : ℕ) → 4095 < most → ltb 0 (min n most) ≡ ltb 0 n
some_same n most big = elim (ltb 0 n) as (λ v. ltb 0 n ≡ v → ltb 0 (min n most) ≡ v) [
  | true ↦ λ e. let some : 0 < n = grind (arith, nat_tests) in lt-ltb 0 (min n most) (omega arith)
  | false ↦ λ e. let none : n ≤ 0 = grind (arith, nat_tests) in le-ltb 0 (min n most) (omega arith)
] refl

abbrev fitted : ℕ → Option ℕ → Option ℕ
fitted most o = option_map (λ n. min n most) o

abbrev fitted_stretch : ℕ → Option Stretch → Option Stretch
fitted_stretch most o = option_map (λ (s : Stretch). record { thread = s.thread; count = min s.count most }) o

fit_stretch : (most : ℕ) (a b : Option ℕ) → 4095 < most → stretch_or (fitted most a) (fitted most b) ≡ fitted_stretch most (stretch_or a b)
fit_stretch most None b big = refl
fit_stretch most (Some t) None big = refl
fit_stretch most (Some t) (Some n) big =
    (λ i. cond (low_same t most big i && some_same n most big i) (Some (record { thread = min t most; count = min n most })) None)
    ∙ elim (leb t 4095) as (λ v. leb t 4095 ≡ v → cond (v && ltb 0 n) (Some (record { thread = min t most; count = min n most })) None ≡ fitted_stretch most (cond (v && ltb 0 n) (Some (record { thread = t; count = n })) None)) [
      | false ↦ λ e. refl
      | true ↦ λ e. let small : t ≤ 4095 = grind (arith, nat_tests) in let same : min t most ≡ t = omega arith in
          elim (ltb 0 n) as (λ v. cond v (Some (record { thread = min t most; count = min n most })) None ≡ fitted_stretch most (cond v (Some (record { thread = t; count = n })) None)) [
            | false ↦ refl
            | true ↦ ap (λ k. Some (record { thread = k; count = min n most })) same
          ]
    ] refl

pub stretch_fits : (line front rest : Text) (a b : Option ℕ) (r : Option Line) → Some (front, rest) ≡ cut 32 line → a ≡ option_map (λ n. min n (2 ^ 64 - 1)) (number_of front) → b ≡ option_map (λ n. min n (2 ^ 64 - 1)) (number_of rest) → option_map stretch_seen r ≡ stretch_or a b → option_map stretch_seen r ≡ option_map saturated (stretch_of line)
stretch_fits line front rest a b r parts one two got =
    got ∙ (λ i. stretch_or (one i) (two i)) ∙ fit_stretch (2 ^ 64 - 1) (number_of front) (number_of rest) (lit< tt)
    ∙ ap (λ (o : Option (Text × Text)). option_map saturated (numbers_in o)) parts

-- ---- the turns of a line
pub record Seen (line : Text) (thread count : ℕ) : Type 0 where
  pub stretch : Stretch
  pub is : stretch_of line ≡ Some stretch
  pub thread_is : stretch.thread ≡ thread
  pub count_is : count ≡ min stretch.count (2 ^ 64 - 1)

seen_at : (o : Option Stretch) (st : Line) → option_map stretch_seen (Some st) ≡ option_map saturated o → (s : Stretch) × (o ≡ Some s) × (s.thread ≡ st.thread) × (st.count ≡ min s.count (2 ^ 64 - 1))
seen_at None st e = absurd cc
seen_at (Some s) st e = let same : stretch_seen st ≡ saturated s = same_Some _ _ e in (s, refl, ap (λ (x : Stretch). x.thread) (sym same), ap (λ (x : Stretch). x.count) same)

pub seen : (line : Text) (st : Line) → option_map stretch_seen (Some st) ≡ option_map saturated (stretch_of line) → Seen line st.thread st.count
seen line st e = let h = seen_at (stretch_of line) st e in record { stretch = h.0; is = h.1; thread_is = h.2; count_is = h.3 }

whole_count : (n c room most : ℕ) → c ≡ min n most → c ≤ room → room < most → n ≡ c
whole_count n c room most e le less = omega arith

pub line_taken : (ts new : List ℕ) (line : Text) (k thread count : ℕ) → Seen line thread count → last_is ts thread ≡ false → length ts ≤ 1000000 → count ≤ 1000000 - length ts → new ≡ take (length ts + count) ts ++ replicate (length ts + count - length ts) thread → with_stretch ts k (stretch_of line) ≡ Ok new
line_taken ts new line k thread count h other few fits made =
    let s : Stretch = h.stretch in
    let less : 1000000 - length ts < 2 ^ 64 - 1 = small (1000000 - length ts) (omega arith) in
    let same : h.stretch.count ≡ count = whole_count h.stretch.count count (1000000 - length ts) (2 ^ 64 - 1) h.count_is fits less in
    let another : last_is ts h.stretch.thread ≡ false = ap (last_is ts) h.thread_is ∙ other in
    let room : ltb 1000000 (length ts + h.stretch.count) ≡ false = le-ltb 1000000 (length ts + h.stretch.count) (omega arith) in
    let front : take (length ts + count) ts ≡ ts = take_all (length ts + count) ts (omega arith) in
    let more : length ts + count - length ts ≡ count = omega arith in
    ap (with_stretch ts k) h.is ∙ rw (another, room) (λ i. Ok (ts ++ replicate (same i) (h.thread_is i)))
    ∙ ap Ok (sym (made ∙ (λ i. front i ++ replicate (more i) thread)))
  where
    below : (a b c : ℕ) → a ≤ b → b < c → a < c
    below a b c h g = omega arith

    small : (n : ℕ) → n ≤ 1000000 → n < 2 ^ 64 - 1
    small n h = let big : 1000000 < 2 ^ 64 - 1 = lit< tt in below n 1000000 (2 ^ 64 - 1) h big

pub too_many : (ts : List ℕ) (line : Text) (k thread count : ℕ) → Seen line thread count → last_is ts thread ≡ false → length ts ≤ 1000000 → 1000000 - length ts < count → with_stretch ts k (stretch_of line) ≡ Err (TooMany k)
too_many ts line k thread count h other few past =
    let another : last_is ts h.stretch.thread ≡ false = ap (last_is ts) h.thread_is ∙ other in
    let greater : count ≤ h.stretch.count = under count h.stretch.count (2 ^ 64 - 1) h.count_is in
    let room : ltb 1000000 (length ts + h.stretch.count) ≡ true = lt-ltb 1000000 (length ts + h.stretch.count) (omega arith) in
    ap (with_stretch ts k) h.is ∙ rw (another, room) refl
  where
    under : (c n most : ℕ) → c ≡ min n most → c ≤ n
    under c n most e = omega arith

pub same_thread : (ts : List ℕ) (line : Text) (k thread count : ℕ) → Seen line thread count → last_is ts thread ≡ true → with_stretch ts k (stretch_of line) ≡ Err (SameThread k)
same_thread ts line k thread count h last = ap (with_stretch ts k) h.is ∙ rw h.thread_is (rw last refl)

-- ---- the lines
pub few_more : (ts new : List ℕ) (k : ℕ) (o : Option Stretch) → with_stretch ts k o ≡ Ok new → length new ≤ 1000000
few_more ts new k None e = absurd cc
few_more ts new k (Some s) e =
    elim (last_is ts s.thread) as (λ v. cond v (Err (SameThread k)) (cond (ltb 1000000 (length ts + s.count)) (Err (TooMany k)) (Ok (ts ++ replicate s.count s.thread))) ≡ Ok new → length new ≤ 1000000) [
      | true ↦ λ is. absurd cc
      | false ↦ λ is. elim (ltb 1000000 (length ts + s.count)) as (λ v. ltb 1000000 (length ts + s.count) ≡ v → cond v (Err (TooMany k)) (Ok (ts ++ replicate s.count s.thread)) ≡ Ok new → length new ≤ 1000000) [
        | true ↦ λ was made. absurd cc
        | false ↦ λ was made.
            let same : ts ++ replicate s.count s.thread ≡ new = inside made in
            let few : length ts + s.count ≤ 1000000 = ltb-false 1000000 (length ts + s.count) was in
            let sum : length (ts ++ replicate s.count s.thread) ≡ length ts + s.count = length-append ts (replicate s.count s.thread) ∙ ap (λ n. length ts + n) (length-replicate s.count s.thread) in
            subst (λ (ns : List ℕ). length ns ≤ 1000000) same (omega arith)
      ] refl is
    ] e
  where
    inside : {x y : List ℕ} → ◌≡◌ {A = Result (List ℕ) BookFault} (Ok x) (Ok y) → x ≡ y
    inside e = cc

pub lines_on : (ts new : List ℕ) (text line after : Text) (k : ℕ) (whole : Result (List ℕ) BookFault) → Some (line, after) ≡ cut 10 text → with_stretch ts k (stretch_of line) ≡ Ok new → turns_from ts [] text k ≡ whole → turns_from new [] after (k + 1) ≡ whole
lines_on ts new text line after k whole parts made so_far =
    ap (λ r. r >>= λ more. turns_from more [] after (k + 1)) (sym made) ∙ sym (line_read ts [] text (line, after) k (sym parts)) ∙ so_far

pub line_fails : (ts : List ℕ) (text line after : Text) (k : ℕ) (e : BookFault) (whole : Result (List ℕ) BookFault) → Some (line, after) ≡ cut 10 text → Fails e (with_stretch ts k (stretch_of line)) → turns_from ts [] text k ≡ whole → Fails e whole
line_fails ts text line after k e whole parts failed so_far =
    subst (Fails e) (sym (line_read ts [] text (line, after) k (sym parts)) ∙ so_far) (passed e (with_stretch ts k (stretch_of line)) failed)
  where
    passed : (e : BookFault) (r : Result (List ℕ) BookFault) → Fails e r → Fails e (r >>= λ more. turns_from more [] after (k + 1))
    passed NoMemory r h = tt
    passed BadHead r h = rw h refl
    passed f r h = rw h refl

pub lines_end : (ts : List ℕ) (text : Text) (k : ℕ) (whole : Result (List ℕ) BookFault) → None ≡ cut 10 text → turns_from ts [] text k ≡ whole → whole ≡ at_end ts text k
lines_end ts text k whole none so_far = sym so_far ∙ no_line_read ts [] text k (sym none)

pub rest_shorter : (text line after : Text) → Some (line, after) ≡ cut 10 text → length after + 1 ≤ length text
rest_shorter text line after parts = let h : IsCut 10 text line after = cut_is 10 text (line, after) (sym parts) in h.shorter

pub at_end_more : (ts : List ℕ) (text : Text) (k : ℕ) → eqb (length text) 0 ≡ false → at_end ts text k ≡ Err (BadLine k)
at_end_more ts [] k e = absurd cc
at_end_more ts (b ∷ bs) k e = refl

pub line_taken_at : (ts new : List ℕ) (line : Text) (k thread count m n : ℕ) → Seen line thread count → last_is ts thread ≡ false → length ts ≤ 1000000 → count ≤ 1000000 - n → m ≡ length ts → n ≡ length ts → new ≡ take (m + count) ts ++ replicate (m + count - n) thread → with_stretch ts k (stretch_of line) ≡ Ok new
line_taken_at ts new line k thread count m n h other few fits one two made =
    line_taken ts new line k thread count h other few (omega arith) (made ∙ (λ i. take (one i + count) ts ++ replicate (one i + count - two i) thread))
