-- The longest stretches of turns.
use Rattle.std.proofs.Common.{◌≡◌, ℕ, ◌+◌, ◌-◌, ◌<◌, ◌≤◌, true, false, cond, eqb, List, [], ◌∷◌, ◌++◌, length, drop, get_or, Some, refl, sym, ap, subst, ◌∙◌, arith, append_assoc, length-append, zero, suc, decimal, replicate, ◌⊎◌, inl, inr}
use Rattle.std.specs.List.{All, AllByRecursion, prefix_len, slice_get}
use Rattle.std.proofs.lemmas.List.Elements.{All-append, All-nil, All-replicate}
use Rattle.std.proofs.lemmas.Bool.{eqb-true, eq-eqb}
use Rattle.std.proofs.lemmas.Bool.Decides.{nat_tests}
use Rattle.turn_book.specs.Book.{Text, Stretch, with_turn, stretches, line_text, lines_text, expanded, Differs, AreLongest, StretchesAreLongest, LastIs}
use Rattle.turn_book.specs.Reading.{last_is, is_thread}

swapped : (a b : ℕ) → eqb a b ≡ false → eqb b a ≡ false
swapped a b e = grind (arith, nat_tests)

-- the first stretch, and those of what stands after it
pub first_stretch : (t : ℕ) (ts : List ℕ) → stretches (t ∷ ts) ≡ record { thread = t; count = prefix_len (λ u. eqb u t) ts + 1 } ∷ stretches (drop (prefix_len (λ u. eqb u t) ts) ts)
first_stretch t [] = refl
first_stretch t (u ∷ us) =
    let later = first_stretch u us in
    elim (eqb u t) as (λ v. eqb u t ≡ v → with_turn t (stretches (u ∷ us)) ≡ record { thread = t; count = cond v (1 + prefix_len (λ w. eqb w t) us) 0 + 1 } ∷ stretches (drop (cond v (1 + prefix_len (λ w. eqb w t) us) 0) (u ∷ us))) [
      | true ↦ λ was. one_longer t u us (eqb-true u t was) later
      | false ↦ λ was. ap (with_turn t) later ∙ rw (swapped u t was) (ap (λ ss. record { thread = t; count = 1 } ∷ ss) (sym later))
    ] refl
  where
    one_longer : (t u : ℕ) (us : List ℕ) → u ≡ t → stretches (u ∷ us) ≡ record { thread = u; count = prefix_len (λ w. eqb w u) us + 1 } ∷ stretches (drop (prefix_len (λ w. eqb w u) us) us) → with_turn t (stretches (u ∷ us)) ≡ record { thread = t; count = 1 + prefix_len (λ w. eqb w t) us + 1 } ∷ stretches (drop (1 + prefix_len (λ w. eqb w t) us) (u ∷ us))
    one_longer t u us same later =
        let n : ℕ = prefix_len (λ w. eqb w t) us in
        let there : prefix_len (λ w. eqb w u) us ≡ prefix_len (λ w. eqb w t) us = ap (λ x. prefix_len (λ w. eqb w x) us) same in
        let longer : prefix_len (λ w. eqb w t) us + 1 + 1 ≡ 1 + prefix_len (λ w. eqb w t) us + 1 = omega arith in
        let past : suc (prefix_len (λ w. eqb w t) us) ≡ 1 + prefix_len (λ w. eqb w t) us = omega arith in
        ap (with_turn t) (later ∙ (λ i. record { thread = same i; count = there i + 1 } ∷ stretches (drop (there i) us)))
        ∙ rw (eq-eqb t t refl) (ap (λ k. record { thread = t; count = k } ∷ stretches (drop (prefix_len (λ w. eqb w t) us) us)) longer)
        ∙ ap (λ k. record { thread = t; count = 1 + prefix_len (λ w. eqb w t) us + 1 } ∷ stretches (drop k (u ∷ us))) past

-- a line's text, and what stands after it
pub line_before : (s : Stretch) (rest : Text) → line_text s rest ≡ line_text s [] ++ rest
line_before s rest =
    let inner : decimal s.count ++ 10 ∷ rest ≡ (decimal s.count ++ 10 ∷ []) ++ rest = sym (append_assoc (decimal s.count) (10 ∷ []) rest) in
    ap (λ (t : Text). decimal s.thread ++ 32 ∷ t) inner ∙ sym (append_assoc (decimal s.thread) (32 ∷ (decimal s.count ++ 10 ∷ [])) rest)

-- the step of a loop that writes stretch after stretch
pub stretch_written : (rest : List ℕ) (t count : ℕ) (text new whole : Text) → 0 < length rest → t ≡ get_or rest 0 0 → count ≡ prefix_len (λ u. eqb u t) rest → text ++ lines_text (stretches rest) ≡ whole → new ≡ text ++ line_text (record { thread = t; count = count }) [] → new ++ lines_text (stretches (drop count rest)) ≡ whole
stretch_written [] t count text new whole some first is so_far made = absurd (omega arith)
stretch_written (u ∷ us) t count text new whole some first is so_far made =
    let same : eqb u t ≡ true = rw first (eq-eqb u u refl) in
    let counted : count ≡ 1 + prefix_len (λ w. eqb w t) us = is ∙ rw same refl in
    let less : count ≡ suc (prefix_len (λ w. eqb w t) us) = omega arith in
    let more : prefix_len (λ w. eqb w t) us + 1 ≡ count = omega arith in
    let left : drop (prefix_len (λ w. eqb w t) us) us ≡ drop count (u ∷ us) = ap (λ k. drop k (u ∷ us)) (sym less) in
    let parts : stretches (u ∷ us) ≡ record { thread = t; count = count } ∷ stretches (drop count (u ∷ us)) =
    first_stretch u us ∙ (λ i. record { thread = sym first i; count = prefix_len (λ w. eqb w (sym first i)) us + 1 } ∷ stretches (drop (prefix_len (λ w. eqb w (sym first i)) us) us))
    ∙ (λ i. record { thread = t; count = more i } ∷ stretches (left i)) in
    ap (λ (w : Text). w ++ lines_text (stretches (drop count (u ∷ us)))) made
    ∙ append_assoc text (line_text (record { thread = t; count = count }) []) (lines_text (stretches (drop count (u ∷ us))))
    ∙ ap (λ (w : Text). text ++ w) (sym (line_before (record { thread = t; count = count }) (lines_text (stretches (drop count (u ∷ us))))))
    ∙ ap (λ ss. text ++ lines_text ss) (sym parts) ∙ so_far

pub first_is : (rest : List ℕ) (t : ℕ) → Some t ≡ slice_get rest 0 → (0 < length rest) × (t ≡ get_or rest 0 0)
first_is [] t e = absurd cc
first_is (u ∷ us) t e = let same : t ≡ u = cc in (omega arith, same)

-- ---- stretches and their turns
abbrev pub AreLow : List Stretch → Type 0
AreLow [] = Unit {0}
AreLow (s ∷ ss) = (s.thread ≤ 4095) × AreLow ss

again : (t : ℕ) (ss : List Stretch) → Differs t ss → with_turn t ss ≡ record { thread = t; count = 1 } ∷ ss
again t [] d = refl
again t (s ∷ ss) d = rw d refl

one_thread : (t n : ℕ) (ss : List Stretch) (more : List ℕ) → Differs t ss → stretches more ≡ ss → stretches (replicate (suc n) t ++ more) ≡ record { thread = t; count = suc n } ∷ ss
one_thread t zero ss more d e = ap (with_turn t) e ∙ again t ss d
one_thread t (suc n) ss more d e =
    let longer : suc n + 1 ≡ suc (suc n) = omega arith in
    ap (with_turn t) (one_thread t n ss more d e) ∙ rw (eq-eqb t t refl) (ap (λ k. record { thread = t; count = k } ∷ ss) longer)

counted : (n t : ℕ) (ss : List Stretch) (more : List ℕ) → 0 < n → Differs t ss → stretches more ≡ ss → stretches (replicate n t ++ more) ≡ record { thread = t; count = n } ∷ ss
counted zero t ss more some d e = absurd (omega arith)
counted (suc n) t ss more some d e = one_thread t n ss more d e

pub stretches-expanded : (ss : List Stretch) → AreLongest ss → stretches (expanded ss) ≡ ss
stretches-expanded [] h = refl
stretches-expanded (s ∷ ss) h = counted s.count s.thread ss (expanded ss) h.0 h.1 (stretches-expanded ss h.2)

longer_longest : (t : ℕ) (ss : List Stretch) → AreLongest ss → AreLongest (with_turn t ss)
longer_longest t [] h = (omega arith, tt, tt)
longer_longest t (s ∷ ss) h =
    elim (eqb t s.thread) as (λ v. eqb t s.thread ≡ v → AreLongest (cond v (record { thread = t; count = s.count + 1 } ∷ ss) (record { thread = t; count = 1 } ∷ s ∷ ss))) [
      | true ↦ λ was. (omega arith, subst (λ (u : ℕ). Differs u ss) (sym (eqb-true t s.thread was)) h.1, h.2)
      | false ↦ λ was. (omega arith, was, h)
    ] refl

pub stretches_longest : (ts : List ℕ) → AreLongest (stretches ts)
stretches_longest [] = tt
stretches_longest (t ∷ ts) = longer_longest t (stretches ts) (stretches_longest ts)

longer_expanded : (t : ℕ) (ss : List Stretch) → expanded (with_turn t ss) ≡ t ∷ expanded ss
longer_expanded t [] = refl
longer_expanded t (s ∷ ss) =
    elim (eqb t s.thread) as (λ v. eqb t s.thread ≡ v → expanded (cond v (record { thread = t; count = s.count + 1 } ∷ ss) (record { thread = t; count = 1 } ∷ s ∷ ss)) ≡ t ∷ (replicate s.count s.thread ++ expanded ss)) [
      | true ↦ λ was. let more : s.count + 1 ≡ suc s.count = omega arith in ap (λ n. replicate n t ++ expanded ss) more ∙ ap (λ u. t ∷ (replicate s.count u ++ expanded ss)) (eqb-true t s.thread was)
      | false ↦ λ was. refl
    ] refl

pub expanded-stretches : (ts : List ℕ) → expanded (stretches ts) ≡ ts
expanded-stretches [] = refl
expanded-stretches (t ∷ ts) = longer_expanded t (stretches ts) ∙ ap (λ us. t ∷ us) (expanded-stretches ts)

pub stretches_are_longest : StretchesAreLongest
stretches_are_longest ts ss = (
  (λ is. (ap expanded (sym is) ∙ expanded-stretches ts, subst AreLongest is (stretches_longest ts))),
  (λ turns longest. ap stretches (sym turns) ∙ stretches-expanded ss longest),
)

-- ---- low threads
longer_low : (t : ℕ) (ss : List Stretch) → t ≤ 4095 → AreLow ss → AreLow (with_turn t ss)
longer_low t [] low h = (low, tt)
longer_low t (s ∷ ss) low h = elim (eqb t s.thread) as (λ v. AreLow (cond v (record { thread = t; count = s.count + 1 } ∷ ss) (record { thread = t; count = 1 } ∷ s ∷ ss))) [ true ↦ (low, h.1) | false ↦ (low, h) ]

pub stretches_low : (ts : List ℕ) → AllByRecursion (λ t. t ≤ 4095) ts → AreLow (stretches ts)
stretches_low [] h = tt
stretches_low (t ∷ ts) h = longer_low t (stretches ts) h.0 (stretches_low ts h.1)

pub expanded_low : (ss : List Stretch) → AreLow ss → All (λ t. t ≤ 4095) (expanded ss)
expanded_low [] h = All-nil (λ t. t ≤ 4095)
expanded_low (s ∷ ss) h = All-append (λ t. t ≤ 4095) (replicate s.count s.thread) (expanded ss) (All-replicate (λ t. t ≤ 4095) s.count s.thread h.0) (expanded_low ss h.1)

-- ---- the last turn
pub last_of_push : (ts : List ℕ) (u t : ℕ) → last_is (ts ++ u ∷ []) t ≡ eqb u t
last_of_push ts u t = ap (is_thread t) (last_get ts u)
  where
    get_push : (ts : List ℕ) (u : ℕ) → slice_get (ts ++ u ∷ []) (length ts) ≡ Some u
    get_push [] u = refl
    get_push (x ∷ xs) u = get_push xs u

    last_get : (ts : List ℕ) (u : ℕ) → slice_get (ts ++ u ∷ []) (length (ts ++ u ∷ []) - 1) ≡ Some u
    last_get ts u = let place : length (ts ++ u ∷ []) - 1 ≡ length ts = omega (arith, length-append ts (u ∷ [])) in ap (slice_get (ts ++ u ∷ [])) place ∙ get_push ts u

replicate_push : (n t : ℕ) → replicate (suc n) t ≡ replicate n t ++ t ∷ []
replicate_push zero t = refl
replicate_push (suc n) t = ap (λ ts. t ∷ ts) (replicate_push n t)

pub last_of_stretch : (ts : List ℕ) (n u t : ℕ) → 0 < n → last_is (ts ++ replicate n u) t ≡ eqb u t
last_of_stretch ts zero u t some = absurd (omega arith)
last_of_stretch ts (suc n) u t some = ap (λ us. last_is us t) (ap (λ us. ts ++ us) (replicate_push n u) ∙ sym (append_assoc ts (replicate n u) (u ∷ []))) ∙ last_of_push (ts ++ replicate n u) u t

pub last_means : (ts : List ℕ) (t : ℕ) → LastIs ts t → last_is ts t ≡ true
last_means ts t h = ap (λ us. last_is us t) h.1 ∙ last_of_push h.0 t t ∙ eq-eqb t t refl

pub means_last : (ts : List ℕ) (t : ℕ) → last_is ts t ≡ true → LastIs ts t
means_last ts t e = at (unpushed ts) e
  where
    unpushed : (ts : List ℕ) → (ts ≡ []) ⊎ ((before : List ℕ) × (u : ℕ) × (ts ≡ before ++ u ∷ []))
    unpushed [] = inl refl
    unpushed (x ∷ xs) = elim (unpushed xs) [ inl none ↦ inr ([], x, ap (λ us. x ∷ us) none) | inr some ↦ inr (x ∷ some.0, some.1, ap (λ us. x ∷ us) some.2) ]

    at : (ts ≡ []) ⊎ ((before : List ℕ) × (u : ℕ) × (ts ≡ before ++ u ∷ [])) → last_is ts t ≡ true → LastIs ts t
    at (inl none) e = let no_last : last_is ts t ≡ false = ap (λ us. last_is us t) none in absurd cc
    at (inr some) e = let same : some.1 ≡ t = eqb-true some.1 t (sym (last_of_push some.0 some.1 t) ∙ sym (ap (λ us. last_is us t) some.2) ∙ e) in (some.0, some.2 ∙ ap (λ u. some.0 ++ u ∷ []) same)
