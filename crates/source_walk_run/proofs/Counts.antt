-- How many turns are a thread's, counted one by one, and in a run.
use Rattle.std.proofs.Common.{◌≡◌, inl, inr, ◌⊎◌, ℕ, zero, suc, ◌+◌, ◌<◌, ◌≤◌, Bool, true, false, cond, List, [], ◌∷◌, length, map, get_or, take, Option, Some, None, refl, sym, ap, ◌∙◌, arith}
use Rattle.std.specs.Prelude.{nat_eq, slice_set, filter}
use Rattle.std.proofs.lemmas.Bool.{cases_eq, cases_lt, eq-eqb, ne_eqb}
use Rattle.std.proofs.lemmas.List.{length-take, get_or_past}
use Rattle.std.proofs.lemmas.List.Sums.{sum_by-append, count_by_more_yes, count_by_more_no, count_by-le-length}
use Rattle.lam_asks.specs.declared.answer.What.{What}
use Rattle.lam_bytecode.specs.Codes.{CodeTree}
use Rattle.lam_machine_terms.specs.Worlds.{World}
use Rattle.lam_machine_terms.specs.Turns.{Moment, step, and_then, moments, ReadyThen, IsRun}
use Rattle.lam_machine_laws.specs.Own.{done_by}
use Rattle.lam_machine_laws.proofs.TurnLemmas.{turn_thread}
use Rattle.source_walk_run.specs.Counting.{turns_of, AreTurnsOf, counted}

-- ---- counts

pub counted_length : (t : ℕ) (ns : List ℕ) → length (counted t ns) ≡ length ns
counted_length t [] = refl
counted_length zero (n ∷ ns) = refl
counted_length (suc t) (n ∷ ns) = ap suc (counted_length t ns)

counted_here : (t : ℕ) (ns : List ℕ) → t < length ns → get_or (counted t ns) t 0 ≡ get_or ns t 0 + 1
counted_here t [] lt = absurd (omega (arith, lt))
counted_here zero (n ∷ ns) lt = refl
counted_here (suc t) (n ∷ ns) lt = counted_here t ns (omega (arith, lt))

counted_apart : (t u : ℕ) (ns : List ℕ) → (u ≡ t → ⊥) → get_or (counted t ns) u 0 ≡ get_or ns u 0
counted_apart t u [] apart = refl
counted_apart zero zero (n ∷ ns) apart = absurd (apart refl)
counted_apart zero (suc u) (n ∷ ns) apart = refl
counted_apart (suc t) zero (n ∷ ns) apart = refl
counted_apart (suc t) (suc u) (n ∷ ns) apart = counted_apart t u ns (λ e. apart (ap suc e))

pub count_is : (t : ℕ) (ns : List ℕ) (n : ℕ) → n ≡ get_or ns t n → t < length ns → slice_set ns t (n + 1) ≡ counted t ns
count_is t [] n e lt = refl
count_is zero (m ∷ ns) n e lt = ap (λ k. (k + 1) ∷ ns) e
count_is (suc t) (m ∷ ns) n e lt = ap (λ l. m ∷ l) (count_is t ns n e (omega (arith, lt)))

pub count_past : (t : ℕ) (ns : List ℕ) → length ns ≤ t → ns ≡ counted t ns
count_past t [] le = refl
count_past zero (n ∷ ns) le = absurd (omega (arith, le))
count_past (suc t) (n ∷ ns) le = ap (λ l. n ∷ l) (count_past t ns (omega (arith, le)))

pub counts_more : (turns : List ℕ) (i n t : ℕ) (counts : List ℕ) → i < length turns → t ≡ get_or turns i 0 → AreTurnsOf (take i turns) n counts → AreTurnsOf (take (i + 1) turns) n (counted t counts)
counts_more turns i n t counts lt read h = (counted_length t counts ∙ h.0, λ u below. by u below (cases_eq u t))
  where
    by : (u : ℕ) → u < n → (u ≡ t) ⊎ (u ≡ t → ⊥) → get_or (counted t counts) u 0 ≡ turns_of u (take (i + 1) turns)
    by u below (inl e) =
        let here : get_or (counted t counts) t 0 ≡ get_or counts t 0 + 1 = counted_here t counts (omega (arith, below, e, h.0)) in
        let more : turns_of u (take (i + 1) turns) ≡ turns_of u (take i turns) + 1 = count_by_more_yes (λ (k : ℕ). nat_eq k u) turns i 0 lt (eq-eqb (get_or turns i 0) u (sym read ∙ sym e)) in
        ap (λ k. get_or (counted t counts) k 0) e ∙ here ∙ ap (λ k. get_or counts k 0 + 1) (sym e) ∙ ap (λ k. k + 1) (h.1 u below) ∙ sym more
    by u below (inr apart) =
        let less : turns_of u (take (i + 1) turns) ≡ turns_of u (take i turns) = count_by_more_no (λ (k : ℕ). nat_eq k u) turns i 0 lt (ne_eqb (get_or turns i 0) u (λ s. apart (sym s ∙ sym read))) in
        counted_apart t u counts apart ∙ h.1 u below ∙ sym less

-- there are no more of a thread than turns
pub counts_few : (turns : List ℕ) (i n t most : ℕ) (counts : List ℕ) → i < most → AreTurnsOf (take i turns) n counts → get_or counts t 0 < most
counts_few turns i n t most counts lt h = by (cases_lt t n)
  where
    few : turns_of t (take i turns) ≤ i
    few = let le = count_by-le-length (λ (k : ℕ). nat_eq k t) (take i turns) in let long = length-take i turns in omega (arith, le, long)

    by : (t < n) ⊎ (n ≤ t) → get_or counts t 0 < most
    by (inl below) = let e = h.1 t below in omega (arith, e, few, lt)
    by (inr above) = let e : get_or counts t 0 ≡ 0 = get_or_past counts t 0 (omega (arith, above, h.0)) in omega (arith, e, lt)

-- ---- in a run

abbrev whats_of : List Moment → List What
whats_of ms = map (λ (m : Moment). m.event.what) ms

abbrev one_if : Bool → ℕ
one_if b = cond b 1 0

one_of : (b : Bool) (m : Moment) (ms : List Moment) → length (whats_of (cond b (m ∷ ms) ms)) ≡ one_if b + length (whats_of ms)
one_of true m ms = omega arith
one_of false m ms = omega arith

-- a thread's turns are those that it did
pub run_counts : (code : CodeTree) (u : ℕ) (turns : List ℕ) (w : World) → IsRun code turns w → turns_of u turns ≡ length (done_by u (moments code turns w))
run_counts code u [] w run = refl
run_counts code u (t ∷ ts) w run = by (step code w t) refl run (λ v r. run_counts code u ts v r)
  where
    first : turns_of u (t ∷ ts) ≡ (0 + one_if (nat_eq t u)) + turns_of u ts
    first = sum_by-append (λ (k : ℕ). one_if (nat_eq k u)) (t ∷ []) ts

    by : (o : Option Moment) → step code w t ≡ o → ReadyThen o (IsRun code ts) → ((v : World) → IsRun code ts v → turns_of u ts ≡ length (done_by u (moments code ts v))) → turns_of u (t ∷ ts) ≡ length (done_by u (and_then o (moments code ts)))
    by None e r more = absurd r
    by (Some m) e r more =
        let its : m.event.thread ≡ t = turn_thread code w t m e in
        let one = one_of (nat_eq m.event.thread u) m (filter (λ (k : Moment). nat_eq k.event.thread u) (moments code ts m.world)) in
        let all : turns_of u ts ≡ length (done_by u (moments code ts m.world)) = more m.world r in
        let same : one_if (nat_eq m.event.thread u) ≡ one_if (nat_eq t u) = ap (λ k. one_if (nat_eq k u)) its in
        omega (arith, first, one, all, same)
