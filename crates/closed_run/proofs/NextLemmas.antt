-- Who is next: the search for a ready thread, and the slot's thread where it goes on.
use Rattle.std.proofs.Common.{◌≡◌, ℕ, zero, suc, ◌+◌, ◌-◌, ◌<◌, ◌≤◌, Bool, true, false, Option, Some, None, length, refl, sym, ap, ◌∙◌, arith}
use Rattle.std.specs.Prelude.{cond, ◌&&◌, nat_lt, nat_le}
use Rattle.std.specs.Option.{option_map, option_or}
use Rattle.std.proofs.lemmas.Bool.Decides.{nat_tests}
use Rattle.flow_labels.specs.declared.Label.{Label}
use Rattle.lam_bytecode.specs.Codes.{CodeTree}
use Rattle.lam_machine_terms.specs.Worlds.{World}
use Rattle.lam_machine_terms.specs.Turns.{ready}
use Rattle.closed_terms.specs.declared.Slot.{Slot}
use Rattle.closed_terms.specs.Schedule.{slot_of, quantum, is_inside, first_ready, next_ready, next_slot}
use Rattle.closed_run.proofs.ReadyLemmas.{absent_waits}

-- ---- tests of numbers

pub lt_true : (m n : ℕ) → m < n → nat_lt m n ≡ true
lt_true m n h = go (nat_lt m n) refl
  where
    go : (x : Bool) → nat_lt m n ≡ x → nat_lt m n ≡ true
    go true e = e
    go false e = let k : n ≤ m = grind (arith, nat_tests, e) in absurd (omega (arith, h, k))

pub le_true : (m n : ℕ) → m ≤ n → nat_le m n ≡ true
le_true m n h = go (nat_le m n) refl
  where
    go : (x : Bool) → nat_le m n ≡ x → nat_le m n ≡ true
    go true e = e
    go false e = let k : n < m = grind (arith, nat_tests, e) in absurd (omega (arith, h, k))

pub le_false : (m n : ℕ) → n < m → nat_le m n ≡ false
le_false m n h = go (nat_le m n) refl
  where
    go : (x : Bool) → nat_le m n ≡ x → nat_le m n ≡ false
    go false e = e
    go true e = let k : m ≤ n = grind (arith, nat_tests, e) in absurd (omega (arith, h, k))

pub lt_of : (m n : ℕ) → nat_le m n ≡ false → n < m
lt_of m n e = grind (arith, nat_tests, e)

-- ---- the search

module _ (code : CodeTree) (w : World) where
  -- the first of some threads is ready, or it is not, and the search goes on behind it
  pub found_here : (from to : ℕ) → from < to → ready code w from ≡ true → first_ready code w (to - from) from ≡ Some from
  found_here from to h e =
      let k : to - from ≡ suc (to - suc from) = omega (arith, h) in
      ap (λ n. first_ready code w n from) k ∙ ap (λ b. cond b (Some from) (first_ready code w (to - suc from) (suc from))) e

  pub found_later : (from to : ℕ) → from < to → ready code w from ≡ false → first_ready code w (to - from) from ≡ first_ready code w (to - suc from) (suc from)
  found_later from to h e =
      let k : to - from ≡ suc (to - suc from) = omega (arith, h) in
      ap (λ n. first_ready code w n from) k ∙ ap (λ b. cond b (Some from) (first_ready code w (to - suc from) (suc from))) e

  -- threads that are not there are not ready
  pub none_behind : (n t : ℕ) → length w.threads ≤ t → first_ready code w n t ≡ None
  none_behind zero t h = refl
  none_behind (suc n) t h =
      let k : length w.threads ≤ suc t = omega (arith, h) in
      ap (λ b. cond b (Some t) (first_ready code w n (suc t))) (absent_waits code w t h) ∙ none_behind n (suc t) k

  pub no_further : (n more t : ℕ) → length w.threads ≤ t + n → first_ready code w (n + more) t ≡ first_ready code w n t
  no_further zero more t h =
      let k : length w.threads ≤ t = omega (arith, h) in
      none_behind (zero + more) t k
  no_further (suc n) more t h =
      let k : length w.threads ≤ suc t + n = omega (arith, h) in
      let e : suc n + more ≡ suc (n + more) = omega arith in
      ap (λ z. first_ready code w z t) e ∙ ap (λ z. cond (ready code w t) (Some t) z) (no_further n more (suc t) k)

  -- of all threads, where none stands behind the one that goes first
  pub all_round : (t : ℕ) → length w.threads ≤ t → next_ready code w t ≡ first_ready code w (length w.threads - 0) 0
  all_round t h =
      let n = length w.threads in
      let k : n ≤ suc t = omega (arith, h) in
      let e : suc t ≡ (n - 0) + (suc t - n) = omega (arith, k) in
      let l : n ≤ 0 + (n - 0) = omega arith in
      ap (λ x. option_or x (first_ready code w (suc t) 0)) (none_behind (n - suc t) (suc t) k)
      ∙ ap (λ z. first_ready code w z 0) e ∙ no_further (n - 0) (suc t - n) 0 l

  pub found_behind : (t u : ℕ) → first_ready code w (length w.threads - suc t) (suc t) ≡ Some u → next_ready code w t ≡ Some u
  found_behind t u e = ap (λ x. option_or x (first_ready code w (suc t) 0)) e

  pub found_before : (t : ℕ) → first_ready code w (length w.threads - suc t) (suc t) ≡ None → next_ready code w t ≡ first_ready code w (suc t) 0
  found_before t e = ap (λ x. option_or x (first_ready code w (suc t) 0)) e

  -- as the code searches
  pub found_round : (count t : ℕ) (y : Option ℕ) → count ≡ length w.threads → count ≤ t → y ≡ first_ready code w (count - 0) 0 → y ≡ next_ready code w t
  found_round count t y e l f =
      let k : length w.threads ≤ t = omega (arith, e, l) in
      f ∙ ap (λ n. first_ready code w (n - 0) 0) e ∙ sym (all_round t k)

  pub found_first : (count t : ℕ) (x y : Option ℕ) → count ≡ length w.threads → x ≡ first_ready code w (count - (t + 1)) (t + 1) → x ≡ None → y ≡ first_ready code w (t + 1 - 0) 0 → y ≡ next_ready code w t
  found_first count t x y e f none g =
      let k : t + 1 ≡ suc t = omega arith in
      let l : t + 1 - 0 ≡ suc t = omega arith in
      let behind : first_ready code w (length w.threads - suc t) (suc t) ≡ None = (λ i. first_ready code w (sym e i - sym k i) (sym k i)) ∙ sym f ∙ none in
      g ∙ ap (λ n. first_ready code w n 0) l ∙ sym (found_before t behind)

  pub found_on : (from t to : ℕ) → t < to → ready code w t ≡ false → first_ready code w (to - from) from ≡ first_ready code w (to - t) t → first_ready code w (to - from) from ≡ first_ready code w (to - (t + 1)) (t + 1)
  found_on from t to l e so_far =
      let k : suc t ≡ t + 1 = omega arith in
      so_far ∙ found_later t to l e ∙ ap (λ n. first_ready code w (to - n) n) k

-- ---- the next slot

module _ (b : Label) (code : CodeTree) (w : World) (s : Slot) where
  -- who is inside
  pub next_inside : (r : Bool) → is_inside b w s.thread ≡ true → ready code w s.thread ≡ r → next_slot b code w s ≡ cond r (Some s) None
  next_inside r e f =
      ap (λ i. cond i (cond (ready code w s.thread) (Some s) None) (cond (ready code w s.thread && nat_lt s.used quantum) (Some s) (option_map slot_of (next_ready code w s.thread)))) e
      ∙ ap (λ x. cond x (Some s) None) f

  -- who is not
  pub next_outside : (r : Bool) → is_inside b w s.thread ≡ false → (ready code w s.thread && nat_lt s.used quantum) ≡ r → next_slot b code w s ≡ cond r (Some s) (option_map slot_of (next_ready code w s.thread))
  next_outside r e f =
      ap (λ i. cond i (cond (ready code w s.thread) (Some s) None) (cond (ready code w s.thread && nat_lt s.used quantum) (Some s) (option_map slot_of (next_ready code w s.thread)))) e
      ∙ ap (λ x. cond x (Some s) (option_map slot_of (next_ready code w s.thread))) f

  -- who has the slot goes on
  pub own_next : ready code w s.thread ≡ true → (is_inside b w s.thread ≡ false → s.used < quantum) → next_slot b code w s ≡ Some s
  own_next h few = go (is_inside b w s.thread) refl
    where
      go : (i : Bool) → is_inside b w s.thread ≡ i → next_slot b code w s ≡ Some s
      go true e = next_inside true e h
      go false e = next_outside true e (ap (λ x. x && nat_lt s.used quantum) h ∙ lt_true s.used quantum (few e))
