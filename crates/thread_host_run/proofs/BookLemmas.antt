-- Where the turns of a book stop, by the run that took those before.
use Rattle.std.proofs.Common.{◌≡◌, ◌<◌, ◌≤◌, ◌+◌, ℕ, false, List, [], ◌∷◌, ◌++◌, take, drop, get_or, length, Option, Some, None, refl, sym, ap, subst, suc, ◌∙◌, arith, drop-cons, add-one}
use Rattle.std.specs.Prelude.{is_some, slice_get}
use Rattle.std.specs.Option.{option_map}
use Rattle.std.proofs.lemmas.Option.{slice_get_past, slice_get-get_or}
use Rattle.std.proofs.lemmas.List.{take-append-drop, length-take-le, take_more, take_all}
use Rattle.lam_bytecode.specs.Codes.{CodeTree}
use Rattle.lam_machine_terms.specs.Worlds.{World}
use Rattle.lam_machine_terms.specs.Turns.{Moment, step, ready, and_then, moments, replay, IsRun}
use Rattle.lam_machine_runs.specs.Stops.{NotReady, stopped_at}
use Rattle.lam_machine_runs.proofs.RunLemmas.{joined_runs, stopped_runs}
use Rattle.thread_host_run.specs.Runs.{Ran, IsWhole}
use Rattle.thread_host_run.specs.Books.{IsRunBy, StandsBefore}

no_step : (code : CodeTree) (w : World) (t : ℕ) → ready code w t ≡ false → step code w t ≡ None
unfolding ready
no_step code w t e = by (step code w t) e
  where
    by : (o : Option Moment) → is_some o ≡ false → o ≡ None
    by None e = refl
    by (Some m) e = absurd cc

at_most : (n k : ℕ) → n ≡ k → k ≤ n
at_most n k e = omega (arith, e)

below : (n k : ℕ) → n < k → n ≤ k
below n k h = omega (arith, h)

abbrev stop_at : ℕ → List ℕ → Option NotReady
stop_at n turns = option_map (λ t. record { turn = n; thread = t }) (slice_get turns n)

none_past : (turns : List ℕ) (n : ℕ) → length turns ≤ n → stop_at n turns ≡ None
none_past turns n h = ap (λ x. option_map (λ (t : ℕ). record { turn = n; thread = t }) x) (slice_get_past turns n h)

module _ (r : Ran) (turns : List ℕ) (whole : IsWhole r) where
  pub all_taken : r.turns ≡ turns → IsRunBy r.code r.start turns r
  all_taken e =
      let is_run = subst (λ ts. IsRun r.code ts r.start) e whole.run in
      let n = length (moments r.code turns r.start) in
      let world = whole.world ∙ ap (λ ts. replay r.code ts r.start) e in
      record {
        ready = is_run;
        unstopped = none_past turns n (at_most n (length turns) (((stopped_runs r.code).whole r.start turns).0 is_run));
        is = λ i. record { code = r.code; start = r.start; turns = e i; world = world i };
      }

  pub stops_before : (n : ℕ) → StandsBefore r turns n → stopped_at r.code turns r.start ≡ Some (record { turn = n; thread = get_or turns n 0 })
  stops_before n h =
      let code = r.code in
      let front = take n turns in
      let t = get_or turns n 0 in
      let back = drop (n + 1) turns in
      let is_run = subst (λ ts. IsRun code ts r.start) h.taken whole.run in
      let world = whole.world ∙ ap (λ ts. replay code ts r.start) h.taken in
      let none = ap (λ w. step code w t) (sym world) ∙ no_step code r.world t h.waits in
      let parts = sym (take-append-drop n turns) ∙ ap (λ (l : List ℕ). front ++ l) (drop-cons turns n 0 h.within ∙ ap (λ k. t ∷ drop k turns) (sym (add-one n))) in
      let all = ap (λ ts. length (moments code ts r.start)) parts ∙ ap (λ (ms : List Moment). length ms) ((joined_runs code).moments_join r.start front (t ∷ back) is_run)
      ∙ ap (λ o. length (moments code front r.start ++ and_then o (moments code back))) none in
      let count = all ∙ ends (moments code front r.start) ∙ ((stopped_runs code).whole r.start front).0 is_run ∙ length-take-le n turns (below n (length turns) h.within) in
      ap (λ k. stop_at k turns) count ∙ ap (λ x. option_map (λ (u : ℕ). record { turn = n; thread = u }) x) (slice_get-get_or turns n 0 h.within)
    where
      ends : (ms : List Moment) → length (ms ++ []) ≡ length ms
      ends [] = refl
      ends (m ∷ ms) = ap (λ k. suc k) (ends ms)

pub one_taken : (old new turns : List ℕ) (n : ℕ) → n < length turns → old ≡ take n turns → new ≡ old ++ get_or turns n 0 ∷ [] → new ≡ take (n + 1) turns
one_taken old new turns n h e f = f ∙ ap (λ (l : List ℕ). l ++ get_or turns n 0 ∷ []) e ∙ sym (take_more turns n 0 h)

pub room_left : (ts turns : List ℕ) (n : ℕ) → ts ≡ take n turns → n < length turns → length turns ≤ 1000000 → length ts < 1000000
room_left ts turns n e h few = let len = ap (λ (l : List ℕ). length l) e ∙ length-take-le n turns (below n (length turns) h) in omega (arith, len, h, few)

pub all_of : (ts turns : List ℕ) (n : ℕ) → ts ≡ take n turns → length turns ≤ n → ts ≡ turns
all_of ts turns n e h = e ∙ take_all n turns h
