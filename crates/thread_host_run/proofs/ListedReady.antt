-- The list of the ready threads: it has those and no others.
use Rattle.std.proofs.Common.{◌≡◌, ℕ, zero, suc, ◌+◌, ◌<◌, ◌≤◌, List, [], ◌∷◌, ◌++◌, length, get_or, Bool, true, false, cond, true≢false, is_some, sym, ap, ◌∙◌, arith, refl}
use Rattle.std.specs.List.{filter, range_with_len}
use Rattle.std.proofs.lemmas.Option.{slice_get_past}
use Rattle.std.proofs.lemmas.List.{append-nil, map-id}
use Rattle.std.proofs.lemmas.List.FromFn.{filter_of_map_range_with_len_more}
use Rattle.lam_bytecode.specs.Codes.{CodeTree}
use Rattle.lam_machine_terms.specs.Worlds.{World}
use Rattle.lam_machine_terms.specs.Turns.{ready, step, turn_in}
use Rattle.lam_machine_runs.specs.Ends.{SomeReady, NoneReady}
use Rattle.thread_host_run.specs.ReadyLists.{ready_threads}

-- ---- a thread that is not there is not ready

past_all : (code : CodeTree) (w : World) (t : ℕ) → length w.threads ≤ t → ready code w t ≡ false
unfolding ready step
past_all code w t h = ap (λ o. is_some (turn_in code w t o)) (slice_get_past w.threads t h)

pub ready_within : (code : CodeTree) (w : World) (t : ℕ) → ready code w t ≡ true → t < length w.threads
ready_within code w t e = there (λ h. true≢false (sym e ∙ past_all code w t h))
  where
    there : (length w.threads ≤ t → ⊥) → t < length w.threads
    there n = omega arith

-- ---- a filtered list

passes_at : (p : ℕ → Bool) (x : ℕ) (rest : List ℕ) (b : Bool) → p x ≡ b → ((k d : ℕ) → k < length rest → p (get_or rest k d) ≡ true) → (k d : ℕ) → k < length (cond b (x ∷ rest) rest) → p (get_or (cond b (x ∷ rest) rest) k d) ≡ true
passes_at p x rest true is h zero d lt = is
passes_at p x rest true is h (suc k) d lt = h k d (omega arith)
passes_at p x rest false is h k d lt = h k d lt

passes : (p : ℕ → Bool) (xs : List ℕ) (k d : ℕ) → k < length (filter p xs) → p (get_or (filter p xs) k d) ≡ true
passes p [] k d lt = absurd (omega arith)
passes p (x ∷ xs) k d lt = passes_at p x (filter p xs) (p x) refl (passes p xs) k d lt

some_of : (p : ℕ → Bool) (a t : ℕ) (rest : List ℕ) (b : Bool) → p a ≡ b → p t ≡ true → a ≤ t → (a + 1 ≤ t → 0 < length rest) → 0 < length (cond b (a ∷ rest) rest)
some_of p a t rest true is here le h = omega arith
some_of p a t rest false is here le h = h (above (ne is here))
  where
    ne : p a ≡ false → p t ≡ true → a ≡ t → ⊥
    ne f g e = true≢false (sym g ∙ ap p (sym e) ∙ f)

    above : (a ≡ t → ⊥) → a + 1 ≤ t
    above n = omega arith

some_in : (p : ℕ → Bool) (n a t : ℕ) → a ≤ t → t < a + n → p t ≡ true → 0 < length (filter p (range_with_len a n))
some_in p zero a t le lt here = absurd (omega arith)
some_in p (suc n) a t le lt here = some_of p a t (filter p (range_with_len (a + 1) n)) (p a) refl here le (λ h. some_in p n (a + 1) t h (omega arith) here)

-- ---- the list of the ready threads

pub listed_ready : (code : CodeTree) (w : World) (xs : List ℕ) (k d : ℕ) → xs ≡ ready_threads code w → k < length xs → ready code w (get_or xs k d) ≡ true
listed_ready code w xs k d is lt = rw is (passes (ready code w) (range_with_len 0 (length w.threads)) k d (let e = ap length is in omega (arith, e)))

pub some_ready : (code : CodeTree) (w : World) (xs : List ℕ) → xs ≡ ready_threads code w → 0 < length xs → SomeReady code w
some_ready code w xs is lt = (get_or xs 0 0, listed_ready code w xs 0 0 is lt)

-- a thread that is ready stands in the list
pub some_listed : (code : CodeTree) (w : World) (xs : List ℕ) → xs ≡ ready_threads code w → SomeReady code w → 0 < length xs
some_listed code w xs is s = let h = some_in (ready code w) (length w.threads) 0 s.0 (omega arith) (there past) s.1 in omega (arith, h, ap length is)
  where
    past : length w.threads ≤ s.0 → ⊥
    past h = true≢false (sym s.1 ∙ past_all code w s.0 h)

    there : (length w.threads ≤ s.0 → ⊥) → s.0 < 0 + length w.threads
    there n = omega arith

pub none_ready : (code : CodeTree) (w : World) (xs : List ℕ) → xs ≡ ready_threads code w → length xs ≡ 0 → NoneReady code w
none_ready code w xs is none t = by (ready code w t) refl
  where
    by : (b : Bool) → ready code w t ≡ b → ready code w t ≡ false
    by true e = absurd (let s = some_listed code w xs is (t, e) in omega (arith, s, none))
    by false e = e

-- ---- the list, thread by thread

more_of : (p : ℕ → Bool) (n : ℕ) → filter p (range_with_len 0 (n + 1)) ≡ filter p (range_with_len 0 n) ++ cond (p n) (n ∷ []) []
more_of p n =
    ap (filter p) (sym (map-id (range_with_len 0 (n + 1))))
    ∙ filter_of_map_range_with_len_more p (λ x. x) 0 n n (omega arith)
    ∙ ap (λ (l : List ℕ). filter p l ++ cond (p n) (n ∷ []) []) (map-id (range_with_len 0 n))

pub taken : (p : ℕ → Bool) (n : ℕ) → p n ≡ true → filter p (range_with_len 0 (n + 1)) ≡ filter p (range_with_len 0 n) ++ n ∷ []
taken p n e = more_of p n ∙ ap (λ (b : Bool). filter p (range_with_len 0 n) ++ cond b (n ∷ []) []) e

pub left_out : (p : ℕ → Bool) (n : ℕ) → p n ≡ false → filter p (range_with_len 0 (n + 1)) ≡ filter p (range_with_len 0 n)
left_out p n e = more_of p n ∙ ap (λ (b : Bool). filter p (range_with_len 0 n) ++ cond b (n ∷ []) []) e ∙ append-nil (filter p (range_with_len 0 n))
