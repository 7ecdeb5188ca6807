-- Runs turn by turn, by the first turn.
use Rattle.std.proofs.Common.{◌≡◌, ◌⊎◌, inl, inr, ℕ, suc, false, List, [], ◌∷◌, ◌++◌, length, take, Option, Some, None, refl, sym, ap, subst, ◌∙◌, arith}
use Rattle.std.specs.Prelude.{is_some, slice_get}
use Rattle.lam_machine_terms.specs.Codes.{CodeTree}
use Rattle.lam_machine_terms.specs.Worlds.{World}
use Rattle.lam_machine_terms.specs.Turns.{Moment, step, ready, and_then, moments, left_by, replay, ReadyThen, IsRun}
use Rattle.lam_machine_runs.specs.Runs.{RunsJoin, StopsAt, RunsStop}

module _ (code : CodeTree) where
  -- ---- in a row

  parts : (w : World) (front back : List ℕ) → IsRun code (front ++ back) w → IsRun code front w × IsRun code back (replay code front w)
  parts w [] back h = (tt, h)
  parts w (t ∷ ts) back h = by (step code w t) h (λ v. parts v ts back)
    where
      by : (o : Option Moment) → ReadyThen o (IsRun code (ts ++ back)) → ((v : World) → IsRun code (ts ++ back) v → IsRun code ts v × IsRun code back (replay code ts v)) → ReadyThen o (IsRun code ts) × IsRun code back (left_by w (and_then o (moments code ts)))
      by None h more = absurd h
      by (Some m) h more = more m.world h

  in_a_row : (w : World) (front back : List ℕ) → IsRun code front w → IsRun code back (replay code front w) → IsRun code (front ++ back) w
  in_a_row w [] back h k = k
  in_a_row w (t ∷ ts) back h k = by (step code w t) h k (λ v. in_a_row v ts back)
    where
      by : (o : Option Moment) → ReadyThen o (IsRun code ts) → IsRun code back (left_by w (and_then o (moments code ts))) → ((v : World) → IsRun code ts v → IsRun code back (replay code ts v) → IsRun code (ts ++ back) v) → ReadyThen o (IsRun code (ts ++ back))
      by None h k more = absurd h
      by (Some m) h k more = more m.world h k

  row_moments : (w : World) (front back : List ℕ) → IsRun code front w → moments code (front ++ back) w ≡ moments code front w ++ moments code back (replay code front w)
  row_moments w [] back h = refl
  row_moments w (t ∷ ts) back h = by (step code w t) h (λ v. row_moments v ts back)
    where
      by : (o : Option Moment) → ReadyThen o (IsRun code ts) → ((v : World) → IsRun code ts v → moments code (ts ++ back) v ≡ moments code ts v ++ moments code back (replay code ts v)) → and_then o (moments code (ts ++ back)) ≡ and_then o (moments code ts) ++ moments code back (left_by w (and_then o (moments code ts)))
      by None h more = absurd h
      by (Some m) h more = ap (λ (l : List Moment). m ∷ l) (more m.world h)

  left_append : (w : World) (ms ns : List Moment) → left_by w (ms ++ ns) ≡ left_by (left_by w ms) ns
  left_append w [] ns = refl
  left_append w (m ∷ ms) ns = left_append m.world ms ns

  row_replay : (w : World) (front back : List ℕ) → IsRun code front w → replay code (front ++ back) w ≡ replay code back (replay code front w)
  row_replay w front back h = ap (left_by w) (row_moments w front back h) ∙ left_append w (moments code front w) (moments code back (replay code front w))

  one_more : (w : World) (turns : List ℕ) (t : ℕ) (m : Moment) → IsRun code turns w → step code (replay code turns w) t ≡ Some m → IsRun code (turns ++ t ∷ []) w × (moments code (turns ++ t ∷ []) w ≡ moments code turns w ++ m ∷ []) × (replay code (turns ++ t ∷ []) w ≡ m.world)
  one_more w turns t m h e =
      let v = replay code turns w in (
        in_a_row w turns (t ∷ []) h (subst (λ o. ReadyThen o (IsRun code [])) (sym e) tt),
        row_moments w turns (t ∷ []) h ∙ ap (λ o. moments code turns w ++ and_then o (moments code [])) e,
        row_replay w turns (t ∷ []) h ∙ ap (λ o. left_by v (and_then o (moments code []))) e,
      )

  -- ---- where turns stop

  all_moments : (w : World) (turns : List ℕ) → IsRun code turns w → length (moments code turns w) ≡ length turns
  all_moments w [] h = refl
  all_moments w (t ∷ ts) h = by (step code w t) h (λ v. all_moments v ts)
    where
      by : (o : Option Moment) → ReadyThen o (IsRun code ts) → ((v : World) → IsRun code ts v → length (moments code ts v) ≡ length ts) → length (and_then o (moments code ts)) ≡ suc (length ts)
      by None h more = absurd h
      by (Some m) h more = ap suc (more m.world h)

  as_many : (w : World) (turns : List ℕ) → length (moments code turns w) ≡ length turns → IsRun code turns w
  as_many w [] h = tt
  as_many w (t ∷ ts) h = by (step code w t) h (λ v. as_many v ts)
    where
      by : (o : Option Moment) → length (and_then o (moments code ts)) ≡ suc (length ts) → ((v : World) → length (moments code ts v) ≡ length ts → IsRun code ts v) → ReadyThen o (IsRun code ts)
      by None h more = absurd (omega (arith, h))
      by (Some m) h more = more m.world (omega (arith, h))

  taken : (w : World) (turns : List ℕ) → let n = length (moments code turns w) in IsRun code (take n turns) w × (moments code (take n turns) w ≡ moments code turns w)
  taken w [] = (tt, refl)
  taken w (t ∷ ts) = by (step code w t) refl (λ v. taken v ts)
    where
      by : (o : Option Moment) → step code w t ≡ o → ((v : World) → IsRun code (take (length (moments code ts v)) ts) v × (moments code (take (length (moments code ts v)) ts) v ≡ moments code ts v)) → IsRun code (take (length (and_then o (moments code ts))) (t ∷ ts)) w × (moments code (take (length (and_then o (moments code ts))) (t ∷ ts)) w ≡ and_then o (moments code ts))
      by None e more = (tt, refl)
      by (Some m) e more =
          let h = more m.world in
          let n = length (moments code ts m.world) in
          (subst (λ o. ReadyThen o (IsRun code (take n ts))) (sym e) h.0, ap (λ o. and_then o (moments code (take n ts))) e ∙ ap (λ (l : List Moment). m ∷ l) h.1)

  stop : (w : World) (turns : List ℕ) → IsRun code turns w ⊎ StopsAt code w turns (length (moments code turns w))
  unfolding ready
  stop w [] = inl tt
  stop w (t ∷ ts) = by (step code w t) refl (λ v. stop v ts)
    where
      by : (o : Option Moment) → step code w t ≡ o → ((v : World) → IsRun code ts v ⊎ StopsAt code v ts (length (moments code ts v))) → ReadyThen o (IsRun code ts) ⊎ ((u : ℕ) × (slice_get (t ∷ ts) (length (and_then o (moments code ts))) ≡ Some u) × (is_some (step code (left_by w (and_then o (moments code ts))) u) ≡ false))
      by None e more = inr (t, refl, ap is_some e)
      by (Some m) e more = more m.world

pub joined_runs : (code : CodeTree) → RunsJoin code
joined_runs code =
    record {
      joins = λ w front back. (parts code w front back, λ h. in_a_row code w front back h.0 h.1);
      moments_join = row_moments code;
      replays_join = row_replay code;
      grows = one_more code;
    }

pub stopped_runs : (code : CodeTree) → RunsStop code
stopped_runs code = record { whole = λ w turns. (all_moments code w turns, as_many code w turns); front = taken code; stops = stop code }
