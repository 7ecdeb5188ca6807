-- Turns that are taken, one after another, with what is kept of their moments.
use Rattle.std.proofs.Common.{◌≡◌, ℕ, zero, suc, ◌+◌, ◌-◌, ◌<◌, ◌≤◌, true, List, [], ◌∷◌, ◌++◌, length, take, drop, get_or, Some, None, refl, sym, ap, subst, ◌∙◌, arith, append-nil, append_assoc, length-append, add-one, drop-cons}
use Rattle.std.specs.Prelude.{replicate, slice_get}
use Rattle.std.specs.List.{AllByRecursion}
use Rattle.std.specs.Option.{option_map}
use Rattle.std.proofs.lemmas.Option.{slice_get-get_or}
use Rattle.std.proofs.lemmas.List.{take_more, take_all, take-append-drop, length-take-le, length-replicate, replicate_more}
use Rattle.flow_labels.specs.declared.Label.{Label}
use Rattle.lam_asks.specs.declared.answer.Event.{Event}
use Rattle.lam_bytecode.specs.Codes.{CodeTree}
use Rattle.lam_machine_terms.specs.Worlds.{World}
use Rattle.lam_machine_terms.specs.Turns.{Moment, step, and_then, moments, replay, IsRun}
use Rattle.lam_machine_runs.specs.Stops.{stopped_at}
use Rattle.lam_machine_runs.proofs.RunLemmas.{joined_runs, stopped_runs}
use Rattle.lam_machine.specs.Asking.{label_at}
use Rattle.lam_machine.specs.Privately.{IsPrivateStep, ArePrivateSteps, private_event}
use Rattle.lam_machine.specs.Turned.{IsTurn}
use Rattle.lam_machine.specs.Worlds.{IsSound}
use Rattle.lam_machine.proofs.ManyPrivateLemmas.{label_stays}
use Rattle.lam_machine.proofs.Sound.{sound_step}
use Rattle.lam_machine_replay.specs.Keeping.{KeptOfSoMany, KeepsEvent, KeepsTurn, LeavesPrivate, IsPrivateAt, KeepsPrivate, IsRow, Takes}
use Rattle.lam_machine_replay.proofs.ProductLemmas.{products_told}

-- ---- whoever leaves private turns alone

module _ {X : Type 0} (AreKept : List Moment → X → Type 0) where
  pub event_kept : (n : ℕ) (e : Event) (after : World) (before kept : X) → KeepsEvent AreKept n e after before kept → KeepsTurn AreKept n e after before kept
  event_kept n e after before kept keeps code t w turn =
      let m : Moment = record { event = e; made = turn.made; world = after } in
      keeps m refl refl (products_told code w t m turn.is)

  pub row_left : LeavesPrivate AreKept → (t : ℕ) (l : Label) (many : ℕ) (kept : X) → KeepsPrivate AreKept t l many kept kept
  row_left leaves t l many kept ms row so_many each old = by row each ms old
    where
      by : (row : List Moment) → AllByRecursion (IsPrivateAt t l) row → (ms : List Moment) → AreKept ms kept → AreKept (ms ++ row) kept
      by [] each ms old = subst (λ (zs : List Moment). AreKept zs kept) (sym (append-nil ms)) old
      by (m ∷ row) each ms old =
          subst (λ (zs : List Moment). AreKept zs kept) (append_assoc ms (m ∷ []) row)
          (by row each.1 (ms ++ m ∷ []) (leaves ms m kept each.0.what each.0.told old))

-- ---- one turn, and turns in a row

module _ (code : CodeTree) where
  -- there are as many moments as turns
  as_many : (ms : List Moment) (turns : List ℕ) (w : World) (n k : ℕ) → IsRun code turns w → length ms ≡ n → k ≡ n + length turns → length (ms ++ moments code turns w) ≡ k
  as_many ms turns w n k run many e =
      let more : length (moments code turns w) ≡ length turns = ((stopped_runs code).whole w turns).0 run in
      let both : length (ms ++ moments code turns w) ≡ length ms + length (moments code turns w) = length-append ms (moments code turns w) in
      omega (arith, more, both, many, e)

module _ {X : Type 0} (AreKept : List Moment → X → Type 0) (code : CodeTree) where
  pub none_taken : (n : ℕ) (w after : World) (x : X) → after ≡ w → Takes AreKept code n [] w x after x
  none_taken n w after x same =
      record {
        run = tt;
        left = sym same;
        sound = λ s. subst (λ (v : World). IsSound code v) (sym same) s;
        keeps = λ ms many old. subst (λ (zs : List Moment). AreKept zs x) (sym (append-nil ms)) old;
      }

  pub turn_taken : (t n : ℕ) (w after : World) (e : Event) (x y : X) → IsTurn code t w e after → KeepsTurn AreKept n e after x y → Takes AreKept code n (t ∷ []) w x after y
  turn_taken t n w after e x y turn keeps =
      let m : Moment = record { event = e; made = turn.made; world = after } in
      let grown = (joined_runs code).grows w [] t m tt turn.is in
      record {
        run = grown.0;
        left = grown.2;
        sound = λ s. sound_step code w t m s turn.is;
        keeps = λ ms many old. subst (λ (zs : List Moment). AreKept (ms ++ zs) y) (sym grown.1) (keeps code t w turn ms many old);
      }

  -- some turns, and then some more
  pub taken_more : (n k : ℕ) (ts us : List ℕ) (w v after : World) (x y z : X) → k ≡ n + length ts → Takes AreKept code n ts w x v y → Takes AreKept code k us v y after z → Takes AreKept code n (ts ++ us) w x after z
  taken_more n k ts us w v after x y z e some more =
      let next : IsRun code us (replay code ts w) = subst (λ (u : World). IsRun code us u) (sym some.left) more.run in
      let joined : moments code (ts ++ us) w ≡ moments code ts w ++ moments code us v =
      (joined_runs code).moments_join w ts us some.run ∙ ap (λ (u : World). moments code ts w ++ moments code us u) some.left in
      record {
        run = ((joined_runs code).joins w ts us).1 (some.run, next);
        left = (joined_runs code).replays_join w ts us some.run ∙ ap (λ (u : World). replay code us u) some.left ∙ more.left;
        sound = λ s. more.sound (some.sound s);
        keeps = λ ms many old.
            subst (λ (zs : List Moment). AreKept zs z) (append_assoc ms (moments code ts w) (moments code us v) ∙ ap (λ (zs : List Moment). ms ++ zs) (sym joined))
            (more.keeps (ms ++ moments code ts w) (as_many code ms ts w n k some.run many e) (some.keeps ms many old));
      }

  pub of_so_many : (n k : ℕ) (turns : List ℕ) (w after : World) (x y : X) → k ≡ n + length turns → KeptOfSoMany AreKept n x → Takes AreKept code n turns w x after y → KeptOfSoMany AreKept k y
  of_so_many n k turns w after x y e kept took =
      (kept.0 ++ moments code turns w, as_many code kept.0 turns w n k took.run kept.1 e, took.keeps kept.0 kept.1 kept.2)

  -- none were taken, and then none
  pub none_more : (n t k : ℕ) (w after : World) (x y : X) → k ≡ 0 → Takes AreKept code n (replicate k t) w x after y → step code after t ≡ None → step code w t ≡ None
  none_more n t k w after x y e took none =
      let same : w ≡ after = ap (λ (j : ℕ). replay code (replicate j t) w) (sym e) ∙ took.left in
      ap (λ (v : World). step code v t) same ∙ none

-- ---- private turns of a thread in a row

private_turn : (code : CodeTree) (t : ℕ) (w after : World) → IsPrivateStep code t w true after → IsTurn code t w (private_event w t) after
unfolding IsPrivateStep
private_turn code t w after h = h.1

next_row : {X : Type 0} (x : X) (k : ℕ) → replicate k x ++ x ∷ [] ≡ replicate (suc k) x
next_row x k = replicate_more k x ∙ ap (λ (j : ℕ). replicate j x) (add-one k)

all_more : {X : Type 0} (P : X → Type 0) (xs : List X) (x : X) → AllByRecursion P xs → P x → AllByRecursion P (xs ++ x ∷ [])
all_more P [] x all here = (here, tt)
all_more P (y ∷ xs) x all here = (all.0, all_more P xs x all.1 here)

module _ (code : CodeTree) (t : ℕ) (l : Label) where
  abbrev ArePrivate : List Moment → Unit {0} → Type 0
  ArePrivate ms x = AllByRecursion (IsPrivateAt t l) ms

  private_run : (k : ℕ) (w after : World) → ArePrivateSteps code t k w after → label_at after t ≡ l → Takes ArePrivate code 0 (replicate k t) w tt after tt
  private_run zero w after same at = none_taken ArePrivate code 0 w after tt same
  private_run (suc k) w after steps at =
      let v : World = steps.0 in
      let here : label_at v t ≡ l = sym (label_stays code t v after steps.2) ∙ at in
      let keeps : KeepsTurn ArePrivate k (private_event v t) after tt tt = λ c u from it ms many old.
      let m : Moment = record { event = private_event v t; made = it.made; world = after } in
      all_more (IsPrivateAt t l) ms m old (record { thread = refl; label = here; what = refl; told = products_told c from u m it.is }) in
      let long : length (replicate k t) ≡ k = length-replicate k t in
      let number : k ≡ 0 + length (replicate k t) = omega (arith, long) in
      subst (λ (ts : List ℕ). Takes ArePrivate code 0 ts w tt after tt) (next_row t k)
      (taken_more ArePrivate code 0 k (replicate k t) (t ∷ []) w v after tt tt tt number (private_run k w v steps.1 here)
      (turn_taken ArePrivate code t k v after (private_event v t) tt tt (private_turn code t v after steps.2) keeps))

pub privately_taken : {X : Type 0} (AreKept : List Moment → X → Type 0) (code : CodeTree) (t n k : ℕ) (w after : World) (x y : X) → ArePrivateSteps code t k w after → KeepsPrivate AreKept t (label_at after t) k x y → Takes AreKept code n (replicate k t) w x after y
privately_taken AreKept code t n k w after x y steps keeps =
    let row = private_run code t (label_at after t) k w after steps refl in
    let many : length (moments code (replicate k t) w) ≡ k = ((stopped_runs code).whole w (replicate k t)).0 row.run ∙ length-replicate k t in
    record { run = row.run; left = row.left; sound = row.sound; keeps = λ ms so_many old. keeps ms (moments code (replicate k t) w) many (row.keeps [] refl tt) old }

-- ---- a front of the turns

module _ (turns : List ℕ) (n many t : ℕ) (row : IsRow turns n many t) where
  pub front_more : (k : ℕ) → k ≤ many → take (n + k) turns ≡ take n turns ++ replicate k t
  front_more zero le =
      let e : n + zero ≡ n = omega arith in
      ap (λ (j : ℕ). take j turns) e ∙ sym (append-nil (take n turns))
  front_more (suc k) le =
      let within = row.within in
      let e : n + suc k ≡ n + k + 1 = omega arith in
      ap (λ (j : ℕ). take j turns) e
      ∙ take_more turns (n + k) 0 (omega (arith, within, le))
      ∙ ap (λ (u : ℕ). take (n + k) turns ++ u ∷ []) (row.each k (omega (arith, le)))
      ∙ ap (λ (ts : List ℕ). ts ++ t ∷ []) (front_more k (omega (arith, le)))
      ∙ append_assoc (take n turns) (replicate k t) (t ∷ [])
      ∙ ap (λ (ts : List ℕ). take n turns ++ ts) (next_row t k)

  pub row_later : (k : ℕ) → k ≤ many → IsRow turns (n + k) (many - k) (get_or turns (n + k) 0)
  row_later k le =
      let within = row.within in
      record {
        within = omega (arith, within, le);
        each = λ i less.
            let e : n + k + i ≡ n + (k + i) = omega arith in
            ap (λ (j : ℕ). get_or turns j 0) e ∙ row.each (k + i) (omega (arith, less)) ∙ sym (row.each k (omega (arith, less)));
      }

module _ {X : Type 0} (AreKept : List Moment → X → Type 0) (code : CodeTree) (start : World) (turns : List ℕ) (before : X) where
  -- the front of a run that is taken
  abbrev pub IsFront : ℕ → World → X → Type 0
  IsFront n w x = Takes AreKept code 0 (take n turns) start before w x

  pub kept_so_far : (n : ℕ) (w : World) (x : X) → n ≤ length turns → AreKept [] before → IsFront n w x → KeptOfSoMany AreKept n x
  kept_so_far n w x within nothing front =
      let long : length (take n turns) ≡ n = length-take-le n turns within in
      let number : n ≡ 0 + length (take n turns) = omega (arith, long) in
      of_so_many AreKept code 0 n (take n turns) start w before x number ([], refl, nothing) front

  -- turns of the row at hand are taken
  pub front_taken : (n many t k : ℕ) (w after : World) (x y : X) → IsRow turns n many t → k ≤ many → IsFront n w x → Takes AreKept code n (replicate k t) w x after y → IsFront (n + k) after y
  front_taken n many t k w after x y row le front took =
      let within = row.within in
      let long : length (take n turns) ≡ n = length-take-le n turns (omega (arith, within)) in
      let number : n ≡ 0 + length (take n turns) = omega (arith, long) in
      subst (λ (ts : List ℕ). Takes AreKept code 0 ts start before after y) (sym (front_more turns n many t row k le))
      (taken_more AreKept code 0 n (take n turns) (replicate k t) start w after before x y number front took)

  -- all of them are
  pub all_taken : (n : ℕ) (w : World) (x : X) → length turns ≤ n → IsFront n w x → Takes AreKept code 0 turns start before w x
  all_taken n w x end front = subst (λ (ts : List ℕ). Takes AreKept code 0 ts start before w x) (take_all n turns end) front

  -- or a thread is not ready
  pub front_stops : (n : ℕ) (w : World) (x : X) → n < length turns → IsFront n w x → step code w (get_or turns n 0) ≡ None → stopped_at code turns start ≡ Some (record { turn = n; thread = get_or turns n 0 })
  front_stops n w x within front none =
      let t : ℕ = get_or turns n 0 in
      let ms : List Moment = moments code (take n turns) start in
      let rest : List ℕ = drop (n + 1) turns in
      let parts : turns ≡ take n turns ++ t ∷ rest =
      sym (take-append-drop n turns) ∙ ap (λ (ts : List ℕ). take n turns ++ ts) (drop-cons turns n 0 within ∙ ap (λ k. t ∷ drop k turns) (sym (add-one n))) in
      let many : length (moments code turns start) ≡ n =
      ap (λ (ts : List ℕ). length (moments code ts start)) parts
      ∙ ap (λ (zs : List Moment). length zs) ((joined_runs code).moments_join start (take n turns) (t ∷ rest) front.run)
      ∙ ap (λ (v : World). length (ms ++ moments code (t ∷ rest) v)) front.left
      ∙ ap (λ z. length (ms ++ and_then z (moments code rest))) none
      ∙ ap (λ (zs : List Moment). length zs) (append-nil ms)
      ∙ ((stopped_runs code).whole start (take n turns)).0 front.run
      ∙ length-take-le n turns (omega (arith, within)) in
      ap (λ k. option_map (λ (u : ℕ). record { turn = k; thread = u }) (slice_get turns k)) many
      ∙ ap (λ z. option_map (λ (u : ℕ). record { turn = n; thread = u }) z) (slice_get-get_or turns n 0 within)
