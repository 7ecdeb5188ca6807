-- The rounds end, and what stands then meets the rules.
use Rattle.std.proofs.Common.{◌≡◌, ℕ, zero, suc, ◌+◌, ◌*◌, ◌<◌, ◌≤◌, ◌⊎◌, List, [], ◌∷◌, Option, Some, None, length, slice_get, slice_set, refl, sym, ap, ◌∙◌, subst, arith, inl, inr, ⊎_elim, length-set}
use Rattle.std.proofs.lemmas.Bool.{cases_eq}
use Rattle.std.proofs.lemmas.Option.{slice_get_within}
use Rattle.guarded_code.specs.Rounds.{Table, Found, Holds, Broke, and_then, OnFound, Sent, blank, placed, into, give, handed, visit, sweep, round, rounds, first, after, Stands, AllStand, Settled, AllSettled, AllLow, Laws}
use Rattle.guarded_code.proofs.Tables.{none_some, some_inj, get_set_same, get_set_other, set_same, then_on, on_map, on_both, nones, worth, nones_new, nones_old, worth_new, worth_old, blank_none, blank_long, blank_nones, blank_worth}

module _ (D : Type 0) (meet : D → D → Option D) (passes : ℕ → D → Option (Sent D)) (Says : D → D → Type 0) (weight height : D → ℕ) (laws : Laws D meet passes Says weight height) where
  -- each description says at least as much as what stands there later
  abbrev pub Sinks : Table D → Table D → Type 0
  Sinks t t' = (a : ℕ) (d : D) → slice_get t a ≡ Some (Some d) → (d' : D) × (slice_get t' a ≡ Some (Some d')) × Says d d'

  -- a description is no higher than the addresses that were reached, N being all
  abbrev pub Tall : ℕ → Table D → Type 0
  Tall N t = (a : ℕ) (d : D) → slice_get t a ≡ Some (Some d) → height d + nones t ≤ N

  -- the most that a description weighs, and one more
  abbrev pub cap : ℕ → ℕ
  cap N = 4 * N + 1

  abbrev pub room : ℕ → Table D → ℕ
  room N t = worth weight (cap N) t

  -- from t to t': nothing changed, and S holds, or there is less to lose
  pub record Went (N : ℕ) (t t' : Table D) (S : Type 0) : Type 0 where
    pub len : length t' ≡ length t
    pub sinks : Sinks t t'
    pub tall : Tall N t'
    pub fewer : nones t' ≤ nones t
    pub still : ((t' ≡ t) × S) ⊎ (room N t' < room N t)

  sinks_trans : (t t1 t2 : Table D) → Sinks t t1 → Sinks t1 t2 → Sinks t t2
  sinks_trans t t1 t2 s1 s2 a d e =
      let r1 = s1 a d e in
      let r2 = s2 a r1.0 r1.1 in
      (r2.0, r2.1, laws.says_trans d r1.0 r2.0 r1.2 r2.2)

  went_same : (N : ℕ) (t : Table D) (S : Type 0) → Tall N t → S → Went N t t S
  went_same N t S tall s =
      record { len = refl; sinks = λ a d e. (d, e, laws.says_same d); tall = tall; fewer = omega arith; still = inl (refl, s) }

  went_map : (N : ℕ) (t t' : Table D) (S S' : Type 0) → (S → S') → Went N t t' S → Went N t t' S'
  went_map N t t' S S' f w =
      record { len = w.len; sinks = w.sinks; tall = w.tall; fewer = w.fewer; still = ⊎_elim (λ r. inl (r.0, f r.1)) (λ lt. inr lt) w.still }

  went_then : (N : ℕ) (t t1 t2 : Table D) (S1 : Type 0) (S2 : Table D → Type 0) (S : Type 0) → (S1 → S2 t → S) → Went N t t1 S1 → Went N t1 t2 (S2 t1) → Went N t t2 S
  went_then N t t1 t2 S1 S2 S f w1 w2 =
      record {
        len = w2.len ∙ w1.len;
        sinks = sinks_trans t t1 t2 w1.sinks w2.sinks;
        tall = w2.tall;
        fewer = omega (arith, w1.fewer, w2.fewer);
        still = ⊎_elim
            (λ r1. ⊎_elim
            (λ r2. inl (r2.1 ∙ r1.1, f r1.2 (subst S2 r1.1 r2.2)))
            (λ lt. inr (subst (λ x. room N t2 < room N x) r1.1 lt))
            (tagged N t1 t2 (S2 t1) w2.still))
            (λ lt1. ⊎_elim
            (λ r2. inr (subst (λ x. room N x < room N t) (sym r2.1) lt1))
            (λ lt2. inr (omega (arith, lt1, lt2)))
            (tagged N t1 t2 (S2 t1) w2.still))
            (tagged N t t1 S1 w1.still);
      }
    where
      tagged : (N : ℕ) (t t' : Table D) (S : Type 0) → ((t' ≡ t) × S) ⊎ (room N t' < room N t) → (Unit {0} × (t' ≡ t) × S) ⊎ (room N t' < room N t)
      tagged N t t' S h = ⊎_elim (λ r. inl (tt, r.0, r.1)) (λ lt. inr lt) h

  -- one entry is written
  set_went : (N : ℕ) (t : Table D) (b : ℕ) (o : Option D) (m : D) (S : Type 0) → Tall N t → slice_get t b ≡ Some o → ((d : D) → o ≡ Some d → Says d m) → nones (slice_set t b (Some m)) ≤ nones t → height m + nones (slice_set t b (Some m)) ≤ N → ((slice_set t b (Some m) ≡ t) × S) ⊎ (room N (slice_set t b (Some m)) < room N t) → Went N t (slice_set t b (Some m)) S
  set_went N t b o m S tall at_b says few low still =
      record {
        len = length-set t b (Some m);
        sinks = λ a d e. ⊎_elim
            (λ same. (m, subst (λ x. slice_get (slice_set t b (Some m)) x ≡ Some (Some m)) (sym same) (get_set_same t b (Some m) o at_b), says d (some_inj (sym at_b ∙ subst (λ x. slice_get t x ≡ Some (Some d)) same e))))
            (λ other. (d, get_set_other t b a (Some m) other ∙ e, laws.says_same d))
            (cases_eq a b);
        tall = λ a d e. ⊎_elim
            (λ same. let eq : d ≡ m = some_inj (some_inj (sym (subst (λ x. slice_get (slice_set t b (Some m)) x ≡ Some (Some d)) same e) ∙ get_set_same t b (Some m) o at_b)) in
            subst (λ x. height x + nones (slice_set t b (Some m)) ≤ N) (sym eq) low)
            (λ other. let old : height d + nones t ≤ N = tall a d (sym (get_set_other t b a (Some m) other) ∙ e) in omega (arith, old, few))
            (cases_eq a b);
        fewer = few;
        still = still;
      }

  placed_went : (N : ℕ) (t : Table D) (b : ℕ) (d e : D) → Tall N t → slice_get t b ≡ Some (Some d) → (m : Option D) → meet d e ≡ m → OnFound (Unit {0}) (placed D meet passes t b m) (λ t'. Went N t t' (Stands D Says t b e))
  placed_went N t b d e tall at_b None em = tt
  placed_went N t b d e tall at_b (Some m) em =
      let n_same = nones_old t b d m at_b in
      let low : height d + nones t ≤ N = tall b d at_b in
      set_went N t b (Some d) m (Stands D Says t b e) tall at_b
      (λ x ex. subst (λ y. Says y m) (some_inj ex) (laws.meet_first d e m em))
      (omega (arith, n_same))
      (omega (arith, n_same, low, laws.meet_height d e m em))
      (⊎_elim
      (λ same. inl (ap (λ y. slice_set t b (Some y)) same ∙ set_same t b (Some d) at_b, (d, at_b, subst (λ y. Says e y) same (laws.meet_second d e m em))))
      (λ lt. inr (worth_old weight (cap N) t b d m at_b lt))
      (laws.meet_less d e m em))

  into_went : (N : ℕ) (t : Table D) (b : ℕ) (e : D) → Tall N t → height e + nones t ≤ suc N → (o : Option (Option D)) → slice_get t b ≡ o → OnFound (Unit {0}) (into D meet passes o t b e) (λ t'. Went N t t' (Stands D Says t b e))
  into_went N t b e tall low None at_b = tt
  into_went N t b e tall low (Some None) at_b =
      let n_less = nones_new t b e at_b in
      let w = laws.light e in
      set_went N t b None e (Stands D Says t b e) tall at_b (λ d bad. none_some bad) (omega (arith, n_less)) (omega (arith, n_less, low))
      (inr (worth_new weight (cap N) t b e at_b (omega (arith, n_less, low, w))))
  into_went N t b e tall low (Some (Some d)) at_b = placed_went N t b d e tall at_b (meet d e) refl

  abbrev pub Low : ℕ → Table D → Sent D → Type 0
  Low N t [] = Unit {0}
  Low N t (p ∷ ps) = (height p.1 + nones t ≤ suc N) × Low N t ps

  low_later : (N : ℕ) (t t' : Table D) (ps : Sent D) → nones t' ≤ nones t → Low N t ps → Low N t' ps
  low_later N t t' [] few low = tt
  low_later N t t' (p ∷ ps) few low = (omega (arith, few, low.0), low_later N t t' ps few low.1)

  low_of : (N h : ℕ) (t : Table D) (ps : Sent D) → h + nones t ≤ N → AllLow height (h + 1) ps → Low N t ps
  low_of N h t [] le low = tt
  low_of N h t (p ∷ ps) le low = (omega (arith, le, low.0), low_of N h t ps le low.1)

  give_went : (N : ℕ) (t : Table D) (ps : Sent D) → Tall N t → Low N t ps → OnFound (Unit {0}) (give D meet passes t ps) (λ t'. Went N t t' (AllStand D Says t ps))
  give_went N t [] tall low = went_same N t (Unit {0}) tall tt
  give_went N t (p ∷ ps) tall low =
      then_on (Unit {0}) (λ t'. Went N t t' (Stands D Says t p.0 p.1)) (λ t'. Went N t t' (AllStand D Says t (p ∷ ps))) (into D meet passes (slice_get t p.0) t p.0 p.1) (λ t. give D meet passes t ps)
      (into_went N t p.0 p.1 tall low.0 (slice_get t p.0) refl)
      (λ t1 w1. on_map (Unit {0}) (λ t2. Went N t1 t2 (AllStand D Says t1 ps)) (λ t2. Went N t t2 (AllStand D Says t (p ∷ ps))) (give D meet passes t1 ps)
      (give_went N t1 ps w1.tall (low_later N t t1 ps w1.fewer low.1))
      (λ t2 w2. went_then N t t1 t2 (Stands D Says t p.0 p.1) (λ x. AllStand D Says x ps) (AllStand D Says t (p ∷ ps)) (λ s1 s2. (s1, s2)) w1 w2))

  handed_went : (N : ℕ) (t : Table D) (a : ℕ) (d : D) → Tall N t → slice_get t a ≡ Some (Some d) → (o : Option (Sent D)) → passes a d ≡ o → OnFound (Unit {0}) (handed D meet passes a t o) (λ t'. Went N t t' (Settled D passes Says a t))
  handed_went N t a d tall at_a None ep = tt
  handed_went N t a d tall at_a (Some ps) ep =
      on_map (Unit {0}) (λ t'. Went N t t' (AllStand D Says t ps)) (λ t'. Went N t t' (Settled D passes Says a t)) (give D meet passes t ps)
      (give_went N t ps tall (low_of N (height d) t ps (tall a d at_a) (laws.passes_low a d ps ep)))
      (λ t' w. went_map N t t' (AllStand D Says t ps) (Settled D passes Says a t) (λ s x ex. (ps, ap (passes a) (some_inj (some_inj (sym ex ∙ at_a))) ∙ ep, s)) w)

  visit_went : (N : ℕ) (t : Table D) (a : ℕ) → Tall N t → (o : Option (Option D)) → slice_get t a ≡ o → OnFound (Unit {0}) (visit D meet passes a t o) (λ t'. Went N t t' (Settled D passes Says a t))
  visit_went N t a tall None at_a = went_same N t (Settled D passes Says a t) tall (λ d e. none_some (sym at_a ∙ e))
  visit_went N t a tall (Some None) at_a = went_same N t (Settled D passes Says a t) tall (λ d e. none_some (some_inj (sym at_a ∙ e)))
  visit_went N t a tall (Some (Some d)) at_a = handed_went N t a d tall at_a (passes a d) refl

  abbrev Between : ℕ → ℕ → Table D → Type 0
  Between k a t = (j : ℕ) → j < k → Settled D passes Says (a + j) t

  one_more : (k a : ℕ) (t : Table D) → Settled D passes Says a t → Between k (a + 1) t → Between (suc k) a t
  one_more k a t s r zero lt = let e : a ≡ a + 0 = omega arith in subst (λ x. Settled D passes Says x t) e s
  one_more k a t s r (suc j) lt =
      let e : a + 1 + j ≡ a + suc j = omega arith in subst (λ x. Settled D passes Says x t) e (r j (omega (arith, lt)))

  sweep_went : (N k a : ℕ) (t : Table D) → Tall N t → OnFound (Unit {0}) (sweep D meet passes k a t) (λ t'. Went N t t' (Between k a t))
  sweep_went N zero a t tall = went_same N t (Between zero a t) tall (λ j lt. absurd (omega (arith, lt)))
  sweep_went N (suc k) a t tall =
      then_on (Unit {0}) (λ t'. Went N t t' (Settled D passes Says a t)) (λ t'. Went N t t' (Between (suc k) a t)) (visit D meet passes a t (slice_get t a)) (λ t. sweep D meet passes k (a + 1) t)
      (visit_went N t a tall (slice_get t a) refl)
      (λ t1 w1. on_map (Unit {0}) (λ t2. Went N t1 t2 (Between k (a + 1) t1)) (λ t2. Went N t t2 (Between (suc k) a t)) (sweep D meet passes k (a + 1) t1)
      (sweep_went N k (a + 1) t1 w1.tall)
      (λ t2 w2. went_then N t t1 t2 (Settled D passes Says a t) (Between k (a + 1)) (Between (suc k) a t) (one_more k a t) w1 w2))

  round_went : (N : ℕ) (t : Table D) → Tall N t → OnFound (Unit {0}) (round D meet passes t) (λ t'. Went N t t' (AllSettled D passes Says t))
  round_went N t tall =
      on_map (Unit {0}) (λ t'. Went N t t' (Between (length t) 0 t)) (λ t'. Went N t t' (AllSettled D passes Says t)) (round D meet passes t)
      (sweep_went N (length t) 0 t tall)
      (λ t' w. went_map N t t' (Between (length t) 0 t) (AllSettled D passes Says t) (λ s a d e. let z : 0 + a ≡ a = omega arith in subst (λ x. Settled D passes Says x t) z (s a (slice_get_within t a (Some d) e)) d e) w)

  pub record Done (t t' : Table D) : Type 0 where
    pub still : round D meet passes t' ≡ Holds t'
    pub settles : AllSettled D passes Says t'
    pub sinks : Sinks t t'
    pub len : length t' ≡ length t

  pub stays : (n : ℕ) (t : Table D) → round D meet passes t ≡ Holds t → rounds D meet passes n t ≡ Holds t
  stays zero t e = refl
  stays (suc n) t e = ap (λ o. and_then o (λ t. rounds D meet passes n t)) e ∙ stays n t e

  -- with more rounds than there is to lose, the last ones change nothing
  pub rounds_end : (N n : ℕ) (t : Table D) → Tall N t → room N t < n → OnFound (Unit {0}) (rounds D meet passes n t) (λ t'. Done t t')
  rounds_end N zero t tall lt = absurd (omega (arith, lt))
  rounds_end N (suc n) t tall lt = by_round (λ t1 tall1 lt1. rounds_end N n t1 tall1 lt1) (round D meet passes t) refl (round_went N t tall)
    where
      on_still : (t1 : Table D) → round D meet passes t ≡ Holds t1 → t1 ≡ t → AllSettled D passes Says t → OnFound (Unit {0}) (rounds D meet passes n t1) (λ t'. Done t t')
      on_still t1 er same settles =
          let fixed : round D meet passes t ≡ Holds t = er ∙ ap (λ x. Holds x) same in
          let e : rounds D meet passes n t1 ≡ Holds t = ap (λ x. rounds D meet passes n x) same ∙ stays n t fixed in
          subst (λ o. OnFound (Unit {0}) o (λ t'. Done t t')) (sym e) (record { still = fixed; settles = settles; sinks = λ a d e. (d, e, laws.says_same d); len = refl })

      on_less : (t1 : Table D) → Went N t t1 (AllSettled D passes Says t) → OnFound (Unit {0}) (rounds D meet passes n t1) (λ t'. Done t1 t') → OnFound (Unit {0}) (rounds D meet passes n t1) (λ t'. Done t t')
      on_less t1 w r =
          on_map (Unit {0}) (λ t'. Done t1 t') (λ t'. Done t t') (rounds D meet passes n t1) r
          (λ t' d. record { still = d.still; settles = d.settles; sinks = sinks_trans t t1 t' w.sinks d.sinks; len = d.len ∙ w.len })

      by_round : ((t1 : Table D) → Tall N t1 → room N t1 < n → OnFound (Unit {0}) (rounds D meet passes n t1) (λ t'. Done t1 t')) → (o : Found D) → round D meet passes t ≡ o → OnFound (Unit {0}) o (λ t'. Went N t t' (AllSettled D passes Says t)) → OnFound (Unit {0}) (and_then o (λ t. rounds D meet passes n t)) (λ t'. Done t t')
      by_round again (Broke a) er w = tt
      by_round again (Holds t1) er w =
          ⊎_elim (λ r. on_still t1 er r.0 r.1) (λ less. on_less t1 w (again t1 w.tall (omega (arith, lt, less)))) w.still

  -- ---- what is sent stands where it went
  stand_later : (t t' : Table D) (ps : Sent D) → Sinks t t' → AllStand D Says t ps → AllStand D Says t' ps
  stand_later t t' [] sinks h = tt
  stand_later t t' (p ∷ ps) sinks h =
      let r = sinks p.0 h.0.0 h.0.1 in ((r.0, r.1, laws.says_trans p.1 h.0.0 r.0 h.0.2 r.2), stand_later t t' ps sinks h.1)

  placed_stands : (t : Table D) (b : ℕ) (d e : D) (m : Option D) → slice_get t b ≡ Some (Some d) → meet d e ≡ m → OnFound (Unit {0}) (placed D meet passes t b m) (λ t'. Stands D Says t' b e)
  placed_stands t b d e None at_b em = tt
  placed_stands t b d e (Some m) at_b em = (m, get_set_same t b (Some m) (Some d) at_b, laws.meet_second d e m em)

  into_stands : (t : Table D) (b : ℕ) (e : D) (o : Option (Option D)) → slice_get t b ≡ o → OnFound (Unit {0}) (into D meet passes o t b e) (λ t'. Stands D Says t' b e)
  into_stands t b e None at_b = tt
  into_stands t b e (Some None) at_b = (e, get_set_same t b (Some e) None at_b, laws.says_same e)
  into_stands t b e (Some (Some d)) at_b = placed_stands t b d e (meet d e) at_b refl

  give_stands : (N : ℕ) (t : Table D) (ps : Sent D) → Tall N t → Low N t ps → OnFound (Unit {0}) (give D meet passes t ps) (λ t'. AllStand D Says t' ps)
  give_stands N t [] tall low = tt
  give_stands N t (p ∷ ps) tall low =
      then_on (Unit {0}) (λ t'. Went N t t' (Stands D Says t p.0 p.1) × Stands D Says t' p.0 p.1) (λ t'. AllStand D Says t' (p ∷ ps)) (into D meet passes (slice_get t p.0) t p.0 p.1) (λ t. give D meet passes t ps)
      (on_both (Unit {0}) (λ t'. Went N t t' (Stands D Says t p.0 p.1)) (λ t'. Stands D Says t' p.0 p.1) (into D meet passes (slice_get t p.0) t p.0 p.1)
      (into_went N t p.0 p.1 tall low.0 (slice_get t p.0) refl)
      (into_stands t p.0 p.1 (slice_get t p.0) refl))
      (λ t1 w1. on_map (Unit {0}) (λ t2. Went N t1 t2 (AllStand D Says t1 ps) × AllStand D Says t2 ps) (λ t2. AllStand D Says t2 (p ∷ ps)) (give D meet passes t1 ps)
      (on_both (Unit {0}) (λ t2. Went N t1 t2 (AllStand D Says t1 ps)) (λ t2. AllStand D Says t2 ps) (give D meet passes t1 ps)
      (give_went N t1 ps w1.0.tall (low_later N t t1 ps w1.0.fewer low.1))
      (give_stands N t1 ps w1.0.tall (low_later N t t1 ps w1.0.fewer low.1)))
      (λ t2 w2. ((stand_later t1 t2 (p ∷ []) w2.0.sinks (w1.1, tt)).0, w2.1)))

  -- ---- from the starts
  pub record Final (size : ℕ) (starts : Sent D) (t : Table D) : Type 0 where
    pub len : length t ≡ size
    pub started : AllStand D Says t starts
    pub settled : AllSettled D passes Says t
    pub still : round D meet passes t ≡ Holds t

  no_more_room : (N : ℕ) (t t' : Table D) (S : Type 0) → ((t' ≡ t) × S) ⊎ (room N t' < room N t) → room N t' ≤ room N t
  no_more_room N t t' S (inl same) = omega (arith, ap (room N) same.0)
  no_more_room N t t' S (inr less) = omega (arith, less)

  below : (a b c : ℕ) → a ≤ b → b < c → a < c
  below a b c le lt = omega (arith, le, lt)

  less_room : (N n size : ℕ) (t : Table D) (S : Type 0) → ((t ≡ blank D size) × S) ⊎ (room N t < room N (blank D size)) → size * cap N < n → room N t < n
  less_room N n size t S still lt =
      below (room N t) (size * cap N) n (subst (λ x. room N t ≤ x) (blank_worth weight (cap N) size) (no_more_room N (blank D size) t S still)) lt

  -- with more rounds than all that can stand has to lose
  pub after_ends : (N n size : ℕ) (starts : Sent D) → Low N (blank D size) starts → size * cap N < n → OnFound (Unit {0}) (after D meet passes n size starts) (λ t. Final size starts t)
  after_ends N n size starts low lt =
      then_on (Unit {0}) (λ t. Went N (blank D size) t (AllStand D Says (blank D size) starts) × AllStand D Says t starts) (λ t. Final size starts t) (first D meet passes size starts) (λ t. rounds D meet passes n t)
      (on_both (Unit {0}) (λ t. Went N (blank D size) t (AllStand D Says (blank D size) starts)) (λ t. AllStand D Says t starts) (first D meet passes size starts)
      (give_went N (blank D size) starts (λ a d e. blank_none size a d e) low)
      (give_stands N (blank D size) starts (λ a d e. blank_none size a d e) low))
      (λ t w. on_map (Unit {0}) (λ t'. Done t t') (λ t'. Final size starts t') (rounds D meet passes n t)
      (rounds_end N n t w.0.tall (less_room N n size t (AllStand D Says (blank D size) starts) w.0.still lt))
      (λ t' d. record { len = d.len ∙ w.0.len ∙ blank_long D size; started = stand_later t t' starts d.sinks w.1; settled = d.settles; still = d.still }))
