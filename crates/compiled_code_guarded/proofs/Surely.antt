-- What the rounds find at each address stays within bounds that meetings and operations keep, so no round breaks.
use Rattle.std.proofs.Common.{◌≡◌, ℕ, zero, suc, ◌+◌, ◌<◌, Option, Some, None, length, slice_get, slice_set, [], ◌∷◌, refl, sym, ◌∙◌, subst, arith, ⊎_elim, length-set}
use Rattle.std.proofs.lemmas.Bool.{cases_eq}
use Rattle.guarded_code.specs.Rounds.{Table, OnFound, Sent, blank, placed, into, give, handed, visit, sweep, round, rounds, first, after}
use Rattle.guarded_code.proofs.Tables.{none_some, some_inj, get_set_same, get_set_other, get_within, then_on, blank_none, blank_long}

-- Bound a d: d may stand at the address a, of so many
module _ (D : Type 0) (meet : D → D → Option D) (passes : ℕ → D → Option (Sent D)) (Bound : ℕ → D → Type 0) (size : ℕ) where
  abbrev pub AllBound : Sent D → Type 0
  AllBound [] = Unit {0}
  AllBound (p ∷ ps) = Bound p.0 p.1 × AllBound ps

  pub record Surely : Type 0 where
    pub by_meet : (b : ℕ) (d e : D) → Bound b d → Bound b e → (m : D) × (meet d e ≡ Some m) × Bound b m
    pub by_pass : (a : ℕ) (d : D) → Bound a d → (ps : Sent D) × (passes a d ≡ Some ps) × AllBound ps
    pub inside : (b : ℕ) (d : D) → Bound b d → b < size

  pub record Within (t : Table D) : Type 0 where
    pub bounds : (a : ℕ) (d : D) → slice_get t a ≡ Some (Some d) → Bound a d
    pub len : length t ≡ size

  set_within : (t : Table D) (b : ℕ) (o : Option D) (m : D) → Within t → slice_get t b ≡ Some o → Bound b m → Within (slice_set t b (Some m))
  set_within t b o m h at_b p =
      record {
        len = length-set t b (Some m) ∙ h.len;
        bounds = λ a d e. ⊎_elim
            (λ same. subst (λ x. Bound x d) (sym same) (subst (Bound b) (some_inj (some_inj (sym (get_set_same t b (Some m) o at_b) ∙ subst (λ y. slice_get (slice_set t b (Some m)) y ≡ Some (Some d)) same e))) p))
            (λ other. h.bounds a d (sym (get_set_other t b a (Some m) other) ∙ e))
            (cases_eq a b);
      }

  into_within : (t : Table D) (b : ℕ) (e : D) → Surely → Within t → Bound b e → (o : Option (Option D)) → slice_get t b ≡ o → OnFound ⊥ (into D meet passes o t b e) Within
  into_within t b e sure h p None at_b =
      let within = sure.inside b e p in
      let found = get_within t b (omega (arith, within, h.len)) in
      none_some (sym at_b ∙ found.1)
  into_within t b e sure h p (Some None) at_b = set_within t b None e h at_b p
  into_within t b e sure h p (Some (Some d)) at_b =
      let m = sure.by_meet b d e (h.bounds b d at_b) p in
      subst (λ o. OnFound ⊥ (placed D meet passes t b o) Within) (sym m.1) (set_within t b (Some d) m.0 h at_b m.2)

  give_within : (t : Table D) (ps : Sent D) → Surely → Within t → AllBound ps → OnFound ⊥ (give D meet passes t ps) Within
  give_within t [] sure h all = h
  give_within t (p ∷ ps) sure h all =
      then_on ⊥ Within Within (into D meet passes (slice_get t p.0) t p.0 p.1) (λ t. give D meet passes t ps)
      (into_within t p.0 p.1 sure h all.0 (slice_get t p.0) refl)
      (λ t1 h1. give_within t1 ps sure h1 all.1)

  visit_within : (t : Table D) (a : ℕ) → Surely → Within t → (o : Option (Option D)) → slice_get t a ≡ o → OnFound ⊥ (visit D meet passes a t o) Within
  visit_within t a sure h None at_a = h
  visit_within t a sure h (Some None) at_a = h
  visit_within t a sure h (Some (Some d)) at_a =
      let ps = sure.by_pass a d (h.bounds a d at_a) in
      subst (λ o. OnFound ⊥ (handed D meet passes a t o) Within) (sym ps.1) (give_within t ps.0 sure h ps.2)

  sweep_within : (k a : ℕ) (t : Table D) → Surely → Within t → OnFound ⊥ (sweep D meet passes k a t) Within
  sweep_within zero a t sure h = h
  sweep_within (suc k) a t sure h =
      then_on ⊥ Within Within (visit D meet passes a t (slice_get t a)) (λ t. sweep D meet passes k (a + 1) t)
      (visit_within t a sure h (slice_get t a) refl)
      (λ t1 h1. sweep_within k (a + 1) t1 sure h1)

  rounds_within : (k : ℕ) (t : Table D) → Surely → Within t → OnFound ⊥ (rounds D meet passes k t) Within
  rounds_within zero t sure h = h
  rounds_within (suc k) t sure h =
      then_on ⊥ Within Within (round D meet passes t) (λ t. rounds D meet passes k t)
      (sweep_within (length t) 0 t sure h)
      (λ t1 h1. rounds_within k t1 sure h1)

  -- where what comes at the starts is within bounds, no round breaks, and what stands then is within them
  pub after_within : (k : ℕ) (starts : Sent D) → Surely → AllBound starts → OnFound ⊥ (after D meet passes k size starts) Within
  after_within k starts sure all =
      then_on ⊥ Within Within (first D meet passes size starts) (λ t. rounds D meet passes k t)
      (give_within (blank D size) starts sure (record { bounds = λ a d e. blank_none size a d e; len = blank_long D size }) all)
      (λ t h. rounds_within k t sure h)
