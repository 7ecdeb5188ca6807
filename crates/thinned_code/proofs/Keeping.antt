-- What holds of each description through the rounds, by its address.
use Rattle.std.proofs.Common.{◌≡◌, ℕ, zero, suc, ◌+◌, [], ◌∷◌, Option, Some, None, length, slice_get, slice_set, refl, sym, ◌∙◌, subst, ⊎_elim}
use Rattle.std.proofs.lemmas.Bool.{cases_eq}
use Rattle.guarded_code.specs.Rounds.{Table, OnFound, Sent, blank, placed, into, give, handed, visit, sweep, round, rounds, first, after}
use Rattle.guarded_code.proofs.Tables.{some_inj, get_set_same, get_set_other, then_on, blank_none}

module _ (D : Type 0) (meet : D → D → Option D) (passes : ℕ → D → Option (Sent D)) (P : ℕ → D → Type 0) where
  abbrev pub AllHave : Sent D → Type 0
  AllHave [] = Unit {0}
  AllHave (p ∷ ps) = P p.0 p.1 × AllHave ps

  abbrev pub Kept : Table D → Type 0
  Kept t = (a : ℕ) (d : D) → slice_get t a ≡ Some (Some d) → P a d

  -- meeting and passing on keep P
  pub record Keeps : Type 0 where
    pub by_meet : (b : ℕ) (d e m : D) → P b d → P b e → meet d e ≡ Some m → P b m
    pub by_pass : (a : ℕ) (d : D) (ps : Sent D) → P a d → passes a d ≡ Some ps → AllHave ps

  set_kept : (t : Table D) (b : ℕ) (o : Option D) (m : D) → Kept t → slice_get t b ≡ Some o → P b m → Kept (slice_set t b (Some m))
  set_kept t b o m kept at_b p a d e =
      ⊎_elim
      (λ same. subst (λ x. P x d) (sym same) (subst (P b) (some_inj (some_inj (sym (get_set_same t b (Some m) o at_b) ∙ subst (λ y. slice_get (slice_set t b (Some m)) y ≡ Some (Some d)) same e))) p))
      (λ other. kept a d (sym (get_set_other t b a (Some m) other) ∙ e))
      (cases_eq a b)

  placed_kept : (t : Table D) (b : ℕ) (d e : D) → Keeps → Kept t → slice_get t b ≡ Some (Some d) → P b e → (m : Option D) → meet d e ≡ m → OnFound (Unit {0}) (placed D meet passes t b m) Kept
  placed_kept t b d e keeps kept at_b p None em = tt
  placed_kept t b d e keeps kept at_b p (Some m) em = set_kept t b (Some d) m kept at_b (keeps.by_meet b d e m (kept b d at_b) p em)

  into_kept : (t : Table D) (b : ℕ) (e : D) → Keeps → Kept t → P b e → (o : Option (Option D)) → slice_get t b ≡ o → OnFound (Unit {0}) (into D meet passes o t b e) Kept
  into_kept t b e keeps kept p None at_b = tt
  into_kept t b e keeps kept p (Some None) at_b = set_kept t b None e kept at_b p
  into_kept t b e keeps kept p (Some (Some d)) at_b = placed_kept t b d e keeps kept at_b p (meet d e) refl

  give_kept : (t : Table D) (ps : Sent D) → Keeps → Kept t → AllHave ps → OnFound (Unit {0}) (give D meet passes t ps) Kept
  give_kept t [] keeps kept have = kept
  give_kept t (p ∷ ps) keeps kept have =
      then_on (Unit {0}) Kept Kept (into D meet passes (slice_get t p.0) t p.0 p.1) (λ t. give D meet passes t ps)
      (into_kept t p.0 p.1 keeps kept have.0 (slice_get t p.0) refl)
      (λ t1 kept1. give_kept t1 ps keeps kept1 have.1)

  handed_kept : (t : Table D) (a : ℕ) (d : D) → Keeps → Kept t → P a d → (o : Option (Sent D)) → passes a d ≡ o → OnFound (Unit {0}) (handed D meet passes a t o) Kept
  handed_kept t a d keeps kept p None e = tt
  handed_kept t a d keeps kept p (Some ps) e = give_kept t ps keeps kept (keeps.by_pass a d ps p e)

  visit_kept : (t : Table D) (a : ℕ) → Keeps → Kept t → (o : Option (Option D)) → slice_get t a ≡ o → OnFound (Unit {0}) (visit D meet passes a t o) Kept
  visit_kept t a keeps kept (Some (Some d)) at_a = handed_kept t a d keeps kept (kept a d at_a) (passes a d) refl
  visit_kept t a keeps kept o at_a = kept

  sweep_kept : (k a : ℕ) (t : Table D) → Keeps → Kept t → OnFound (Unit {0}) (sweep D meet passes k a t) Kept
  sweep_kept zero a t keeps kept = kept
  sweep_kept (suc k) a t keeps kept =
      then_on (Unit {0}) Kept Kept (visit D meet passes a t (slice_get t a)) (λ t. sweep D meet passes k (a + 1) t)
      (visit_kept t a keeps kept (slice_get t a) refl)
      (λ t1 kept1. sweep_kept k (a + 1) t1 keeps kept1)

  rounds_kept : (n : ℕ) (t : Table D) → Keeps → Kept t → OnFound (Unit {0}) (rounds D meet passes n t) Kept
  rounds_kept zero t keeps kept = kept
  rounds_kept (suc n) t keeps kept =
      then_on (Unit {0}) Kept Kept (round D meet passes t) (λ t. rounds D meet passes n t)
      (sweep_kept (length t) 0 t keeps kept)
      (λ t1 kept1. rounds_kept n t1 keeps kept1)

  pub after_kept : (n size : ℕ) (starts : Sent D) → Keeps → AllHave starts → OnFound (Unit {0}) (after D meet passes n size starts) Kept
  after_kept n size starts keeps have =
      then_on (Unit {0}) Kept Kept (first D meet passes size starts) (λ t. rounds D meet passes n t)
      (give_kept (blank D size) starts keeps (λ a d e. blank_none size a d e) have)
      (λ t kept. rounds_kept n t keeps kept)
