-- The rounds leave at least as much as any table that settled the rules.
use Rattle.std.proofs.Common.{◌≡◌, ℕ, zero, suc, ◌+◌, [], ◌∷◌, Option, Some, None, length, slice_get, slice_set, refl, sym, ap, ◌∙◌, subst, arith, ⊎_elim, length-set}
use Rattle.std.proofs.lemmas.Bool.{cases_eq}
use Rattle.std.proofs.lemmas.Option.{slice_get_within}
use Rattle.guarded_code.specs.Rounds.{Table, OnFound, Sent, blank, placed, into, give, handed, visit, sweep, round, rounds, first, after, AllStand, AllSettled, AllSay, Above, Laws}
use Rattle.guarded_code.proofs.Tables.{none_some, some_inj, get_set_same, get_set_other, get_within, then_on, blank_none, blank_long}

module _ (D : Type 0) (meet : D → D → Option D) (passes : ℕ → D → Option (Sent D)) (Says : D → D → Type 0) (weight height : D → ℕ) (laws : Laws D meet passes Says weight height) (s : Table D) where
  set_above : (t : Table D) (b : ℕ) (o : Option D) (m x : D) → Above D Says t s → slice_get t b ≡ Some o → slice_get s b ≡ Some (Some x) → Says m x → Above D Says (slice_set t b (Some m)) s
  set_above t b o m x above at_t at_s says =
      record {
        size = length-set t b (Some m) ∙ above.size;
        says = λ a d e. ⊎_elim
            (λ same. let eq : d ≡ m = some_inj (some_inj (sym (subst (λ y. slice_get (slice_set t b (Some m)) y ≡ Some (Some d)) same e) ∙ get_set_same t b (Some m) o at_t)) in
            (x, ap (slice_get s) same ∙ at_s, subst (λ y. Says y x) (sym eq) says))
            (λ other. above.says a d (sym (get_set_other t b a (Some m) other) ∙ e))
            (cases_eq a b);
      }

  into_above : (t : Table D) (b : ℕ) (e x : D) → Above D Says t s → slice_get s b ≡ Some (Some x) → Says e x → (o : Option (Option D)) → slice_get t b ≡ o → OnFound ⊥ (into D meet passes o t b e) (λ t'. Above D Says t' s)
  into_above t b e x above at_s says None at_t =
      let within = slice_get_within s b (Some x) at_s in
      let found = get_within t b (omega (arith, within, above.size)) in
      none_some (sym at_t ∙ found.1)
  into_above t b e x above at_s says (Some None) at_t = set_above t b None e x above at_t at_s says
  into_above t b e x above at_s says (Some (Some d)) at_t =
      let old = above.says b d at_t in
      let eq : old.0 ≡ x = some_inj (some_inj (sym old.1 ∙ at_s)) in
      let best = laws.meet_best d e x (subst (λ y. Says d y) eq old.2) says in
      subst (λ m. OnFound ⊥ (placed D meet passes t b m) (λ t'. Above D Says t' s)) (sym best.1) (set_above t b (Some d) best.0 x above at_t at_s best.2)

  give_above : (t : Table D) (ps qs : Sent D) → Above D Says t s → AllSay D Says ps qs → AllStand D Says s qs → OnFound ⊥ (give D meet passes t ps) (λ t'. Above D Says t' s)
  give_above t [] [] above say stand = above
  give_above t (p ∷ ps) (q ∷ qs) above say stand =
      then_on ⊥ (λ t'. Above D Says t' s) (λ t'. Above D Says t' s) (into D meet passes (slice_get t p.0) t p.0 p.1) (λ t. give D meet passes t ps)
      (into_above t p.0 p.1 stand.0.0 above (ap (slice_get s) say.0 ∙ stand.0.1) (laws.says_trans p.1 q.1 stand.0.0 say.1 stand.0.2) (slice_get t p.0) refl)
      (λ t1 above1. give_above t1 ps qs above1 say.2 stand.1)
  give_above t ps qs above say stand = absurd say

  visit_above : (t : Table D) (a : ℕ) → AllSettled D passes Says s → Above D Says t s → (o : Option (Option D)) → slice_get t a ≡ o → OnFound ⊥ (visit D meet passes a t o) (λ t'. Above D Says t' s)
  visit_above t a settled above (Some (Some d)) at_a =
      let old = above.says a d at_a in
      let rule = settled a old.0 old.1 in
      let more = laws.passes_more a d old.0 rule.0 old.2 rule.1 in
      subst (λ o. OnFound ⊥ (handed D meet passes a t o) (λ t'. Above D Says t' s)) (sym more.1) (give_above t more.0 rule.0 above more.2 rule.2)
  visit_above t a settled above o at_a = above

  sweep_above : (k a : ℕ) (t : Table D) → AllSettled D passes Says s → Above D Says t s → OnFound ⊥ (sweep D meet passes k a t) (λ t'. Above D Says t' s)
  sweep_above zero a t settled above = above
  sweep_above (suc k) a t settled above =
      then_on ⊥ (λ t'. Above D Says t' s) (λ t'. Above D Says t' s) (visit D meet passes a t (slice_get t a)) (λ t. sweep D meet passes k (a + 1) t)
      (visit_above t a settled above (slice_get t a) refl)
      (λ t1 above1. sweep_above k (a + 1) t1 settled above1)

  -- no round breaks, and each leaves at least as much as s
  pub rounds_above : (n : ℕ) (t : Table D) → AllSettled D passes Says s → Above D Says t s → OnFound ⊥ (rounds D meet passes n t) (λ t'. Above D Says t' s)
  rounds_above zero t settled above = above
  rounds_above (suc n) t settled above =
      then_on ⊥ (λ t'. Above D Says t' s) (λ t'. Above D Says t' s) (round D meet passes t) (λ t. rounds D meet passes n t)
      (sweep_above (length t) 0 t settled above)
      (λ t1 above1. rounds_above n t1 settled above1)

  says_itself : (ps : Sent D) → AllSay D Says ps ps
  says_itself [] = tt
  says_itself (p ∷ ps) = (refl, laws.says_same p.1, says_itself ps)

  pub after_above : (n size : ℕ) (starts : Sent D) → length s ≡ size → AllStand D Says s starts → AllSettled D passes Says s → OnFound ⊥ (after D meet passes n size starts) (λ t. Above D Says t s)
  after_above n size starts long stand settled =
      then_on ⊥ (λ t. Above D Says t s) (λ t. Above D Says t s) (first D meet passes size starts) (λ t. rounds D meet passes n t)
      (give_above (blank D size) starts starts (record { size = blank_long D size ∙ sym long; says = λ a d e. blank_none size a d e }) (says_itself starts) stand)
      (λ t above. rounds_above n t settled above)
