-- A unit with a layout breaks no rule.
use Rattle.std.proofs.Common.{IsTrue, ◌≡◌, ℕ, suc, ◌+◌, Bool, true, if◌then◌else◌, List, [], ◌∷◌, map, Option, Some, None, length, slice_get, refl, sym, ap, ◌∙◌, subst, arith}
use Rattle.std.specs.Prelude.{nat_lt, option_map}
use Rattle.std.proofs.lemmas.Bool.{and_from, lt-ltb, le-leb}
use Rattle.std.proofs.lemmas.Option.{slice_get_within}
use Rattle.lam_bytecode.specs.Codes.{CodeTree}
use Rattle.lam_bytecode.specs.declared.unit.CodeUnit.{CodeUnit}
use Rattle.lam_bytecode.specs.declared.op.Op.{Op}
use Rattle.lam_bytecode.specs.declared.op.Op.TheVariants.{Eq, Ne, GetField, PutField, GetElement, PutElement}
use Rattle.guarded_code.specs.Rounds.{Sent, Found, Holds, Broke, OnFound}
use Rattle.guarded_code.specs.declared.known.ValueKind.{ValueKind}
use Rattle.guarded_code.specs.declared.known.Operand.{Operand}
use Rattle.guarded_code.specs.Descriptions.{Description, meet, starts}
use Rattle.guarded_code.specs.Changes.{Change, change, wanted, left, changed, goes, sent, passed, passes, enough, descriptions}
use Rattle.guarded_code.specs.Breaks.{names_something, all_within, is_well_targeted, first_failing_op, first_bad_target, two_agree, compares, takes_kinds, is_guarded}
use Rattle.guarded_code.specs.Says.{Pairwise}
use Rattle.guarded_code.specs.Facts.{IsUnitGuarded}
use Rattle.guarded_code.proofs.Tables.{some_inj, get_within}
use Rattle.guarded_code.proofs.Lists.{each_long_same}
use Rattle.compiled_code_guarded.specs.Layouts.{Fact, Shape, OperandFits, HasFact, Fits, TakesKinds, TwoAgree, Compares, IsBehind, AllLead, StartsFit, IsLegal, IsLayout, LaidOutIsGuarded}
use Rattle.compiled_code_guarded.proofs.Surely.{AllBound, Surely, Within, after_within}
use Rattle.compiled_code_guarded.proofs.OfKinds.{both_agree, all_taken_fit}
use Rattle.compiled_code_guarded.proofs.Fitting.{fits_meet, fits_left, taken_long}

module _ (code : CodeTree) (u : CodeUnit) (ss : List Shape) (lay : IsLayout code u ss) where
  -- a shape stands at the address, and the description fits it
  abbrev Bound : ℕ → Description → Type 0
  Bound a d = (s : Shape) × (slice_get ss a ≡ Some s) × Fits u.locals d s

  bound_meet : (b : ℕ) (d e : Description) → Bound b d → Bound b e → (m : Description) × (meet d e ≡ Some m) × Bound b m
  bound_meet b d e p q =
      let same : q.0 ≡ p.0 = some_inj (sym q.1 ∙ p.1) in
      let m = fits_meet u.locals d e p.0 p.2 (subst (Fits u.locals e) same q.2) in
      (m.0, m.1, (p.0, p.1, m.2))

  -- ---- what is passed on

  abbrev Passing : Option (Sent Description) → Type 0
  Passing o = (ps : Sent Description) × (o ≡ Some ps) × AllBound Description meet (passes code u.ops) Bound (length u.ops) ps

  leads_bound : (c : Change) (d : Description) (s : Shape) (bs : List ℕ) → TakesKinds (wanted c) s.stack → Fits u.locals d s → AllLead ss c s bs → AllBound Description meet (passes code u.ops) Bound (length u.ops) (sent bs (left c d))
  leads_bound c d s [] takes h leads = tt
  leads_bound c d s (b ∷ bs) takes h leads =
      ((leads.0.0, leads.0.1, fits_left u.locals c d s leads.0.0 takes h leads.0.2), leads_bound c d s bs takes h leads.1)

  enough_stand : (c : Change) (d : Description) (s : Shape) → TakesKinds (wanted c) s.stack → Fits u.locals d s → changed c d ≡ Some (left c d)
  enough_stand c d s takes h =
      let long = each_long_same OperandFits d.stack s.stack h.stack in
      let most = taken_long (wanted c) s.stack takes in
      ap (λ b. if b then Some (left c d) else None) (le-leb (length (wanted c)) (length d.stack) (omega (arith, long, most)))

  op_passes : (a : ℕ) (op : Op) (d : Description) (s : Shape) → Fits u.locals d s → IsLegal code u ss a op s → Passing (passed code (Some op) a d)
  op_passes a op d s h legal =
      let c = change code op in (
        sent (goes a op) (left c d),
        ap (option_map (sent (goes a op))) (enough_stand c d s legal.finds.takes h),
        leads_bound c d s (goes a op) legal.finds.takes h legal.leads,
      )

  op_there : (a : ℕ) (s : Shape) → slice_get ss a ≡ Some s → (op : Op) × (slice_get u.ops a ≡ Some op)
  op_there a s e = let within = slice_get_within ss a s e in get_within u.ops a (omega (arith, within, lay.size))

  surely : Surely Description meet (passes code u.ops) Bound (length u.ops)
  surely = record {
    by_meet = bound_meet;
    by_pass = λ a d p. let op = op_there a p.0 p.1 in
        subst (λ o. Passing (passed code o a d)) (sym op.1) (op_passes a op.0 d p.0 p.2 (lay.legal a op.0 p.0 op.1 p.1));
    inside = λ b d p. let within = slice_get_within ss b p.0 p.1 in omega (arith, within, lay.size);
  }

  starts_bound : (ps : Sent Description) → StartsFit u.locals ss ps → AllBound Description meet (passes code u.ops) Bound (length u.ops) ps
  starts_bound [] h = tt
  starts_bound (p ∷ ps) h = (h.0, starts_bound ps h.1)

  -- ---- targets

  starts_within : (ps : Sent Description) → StartsFit u.locals ss ps → all_within (length u.ops) (map (λ (p : ℕ × Description). p.0) ps) ≡ true
  starts_within [] h = refl
  starts_within (p ∷ ps) h =
      let within = slice_get_within ss p.0 h.0.0 h.0.1 in
      and_from (nat_lt p.0 (length u.ops)) (all_within (length u.ops) (map (λ (p : ℕ × Description). p.0) ps)) (lt-ltb p.0 (length u.ops) (omega (arith, within, lay.size))) (starts_within ps h.1)

  leads_within : (c : Change) (s : Shape) (bs : List ℕ) → AllLead ss c s bs → all_within (length u.ops) bs ≡ true
  leads_within c s [] h = refl
  leads_within c s (b ∷ bs) h =
      let within = slice_get_within ss b h.0.0 h.0.1 in
      and_from (nat_lt b (length u.ops)) (all_within (length u.ops) bs) (lt-ltb b (length u.ops) (omega (arith, within, lay.size))) (leads_within c s bs h.1)

  well_targeted : (a : ℕ) (op : Op) → slice_get u.ops a ≡ Some op → is_well_targeted code u a op ≡ true
  well_targeted a op e =
      let within = slice_get_within u.ops a op e in
      let s = get_within ss a (omega (arith, within, lay.size)) in
      let legal = lay.legal a op s.0 e s.1 in
      and_from (names_something code u.locals op) (all_within (length u.ops) (goes a op)) legal.finds.names (leads_within (change code op) s.0 (goes a op) legal.leads)

  none_failing : (test : ℕ → Op → Bool) (a : ℕ) (ops : List Op) → ((i : ℕ) (op : Op) → slice_get ops i ≡ Some op → test (a + i) op ≡ true) → first_failing_op test a ops ≡ None
  none_failing test a [] h = refl
  none_failing test a (op ∷ ops) h =
      let here : a + 0 ≡ a = omega arith in
      ap (λ b. if b then first_failing_op test (a + 1) ops else Some a) (subst (λ k. test k op ≡ true) here (h 0 op refl)) ∙
      none_failing test (a + 1) ops (λ i o e. let next : a + suc i ≡ a + 1 + i = omega arith in subst (λ k. test k o ≡ true) next (h (suc i) o e))

  no_bad_target : first_bad_target code u ≡ None
  no_bad_target =
      ap (λ b. if b then first_failing_op (is_well_targeted code u) 0 u.ops else Some 0) (starts_within (starts u) lay.started) ∙
      none_failing (is_well_targeted code u) 0 u.ops (λ i op e. let z : i ≡ 0 + i = omega arith in subst (λ k. is_well_targeted code u k op ≡ true) z (well_targeted i op e))

  -- ---- kinds and facts

  two_agree_by : (os : List Operand) (ks : List ValueKind) → Pairwise OperandFits os ks → TwoAgree ks → two_agree os ≡ true
  two_agree_by [] ks h t = refl
  two_agree_by (o ∷ []) ks h t = refl
  two_agree_by (o ∷ p ∷ os) [] h t = absurd h
  two_agree_by (o ∷ p ∷ os) (k ∷ []) h t = absurd h.1
  two_agree_by (o ∷ p ∷ os) (k ∷ m ∷ ks) h t =
      both_agree o.known.kind p.known.kind k t.1 h.0 (subst (OperandFits p) (sym t.0) h.1.0)

  compares_by : (op : Op) (os : List Operand) (ks : List ValueKind) → Pairwise OperandFits os ks → Compares op ks → compares op os ≡ true
  compares_by Eq os ks h t = two_agree_by os ks h t
  compares_by Ne os ks h t = two_agree_by os ks h t
  compares_by op os ks h t = refl

  takes_by : (op : Op) (d : Description) (s : Shape) → Fits u.locals d s → TakesKinds (wanted (change code op)) s.stack → Compares op s.stack → IsTrue (takes_kinds code op d)
  takes_by op d s h takes two =
      and_from _ (compares op d.stack) (all_taken_fit (wanted (change code op)) d.stack s.stack takes h.stack) (compares_by op d.stack s.stack h.stack two)

  guarded_by : (op : Op) (d : Description) (m : Option Fact) → HasFact m d.stack → IsBehind op m → IsTrue (is_guarded op d)
  guarded_by (GetField f) d m h b = subst (λ x. HasFact x d.stack) b h
  guarded_by (PutField f) d m h b = subst (λ x. HasFact x d.stack) b h
  guarded_by GetElement d m h b = subst (λ x. HasFact x d.stack) b h
  guarded_by PutElement d m h b = subst (λ x. HasFact x d.stack) b h
  guarded_by op d m h b = refl

  guarded_with : (o : Found Description) → descriptions code u ≡ o → OnFound ⊥ o (Within Description meet (passes code u.ops) Bound (length u.ops)) → IsUnitGuarded code u
  guarded_with (Broke a) e h = absurd h
  guarded_with (Holds t) e h = record {
    targets = no_bad_target;
    table = t;
    found = e;
    taken = λ a op d at_op at_d. let p = h.bounds a d at_d in
        let legal = lay.legal a op p.0 at_op p.1 in
        takes_by op d p.0 p.2 legal.finds.takes legal.finds.compares;
    guarded = λ a op d at_op at_d. let p = h.bounds a d at_d in
        guarded_by op d p.0.fact p.2.fact (lay.legal a op p.0 at_op p.1).finds.behind;
  }

  unit_guarded : IsUnitGuarded code u
  unit_guarded =
      guarded_with (descriptions code u) refl
      (after_within Description meet (passes code u.ops) Bound (length u.ops) (enough u) (starts u) surely (starts_bound (starts u) lay.started))

pub laid_out : LaidOutIsGuarded
laid_out code u ss lay = unit_guarded code u ss lay
