-- Where a thread stands in thinned code.
use Rattle.std.proofs.Common.{IsTrue, ◌≡◌, ℕ, suc, ◌+◌, List, [], ◌∷◌, map, Bool, true, false, if◌then◌else◌, Option, Some, None, length, slice_get, option_map, refl, sym, ap, ◌∙◌, subst, arith}
use Rattle.std.proofs.lemmas.Bool.{and_parts}
use Rattle.std.proofs.lemmas.Option.{slice_get_within}
use Rattle.lam_bytecode.specs.Codes.{CodeTree}
use Rattle.lam_bytecode.specs.declared.unit.CodeUnit.{CodeUnit}
use Rattle.lam_bytecode.specs.declared.unit.UnitKind.{UnitKind}
use Rattle.lam_bytecode.specs.declared.unit.UnitKind.TheVariants.{Function, Region}
use Rattle.lam_bytecode.specs.declared.op.Op.{Op}
use Rattle.thread_steps.specs.Threads.{Frame, Phase, Bottom, Body, Catch}
use Rattle.thread_steps.specs.Ops.{is_region, UnitAt, region_from, region_in}
use Rattle.thread_steps.specs.Next.{outermost, catch_at, catch_place, unit_number}
use Rattle.guarded_code.specs.Rounds.{Found, Holds, Broke}
use Rattle.guarded_code.specs.Descriptions.{Description}
use Rattle.guarded_code.specs.Changes.{goes, descriptions}
use Rattle.guarded_code.specs.Breaks.{names_something, all_within, IsGuarded}
use Rattle.guarded_code.proofs.Tables.{none_some, some_inj, get_within}
use Rattle.guarded_code.proofs.Breaking.{guarded_means}
use Rattle.thinned_code.specs.Thinned.{staying_by, staying_in, moved, moved_op, moved_kind, thinned_unit, thin_code}
use Rattle.thinned_code.proofs.Sifting.{moved_zero}
use Rattle.thinned_code.proofs.Units.{unit_at, thinned_at, same_region}
use Rattle.thinned_code.proofs.Thinning.{staying_long, op_moved}
use Rattle.thinned_code.proofs.Targets.{targets_of}
use Rattle.thinned_code_acts.specs.Moved.{staying_of, staying_at, moved_frame, moved_phase}

module _ (code : CodeTree) where
  pub staying_is : (n : ℕ) (u : CodeUnit) → slice_get code.units n ≡ Some u → staying_at code n ≡ staying_in code u
  unfolding staying_at
  staying_is n u e = ap (staying_of code) e

  staying_none : (n : ℕ) → slice_get code.units n ≡ None → staying_at code n ≡ []
  unfolding staying_at
  staying_none n e = ap (staying_of code) e

  by_long : (ops : List Op) (o : Found Description) → length (staying_by ops o) ≡ length ops
  by_long ops (Holds t) = staying_long ops t
  by_long ops (Broke a) = staying_long ops []

  pub staying_count : (u : CodeUnit) → length (staying_in code u) ≡ length u.ops
  staying_count u = by_long u.ops (descriptions code u)

  -- a unit, and an operation of it that stays
  pub record StayingOp (n at : ℕ) : Type 0 where
    pub unit : CodeUnit
    pub op : Op
    pub unit_is : slice_get code.units n ≡ Some unit
    pub op_is : slice_get unit.ops at ≡ Some op
    pub thin_op : slice_get (thinned_unit code unit).ops (moved (staying_at code n) at) ≡ Some (moved_op (staying_at code n) op)

  pub staying_op : (n at : ℕ) → slice_get (staying_at code n) at ≡ Some true → StayingOp n at
  staying_op n at e = by (slice_get code.units n) refl
    where
      by : (o : Option CodeUnit) → slice_get code.units n ≡ o → StayingOp n at
      by None f = none_some (sym (ap (λ ks. slice_get ks at) (staying_none n f)) ∙ e)
      by (Some u) f =
          let same = staying_is n u f in
          let here = sym (ap (λ ks. slice_get ks at) same) ∙ e in
          let within = slice_get_within (staying_in code u) at true here in
          let found = get_within u.ops at (omega (arith, within, staying_count u)) in
          record {
            unit = u;
            op = found.0;
            unit_is = f;
            op_is = found.1;
            thin_op = subst (λ ks. slice_get (thinned_unit code u).ops (moved ks at) ≡ Some (moved_op ks found.0)) (sym same) (op_moved (staying_in code u) u.ops at here ∙ ap (option_map (moved_op (staying_in code u))) found.1);
          }

  pub thin_unit_is : (n : ℕ) (u : CodeUnit) → slice_get code.units n ≡ Some u → slice_get (thin_code code).units n ≡ Some (thinned_unit code u)
  thin_unit_is n u e = unit_at code code.units n ∙ ap (option_map (thinned_unit code)) e

  -- an operation goes on at addresses of its unit, and at its new address too
  pub goes_inside : IsGuarded code → (n at : ℕ) (u : CodeUnit) (op : Op) → slice_get code.units n ≡ Some u → slice_get u.ops at ≡ Some op → IsTrue (all_within (length u.ops) (goes at op))
  goes_inside guarded n at u op e f =
      let targets = targets_of code u ((guarded_means code).0 guarded n u e).targets in
      (and_parts (names_something code u.locals op) (all_within (length u.ops) (goes at op)) (targets.each at op f)).1

-- ---- the unit of a region

region_found : (n r : ℕ) (us : List CodeUnit) (u : UnitAt) → region_from n r us ≡ Some u → (i : ℕ) × (u.number ≡ n + i) × (slice_get us i ≡ Some u.it)
region_found n r [] u e = none_some e
region_found n r (v ∷ us) u e = by (is_region r v.kind) e (region_found (n + 1) r us u)
  where
    by : (b : Bool) → (if b then Some (record { number = n; it = v }) else region_from (n + 1) r us) ≡ Some u → (region_from (n + 1) r us ≡ Some u → (i : ℕ) × (u.number ≡ n + 1 + i) × (slice_get us i ≡ Some u.it)) → (i : ℕ) × (u.number ≡ n + i) × (slice_get (v ∷ us) i ≡ Some u.it)
    by true f later =
        let z : n ≡ n + 0 = omega arith in
        (0, sym (ap (λ (x : UnitAt). x.number) (some_inj f)) ∙ z, ap (λ (x : UnitAt). Some x.it) (some_inj f))
    by false f later =
        let more = later f in
        let z : n + 1 + more.0 ≡ n + suc more.0 = omega arith in
        (suc more.0, more.1 ∙ z, more.2)

module _ (code : CodeTree) where
  region_staying : (r : ℕ) (u : UnitAt) → region_in r code.units ≡ Some u → staying_at code u.number ≡ staying_in code u.it
  region_staying r u e =
      let f = region_found 0 r code.units u e in
      let z : 0 + f.0 ≡ f.0 = omega arith in
      staying_is code u.number u.it (ap (slice_get code.units) (f.1 ∙ z) ∙ f.2)

  catch_kind : (ks : List Bool) (n : ℕ) (u : CodeUnit) (kind : UnitKind) → u.kind ≡ kind → catch_place (Some (record { number = n; it = record { kind = moved_kind ks u.kind; locals = u.locals; ops = u.ops } })) ≡ moved ks (catch_place (Some (record { number = n; it = u })))
  catch_kind ks n u (Function name takes gives_int) e =
      ap (λ (k : UnitKind). catch_place (Some (record { number = n; it = record { kind = moved_kind ks k; locals = u.locals; ops = u.ops } }))) e
      ∙ sym (moved_zero ks)
      ∙ sym (ap (λ (k : UnitKind). moved ks (catch_place (Some (record { number = n; it = record { kind = k; locals = u.locals; ops = u.ops } })))) e)
  catch_kind ks n u (Region region captures to) e =
      ap (λ (k : UnitKind). catch_place (Some (record { number = n; it = record { kind = moved_kind ks k; locals = u.locals; ops = u.ops } }))) e
      ∙ sym (ap (λ (k : UnitKind). moved ks (catch_place (Some (record { number = n; it = record { kind = k; locals = u.locals; ops = u.ops } })))) e)

  catch_by : (r : ℕ) (o : Option UnitAt) → region_in r code.units ≡ o → catch_place (option_map (thinned_at code) o) ≡ moved (staying_at code (unit_number o)) (catch_place o)
  catch_by r None e = sym (moved_zero (staying_at code 0))
  catch_by r (Some u) e = catch_kind (staying_in code u.it) u.number u.it u.it.kind refl ∙ ap (λ ks. moved ks (catch_place (Some u))) (sym (region_staying r u e))

  -- its catch place in thinned code, and its number
  pub catch_moved : (r : ℕ) → catch_place (region_in r (thin_code code).units) ≡ moved (staying_at code (unit_number (region_in r code.units))) (catch_place (region_in r code.units))
  catch_moved r = ap catch_place (same_region code r code.units) ∙ catch_by r (region_in r code.units) refl

  number_by : (o : Option UnitAt) → unit_number (option_map (thinned_at code) o) ≡ unit_number o
  number_by None = refl
  number_by (Some u) = refl

  pub number_same : (r : ℕ) → unit_number (region_in r (thin_code code).units) ≡ unit_number (region_in r code.units)
  number_same r = ap unit_number (same_region code r code.units) ∙ number_by (region_in r code.units)

  -- ---- the outermost frame
  pub outer_moved : (f : Frame) (fs : List Frame) → outermost (moved_frame code f) (map (moved_frame code) fs) ≡ moved_frame code (outermost f fs)
  outer_moved f [] = refl
  outer_moved f (g ∷ fs) = outer_moved g fs

pub outer_same : (f g : Frame) (fs : List Frame) → f.unit ≡ g.unit → (outermost f fs).unit ≡ (outermost g fs).unit
outer_same f g [] e = e
outer_same f g (h ∷ fs) e = refl

pub catch_at_moved : (ks : List Bool) (ph : Phase) → catch_at (moved_phase ks ph) ≡ moved ks (catch_at ph)
catch_at_moved ks Bottom = sym (moved_zero ks)
catch_at_moved ks (Body to) = refl
catch_at_moved ks Catch = sym (moved_zero ks)
