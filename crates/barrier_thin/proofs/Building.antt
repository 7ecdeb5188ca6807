-- Units one by one, and the whole code.
use Rattle.std.proofs.Common.{◌≡◌, ℕ, zero, suc, ◌+◌, ◌<◌, ◌≤◌, List, [], ◌∷◌, ◌++◌, map, Bool, Some, length, get_or, slice_get, drop, refl, sym, ap, ap₂, ◌∙◌, subst, arith, append_assoc}
use Rattle.std.proofs.lemmas.List.{append-nil}
use Rattle.std.proofs.lemmas.List.{length-map}
use Rattle.lam_value.specs.declared.values.Value.{Value}
use Rattle.lam_value.specs.declared.shapes.Kind.{Kind}
use Rattle.lam_bytecode.specs.Codes.{CodeTree, code_of, IsCode}
use Rattle.lam_bytecode.specs.declared.unit.CodeUnit.{CodeUnit}
use Rattle.guarded_code.specs.Breaks.{IsGuarded}
use Rattle.guarded_code.proofs.Tables.{none_some, some_inj}
use Rattle.thinned_code.specs.Thinned.{staying_in, thin_unit, thinned_unit, thin_code, thinned}
use Rattle.thinned_code.proofs.Thinned.{thin_is, stays_code}
use Rattle.barrier_thin.specs.Units.{thin_each}

pub got : {A : Type 0} (xs : List A) (n : ℕ) (x : A) → n < length xs → x ≡ get_or xs n x → slice_get xs n ≡ Some x
got [] n x lt e = absurd (omega (arith, lt))
got (y ∷ xs) zero x lt e = ap (λ z. Some z) (sym e)
got (y ∷ xs) (suc n) x lt e = got xs n x (omega (arith, lt)) e

unit_one : (kss : List (List Bool)) (us : List CodeUnit) (n : ℕ) (ks : List Bool) (u : CodeUnit) → slice_get kss n ≡ Some ks → slice_get us n ≡ Some u → thin_each (drop n kss) (drop n us) ≡ thin_unit ks u ∷ thin_each (drop (suc n) kss) (drop (suc n) us)
unit_one kss [] n ks u e f = none_some f
unit_one [] (v ∷ us) n ks u e f = none_some e
unit_one (ls ∷ kss) (v ∷ us) zero ks u e f = ap₂ (λ x y. thin_unit x y ∷ thin_each kss us) (some_inj e) (some_inj f)
unit_one (ls ∷ kss) (v ∷ us) (suc n) ks u e f = unit_one kss us n ks u e f

-- the units so far, after one more
pub unit_next : (kss : List (List Bool)) (us whole out new : List CodeUnit) (n : ℕ) (ks : List Bool) (u v : CodeUnit) → slice_get kss n ≡ Some ks → slice_get us n ≡ Some u → v ≡ thin_unit ks u → new ≡ out ++ v ∷ [] → out ++ thin_each (drop n kss) (drop n us) ≡ whole → new ++ thin_each (drop (n + 1) kss) (drop (n + 1) us) ≡ whole
unit_next kss us whole out new n ks u v e f g h inv =
    let one : n + 1 ≡ suc n = omega arith in
    ap (λ j. new ++ thin_each (drop j kss) (drop j us)) one
    ∙ ap (λ l. l ++ thin_each (drop (suc n) kss) (drop (suc n) us)) (h ∙ ap (λ x. out ++ x ∷ []) g)
    ∙ append_assoc out (thin_unit ks u ∷ []) (thin_each (drop (suc n) kss) (drop (suc n) us))
    ∙ ap (λ l. out ++ l) (sym (unit_one kss us n ks u e f))
    ∙ inv

none_left : (kss : List (List Bool)) (us : List CodeUnit) (n : ℕ) → length us ≤ n → thin_each kss (drop n us) ≡ []
none_left [] us n le = refl
none_left (ks ∷ kss) [] zero le = refl
none_left (ks ∷ kss) [] (suc n) le = refl
none_left (ks ∷ kss) (u ∷ us) zero le = absurd (omega (arith, le))
none_left (ks ∷ kss) (u ∷ us) (suc n) le = none_left (ks ∷ kss) us n (omega (arith, le))

pub units_end : (kss : List (List Bool)) (us whole out : List CodeUnit) (n : ℕ) → length us ≤ n → out ++ thin_each (drop n kss) (drop n us) ≡ whole → out ≡ whole
units_end kss us whole out n le e =
    sym (append-nil out) ∙ sym (ap (λ l. out ++ l) (none_left (drop n kss) us n le)) ∙ e

-- ---- the whole code
pub same_long : (code : CodeTree) (kss : List (List Bool)) → kss ≡ map (staying_in code) code.units → length kss ≡ length code.units
same_long code kss e = ap length e ∙ length-map code.units (staying_in code)

each_is : (code : CodeTree) (us : List CodeUnit) → thin_each (map (staying_in code) us) us ≡ map (thinned_unit code) us
each_is code [] = refl
each_is code (u ∷ us) = ap (λ vs. thinned_unit code u ∷ vs) (each_is code us)

pub whole_is_thinned : (code : CodeTree) (kss : List (List Bool)) (us : List CodeUnit) (cs : List Value) (ks : List (List Kind)) → IsGuarded code → kss ≡ map (staying_in code) code.units → us ≡ thin_each kss code.units → cs ≡ code.constants → ks ≡ code.classes → code_of us cs ks ≡ thinned code
whole_is_thinned code kss us cs ks guarded e f g h =
    ap (λ x. code_of x cs ks) (f ∙ ap (λ l. thin_each l code.units) e ∙ each_is code code.units)
    ∙ ap₂ (code_of (thin_code code).units) g h
    ∙ sym (thin_is code guarded)

pub whole_is_code : (code : CodeTree) (kss : List (List Bool)) (us : List CodeUnit) (cs : List Value) (ks : List (List Kind)) → IsCode code → IsGuarded code → kss ≡ map (staying_in code) code.units → us ≡ thin_each kss code.units → cs ≡ code.constants → ks ≡ code.classes → IsCode (code_of us cs ks)
whole_is_code code kss us cs ks is guarded e f g h =
    subst IsCode (sym (whole_is_thinned code kss us cs ks guarded e f g h)) (stays_code code is)
