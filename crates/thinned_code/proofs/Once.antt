-- No barrier of thinned code tests again.
use Rattle.std.proofs.Common.{IsTrue, ◌≡◌, ℕ, zero, suc, ◌+◌, ◌<◌, List, [], ◌∷◌, map, Bool, true, false, not, Option, Some, None, length, slice_get, refl, sym, ap, ap₂, ◌∙◌, subst, arith}
use Rattle.std.proofs.lemmas.Bool.{and_parts, true≢false}
use Rattle.lam_bytecode.specs.Codes.{CodeTree}
use Rattle.lam_bytecode.specs.declared.unit.CodeUnit.{CodeUnit}
use Rattle.lam_bytecode.specs.declared.unit.UnitKind.{UnitKind}
use Rattle.lam_bytecode.specs.declared.unit.UnitKind.TheVariants.{Function, Region}
use Rattle.lam_bytecode.specs.declared.op.Op.{Op}
use Rattle.lam_bytecode.specs.declared.op.Op.TheVariants.{Jump, JumpIfFalse}
use Rattle.guarded_code.specs.Rounds.{Table}
use Rattle.guarded_code.specs.Descriptions.{Description}
use Rattle.guarded_code.specs.Changes.{goes}
use Rattle.guarded_code.specs.Breaks.{names_something, all_within, start_places, IsGuarded}
use Rattle.guarded_code.specs.Facts.{IsUnitGuarded}
use Rattle.guarded_code.proofs.Tables.{none_some, some_inj}
use Rattle.guarded_code.proofs.Breaking.{guarded_means}
use Rattle.guarded_code.proofs.Passing.{again_more}
use Rattle.thinned_code.specs.Thinned.{tests_again, stays, staying, moved_kind, moved_op, sifted, thin_unit, thinned_unit, thin_code, thinned}
use Rattle.thinned_code.specs.Facts.{ThinnedOnce}
use Rattle.thinned_code.proofs.Sifting.{AllStay, sifted_all, moved_all}
use Rattle.thinned_code.proofs.Ops.{again_moved}
use Rattle.thinned_code.proofs.Units.{unit_at}
use Rattle.thinned_code.proofs.Thinning.{staying_long, map_some}
use Rattle.thinned_code.proofs.Targets.{Targets, targets_of, first_within}
use Rattle.thinned_code.proofs.Guarding.{Sides, sides, from, thin_unit_guarded}
use Rattle.thinned_code.proofs.Thinned.{thin_is, unit_is, stays_guarded}

-- ---- all operations of a thinned unit stay
stays_at : (ops : List Op) (t : Table Description) (a : ℕ) (op : Op) (o : Option Description) → slice_get ops a ≡ Some op → slice_get t a ≡ Some o → slice_get (staying ops t) a ≡ Some (stays op o)
stays_at [] t a op o e f = none_some e
stays_at (p ∷ ops) [] a op o e f = none_some f
stays_at (p ∷ ops) (x ∷ t) zero op o e f = ap₂ (λ q y. Some (stays q y)) (some_inj e) (some_inj f)
stays_at (p ∷ ops) (x ∷ t) (suc a) op o e f = stays_at ops t a op o e f

stays_here : (op : Op) (o : Option Description) → ((d : Description) → o ≡ Some d → tests_again op d ≡ false) → stays op o ≡ true
stays_here op None h = refl
stays_here op (Some d) h = ap not (h d refl)

all_stay : (ops : List Op) (t : Table Description) → ((b : ℕ) (op : Op) (d : Description) → slice_get ops b ≡ Some op → slice_get t b ≡ Some (Some d) → tests_again op d ≡ false) → AllStay (staying ops t)
all_stay [] t h = tt
all_stay (op ∷ ops) [] h = (refl, all_stay ops [] (λ b p d e f. none_some f))
all_stay (op ∷ ops) (o ∷ t) h = (stays_here op o (λ d e. h 0 op d refl (ap (λ x. Some x) e)), all_stay ops t (λ b p d e f. h (suc b) p d e f))

tests_no_more : (code : CodeTree) (u : CodeUnit) (t t' : Table Description) → Sides code u t t' → (b : ℕ) (op : Op) (d : Description) → slice_get (thin_unit (staying u.ops t) u).ops b ≡ Some op → slice_get t' b ≡ Some (Some d) → tests_again op d ≡ false
tests_no_more code u t t' s b op d at_op at_d = by (tests_again op d) refl
  where
    by : (x : Bool) → tests_again op d ≡ x → tests_again op d ≡ false
    by false e = e
    by true e =
        let f = from code u t t' s b op d at_op at_d in
        let old = again_more f.op f.desc d f.less (sym (again_moved (staying u.ops t) f.op d) ∙ ap (λ p. tests_again p d) f.same ∙ e) in
        absurd (true≢false (some_inj (sym f.kept ∙ stays_at u.ops t f.place f.op (Some f.desc) f.op_at f.desc_at) ∙ ap not old))

-- ---- where all stay the unit is the same
op_still : (ks : List Bool) (size a : ℕ) (op : Op) → AllStay ks → length ks ≡ size → IsTrue (all_within size (goes a op)) → moved_op ks op ≡ op
op_still ks size a (Jump to) h e w =
    let lt = (first_within size to [] w).0 in ap (λ n. Jump n) (moved_all ks to h (omega (arith, lt, e)))
op_still ks size a (JumpIfFalse to) h e w =
    let lt = (first_within size to [] (first_within size (a + 1) (to ∷ []) w).1).0 in
    ap (λ n. JumpIfFalse n) (moved_all ks to h (omega (arith, lt, e)))
op_still ks size a op h e w = refl

map_same : {A : Type 0} (f : A → A) (xs : List A) → ((n : ℕ) (x : A) → slice_get xs n ≡ Some x → f x ≡ x) → map f xs ≡ xs
map_same f [] h = refl
map_same f (x ∷ xs) h = ap₂ (λ y ys. y ∷ ys) (h 0 x refl) (map_same f xs (λ n y e. h (suc n) y e))

kind_still : (ks : List Bool) (size : ℕ) (kind : UnitKind) → AllStay ks → length ks ≡ size → ((r n to : ℕ) → kind ≡ Region r n to → to < size) → moved_kind ks kind ≡ kind
kind_still ks size (Function name takes gives_int) h e inside = refl
kind_still ks size (Region region captures catch_at) h e inside =
    let lt = inside region captures catch_at refl in
    ap (λ n. Region region captures n) (moved_all ks catch_at h (omega (arith, lt, e)))

abbrev unit_of : ℕ → UnitKind → List Op → CodeUnit
unit_of locals kind ops = record { kind = kind; locals = locals; ops = ops }

catch_inside : (code : CodeTree) (u : CodeUnit) → Targets code u → (r n to : ℕ) → u.kind ≡ Region r n to → to < length u.ops
catch_inside code u h r n to e =
    let places = subst (λ (kind : UnitKind). IsTrue (all_within (length u.ops) (start_places (unit_of u.locals kind u.ops)))) e h.places in
    (first_within (length u.ops) to [] (first_within (length u.ops) 0 (to ∷ []) places).1).0

unit_still : (code : CodeTree) (u : CodeUnit) (ks : List Bool) → Targets code u → AllStay ks → length ks ≡ length u.ops → thin_unit ks u ≡ u
unit_still code u ks h stay e =
    let ops = map_same (moved_op ks) u.ops (λ a op at. op_still ks (length u.ops) a op stay e (and_parts (names_something code u.locals op) (all_within (length u.ops) (goes a op)) (h.each a op at)).1) in
    ap₂ (unit_of u.locals) (kind_still ks (length u.ops) u.kind stay e (catch_inside code u h)) (ap (sifted ks) ops ∙ sifted_all ks u.ops stay (sym e))

-- ---- thinned once more
unit_once : (code : CodeTree) (u : CodeUnit) → IsUnitGuarded code u → thinned_unit (thin_code code) (thinned_unit code u) ≡ thinned_unit code u
unit_once code u g =
    let thin = thin_unit (staying u.ops g.table) u in
    let s = sides code u g in
    let ks = staying thin.ops s.0 in
    let again = thin_unit_guarded code u g in
    subst (λ v. thinned_unit (thin_code code) v ≡ v) (sym (unit_is code u g.table g.found))
    (unit_is (thin_code code) thin s.0 s.1.found
    ∙ unit_still (thin_code code) thin ks (targets_of (thin_code code) thin again.targets) (all_stay thin.ops s.0 (tests_no_more code u g.table s.0 s.1)) (staying_long thin.ops s.0))

abbrev with_units : CodeTree → List CodeUnit → CodeTree
with_units code us = record { units = us; constants = code.constants; classes = code.classes }

code_once : (code : CodeTree) → IsGuarded code → thin_code (thin_code code) ≡ thin_code code
code_once code guarded =
    ap (with_units code)
    (map_same (thinned_unit (thin_code code)) (thin_code code).units
    (λ n v at.
    let old = map_some (thinned_unit code) (slice_get code.units n) v (sym (unit_at code code.units n) ∙ at) in
    subst (λ x. thinned_unit (thin_code code) x ≡ x) old.2 (unit_once code old.0 ((guarded_means code).0 guarded n old.0 old.1))))

pub thinned_once : ThinnedOnce
thinned_once code guarded =
    thin_is (thinned code) (stays_guarded code guarded)
    ∙ ap thin_code (thin_is code guarded)
    ∙ code_once code guarded
    ∙ sym (thin_is code guarded)
