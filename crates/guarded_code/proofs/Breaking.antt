-- A code without a break, unit by unit.
use Rattle.std.proofs.Common.{IsTrue, ◌≡◌, ℕ, zero, suc, ◌+◌, Bool, true, false, if◌then◌else◌, List, [], ◌∷◌, Option, Some, None, slice_get, refl, sym, ap, ◌∙◌, subst}
use Rattle.thread_steps.specs.Codes.{CodeTree}
use Rattle.thread_steps.specs.CodeUnit.{CodeUnit}
use Rattle.thread_steps.specs.Op.{Op}
use Rattle.guarded_code.specs.Rounds.{Table, Found, Holds, Broke}
use Rattle.guarded_code.specs.Descriptions.{Description}
use Rattle.guarded_code.specs.Changes.{descriptions}
use Rattle.guarded_code.specs.Breaks.{Rule, BadTarget, Kind, Unguarded, BrokenAt, CodeBreak, first_bad_target, takes_kinds, is_guarded, passes_where, first_failing, broken, break_found, unit_break, break_in, first_break_from, first_code_break}
use Rattle.guarded_code.specs.Says.{AllPass, AllTaken, AllGuarded}
use Rattle.guarded_code.specs.Facts.{IsUnitGuarded, GuardedMeans}
use Rattle.guarded_code.proofs.Tables.{none_some, some_inj}

pub if_none : (b : Bool) (o : Option ℕ) (a : ℕ) → (if b then o else Some a) ≡ None → (b ≡ true) × (o ≡ None)
if_none true o a e = (refl, e)
if_none false o a e = none_some (sym e)

-- ---- no address fails a test
pub none_fails : (test : Op → Description → Bool) (a : ℕ) (ops : List Op) (t : Table Description) → first_failing test a ops t ≡ None → AllPass (λ op d. IsTrue (test op d)) ops t
none_fails test a [] t e i op d f g = none_some f
none_fails test a (o ∷ ops) [] e i op d f g = none_some g
none_fails test a (o ∷ ops) (x ∷ t) e zero op d f g =
    subst (λ p. IsTrue (test p d)) (some_inj f) (subst (λ y. IsTrue (passes_where test o y)) (some_inj g) (if_none (passes_where test o x) (first_failing test (a + 1) ops t) a e).0)
none_fails test a (o ∷ ops) (x ∷ t) e (suc i) op d f g =
    none_fails test (a + 1) ops t (if_none (passes_where test o x) (first_failing test (a + 1) ops t) a e).1 i op d f g

pub all_pass : (test : Op → Description → Bool) (a : ℕ) (ops : List Op) (t : Table Description) → AllPass (λ op d. IsTrue (test op d)) ops t → first_failing test a ops t ≡ None
all_pass test a (o ∷ ops) (x ∷ t) h =
    ap (λ b. if b then first_failing test (a + 1) ops t else Some a) (here x refl) ∙ all_pass test (a + 1) ops t (λ i op d f g. h (suc i) op d f g)
  where
    here : (y : Option Description) → x ≡ y → passes_where test o x ≡ true
    here None e = ap (passes_where test o) e
    here (Some d) e = ap (passes_where test o) e ∙ h zero o d refl (ap (λ z. Some z) e)
all_pass test a ops t h = refl

-- ---- a unit
broken_none : (rule : Rule) (o : Option ℕ) (later : Option BrokenAt) → broken rule o later ≡ None → (o ≡ None) × (later ≡ None)
broken_none rule None later e = (refl, e)
broken_none rule (Some a) later e = none_some (sym e)

found_none : (code : CodeTree) (u : CodeUnit) (o : Found Description) → break_found code u o ≡ None → (t : Table Description) × (o ≡ Holds t) × AllTaken code u.ops t × AllGuarded u.ops t
found_none code u (Broke a) e = none_some (sym e)
found_none code u (Holds t) e =
    let kinds = broken_none Kind (first_failing (takes_kinds code) 0 u.ops t) (broken Unguarded (first_failing is_guarded 0 u.ops t) None) e in
    let guards = broken_none Unguarded (first_failing is_guarded 0 u.ops t) None kinds.1 in
    (t, refl, none_fails (takes_kinds code) 0 u.ops t kinds.0, none_fails is_guarded 0 u.ops t guards.0)

pub unit_guarded : (code : CodeTree) (u : CodeUnit) → unit_break code u ≡ None → IsUnitGuarded code u
unit_guarded code u e =
    let targets = broken_none BadTarget (first_bad_target code u) (break_found code u (descriptions code u)) e in
    let found = found_none code u (descriptions code u) targets.1 in
    record { targets = targets.0; table = found.0; found = found.1; taken = found.2; guarded = found.3 }

pub unit_unbroken : (code : CodeTree) (u : CodeUnit) → IsUnitGuarded code u → unit_break code u ≡ None
unit_unbroken code u h =
    ap (λ o. broken BadTarget o (break_found code u (descriptions code u))) h.targets
    ∙ ap (break_found code u) h.found
    ∙ ap (λ o. broken Kind o (broken Unguarded (first_failing is_guarded 0 u.ops h.table) None)) (all_pass (takes_kinds code) 0 u.ops h.table h.taken)
    ∙ ap (λ o. broken Unguarded o None) (all_pass is_guarded 0 u.ops h.table h.guarded)

-- ---- a code
in_none : (n : ℕ) (o : Option BrokenAt) (later : Option CodeBreak) → break_in n o later ≡ None → (o ≡ None) × (later ≡ None)
in_none n None later e = (refl, e)
in_none n (Some b) later e = none_some (sym e)

each_unbroken : (code : CodeTree) (n : ℕ) (us : List CodeUnit) → first_break_from code n us ≡ None → (i : ℕ) (u : CodeUnit) → slice_get us i ≡ Some u → unit_break code u ≡ None
each_unbroken code n [] e i u at = none_some at
each_unbroken code n (v ∷ us) e zero u at =
    ap (unit_break code) (sym (some_inj at)) ∙ (in_none n (unit_break code v) (first_break_from code (n + 1) us) e).0
each_unbroken code n (v ∷ us) e (suc i) u at = each_unbroken code (n + 1) us (in_none n (unit_break code v) (first_break_from code (n + 1) us) e).1 i u at

none_breaks : (code : CodeTree) (n : ℕ) (us : List CodeUnit) → ((i : ℕ) (u : CodeUnit) → slice_get us i ≡ Some u → unit_break code u ≡ None) → first_break_from code n us ≡ None
none_breaks code n [] h = refl
none_breaks code n (u ∷ us) h =
    ap (λ o. break_in n o (first_break_from code (n + 1) us)) (h zero u refl) ∙ none_breaks code (n + 1) us (λ i v at. h (suc i) v at)

pub guarded_means : GuardedMeans
unfolding first_code_break
guarded_means code = (
  λ e n u at. unit_guarded code u (each_unbroken code 0 code.units e n u at),
  λ h. none_breaks code 0 code.units (λ n u at. unit_unbroken code u (h n u at)),
)
