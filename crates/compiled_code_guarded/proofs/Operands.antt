-- The kinds of what expressions give and slots hold, and operands that stand as an operation wants them.
use Rattle.std.proofs.Common.{◌≡◌, ℕ, zero, suc, ◌+◌, true, List, [], ◌∷◌, ◌++◌, map, length, Option, Some, None, refl, sym, ap, ◌∙◌, subst, arith}
use Rattle.std.specs.Prelude.{drop, replicate, reverse}
use mathlib.Core.List.{reverse_aux}
use Rattle.lam_builtins.specs.Types.{PlaceBy, int, bool, label, file, dir, pipe, object, array, nullable, a_value, a_null, nothing, exactly, any_class, any_array, any_object, any_labelled}
use Rattle.lam_builtins.specs.declared.Builtin.{Builtin}
use Rattle.lam_builtins.specs.declared.Builtin.TheVariants as call
use Rattle.lam_builtins.specs.Builtins.{answered, row, row_by}
use Rattle.lam_resolve_tree.specs.Tree.{ResolvedType, ResolvedGiven, ResolvedPlace, Expressions, args_end, args_more}
use Rattle.lam_resolve_tree.specs.Typing.{ResolvedSignatures, exact_places, Use, a_local, a_monitor, Scope, is_object, is_labelled, Takes, TakesNull, Fits, Compare, AreArgs, AreRest}
use Rattle.guarded_code.specs.declared.known.ValueKind.{ValueKind}
use Rattle.guarded_code.specs.declared.known.ValueKind.TheVariants.{Number, Other, Unknown}
use Rattle.guarded_code.specs.Changes.{Place, Any, Only, kind_of_type, kind_of_place, kind_of_answer, places_of}
use Rattle.compiled_code_guarded.specs.Layouts.{Shape, IsOfKind, TakesKind, TakesKinds, IsKnown}

-- ---- kinds

abbrev pub kind_of_given : ResolvedGiven → ValueKind
kind_of_given (a_value t) = kind_of_type t
kind_of_given a_null = Other
kind_of_given nothing = Other

-- a slot that is not in scope may hold any value
abbrev pub slot_kind : Option Use → ValueKind
slot_kind None = Unknown
slot_kind (Some (a_local t)) = kind_of_type t
slot_kind (Some (a_monitor t)) = Other

abbrev pub slots_of : Scope → ℕ → ValueKind
slots_of env n = slot_kind (env n)

-- operands of these kinds, and the slots in scope
abbrev pub at : Scope → List ValueKind → Shape
at env stack = record { stack = stack; slots = slots_of env; fact = None }

pub of_same : (k : ValueKind) → IsOfKind k k
of_same Number = refl
of_same k = refl

pub kind_known : (g : ResolvedGiven) → IsKnown (kind_of_given g)
kind_known (a_value t) = type_known t
  where
    type_known : (t : ResolvedType) → IsKnown (kind_of_type t)
    type_known int = tt
    type_known t = tt
kind_known a_null = tt
kind_known nothing = tt

-- ---- what fits a place has its kind

null_kind : (t : ResolvedType) → nullable t ≡ true → kind_of_type t ≡ Other
null_kind int h = absurd cc
null_kind bool h = absurd cc
null_kind t h = refl

pub object_kind : (t : ResolvedType) → is_object t ≡ true → kind_of_type t ≡ Other
object_kind (object c) h = refl
object_kind (array t) h = refl
object_kind t h = absurd cc

labelled_kind : (t : ResolvedType) → is_labelled t ≡ true → kind_of_type t ≡ Other
labelled_kind (object c) h = refl
labelled_kind (array t) h = refl
labelled_kind file h = refl
labelled_kind dir h = refl
labelled_kind pipe h = refl
labelled_kind t h = absurd cc

takes_kind : (w : ResolvedPlace) (t : ResolvedType) → Takes w t → kind_of_type t ≡ kind_of_place w
takes_kind (exactly u) t h = ap kind_of_type h
takes_kind any_class t h = ap kind_of_type h.1
takes_kind any_array t h = ap kind_of_type h.1
takes_kind any_object t h = object_kind t h
takes_kind any_labelled t h = labelled_kind t h

null_fits : (w : ResolvedPlace) → TakesNull w → Other ≡ kind_of_place w
null_fits (exactly t) h = sym (null_kind t h)
null_fits w h = absurd h

pub fits_kind : (w : ResolvedPlace) (g : ResolvedGiven) → Fits w g → kind_of_given g ≡ kind_of_place w
fits_kind w (a_value t) h = takes_kind w t h
fits_kind w a_null h = null_fits w h
fits_kind w nothing h = absurd h

pub compare_kinds : (g h : ResolvedGiven) → Compare g h → kind_of_given h ≡ kind_of_given g
compare_kinds (a_value t) (a_value u) e = ap kind_of_type (sym e)
compare_kinds (a_value t) a_null e = sym (null_kind t e)
compare_kinds a_null (a_value u) e = null_kind u e
compare_kinds a_null a_null e = refl
compare_kinds g h e = absurd e

-- ---- operands in order

-- those of a list are put on others, one by one
abbrev pub onto : List ValueKind → List ValueKind → List ValueKind
onto [] st = st
onto (k ∷ ks) st = onto ks (k ∷ st)

drop_more : (ks st : List ValueKind) (n : ℕ) → drop (length ks + n) (onto ks st) ≡ drop n st
drop_more [] st n = let z : 0 + n ≡ n = omega arith in ap (λ m. drop m st) z
drop_more (k ∷ ks) st n =
    let z : suc (length ks) + n ≡ length ks + suc n = omega arith in
    ap (λ m. drop m (onto ks (k ∷ st))) z ∙ drop_more ks (k ∷ st) (suc n)

-- all of them are taken again
pub drop_onto : (ks st : List ValueKind) (n : ℕ) → length ks ≡ n → drop n (onto ks st) ≡ st
drop_onto ks st n e = let z : n ≡ length ks + 0 = omega (arith, e) in ap (λ m. drop m (onto ks st)) z ∙ drop_more ks st 0

same_behind : (p : Place) (n : ℕ) (qs : List Place) → replicate n p ++ p ∷ qs ≡ p ∷ replicate n p ++ qs
same_behind p zero qs = refl
same_behind p (suc n) qs = ap (λ ps. p ∷ ps) (same_behind p n qs)

abbrev pub EachTakes : Place → List ValueKind → Type 0
EachTakes p [] = Unit {0}
EachTakes p (k ∷ ks) = TakesKind p k × EachTakes p ks

-- as many places of one sort, and the others
pub same_onto : (p : Place) (ks st : List ValueKind) (qs : List Place) (n : ℕ) → length ks ≡ n → EachTakes p ks → TakesKinds qs st → TakesKinds (replicate n p ++ qs) (onto ks st)
same_onto p ks st qs n e each h = subst (λ n. TakesKinds (replicate n p ++ qs) (onto ks st)) e (by ks st qs each h)
  where
    by : (ks st : List ValueKind) (qs : List Place) → EachTakes p ks → TakesKinds qs st → TakesKinds (replicate (length ks) p ++ qs) (onto ks st)
    by [] st qs each h = h
    by (k ∷ ks) st qs each h = subst (λ ps. TakesKinds ps (onto ks (k ∷ st))) (same_behind p (length ks) qs) (by ks (k ∷ st) (p ∷ qs) each.1 (each.0, h))

pub any_each : (ks : List ValueKind) → EachTakes Any ks
any_each [] = tt
any_each (k ∷ ks) = (tt, any_each ks)

-- ---- arguments

abbrev pub place_kinds : {C : Type 0} → List (PlaceBy C) → List ValueKind
place_kinds ws = map kind_of_place ws

pub exact_long : (ts : List ResolvedType) → length (place_kinds (exact_places ts)) ≡ length ts
exact_long [] = refl
exact_long (t ∷ ts) = ap suc (exact_long ts)

-- arguments stand as places want them, the last one on top
back_onto : {C : Type 0} (ws : List (PlaceBy C)) (qs : List Place) (st : List ValueKind) → TakesKinds qs st → TakesKinds (reverse_aux (places_of ws) qs) (onto (place_kinds ws) st)
back_onto [] qs st h = h
back_onto (w ∷ ws) qs st h = back_onto ws (Only (kind_of_place w) ∷ qs) (kind_of_place w ∷ st) (refl, h)

pub args_taken : {C : Type 0} (ws : List (PlaceBy C)) (st : List ValueKind) → TakesKinds (reverse (places_of ws)) (onto (place_kinds ws) st)
args_taken ws st = back_onto ws [] st tt

back_long : (ps qs : List Place) → length (reverse_aux ps qs) ≡ length ps + length qs
back_long [] qs = omega arith
back_long (p ∷ ps) qs = omega (arith, back_long ps (p ∷ qs))

kinds_long : {C : Type 0} (ws : List (PlaceBy C)) → length (place_kinds ws) ≡ length (places_of ws)
kinds_long [] = refl
kinds_long (w ∷ ws) = ap suc (kinds_long ws)

pub args_long : {C : Type 0} (ws : List (PlaceBy C)) → length (place_kinds ws) ≡ length (reverse (places_of ws))
args_long ws = omega (arith, kinds_long ws, back_long (places_of ws) [])

pub rest_of : (p : ResolvedSignatures) (env : Scope) (ws : List ResolvedPlace) (args : Expressions) (first : ResolvedGiven) → AreArgs p env ws args first → AreRest p env ws args
rest_of p env [] args_end first h = tt
rest_of p env [] (args_more e rest) first h = absurd h
rest_of p env (w ∷ ws) args_end first h = absurd h
rest_of p env (w ∷ ws) (args_more e rest) first h = ((first, h.0, h.1), h.2)

pub first_fits : (p : ResolvedSignatures) (env : Scope) (w : ResolvedPlace) (ws : List ResolvedPlace) (args : Expressions) (first : ResolvedGiven) → AreArgs p env (w ∷ ws) args first → Fits w first
first_fits p env w ws args_end first h = absurd h
first_fits p env w ws (args_more e rest) first h = h.1

-- ---- built-in calls: no row names a class, so their kinds are the same in each form

pub same_places : (b : Builtin) → place_kinds (row_by ℕ b).signature.takes ≡ place_kinds (row b).signature.takes
same_places call.Len = refl
same_places b = refl

-- a copy is of a reference
pub answer_kind : (p : ResolvedSignatures) (env : Scope) (b : Builtin) (args : Expressions) (first : ResolvedGiven) → AreArgs p env (row_by ℕ b).signature.takes args first → kind_of_answer (row b).signature.answer ≡ kind_of_given (answered (row_by ℕ b).signature.answer first)
answer_kind p env call.Copy args first h = sym (fits_kind any_object first (first_fits p env any_object (exactly label ∷ []) args first h))
answer_kind p env b args first h = refl
