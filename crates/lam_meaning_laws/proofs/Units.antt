-- What the scheme's code says of a program's functions and classes.
use Rattle.std.proofs.Common.{◌≡◌, ℕ, zero, suc, ◌<◌, List, [], ◌∷◌, ◌++◌, length, map, Some, refl, sym, ap, ◌∙◌, arith}
use Rattle.std.proofs.lemmas.List.{length-map}
use Rattle.std.specs.Prelude.{slice_get}
use Rattle.lam_value.specs.declared.values.Value.{Value}
use Rattle.lam_value.specs.declared.shapes.Kind.{Kind}
use Rattle.lam_value.specs.Shapes.{zero_of}
use Rattle.lam_builtins.specs.declared.Builtin.{Builtin}
use Rattle.lam_builtins.specs.declared.Builtin.TheVariants as call
use Rattle.lam_builtins.specs.Builtins.{row, row_by}
use Rattle.thread_steps.specs.Ops.{function_takes}
use Rattle.lam_resolve_tree.specs.Tree.{ResolvedType, ResolvedFunction, ResolvedTree}
use Rattle.lam_meaning_typed.specs.Means.{kind_of, class_fields}
use Rattle.lam_meaning_typed.specs.Scheme.{arg_kind, scheme}
use Rattle.lam_meaning_laws.proofs.Placed.{function_unit}

pub takes_params : (r : ResolvedTree) (f : ℕ) (fn : ResolvedFunction) → slice_get r.functions f ≡ Some fn → function_takes (slice_get (scheme r).units f) ≡ Some (length fn.params)
takes_params r f fn e = ap function_takes (function_unit r f fn e) ∙ ap Some (length-map fn.params arg_kind)

class_at : (cs : List (List ResolvedType)) (c : ℕ) → c < length cs → (ts : List ResolvedType) × (slice_get cs c ≡ Some ts) × (slice_get (map (λ ts. map kind_of ts) cs) c ≡ Some (map kind_of ts))
class_at [] c h = absurd (omega (arith, h))
class_at (ts ∷ cs) zero h = (ts, refl, refl)
class_at (ts ∷ cs) (suc c) h = class_at cs c (omega (arith, h))

zeros_same : (ts : List ResolvedType) → map zero_of (map kind_of ts) ≡ map (λ t. zero_of (kind_of t)) ts
zeros_same [] = refl
zeros_same (t ∷ ts) = ap (λ (vs : List Value). zero_of (kind_of t) ∷ vs) (zeros_same ts)

-- the kinds of a class's fields, and what they are at first
pub class_kinds : (r : ResolvedTree) (c : ℕ) → c < length r.classes → (ks : List Kind) × (slice_get (scheme r).classes c ≡ Some ks) × (map zero_of ks ≡ class_fields (slice_get r.classes c))
unfolding scheme
class_kinds r c h =
    let at = class_at r.classes c h in
    (map kind_of at.0, at.2, zeros_same at.0 ∙ ap class_fields (sym at.1))

-- a built-in call has as many arguments in each form of its row
pub as_many : (b : Builtin) → length (row b).signature.takes ≡ length (row_by ℕ b).signature.takes
as_many call.Len = refl
as_many b = refl
