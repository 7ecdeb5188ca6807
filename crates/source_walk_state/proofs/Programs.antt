-- The functions of a program by number, and how many types a list has.
use Rattle.std.proofs.Common.{◌≡◌, ℕ, zero, suc, List, [], ◌∷◌, length, refl, ap}
use Rattle.std.specs.Prelude.{slice_get}
use Rattle.std.specs.Option.{option_map}
use Rattle.lam_resolve_tree.specs.declared.Function.{Function}
use Rattle.lam_resolve_tree.specs.declared.ValueType.{ValueType}
use Rattle.lam_resolve_tree.specs.Tree.{types_tree, function_tree, functions_tree}

pub function_at : (fs : List Function) (f : ℕ) → slice_get (functions_tree fs) f ≡ option_map function_tree (slice_get fs f)
function_at [] f = refl
function_at (x ∷ fs) zero = refl
function_at (x ∷ fs) (suc f) = function_at fs f

pub functions_length : (fs : List Function) → length (functions_tree fs) ≡ length fs
functions_length [] = refl
functions_length (x ∷ fs) = ap suc (functions_length fs)

pub types_length : (ts : List ValueType) → length (types_tree ts) ≡ length ts
types_length [] = refl
types_length (t ∷ ts) = ap suc (types_length ts)
