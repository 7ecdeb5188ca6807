-- Values of types under a typing, and their sorts.
use Rattle.std.proofs.Common.{◌≡◌, false, List, [], ◌∷◌, refl, sym, subst}
use Rattle.lam_value.specs.declared.values.Value.{Value}
use Rattle.lam_value.specs.declared.values.Value.TheVariants.{Nothing, Obj, Arr}
use Rattle.lam_builtins.specs.Types.{int, bool, bytes, tag, label, caps, file, dir, pipe, thread, object, array}
use Rattle.lam_resolve_tree.specs.Tree.{ResolvedType}
use Rattle.lam_resolve_tree.specs.Typing.{is_object}
use Rattle.lam_meaning_typed.specs.Kinds.{IsA, AreOf}
use Rattle.lam_meaning_typed.proofs.Values as kinds
use Rattle.lam_meaning_typed.proofs.Values.{null_is}
use Rattle.lam_machine_means.specs.Typing.{Typing, Is, Are}

-- a value of a type is of the type's sort
pub kind_is : (G : Typing) (t : ResolvedType) (v : Value) → Is G t v → IsA t v
kind_is G t Nothing e = null_is t e
kind_is G t (Obj n) h = subst (λ t. IsA t (Obj n)) (sym h.2) refl
kind_is G t (Arr n len) h = subst (λ t. IsA t (Arr n len)) (sym h.2) refl
kind_is G t v e = subst (λ t. IsA t v) (sym e) refl

pub kinds_are : (G : Typing) (ts : List ResolvedType) (vs : List Value) → Are G ts vs → AreOf ts vs
kinds_are G [] [] h = tt
kinds_are G (t ∷ ts) (v ∷ vs) h = (kind_is G t v h.0, kinds_are G ts vs h.1)
kinds_are G ts vs h = absurd h

-- where the type is of no things, the sort is all
pub plain_is : (G : Typing) (t : ResolvedType) (v : Value) → is_object t ≡ false → IsA t v → Is G t v
plain_is G int v o h = kinds.by_number (λ v. Is G int v) v h (λ z. refl)
plain_is G bool v o h = kinds.by_truth (λ v. Is G bool v) v h (λ b. refl)
plain_is G bytes v o h = kinds.by_bytes (λ v. Is G bytes v) v h refl (λ bs. refl)
plain_is G tag v o h = kinds.by_tag (λ v. Is G tag v) v h refl (λ t. refl)
plain_is G label v o h = kinds.by_label (λ v. Is G label v) v h refl (λ l. refl)
plain_is G caps v o h = kinds.by_caps (λ v. Is G caps v) v h refl (λ p m. refl)
plain_is G file v o h = kinds.by_file (λ v. Is G file v) v h refl (λ n. refl)
plain_is G dir v o h = kinds.by_dir (λ v. Is G dir v) v h refl (λ n. refl)
plain_is G pipe v o h = kinds.by_pipe (λ v. Is G pipe v) v h refl (λ n. refl)
plain_is G thread v o h = kinds.by_thread (λ v. Is G thread v) v h refl (λ n. refl)
plain_is G (object c) v o h = absurd cc
plain_is G (array t) v o h = absurd cc
