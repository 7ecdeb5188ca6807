-- Functions of a program by number, and whether a thread may begin there.
use Rattle.std.proofs.Common.{◌≡◌, ℕ, Bool, true, false, ◌&&◌, List, Some, None, sym, ap, ◌∙◌, subst}
use Rattle.std.specs.Prelude.{◌↔◌, IsTrue, slice_get}
use Rattle.std.specs.Option.{option_map}
use Rattle.std.proofs.lemmas.Bool.{and_parts, and_from, false≢true}
use Rattle.std.proofs.lemmas.Option.{same_Some}
use Rattle.lam_value.specs.declared.values.Value.{Value}
use Rattle.lam_builtins.specs.Types.{int}
use Rattle.lam_resolve_tree.specs.declared.Function.{Function}
use Rattle.lam_resolve_tree.specs.declared.Resolved.{Resolved}
use Rattle.lam_resolve_tree.specs.declared.ValueType.{ValueType}
use Rattle.lam_resolve_tree.specs.Tree.{types_tree, option_type_tree, ResolvedFunction, function_tree, functions_tree, resolved_tree}
use Rattle.lam_meaning_typed.specs.Kinds.{AreOf}
use Rattle.source_walk_terms.specs.Walks.{IsEntry}
use Rattle.source_walk_state.proofs.Programs.{function_at}

-- a function that was found is that of an entry
pub found_is : (r : Resolved) (f : ℕ) (fn : Function) (declared : ResolvedFunction) → slice_get r.functions.items f ≡ Some fn → slice_get (functions_tree r.functions.items) f ≡ Some declared → function_tree fn ≡ declared
found_is r f fn declared e found = same_Some (function_tree fn) declared (sym (function_at r.functions.items f ∙ ap (option_map function_tree) e) ∙ found)

pub no_entry : (r : Resolved) (f : ℕ) (vs : List Value) → slice_get r.functions.items f ≡ None → IsTrue false ↔ IsEntry (resolved_tree r) f vs
no_entry r f vs e = ((λ t. absurd cc), (λ h. absurd (let z = sym (function_at r.functions.items f ∙ ap (option_map function_tree) e) ∙ h.found in cc)))

pub entry_is : (r : Resolved) (f : ℕ) (vs : List Value) (fn : Function) (number sorts : Bool) → slice_get r.functions.items f ≡ Some fn → IsTrue number ↔ (option_type_tree fn.result ≡ Some int) → IsTrue sorts ↔ AreOf (types_tree fn.params.items) vs →
    IsTrue (number && sorts) ↔ IsEntry (resolved_tree r) f vs
entry_is r f vs fn number sorts e gives takes = ((λ t. so t), (λ h. back h))
  where
    so : IsTrue (number && sorts) → IsEntry (resolved_tree r) f vs
    so t =
        let both = and_parts number sorts t in
        record { function = function_tree fn; found = function_at r.functions.items f ∙ ap (option_map function_tree) e; result = gives.0 both.0; sorts = takes.0 both.1 }

    back : IsEntry (resolved_tree r) f vs → IsTrue (number && sorts)
    back h =
        let same = found_is r f fn h.function e h.found in
        and_from number sorts (gives.1 (ap (λ (d : ResolvedFunction). d.result) same ∙ h.result)) (takes.1 (subst (λ (d : ResolvedFunction). AreOf d.params vs) (sym same) h.sorts))

pub entry_by_sorts : (r : Resolved) (f : ℕ) (vs : List Value) (fn : Function) (params : List ValueType) (number sorts : Bool) → slice_get r.functions.items f ≡ Some fn → IsTrue number ↔ (option_type_tree fn.result ≡ Some int) → params ≡ fn.params.items →
    IsTrue sorts ↔ AreOf (types_tree params) vs → number ≡ true → IsTrue sorts ↔ IsEntry (resolved_tree r) f vs
entry_by_sorts r f vs fn params number sorts e gives same takes holds =
    subst (λ (b : Bool). IsTrue (b && sorts) ↔ IsEntry (resolved_tree r) f vs) holds
    (entry_is r f vs fn number sorts e gives (subst (λ (ts : List ValueType). IsTrue sorts ↔ AreOf (types_tree ts) vs) same takes))

pub entry_by_number : (r : Resolved) (f : ℕ) (vs : List Value) (fn : Function) (number : Bool) → slice_get r.functions.items f ≡ Some fn → IsTrue number ↔ (option_type_tree fn.result ≡ Some int) → number ≡ false → IsTrue number ↔ IsEntry (resolved_tree r) f vs
entry_by_number r f vs fn number e gives not =
    ((λ t. absurd (false≢true (sym not ∙ t))), (λ h. gives.1 (ap (λ (d : ResolvedFunction). d.result) (found_is r f fn h.function e h.found) ∙ h.result)))
