-- A start whose one thread stands at the first function of a program.
use Rattle.std.proofs.Common.{◌≡◌, ℕ, zero, suc, Bool, true, ◌==◌, List, [], ◌∷◌, length, Option, Some, Result, Ok, Err, IfOk, sym, ap, ◌∙◌, subst}
use Rattle.std.proofs.lemmas.Bool.{eqb-true}
use Rattle.std.proofs.lemmas.List.{nil_from_length}
use Rattle.std.specs.Prelude.{IsTrue, slice_get}
use Rattle.std.specs.Option.{option_map}
use Rattle.capabilities.specs.declared.Caps.{Caps}
use Rattle.lam_value.specs.declared.values.Value.{Value}
use Rattle.lam_builtins.specs.Types.{int}
use Rattle.lam_bytecode.specs.Codes.{CodeTree}
use Rattle.lam_resolve_tree.specs.declared.Function.{Function}
use Rattle.lam_resolve_tree.specs.declared.Resolved.{Resolved}
use Rattle.lam_resolve_tree.specs.declared.ValueType.{ValueType}
use Rattle.lam_resolve_tree.specs.Tree.{types_tree, option_type_tree, function_tree, functions_tree, ResolvedTree, resolved_tree}
use Rattle.thread_steps.specs.Threads.{Thread}
use Rattle.thread_steps.specs.Next.{started}
use Rattle.lam_meaning_typed.specs.Kinds.{AreOf}
use Rattle.lam_machine_terms.specs.Worlds.{World}
use Rattle.source_walk_terms.specs.Walks.{IsEntry, StandsAtEntry, ThreadsAtEntries}
use Rattle.examples_codes.specs.Starts.{IsFirst}

none_there : (ts : List ValueType) → (length ts == 0) ≡ true → ts ≡ []
none_there ts e = nil_from_length ts (eqb-true (length ts) 0 e)

first_of : (fs : List Function) (f : Function) → Some f ≡ slice_get fs 0 → slice_get (functions_tree fs) 0 ≡ Some (function_tree f)
first_of [] f e = absurd cc
first_of (x ∷ fs) f e = ap (option_map function_tree) (sym e)

takes_none : (ts : List ValueType) → ts ≡ [] → AreOf (types_tree ts) []
takes_none ts e = subst (λ (l : List ValueType). AreOf (types_tree l) []) (sym e) tt

-- the first function takes nothing and gives a number
pub entry : (r : Resolved) (fs : List Function) (f : Function) (params : List ValueType) (empty number : Bool) → fs ≡ r.functions.items → Some f ≡ slice_get fs 0 → params ≡ f.params.items → empty ≡ (length params == 0) → empty ≡ true →
    (IsTrue number → option_type_tree f.result ≡ Some int) → IsTrue number → IsEntry (resolved_tree r) 0 []
entry r fs f params empty number same is those tested none gives t =
    record {
      function = function_tree f;
      found = first_of r.functions.items f (subst (λ (l : List Function). Some f ≡ slice_get l 0) same is);
      result = gives t;
      sorts = takes_none f.params.items (subst (λ (l : List ValueType). l ≡ []) those (none_there params (sym tested ∙ none)));
    }

some_tree : (a b : ResolvedTree) → Some a ≡ Some b → a ≡ b
some_tree a b e = cc

some_thread : (a b : Thread) → Some a ≡ Some b → a ≡ b
some_thread a b e = cc

one_at : (r : ResolvedTree) (code : CodeTree) (first th : Thread) (u : ℕ) → IsFirst code first → IsEntry r 0 [] → slice_get (first ∷ []) u ≡ Some th → StandsAtEntry r code th
one_at r code first th zero is entry e = record { function = 0; args = []; caps = is.caps; it = sym (some_thread first th e) ∙ is.it; entry = entry }
one_at r code first th (suc u) is entry e = absurd cc

-- one thread that stands there
pub at_entries : (r s : ResolvedTree) (o : Option ResolvedTree) (code : CodeTree) (w : World) (first : Thread) → Some s ≡ o → o ≡ Some r → IsEntry s 0 [] → IsFirst code first → w.threads ≡ first ∷ [] → ThreadsAtEntries r code w
at_entries r s o code w first made is entry at alone =
    let same : s ≡ r = some_tree s r (made ∙ is) in
    λ u th there. one_at r code first th u at (subst (λ (t : ResolvedTree). IsEntry t 0 []) same entry) (sym (ap (λ (l : List Thread). slice_get l u) alone) ∙ there)

-- the same, by what is told of the run and of the one thread
pub begins : (r s : ResolvedTree) (o : Option ResolvedTree) (code of : CodeTree) (w v : World) (threads : List Thread) (first : Thread) → Some s ≡ o → o ≡ Some r → IsEntry s 0 [] → IsFirst of first → of ≡ code → v ≡ w → threads ≡ v.threads → threads ≡ first ∷ [] → ThreadsAtEntries r code w
begins r s o code of w v threads first made is entry at same start list alone =
    at_entries r s o code w first made is entry (subst (λ (tree : CodeTree). IsFirst tree first) same at) (ap (λ (x : World). x.threads) (sym start) ∙ sym list ∙ alone)

-- a thread that is started without arguments
pub first_started : {E : Type 0} (code of : CodeTree) (args : List Value) (caps : Caps) (made : Result Thread E) → of ≡ code → args ≡ [] → IfOk made (λ t. t ≡ started of 0 args caps) → IfOk made (IsFirst code)
first_started code of args caps (Ok t) same none is =
    record { caps = caps; it = subst (λ (tree : CodeTree). t ≡ started tree 0 [] caps) same (subst (λ (vs : List Value). t ≡ started of 0 vs caps) none is) }
first_started code of args caps (Err e) same none is = tt
