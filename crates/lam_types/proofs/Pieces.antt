-- Parts of statements, as the code meets them.
use Rattle.std.proofs.Common.{◌≡◌, ℕ, List, Option, Some, None, Result, Ok, Err, OnOk, Bor, sym, ap, ◌∙◌, subst}
use Rattle.lam_syntax.specs.declared.Stmt.{Stmt}
use Rattle.lam_syntax.specs.Tree.{IdTree, ExprTree, stmts_tree}
use Rattle.lam_operators.specs.Words.{Word}
use Rattle.lam_builtins.specs.Types.{ValueType, given_type}
use Rattle.lam_types_kinds.specs.Verdicts.{Fine, Stop, then_on}
use Rattle.lam_types_kinds.specs.Breaks.{Verdict, mismatch_of}
use Rattle.lam_types_kinds.specs.Tables.{Names, Decls, find, fresh, twice_if}
use Rattle.lam_types_kinds.specs.Values.{Breaks, names, keyed, value_type}
use Rattle.lam_types_kinds.specs.declared.types.TypeRef.{TypeRef}
use Rattle.lam_types_kinds.specs.declared.fault.TypeFault.{TypeFault}
use Rattle.lam_types_kinds.proofs.Steps.{stops}
use Rattle.lam_types_kinds.proofs.TableLemmas.{has_see}
use Rattle.lam_types_exprs.specs.Exprs.{at_of, given_of}
use Rattle.lam_types.specs.declared.stmts.Counts.{Counts}
use Rattle.lam_types.specs.Stmts.{State, one_slot, new_local, returned, stmts_checked, block_checked, closed}
use Rattle.lam_types.specs.Meets.{Counted}
use Rattle.lam_types.proofs.Law.{fresh_back}

pub on_ok : {A E : Type 0} (r : Result A E) (P : Type 0) → P → OnOk r P
on_ok (Ok a) P p = p
on_ok (Err e) P p = tt

-- a value where the function has no result
pub return_stop : (f : TypeFault) (d : Decls) (env : Names) (at : ℕ) (res : Option ValueType) (v : Option ExprTree) (e : ExprTree) → res ≡ None → v ≡ Some e → Breaks f (given_of d env e) → Breaks f (returned d res env at v)
return_stop f d env at res v e p q h =
    subst (λ (res : Option ValueType). Breaks f (returned d res env at v)) (sym p)
    (subst (λ (v : Option ExprTree). Breaks f (returned d None env at v)) (sym q) (stops f (given_of d env e) (λ g. Stop (mismatch_of (at_of e) None (given_type g))) h))

fresh_names : (es : List (Bor Word × TypeRef)) (x : IdTree) → fresh (names es) x ≡ fresh (keyed es) x
fresh_names es x = ap (λ b. twice_if b x.at) (has_see value_type x.word es ∙ sym (has_see (λ v. v) x.word es))

pub local_stop : (f : TypeFault) (es : List (Bor Word × TypeRef)) (c : Counts) (x : IdTree) → Breaks f (fresh (keyed es) x) → Breaks f (new_local (names es) c x)
local_stop f es c x h = stops f (fresh (names es) x) (λ _. one_slot x.at c) (subst (λ (v : Verdict (Unit {0})). Breaks f v) (sym (fresh_names es x)) h)

pub local_rest : (r : Result Counts TypeFault) (es : List (Bor Word × TypeRef)) (c : Counts) (x : IdTree) → fresh (keyed es) x ≡ Fine tt → Counted r (one_slot x.at c) → Counted r (new_local (names es) c x)
local_rest r es c x e h = subst (λ (v : Verdict (Unit {0})). Counted r (then_on v (λ _. one_slot x.at c))) (sym (fresh_names es x ∙ e)) h

pub local_absent : (es : List (Bor Word × TypeRef)) (x : IdTree) → fresh (keyed es) x ≡ Fine tt → find x.word (names es) ≡ None
local_absent es x e = fresh_back (names es) x tt (fresh_names es x ∙ e)

-- a block, whose statements were reached as xs
pub block_stop : (f : TypeFault) (d : Decls) (res : Option ValueType) (env : Names) (c : Counts) (xs ys : List Stmt) → xs ≡ ys → Breaks f (stmts_checked d res env c (stmts_tree xs)) → Breaks f (block_checked d res env c (stmts_tree ys))
unfolding closed
block_stop f d res env c xs ys e h = stops f (stmts_checked d res env c (stmts_tree ys)) (λ s. Fine s.1) (subst (λ (l : List Stmt). Breaks f (stmts_checked d res env c (stmts_tree l))) e h)

pub block_done : (d : Decls) (res : Option ValueType) (env new : Names) (c last : Counts) (xs ys : List Stmt) → xs ≡ ys → stmts_checked d res env c (stmts_tree xs) ≡ Fine (new, last) → block_checked d res env c (stmts_tree ys) ≡ Fine last
unfolding closed
block_done d res env new c last xs ys e h =
    ap (λ (v : Verdict State). then_on v (λ s. Fine s.1)) (subst (λ (l : List Stmt). stmts_checked d res env c (stmts_tree l) ≡ Fine (new, last)) e h)
