-- The last statement of a block.
use Rattle.std.proofs.Common.{◌≡◌, sym, ap, ◌∙◌, ℕ, suc, zero, ◌+◌, ◌-◌, List, [], ◌∷◌, length, slice_get, arith, Bool, true, false, ◌&&◌, Some}
use Rattle.lam_syntax.specs.declared.Stmt.{Stmt}
use Rattle.lam_syntax.specs.Tree.{stmts_tree, stmt_tree, StmtForm, if_stmt, ExprTree, StmtList, else_block}
use Rattle.lam_types.specs.Endings.{ends, ends_stmt, ends_form}

some_is : (a b : Stmt) → Some a ≡ Some b → a ≡ b
some_is a b e = cc

ends_at : (b : List Stmt) (s : Stmt) (i : ℕ) → i + 1 ≡ length b → Some s ≡ slice_get b i → ends (stmts_tree b) ≡ ends_stmt (stmt_tree s)
ends_at [] s i n e = absurd (omega (arith, n))
ends_at (x ∷ []) s zero n e = ap (λ (s : Stmt). ends_stmt (stmt_tree s)) (sym (some_is s x e))
ends_at (x ∷ []) s (suc i) n e = absurd (omega (arith, n))
ends_at (x ∷ y ∷ rest) s zero n e = absurd (omega (arith, n))
ends_at (x ∷ y ∷ rest) s (suc i) n e = ends_at (y ∷ rest) s i (omega (arith, n)) e

pub ends_last : (b : List Stmt) (s : Stmt) → Some s ≡ slice_get b (length b - 1) → ends (stmts_tree b) ≡ ends_stmt (stmt_tree s)
ends_last [] s e = absurd cc
ends_last (x ∷ b) s e = ends_at (x ∷ b) s (length (x ∷ b) - 1) (omega arith) e

pub if_ends : (k : StmtForm) (e : ExprTree) (first other : StmtList) → k ≡ if_stmt e first (else_block other) → ends_form k ≡ ends first && ends other
if_ends k e first other is = ap ends_form is

pub if_both : (x : Bool) (first fs other os : List Stmt) (a b : Bool) → x ≡ ends (stmts_tree first) && ends (stmts_tree other) → fs ≡ first → os ≡ other → a ≡ ends (stmts_tree fs) → a ≡ true → b ≡ ends (stmts_tree os) → b ≡ x
if_both x first fs other os a b e p q r s t =
    let f : ends (stmts_tree first) ≡ true = ap (λ (l : List Stmt). ends (stmts_tree l)) (sym p) ∙ sym r ∙ s in
    t ∙ ap (λ (l : List Stmt). ends (stmts_tree l)) q ∙ sym (e ∙ ap (λ (y : Bool). y && ends (stmts_tree other)) f)

pub if_not : (x : Bool) (first fs other : List Stmt) (a : Bool) → x ≡ ends (stmts_tree first) && ends (stmts_tree other) → fs ≡ first → a ≡ ends (stmts_tree fs) → a ≡ false → a ≡ x
if_not x first fs other a e p r s =
    let f : ends (stmts_tree first) ≡ false = ap (λ (l : List Stmt). ends (stmts_tree l)) (sym p) ∙ sym r ∙ s in
    s ∙ sym (e ∙ ap (λ (y : Bool). y && ends (stmts_tree other)) f)
