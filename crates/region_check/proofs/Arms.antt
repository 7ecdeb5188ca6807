-- The forms that hold expressions in vectors, and the statements that hold blocks.
use Rattle.std.proofs.Common.{◌≡◌, ℕ, Bool, true, List, Result, Ok, Err, OnOk, Bor, sym, ap, ◌∙◌, subst}
use Rattle.lam_syntax.specs.declared.Expr.{Expr}
use Rattle.lam_syntax.specs.declared.Stmt.{Stmt}
use Rattle.lam_syntax.specs.Tree.{IdTree, ExprTree, ExprForm, ExprList, expr_tree, spawn_expr, StmtForm, StmtList, ElseTree, no_else, else_block, while_stmt, sync_stmt, if_stmt, region_stmt, assign_stmt, stmts_tree}
use Rattle.lam_operators.specs.Words.{Word}
use Rattle.lam_types_kinds.specs.Verdicts.{Fine, then_on}
use Rattle.region_check.specs.Parts.{guarded}
use Rattle.region_check.specs.Breaks.{Verdict, both, expr_checked, exprs_checked, form_checked, stmt_form_checked, closed, stmts_checked, else_checked, head_checked, place_checked, with_name}
use Rattle.region_check.specs.Values.{texts, Passes, Leaves, Breaks}
use Rattle.region_check.specs.declared.RegionFault.{RegionFault}
use Rattle.region_check.proofs.Steps.{stops, goes_on, both_first, both_second, both_fine}

pub passes_form : (i : Bool) (own : List Word) (at : ℕ) (k form : ExprForm) (r : Result (Unit {0}) RegionFault) → k ≡ form → Passes r (form_checked i own at form) → Passes r (form_checked i own at k)
passes_form i own at k form r e h = subst (λ (k : ExprForm). Passes r (form_checked i own at k)) (sym e) h

pub breaks_form : (i : Bool) (own : List Word) (at : ℕ) (k form : ExprForm) (f : RegionFault) → k ≡ form → Breaks f (form_checked i own at form) → Breaks f (form_checked i own at k)
breaks_form i own at k form f e h = subst (λ (k : ExprForm). Breaks f (form_checked i own at k)) (sym e) h

pub then_passes : (r : Result (Unit {0}) RegionFault) (a b : Verdict (Unit {0})) → a ≡ Fine tt → Passes r b → Passes r (then_on a (λ _. b))
then_passes r a b e h = subst (λ (v : Verdict (Unit {0})). Passes r (then_on v (λ _. b))) (sym e) h

-- after a first part that passes
pub both_passes : (r : Result (Unit {0}) RegionFault) (a b : Verdict (Unit {0})) → a ≡ Fine tt → Passes r b → Passes r (both a b)
both_passes (Ok u) a b e h = both_fine a b e h
both_passes (Err f) a b e h = both_second f a b e h

-- a block, whose statements were reached as xs
pub block_stop : (f : RegionFault) (i : Bool) (own : List Word) (xs ys : List Stmt) → xs ≡ ys → Breaks f (stmts_checked i own (stmts_tree xs)) → Breaks f (closed (stmts_checked i own (stmts_tree ys)))
unfolding closed
block_stop f i own xs ys e h = stops f (stmts_checked i own (stmts_tree ys)) (λ _. Fine tt) (subst (λ (l : List Stmt). Breaks f (stmts_checked i own (stmts_tree l))) e h)

pub block_done : (i : Bool) (own new : List Word) (xs ys : List Stmt) → xs ≡ ys → stmts_checked i own (stmts_tree xs) ≡ Fine new → closed (stmts_checked i own (stmts_tree ys)) ≡ Fine tt
unfolding closed
block_done i own new xs ys e h = ap (λ (v : Verdict (List Word)). then_on v (λ _. Fine tt)) (subst (λ (l : List Stmt). stmts_checked i own (stmts_tree l) ≡ Fine new) e h)

-- a spawned function's capabilities, reached as x, and its arguments
pub spawn_rest : (i : Bool) (own : List Word) (at : ℕ) (k : ExprForm) (r : Result (Unit {0}) RegionFault) (x c : Expr) (f : IdTree) (args : ExprList) → k ≡ spawn_expr (expr_tree c) f args → x ≡ c →
    expr_checked i own (expr_tree x) ≡ Fine tt → Passes r (exprs_checked i own args) → Passes r (form_checked i own at k)
spawn_rest i own at k r x c f args is e h m =
    passes_form i own at k (spawn_expr (expr_tree c) f args) r is (then_passes r (expr_checked i own (expr_tree c)) (exprs_checked i own args) (subst (λ (x : Expr). expr_checked i own (expr_tree x) ≡ Fine tt) e h) m)

abbrev Keys : Type 0
Keys = List (Bor Word)

-- a last part, after which the names are those of before
leaves : (r : Result (Unit {0}) RegionFault) (new old : Keys) (v : Verdict (Unit {0})) → OnOk r (new ≡ old) → Passes r v → Leaves r (texts new) (then_on v (λ _. Fine (texts old)))
leaves (Ok u) new old v k m = ap (λ (v : Verdict (Unit {0})). then_on v (λ _. Fine (texts old))) m ∙ ap (λ (l : Keys). Fine (texts l)) (sym k)
leaves (Err f) new old v k m = stops f v (λ _. Fine (texts old)) m

last_part : (old : Keys) (r : Result (Unit {0}) RegionFault) (a b : Verdict (Unit {0})) → a ≡ Fine tt → Passes r b → Leaves r (texts old) (then_on (both a b) (λ _. Fine (texts old)))
last_part old (Ok u) a b e m = ap (λ (v : Verdict (Unit {0})). then_on v (λ _. Fine (texts old))) (both_fine a b e m)
last_part old (Err f) a b e m = stops f (both a b) (λ _. Fine (texts old)) (both_second f a b e m)

module _ (i : Bool) (at : ℕ) (k : StmtForm) (old : Keys) where
  leaves_form : (r : Result (Unit {0}) RegionFault) (new : Keys) (form : StmtForm) → k ≡ form → Leaves r (texts new) (stmt_form_checked i (texts old) at form) → Leaves r (texts new) (stmt_form_checked i (texts old) at k)
  leaves_form r new form e h = subst (λ (k : StmtForm). Leaves r (texts new) (stmt_form_checked i (texts old) at k)) (sym e) h

  stops_form : (f : RegionFault) (form : StmtForm) → k ≡ form → Breaks f (stmt_form_checked i (texts old) at form) → Breaks f (stmt_form_checked i (texts old) at k)
  stops_form f form e h = subst (λ (k : StmtForm). Breaks f (stmt_form_checked i (texts old) at k)) (sym e) h

  pub while_arm : (r : Result (Unit {0}) RegionFault) (new : Keys) (e : ExprTree) (body : StmtList) → k ≡ while_stmt e body → OnOk r (new ≡ old) → Passes r (guarded i (texts old) e body) → Leaves r (texts new) (stmt_form_checked i (texts old) at k)
  while_arm r new e body is same m = leaves_form r new (while_stmt e body) is (leaves r new old (guarded i (texts old) e body) same m)

  pub sync_arm : (r : Result (Unit {0}) RegionFault) (new : Keys) (e : ExprTree) (body : StmtList) → k ≡ sync_stmt e body → OnOk r (new ≡ old) → Passes r (guarded i (texts old) e body) → Leaves r (texts new) (stmt_form_checked i (texts old) at k)
  sync_arm r new e body is same m = leaves_form r new (sync_stmt e body) is (leaves r new old (guarded i (texts old) e body) same m)

  pub if_stop : (f : RegionFault) (e : ExprTree) (first : StmtList) (other : ElseTree) → k ≡ if_stmt e first other → Breaks f (guarded i (texts old) e first) → Breaks f (stmt_form_checked i (texts old) at k)
  if_stop f e first other is b = stops_form f (if_stmt e first other) is (stops f (guarded i (texts old) e first) (λ _. then_on (else_checked i (texts old) other) (λ _. Fine (texts old))) b)

  pub if_none : (new : Keys) (e : ExprTree) (first : StmtList) → k ≡ if_stmt e first no_else → guarded i (texts old) e first ≡ Fine tt → new ≡ old → stmt_form_checked i (texts old) at k ≡ Fine (texts new)
  if_none new e first is m same =
      ap (stmt_form_checked i (texts old) at) is ∙ ap (λ (v : Verdict (Unit {0})). then_on v (λ _. Fine (texts old))) m ∙ ap (λ (l : Keys). Fine (texts l)) (sym same)

  pub if_some : (r : Result (Unit {0}) RegionFault) (new mid : Keys) (e : ExprTree) (first other : StmtList) → k ≡ if_stmt e first (else_block other) → guarded i (texts old) e first ≡ Fine tt → mid ≡ old →
      OnOk r (new ≡ mid) → Passes r (closed (stmts_checked i (texts mid) other)) → Leaves r (texts new) (stmt_form_checked i (texts old) at k)
  if_some r new mid e first other is g s t m =
      leaves_form r new (if_stmt e first (else_block other)) is
      (subst (λ (v : Verdict (Unit {0})). Leaves r (texts new) (then_on v (λ _. then_on (closed (stmts_checked i (texts old) other)) (λ _. Fine (texts old))))) (sym g)
      (subst (λ (l : Keys). Leaves r (texts new) (then_on (closed (stmts_checked i (texts l) other)) (λ _. Fine (texts l)))) s (leaves r new mid (closed (stmts_checked i (texts mid) other)) t m)))

  pub head_stop : (f : RegionFault) (l m : ExprTree) (xs : List IdTree) (body : StmtList) (x : IdTree) (handler : StmtList) → k ≡ region_stmt l m xs body x handler → Breaks f (head_checked i (texts old) l m xs) → Breaks f (stmt_form_checked i (texts old) at k)
  head_stop f l m xs body x handler is b =
      stops_form f (region_stmt l m xs body x handler) is
      (stops f (head_checked i (texts old) l m xs) (λ inner. then_on (both (closed (stmts_checked true inner body)) (closed (stmts_checked true (with_name inner x.word) handler))) (λ _. Fine (texts old))) b)

  pub body_stop : (f : RegionFault) (inner : List Word) (l m : ExprTree) (xs : List IdTree) (body : StmtList) (x : IdTree) (handler : StmtList) → k ≡ region_stmt l m xs body x handler →
      head_checked i (texts old) l m xs ≡ Fine inner → Breaks f (closed (stmts_checked true inner body)) → Breaks f (stmt_form_checked i (texts old) at k)
  body_stop f inner l m xs body x handler is h b =
      stops_form f (region_stmt l m xs body x handler) is
      (goes_on f (head_checked i (texts old) l m xs) inner (λ inner. then_on (both (closed (stmts_checked true inner body)) (closed (stmts_checked true (with_name inner x.word) handler))) (λ _. Fine (texts old))) h
      (stops f (both (closed (stmts_checked true inner body)) (closed (stmts_checked true (with_name inner x.word) handler))) (λ _. Fine (texts old)) (both_first f (closed (stmts_checked true inner body)) (closed (stmts_checked true (with_name inner x.word) handler)) b)))

  pub region_arm : (r : Result (Unit {0}) RegionFault) (inner last : List Word) (l m : ExprTree) (xs : List IdTree) (body : StmtList) (x : IdTree) (handler : StmtList) → k ≡ region_stmt l m xs body x handler →
      head_checked i (texts old) l m xs ≡ Fine inner → closed (stmts_checked true inner body) ≡ Fine tt → last ≡ with_name inner x.word → Passes r (closed (stmts_checked true last handler)) → Leaves r (texts old) (stmt_form_checked i (texts old) at k)
  region_arm r inner last l m xs body x handler is h b e c =
      leaves_form r old (region_stmt l m xs body x handler) is
      (subst (λ (v : Verdict (List Word)). Leaves r (texts old) (then_on v (λ inner. then_on (both (closed (stmts_checked true inner body)) (closed (stmts_checked true (with_name inner x.word) handler))) (λ _. Fine (texts old))))) (sym h)
      (last_part old r (closed (stmts_checked true inner body)) (closed (stmts_checked true (with_name inner x.word) handler)) b (subst (λ (w : List Word). Passes r (closed (stmts_checked true w handler))) e c)))

  pub assign_first : (f : RegionFault) (p e : ExprTree) → k ≡ assign_stmt p e → Breaks f (place_checked i (texts old) p) → Breaks f (stmt_form_checked i (texts old) at k)
  assign_first f p e is b =
      stops_form f (assign_stmt p e) is (stops f (both (place_checked i (texts old) p) (expr_checked i (texts old) e)) (λ _. Fine (texts old)) (both_first f (place_checked i (texts old) p) (expr_checked i (texts old) e) b))

  pub assign_rest : (r : Result (Unit {0}) RegionFault) (p e : ExprTree) → k ≡ assign_stmt p e → place_checked i (texts old) p ≡ Fine tt → Passes r (expr_checked i (texts old) e) → Leaves r (texts old) (stmt_form_checked i (texts old) at k)
  assign_rest r p e is h m = leaves_form r old (assign_stmt p e) is (last_part old r (place_checked i (texts old) p) (expr_checked i (texts old) e) h m)
