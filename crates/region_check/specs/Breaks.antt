-- The first break of the region rules, in source order. For example:
--   fn f(): int { let x: int = 1; region (label{;}, caps{}) [] { x = 2; } catch (e) { } return x; }     an outer write at 61
--   the same with [x]                                                                                   none
use Rattle.std.specs.Prelude.{ℕ, Bool, true, false, if◌then◌else◌, ◌||◌, not, List, [], ◌∷◌, ◌++◌, Option, Some, None}
use Rattle.std.specs.Str.{bytes_eq}
use Rattle.std.specs.List.{list_any}
use Rattle.lam_types_kinds.specs.Verdicts as verdicts
use Rattle.lam_types_kinds.specs.Verdicts.{Fine, Stop, then_on, first_break}
use Rattle.lam_syntax.specs.Tree.{IdTree, CapTree, ExprTree, expr_node, ExprForm, binary_expr, unary_expr, field_expr, element_expr, number_expr, text_expr, bool_expr, null_expr, name_expr, call_expr, new_class_expr, new_array_expr, label_expr, caps_expr, spawn_expr, ExprList, no_exprs, exprs, StmtTree, stmt_node, StmtForm, let_stmt, if_stmt, while_stmt, return_stmt, throw_stmt, sync_stmt, region_stmt, do_stmt, assign_stmt, StmtList, no_stmts, stmts, ElseTree, no_else, else_block, class_item, function_item, ProgramTree}
use Rattle.lam_operators.specs.Words.{Word}

pub data Break : Type 0 where
  outer_read : (at : ℕ) → Break
  outer_write : (at : ℕ) → Break
  return_in_region : (at : ℕ) → Break
  capture_twice : (at : ℕ) → Break

-- the answer of a check: a value, or the first break
abbrev pub Verdict : Type 0 → Type 0
Verdict A = verdicts.Verdict Break A

abbrev pub test : Bool → Break → Verdict (Unit {0})
test b s = if b then Fine tt else Stop s

unfoldable pub both : Verdict (Unit {0}) → Verdict (Unit {0}) → Verdict (Unit {0})
both a b = then_on a (λ _. b)

-- a set of names, as a list without repeats

abbrev pub has : List Word → Word → Bool
has own x = list_any (bytes_eq x) own

abbrev pub with_name : List Word → Word → List Word
with_name own x = if has own x then own else own ++ x ∷ []

-- outside of every region each name may be used; inside of one, its own names: the captures, and those declared in it
abbrev pub allowed : Bool → List Word → Word → Bool
allowed inside own x = not inside || has own x

abbrev pub read_checked : Bool → List Word → ℕ → Word → Verdict (Unit {0})
read_checked inside own at x = test (allowed inside own x) (outer_read at)

abbrev pub caps_checked : Bool → List Word → List CapTree → Verdict (Unit {0})
caps_checked inside own [] = Fine tt
caps_checked inside own (x ∷ xs) = then_on (read_checked inside own x.name.at x.name.word) (λ _. caps_checked inside own xs)

abbrev mutual
  pub expr_checked : Bool → List Word → ExprTree → Verdict (Unit {0})
  expr_checked inside own (expr_node at form) = form_checked inside own at form

  pub form_checked : Bool → List Word → ℕ → ExprForm → Verdict (Unit {0})
  form_checked inside own at (binary_expr op l r) = then_on (expr_checked inside own l) (λ _. expr_checked inside own r)
  form_checked inside own at (unary_expr op e) = expr_checked inside own e
  form_checked inside own at (field_expr e f) = expr_checked inside own e
  form_checked inside own at (element_expr e i) = then_on (expr_checked inside own e) (λ _. expr_checked inside own i)
  form_checked inside own at (number_expr n) = Fine tt
  form_checked inside own at (text_expr t) = Fine tt
  form_checked inside own at (bool_expr b) = Fine tt
  form_checked inside own at null_expr = Fine tt
  form_checked inside own at (name_expr x) = read_checked inside own at x
  form_checked inside own at (call_expr f args) = exprs_checked inside own args
  form_checked inside own at (new_class_expr c) = Fine tt
  form_checked inside own at (new_array_expr t n) = expr_checked inside own n
  form_checked inside own at (label_expr s i) = then_on (exprs_checked inside own s) (λ _. exprs_checked inside own i)
  form_checked inside own at (caps_expr items) = caps_checked inside own items
  form_checked inside own at (spawn_expr c f args) = then_on (expr_checked inside own c) (λ _. exprs_checked inside own args)

  pub exprs_checked : Bool → List Word → ExprList → Verdict (Unit {0})
  exprs_checked inside own no_exprs = Fine tt
  exprs_checked inside own (exprs e rest) = then_on (expr_checked inside own e) (λ _. exprs_checked inside own rest)

-- a captured name is read by what stands around the region, and no name before it is the same
abbrev pub capture_checked : Bool → List Word → List Word → IdTree → Verdict (Unit {0})
capture_checked inside own seen x = both (read_checked inside own x.at x.word) (test (not (has seen x.word)) (capture_twice x.at))

abbrev pub captures_checked : Bool → List Word → List Word → List IdTree → Verdict (List Word)
captures_checked inside own seen [] = Fine seen
captures_checked inside own seen (x ∷ xs) = then_on (capture_checked inside own seen x) (λ _. captures_checked inside own (seen ++ x.word ∷ []) xs)

abbrev pub value_checked : Bool → List Word → Option ExprTree → Verdict (Unit {0})
value_checked inside own None = Fine tt
value_checked inside own (Some e) = expr_checked inside own e

abbrev pub return_checked : Bool → List Word → ℕ → Option ExprTree → Verdict (Unit {0})
return_checked inside own at e = then_on (test (not inside) (return_in_region at)) (λ _. value_checked inside own e)

-- what stands before `=`: a name there is written
abbrev pub place_form : Bool → List Word → ℕ → ExprForm → Verdict (Unit {0})
place_form inside own at (name_expr x) = test (allowed inside own x) (outer_write at)
place_form inside own at form = form_checked inside own at form

abbrev pub place_checked : Bool → List Word → ExprTree → Verdict (Unit {0})
place_checked inside own (expr_node at form) = place_form inside own at form

-- a block, whose names go out of scope
unfoldable pub closed : Verdict (List Word) → Verdict (Unit {0})
closed v = then_on v (λ _. Fine tt)

-- the label, the capabilities and the captures of a region belong to the outside; the names that its body begins with
abbrev pub head_checked : Bool → List Word → ExprTree → ExprTree → List IdTree → Verdict (List Word)
head_checked inside own l k xs = then_on (expr_checked inside own l) (λ _. then_on (expr_checked inside own k) (λ _. captures_checked inside own [] xs))

-- the own names after a statement
abbrev mutual
  pub stmt_checked : Bool → List Word → StmtTree → Verdict (List Word)
  stmt_checked inside own (stmt_node at form) = stmt_form_checked inside own at form

  pub stmt_form_checked : Bool → List Word → ℕ → StmtForm → Verdict (List Word)
  stmt_form_checked inside own at (let_stmt x e) = then_on (expr_checked inside own e) (λ _. Fine (with_name own x.name.word))
  stmt_form_checked inside own at (if_stmt e first other) =
      then_on (both (expr_checked inside own e) (closed (stmts_checked inside own first))) (λ _. then_on (else_checked inside own other) (λ _. Fine own))
  stmt_form_checked inside own at (while_stmt e body) = then_on (both (expr_checked inside own e) (closed (stmts_checked inside own body))) (λ _. Fine own)
  stmt_form_checked inside own at (return_stmt e) = then_on (return_checked inside own at e) (λ _. Fine own)
  stmt_form_checked inside own at (throw_stmt e) = then_on (expr_checked inside own e) (λ _. Fine own)
  stmt_form_checked inside own at (sync_stmt e body) = then_on (both (expr_checked inside own e) (closed (stmts_checked inside own body))) (λ _. Fine own)
  stmt_form_checked inside own at (region_stmt l k xs body x handler) =
      then_on (head_checked inside own l k xs) (λ inner.
      then_on (both (closed (stmts_checked true inner body)) (closed (stmts_checked true (with_name inner x.word) handler))) (λ _. Fine own))
  stmt_form_checked inside own at (do_stmt e) = then_on (expr_checked inside own e) (λ _. Fine own)
  stmt_form_checked inside own at (assign_stmt p e) = then_on (both (place_checked inside own p) (expr_checked inside own e)) (λ _. Fine own)

  pub else_checked : Bool → List Word → ElseTree → Verdict (Unit {0})
  else_checked inside own no_else = Fine tt
  else_checked inside own (else_block body) = closed (stmts_checked inside own body)

  pub stmts_checked : Bool → List Word → StmtList → Verdict (List Word)
  stmts_checked inside own no_stmts = Fine own
  stmts_checked inside own (stmts s rest) = then_on (stmt_checked inside own s) (λ own. stmts_checked inside own rest)

abbrev pub program_checked : ProgramTree → Verdict (Unit {0})
program_checked [] = Fine tt
program_checked (class_item c ∷ p) = program_checked p
program_checked (function_item f ∷ p) = then_on (closed (stmts_checked false [] f.body)) (λ _. program_checked p)

unfoldable pub first_region_break : ProgramTree → Option Break
first_region_break p = first_break (program_checked p)
