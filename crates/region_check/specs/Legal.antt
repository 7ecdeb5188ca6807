-- Which programs keep the region rules: the names in a region's body and catch block are its captures and its own,
-- no name is captured twice, and no `return` stands inside. No positions, no order.
use Rattle.std.specs.Prelude.{◌≡◌, Bool, true, false, List, [], ◌∷◌, ◌++◌, map, Option, Some, None}
use Rattle.lam_syntax.specs.Tree.{IdTree, CapTree, ExprTree, expr_node, ExprForm, binary_expr, unary_expr, field_expr, element_expr, number_expr, text_expr, bool_expr, null_expr, name_expr, call_expr, new_class_expr, new_array_expr, label_expr, caps_expr, spawn_expr, ExprList, no_exprs, exprs, stmt_node, StmtForm, let_stmt, if_stmt, while_stmt, return_stmt, throw_stmt, sync_stmt, region_stmt, do_stmt, assign_stmt, StmtList, no_stmts, stmts, ElseTree, no_else, else_block, class_item, function_item, ProgramTree}
use Rattle.lam_operators.specs.Words.{Word}
use Rattle.region_check.specs.Breaks.{has, with_name}

-- inside of a region, a name is one of its own
abbrev pub IsReached : Bool → List Word → Word → Type 0
IsReached false own x = Unit {0}
IsReached true own x = has own x ≡ true

abbrev pub ReachesCaps : Bool → List Word → List CapTree → Type 0
ReachesCaps inside own [] = Unit {0}
ReachesCaps inside own (x ∷ xs) = IsReached inside own x.name.word × ReachesCaps inside own xs

-- each name in an expression is reached
abbrev mutual
  pub Reaches : Bool → List Word → ExprTree → Type 0
  Reaches inside own (expr_node at form) = FormReaches inside own form

  pub FormReaches : Bool → List Word → ExprForm → Type 0
  FormReaches inside own (binary_expr op l r) = Reaches inside own l × Reaches inside own r
  FormReaches inside own (unary_expr op e) = Reaches inside own e
  FormReaches inside own (field_expr e f) = Reaches inside own e
  FormReaches inside own (element_expr e i) = Reaches inside own e × Reaches inside own i
  FormReaches inside own (number_expr n) = Unit {0}
  FormReaches inside own (text_expr t) = Unit {0}
  FormReaches inside own (bool_expr b) = Unit {0}
  FormReaches inside own null_expr = Unit {0}
  FormReaches inside own (name_expr x) = IsReached inside own x
  FormReaches inside own (call_expr f args) = AllReach inside own args
  FormReaches inside own (new_class_expr c) = Unit {0}
  FormReaches inside own (new_array_expr t n) = Reaches inside own n
  FormReaches inside own (label_expr s i) = AllReach inside own s × AllReach inside own i
  FormReaches inside own (caps_expr items) = ReachesCaps inside own items
  FormReaches inside own (spawn_expr c f args) = Reaches inside own c × AllReach inside own args

  pub AllReach : Bool → List Word → ExprList → Type 0
  AllReach inside own no_exprs = Unit {0}
  AllReach inside own (exprs e rest) = Reaches inside own e × AllReach inside own rest

-- each captured name is reached from the outside
abbrev pub AreReached : Bool → List Word → List IdTree → Type 0
AreReached inside own [] = Unit {0}
AreReached inside own (x ∷ xs) = IsReached inside own x.word × AreReached inside own xs

-- the names differ from each other and from those before
abbrev pub Differ : List Word → List IdTree → Type 0
Differ seen [] = Unit {0}
Differ seen (x ∷ xs) = (has seen x.word ≡ false) × Differ (seen ++ x.word ∷ []) xs

abbrev pub ValueReaches : Bool → List Word → Option ExprTree → Type 0
ValueReaches inside own None = Unit {0}
ValueReaches inside own (Some e) = Reaches inside own e

abbrev pub words : List IdTree → List Word
words xs = map (λ x. x.word) xs

-- the own names after a statement
abbrev pub after : List Word → StmtForm → List Word
after own (let_stmt x e) = with_name own x.name.word
after own _ = own

abbrev mutual
  pub IsLegalForm : Bool → List Word → StmtForm → Type 0
  IsLegalForm inside own (let_stmt x e) = Reaches inside own e
  IsLegalForm inside own (if_stmt e first other) = Reaches inside own e × IsLegalBlock inside own first × IsLegalElse inside own other
  IsLegalForm inside own (while_stmt e body) = Reaches inside own e × IsLegalBlock inside own body
  IsLegalForm inside own (return_stmt e) = (inside ≡ false) × ValueReaches inside own e
  IsLegalForm inside own (throw_stmt e) = Reaches inside own e
  IsLegalForm inside own (sync_stmt e body) = Reaches inside own e × IsLegalBlock inside own body
  IsLegalForm inside own (region_stmt l k xs body x handler) =
      Reaches inside own l × Reaches inside own k × AreReached inside own xs × Differ [] xs × IsLegalBlock true (words xs) body × IsLegalBlock true (with_name (words xs) x.word) handler
  IsLegalForm inside own (do_stmt e) = Reaches inside own e
  IsLegalForm inside own (assign_stmt p e) = Reaches inside own p × Reaches inside own e

  pub IsLegalElse : Bool → List Word → ElseTree → Type 0
  IsLegalElse inside own no_else = Unit {0}
  IsLegalElse inside own (else_block body) = IsLegalBlock inside own body

  pub IsLegalBlock : Bool → List Word → StmtList → Type 0
  IsLegalBlock inside own no_stmts = Unit {0}
  IsLegalBlock inside own (stmts (stmt_node at form) rest) = IsLegalForm inside own form × IsLegalBlock inside (after own form) rest

-- a program keeps the region rules
abbrev pub IsRegionLegal : ProgramTree → Type 0
IsRegionLegal [] = Unit {0}
IsRegionLegal (class_item c ∷ p) = IsRegionLegal p
IsRegionLegal (function_item f ∷ p) = IsLegalBlock false [] f.body × IsRegionLegal p
