-- Trees with positions.
use Rattle.std.proofs.Common.{ℕ, [], ◌∷◌, Some, pos}
use Rattle.std.specs.Prelude.{codes}
use Rattle.lam_syntax.specs.Tree.{IdTree, VarTree, type_node, int_type, function_item, ProgramTree, ExprTree, expr_node, number_expr, name_expr, stmt_node, StmtForm, StmtList, stmts}
use Rattle.lam_operators.specs.Words.{Word}

abbrev pub id : ℕ → Word → IdTree
id at x = record { at = at; word = x }

abbrev pub name : ℕ → Word → ExprTree
name at x = expr_node at (name_expr x)

abbrev pub number : ℕ → ℕ → ExprTree
number at n = expr_node at (number_expr (pos n))

abbrev pub int_var : ℕ → Word → ℕ → VarTree
int_var at x type_at = record { name = id at x; ty = type_node type_at int_type }

abbrev pub then_at : ℕ → StmtForm → StmtList → StmtList
then_at at form rest = stmts (stmt_node at form) rest

-- fn f(): int { with its body from position 14 on
abbrev pub in_f : StmtList → ProgramTree
in_f body = function_item (record { at = 0; name = id 3 (codes "f"); params = []; result = Some (type_node 8 int_type); body = body }) ∷ []
