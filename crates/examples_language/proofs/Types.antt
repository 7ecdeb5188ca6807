-- The first break of the typing rules.
use Rattle.std.proofs.Common.{◌≡◌, [], ◌∷◌, Some, None, true, refl}
use Rattle.std.specs.Prelude.{codes}
use Rattle.lam_operators.specs.declared.BinaryOp.TheVariants.{Add, Mul}
use Rattle.lam_syntax.specs.Tree.{ProgramTree, type_node, int_type, bool_type, function_item, expr_node, binary_expr, bool_expr, let_stmt, return_stmt, no_stmts}
use Rattle.lam_builtins.specs.Builtins.{builtin_named}
use Rattle.lam_types_kinds.specs.Breaks.{mismatch, no_name, twice, no_return}
use Rattle.lam_types_kinds.specs.Tables.{with_function, with_var}
use Rattle.lam_types_exprs.specs.Exprs.{placed}
use Rattle.lam_types.specs.Stmts.{stands, closed}
use Rattle.lam_types.specs.Program.{first_type_break}
use Rattle.examples_language.proofs.Samples.{id, name, number, int_var, then_at, in_f}

-- fn f(): int { return true; }
pub bool_for_an_int : first_type_break (in_f (then_at 14 (return_stmt (Some (expr_node 21 (bool_expr true)))) no_stmts)) ≡ Some (mismatch 21 (Some (type_node 0 int_type)) (Some (type_node 0 bool_type)))
unfolding first_type_break with_function with_var builtin_named placed stands closed
bool_for_an_int = refl

-- fn f(): int { return y; }
pub undeclared_name : first_type_break (in_f (then_at 14 (return_stmt (Some (name 21 (codes "y")))) no_stmts)) ≡ Some (no_name 21)
unfolding first_type_break with_function with_var builtin_named placed stands closed
undeclared_name = refl

-- fn f(): int { let x: int = 1; let x: int = 2; return x; }
pub declared_again :
    first_type_break (in_f (then_at 14 (let_stmt (int_var 18 (codes "x") 21) (number 27 1)) (then_at 30 (let_stmt (int_var 34 (codes "x") 37) (number 43 2)) (then_at 46 (return_stmt (Some (name 53 (codes "x")))) no_stmts)))) ≡
    Some (twice 34)
unfolding first_type_break with_function with_var builtin_named placed stands closed
declared_again = refl

-- fn f(): int { }
pub ends_without_a_return : first_type_break (in_f no_stmts) ≡ Some (no_return 3)
unfolding first_type_break with_function with_var builtin_named placed stands closed
ends_without_a_return = refl

-- fn f(x:int):int{return (x+1)*2;}
pub typed : ProgramTree
typed =
    function_item
    (record {
      at = 0;
      name = id 3 (codes "f");
      params = int_var 5 (codes "x") 7 ∷ [];
      result = Some (type_node 12 int_type);
      body = then_at 16 (return_stmt (Some (expr_node 28 (binary_expr Mul (expr_node 25 (binary_expr Add (name 24 (codes "x")) (number 26 1))) (number 29 2))))) no_stmts;
    })
    ∷ []

pub nothing_is_wrong : first_type_break typed ≡ None
unfolding typed first_type_break with_function with_var builtin_named placed stands closed
nothing_is_wrong = refl
