-- The first break of the region rules.
use Rattle.std.proofs.Common.{◌≡◌, List, [], ◌∷◌, Some, None, refl}
use Rattle.std.specs.Prelude.{codes}
use Rattle.lam_syntax.specs.Tree.{IdTree, ProgramTree, ExprTree, expr_node, label_expr, caps_expr, no_exprs, let_stmt, return_stmt, region_stmt, assign_stmt, StmtList, no_stmts}
use Rattle.region_check.specs.Breaks.{outer_read, outer_write, return_in_region, both, closed, first_region_break}
use Rattle.examples_language.proofs.Samples.{id, name, number, int_var, then_at, in_f}

pub no_label : ExprTree
no_label = expr_node 38 (label_expr no_exprs no_exprs)

pub no_caps : ExprTree
no_caps = expr_node 48 (caps_expr [])

-- fn f(): int { let x: int = 1; region (label{;}, caps{}) [..] {..} catch (e) { } return x; }
-- What stands after the body has the positions of the first text below.
pub with_region : List IdTree → StmtList → ProgramTree
with_region captures body =
    in_f
    (then_at 14 (let_stmt (int_var 18 (codes "x") 21) (number 27 1))
    (then_at 30 (region_stmt no_label no_caps captures body (id 77 (codes "e")) no_stmts) (then_at 84 (return_stmt (Some (name 91 (codes "x")))) no_stmts)))

-- .. [] { x = 2; }
pub outer_name_is_written : first_region_break (with_region [] (then_at 61 (assign_stmt (name 61 (codes "x")) (number 65 2)) no_stmts)) ≡ Some (outer_write 61)
unfolding first_region_break both closed no_label no_caps with_region
outer_name_is_written = refl

-- .. [x] { x = 2; }
pub captured_name_is_written : first_region_break (with_region (id 57 (codes "x") ∷ []) (then_at 62 (assign_stmt (name 62 (codes "x")) (number 66 2)) no_stmts)) ≡ None
unfolding first_region_break both closed no_label no_caps with_region
captured_name_is_written = refl

-- .. [] { region (label{;}, caps{}) [x] { } catch (d) { } }
pub inner_region_captures_what_the_outer_did_not : first_region_break (with_region [] (then_at 61 (region_stmt no_label no_caps (id 88 (codes "x") ∷ []) no_stmts (id 102 (codes "d")) no_stmts) no_stmts)) ≡ Some (outer_read 88)
unfolding first_region_break both closed no_label no_caps with_region
inner_region_captures_what_the_outer_did_not = refl

-- .. [] { return 1; }
pub returned_from_a_region : first_region_break (with_region [] (then_at 61 (return_stmt (Some (number 68 1))) no_stmts)) ≡ Some (return_in_region 61)
unfolding first_region_break both closed no_label no_caps with_region
returned_from_a_region = refl
