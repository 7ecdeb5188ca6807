-- The first break in a statement, from left to right, and what a statement leaves: the names in scope and the counts.
use Rattle.std.specs.Prelude.{ℕ, ◌+◌, ◌++◌, Bool, true, false, is_some, List, [], ◌∷◌, Option, Some, None}
use Rattle.lam_syntax.specs.Tree.{IdTree, VarTree, ExprTree, expr_node, field_expr, element_expr, name_expr, StmtTree, stmt_node, StmtForm, let_stmt, if_stmt, while_stmt, return_stmt, throw_stmt, sync_stmt, region_stmt, do_stmt, assign_stmt, StmtList, no_stmts, stmts, ElseTree, no_else, else_block}
use Rattle.lam_operators.specs.Words.{Word}
use Rattle.lam_builtins.specs.Limits.{most_slots, most_regions}
use Rattle.lam_builtins.specs.Types.{ValueType, int, bool, label, caps, Given, given_type, Place, exactly, any_object}
use Rattle.lam_types_kinds.specs.Written.{written}
use Rattle.lam_types_kinds.specs.Verdicts.{Fine, Stop, then_on}
use Rattle.lam_types_kinds.specs.Breaks.{Verdict, mismatch_of}
use Rattle.lam_types_kinds.specs.Tables.{Names, Decls, find, fresh, room, named_if, type_known}
use Rattle.lam_types_exprs.specs.Exprs.{at_of, placed, given_of}
use Rattle.lam_types.specs.declared.stmts.Counts.{Counts}

-- an expression stands at a place
unfoldable pub stands : Decls → Names → Place → ExprTree → Verdict (Unit {0})
stands d env p e = then_on (placed (at_of e) p (given_of d env e)) (λ _. Fine tt)

-- one more slot of the unit
abbrev pub one_slot : ℕ → Counts → Verdict Counts
one_slot at c = then_on (room at most_slots c.slots) (λ _. Fine (record { slots = c.slots + 1; regions = c.regions }))

-- one more region of the program, whose unit has no slots yet
abbrev pub one_region : ℕ → Counts → Verdict Counts
one_region at c = then_on (room at most_regions c.regions) (λ _. Fine (record { slots = 0; regions = c.regions + 1 }))

-- after a region the slots go on where they were
abbrev pub back_in : Counts → Counts → Counts
back_in c inner = record { slots = c.slots; regions = inner.regions }

abbrev pub with_local : Names → Word → ValueType → Names
with_local env x t = env ++ (x, t) ∷ []

-- a local with a new name
abbrev pub new_local : Names → Counts → IdTree → Verdict Counts
new_local env c x = then_on (fresh env x) (λ _. one_slot x.at c)

-- a captured name is a local in scope, and a slot of the region's unit
abbrev pub capture : Names → Counts → IdTree → Verdict Counts
capture env c x = then_on (named_if (is_some (find x.word env)) x.at) (λ _. one_slot x.at c)

abbrev pub captured : Names → Counts → List IdTree → Verdict Counts
captured env c [] = Fine c
captured env c (x ∷ xs) = then_on (capture env c x) (λ c. captured env c xs)

-- a value is returned exactly where the function has a result
abbrev pub returned : Decls → Option ValueType → Names → ℕ → Option ExprTree → Verdict (Unit {0})
returned d None env at None = Fine tt
returned d (Some t) env at None = Stop (mismatch_of at (Some t) None)
returned d None env at (Some e) = then_on (given_of d env e) (λ g. Stop (mismatch_of (at_of e) None (given_type g)))
returned d (Some t) env at (Some e) = stands d env (exactly t) e

-- what may stand before `=`: a name, a field, an element
abbrev pub is_place : ExprTree → Bool
is_place (expr_node at (name_expr x)) = true
is_place (expr_node at (field_expr e f)) = true
is_place (expr_node at (element_expr e i)) = true
is_place (expr_node at _) = false

abbrev pub place_type : Bool → Given → Option ValueType
place_type true g = given_type g
place_type false g = None

abbrev pub assigned : Decls → Names → ℕ → Given → Option ValueType → ExprTree → Verdict (Unit {0})
assigned d env at g None e = Stop (mismatch_of at None (given_type g))
assigned d env at g (Some t) e = stands d env (exactly t) e

-- the names in scope, and the counts
abbrev pub State : Type 0
State = Names × Counts

abbrev pub let_checked : Decls → Names → Counts → VarTree → ExprTree → Verdict State
let_checked d env c x e =
    then_on (new_local env c x.name) (λ c. then_on (type_known d x.ty) (λ _. then_on (stands d env (exactly (written x.ty)) e) (λ _. Fine (with_local env x.name.word (written x.ty), c))))

-- what stands before the blocks of a region
abbrev pub head_checked : Decls → Names → Counts → ℕ → ExprTree → ExprTree → List IdTree → Verdict Counts
head_checked d env c at l k xs =
    then_on (one_region at c) (λ c. then_on (stands d env (exactly label) l) (λ _. then_on (stands d env (exactly caps) k) (λ _. captured env c xs)))

-- a block: its names go out of scope, and the counts go on
unfoldable pub closed : Verdict State → Verdict Counts
closed v = then_on v (λ s. Fine s.1)

abbrev mutual
  pub stmt_checked : Decls → Option ValueType → Names → Counts → StmtTree → Verdict State
  stmt_checked d res env c (stmt_node at form) = form_checked d res env c at form

  pub form_checked : Decls → Option ValueType → Names → Counts → ℕ → StmtForm → Verdict State
  form_checked d res env c at (let_stmt x e) = let_checked d env c x e
  form_checked d res env c at (if_stmt e first other) =
      then_on (then_on (stands d env (exactly bool) e) (λ _. closed (stmts_checked d res env c first))) (λ c. then_on (else_checked d res env c other) (λ c. Fine (env, c)))
  form_checked d res env c at (while_stmt e body) =
      then_on (then_on (stands d env (exactly bool) e) (λ _. closed (stmts_checked d res env c body))) (λ c. Fine (env, c))
  form_checked d res env c at (return_stmt e) = then_on (returned d res env at e) (λ _. Fine (env, c))
  form_checked d res env c at (throw_stmt e) = then_on (stands d env (exactly int) e) (λ _. Fine (env, c))
  form_checked d res env c at (sync_stmt e body) =
      then_on (then_on (one_slot at c) (λ c. then_on (stands d env any_object e) (λ _. closed (stmts_checked d res env c body)))) (λ c. Fine (env, c))
  form_checked d res env c at (region_stmt l k xs body x handler) =
      then_on (then_on (head_checked d env c at l k xs) (λ c. closed (stmts_checked d res env c body))) (λ inner.
      then_on (then_on (new_local env inner x) (λ c. closed (stmts_checked d res (with_local env x.word int) c handler))) (λ inner. Fine (env, back_in c inner)))
  form_checked d res env c at (do_stmt e) = then_on (given_of d env e) (λ _. Fine (env, c))
  form_checked d res env c at (assign_stmt p e) =
      then_on (given_of d env p) (λ g. then_on (assigned d env (at_of p) g (place_type (is_place p) g) e) (λ _. Fine (env, c)))

  pub else_checked : Decls → Option ValueType → Names → Counts → ElseTree → Verdict Counts
  else_checked d res env c no_else = Fine c
  else_checked d res env c (else_block body) = closed (stmts_checked d res env c body)

  pub stmts_checked : Decls → Option ValueType → Names → Counts → StmtList → Verdict State
  stmts_checked d res env c no_stmts = Fine (env, c)
  stmts_checked d res env c (stmts s rest) = then_on (stmt_checked d res env c s) (λ s. stmts_checked d res s.0 s.1 rest)

abbrev pub block_checked : Decls → Option ValueType → Names → Counts → StmtList → Verdict Counts
block_checked d res env c body = closed (stmts_checked d res env c body)
