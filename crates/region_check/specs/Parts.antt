-- Parts of statements for which the checker has a function of its own. The rules of the language do not speak of them.
use Rattle.std.specs.Prelude.{Bool, List}
use Rattle.lam_syntax.specs.Tree.{ExprTree, StmtList}
use Rattle.lam_operators.specs.Words.{Word}
use Rattle.region_check.specs.Breaks.{Verdict, both, closed, expr_checked, stmts_checked}

-- an expression and a block
abbrev pub guarded : Bool → List Word → ExprTree → StmtList → Verdict (Unit {0})
guarded inside own e body = both (expr_checked inside own e) (closed (stmts_checked inside own body))
