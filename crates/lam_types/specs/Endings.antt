-- Blocks that end in a return or a throw, on each way through them.
use Rattle.std.specs.Prelude.{Bool, true, false, ◌&&◌}
use Rattle.lam_syntax.specs.Tree.{StmtTree, stmt_node, StmtForm, return_stmt, throw_stmt, if_stmt, StmtList, no_stmts, stmts, ElseTree, no_else, else_block}

abbrev mutual
  pub ends_stmt : StmtTree → Bool
  ends_stmt (stmt_node at form) = ends_form form

  pub ends_form : StmtForm → Bool
  ends_form (return_stmt e) = true
  ends_form (throw_stmt e) = true
  ends_form (if_stmt e first other) = both_end (ends first) other
  ends_form _ = false

  -- the last statement of a block ends it
  pub ends : StmtList → Bool
  ends no_stmts = false
  ends (stmts s no_stmts) = ends_stmt s
  ends (stmts s (stmts t rest)) = ends (stmts t rest)

  pub both_end : Bool → ElseTree → Bool
  both_end first no_else = false
  both_end first (else_block body) = first && ends body
