-- How much is pending: each step of a walk that takes no unit makes it less.
use Rattle.std.specs.Prelude.{ℕ, ◌+◌, false, List, [], ◌∷◌, Option, Some, None}
use Rattle.lam_resolve_tree.specs.Tree.{Expression, unary_of, binary_of, field_of, element_of, call_of, builtin_of, new_array, label_of, spawn_of, Expressions, args_end, args_more, Statement, let_slot, if_block, while_block, return_value, throw_value, sync_block, region_block, do_value, set_local, set_field, set_element, Block, block_end, block_more, OtherBlock, no_other, other_block, expr_tree, exprs_tree, stmt_tree, stmts_tree}
use Rattle.source_walk_state.specs.declared.Using.{Using}
use Rattle.source_walk_state.specs.declared.Using.TheVariants as using
use Rattle.source_walk_state.specs.declared.BeforeRegion.TheVariants as part
use Rattle.source_walk_state.specs.declared.Frame.{Frame}
use Rattle.source_walk_state.specs.declared.Frame.TheVariants as frame
use Rattle.source_walk_state.specs.declared.Control.{Control}
use Rattle.source_walk_state.specs.declared.Control.TheVariants as control

-- ---- pieces of a program

abbrev mutual
  pub expr_weight : Expression → ℕ
  expr_weight (unary_of op e) = expr_weight e + 2
  expr_weight (binary_of op a b) = expr_weight a + expr_weight b + 2
  expr_weight (field_of e c f t) = expr_weight e + 2
  expr_weight (element_of e i t) = expr_weight e + expr_weight i + 2
  expr_weight (call_of f args) = exprs_weight args + 3
  expr_weight (builtin_of b args t) = exprs_weight args + 3
  expr_weight (new_array t e) = expr_weight e + 2
  expr_weight (label_of s i) = exprs_weight s + exprs_weight i + 4
  expr_weight (spawn_of c f args) = expr_weight c + exprs_weight args + 3
  expr_weight _ = 2

  pub exprs_weight : Expressions → ℕ
  exprs_weight args_end = 0
  exprs_weight (args_more e rest) = expr_weight e + exprs_weight rest + 1

abbrev pub option_weight : Option Expression → ℕ
option_weight None = 0
option_weight (Some e) = expr_weight e

abbrev mutual
  -- a region's body begins with an answer, and the turn of a loop takes a unit
  pub stmt_weight : Statement → ℕ
  stmt_weight (let_slot x e) = expr_weight e + 2
  stmt_weight (if_block e body other) = expr_weight e + block_weight body + other_weight other + 3
  stmt_weight (while_block e body) = expr_weight e + 2
  stmt_weight (return_value e) = option_weight e + 2
  stmt_weight (throw_value e) = expr_weight e + 2
  stmt_weight (sync_block x e body) = expr_weight e + block_weight body + 4
  stmt_weight (region_block m l c from slots body slot handler) = expr_weight l + expr_weight c + 2
  stmt_weight (do_value e) = expr_weight e + 2
  stmt_weight (set_local x e) = expr_weight e + 2
  stmt_weight (set_field e c f t v) = expr_weight e + expr_weight v + 2
  stmt_weight (set_element e i t v) = expr_weight e + expr_weight i + expr_weight v + 2

  pub block_weight : Block → ℕ
  block_weight block_end = 0
  block_weight (block_more s rest) = stmt_weight s + block_weight rest + 2

  pub other_weight : OtherBlock → ℕ
  other_weight no_other = 0
  other_weight (other_block b) = block_weight b

-- ---- what is pending

abbrev pub using_weight : Using → ℕ
using_weight (using.Secrets vouchers) = exprs_weight (exprs_tree vouchers.now) + 1
using_weight u = 0

abbrev pub frame_weight : Frame → ℕ
frame_weight (frame.Expr d e before) = expr_weight (expr_tree e.now) + 1
frame_weight (frame.Spawn d f args) = exprs_weight (exprs_tree args.now) + 2
frame_weight (frame.Args d rest vs u) = exprs_weight (exprs_tree rest.now) + using_weight u + 2
frame_weight (frame.Index d i v) = expr_weight (expr_tree i.now) + expr_weight (expr_tree v.now) + 1
frame_weight (frame.Branch d a b) = block_weight (stmts_tree a.now) + block_weight (stmts_tree b.now) + 2
frame_weight (frame.Loop d e a false) = expr_weight (expr_tree e.now) + 1
frame_weight (frame.Block d a before) = block_weight (stmts_tree a.now) + 3
frame_weight (frame.Region d x (part.Label c)) = expr_weight (expr_tree c.now) + 1
frame_weight (frame.Region d x (part.Body out)) = block_weight (stmts_tree x.catch_body.now) + 3
frame_weight (frame.Region d x (part.Caught f out)) = block_weight (stmts_tree x.catch_body.now) + 3
frame_weight f = 1

abbrev pub frames_weight : List Frame → ℕ
frames_weight [] = 0
frames_weight (f ∷ fs) = frame_weight f + frames_weight fs

-- a control that stands weighs nothing
abbrev pub control_weight : Control → ℕ
control_weight (control.Eval d e) = expr_weight (expr_tree e.now)
control_weight (control.Gather d rest vs u) = exprs_weight (exprs_tree rest.now) + using_weight u + 2
control_weight (control.Exec d s) = stmt_weight (stmt_tree s.now)
control_weight (control.Block d rest) = block_weight (stmts_tree rest.now) + 2
control_weight (control.Give v) = 1
control_weight (control.Raise f) = 1
control_weight (control.Leave v) = 1
control_weight c = 0

abbrev pub pending : Control → List Frame → ℕ
pending c fs = control_weight c + frames_weight fs
