-- The first steps of expressions, arguments, statements and blocks.
use Rattle.std.specs.Prelude.{◌≡◌, ◌<◌, ℕ, ◌+◌, List}
use Rattle.lam_value.specs.declared.values.Value.{Value}
use Rattle.lam_resolve_tree.specs.Tree.{Expression, Expressions, Statement, Block, ResolvedTree}
use Rattle.lam_meaning.specs.Trees.{Tree, on_end}
use Rattle.source_walk_state.specs.declared.Using.{Using}
use Rattle.source_walk_state.specs.declared.Control.{Control}
use Rattle.source_walk_state.specs.Meaning.{value_of, statement, block, valued, gathered, open_of, after}
use Rattle.source_walk_parts.specs.Weights.{expr_weight, exprs_weight, stmt_weight, block_weight, using_weight, frames_weight, pending}
use Rattle.source_walk_parts.specs.States.{State, left_at}

-- a step to control d that leaves the asks of a tree, before the frames of s, and takes no unit. What is pending then is
-- less than that tree and the frames are
pub record Opens (tree : ResolvedTree → Tree Value) (weight : ℕ) (s : State) (d : Control) (t : State) : Type 0 where
  pub left : (r : ResolvedTree) → left_at r d t ≡ on_end (tree r) (after r s.frames s.place)
  pub units : t.units ≡ s.units
  pub less : pending d t.frames < weight + frames_weight s.frames

abbrev pub OpensExpr : ℕ → Expression → State → Control → State → Type 0
OpensExpr depth e s d t = Opens (λ r. value_of r depth e s.place s.units s.own) (expr_weight e) s d t

abbrev pub OpensArgs : ℕ → Expressions → List Value → Using → State → Control → State → Type 0
OpensArgs depth es vs u s d t = Opens (λ r. gathered r depth es vs u s.place s.units s.own) (exprs_weight es + using_weight u + 2) s d t

abbrev pub OpensStmt : ℕ → Statement → State → Control → State → Type 0
OpensStmt depth it s d t = Opens (λ r. valued (statement r depth (open_of s.frames) it s.place s.units s.own)) (stmt_weight it) s d t

abbrev pub OpensBlock : ℕ → Block → State → Control → State → Type 0
OpensBlock depth b s d t = Opens (λ r. valued (block r depth (open_of s.frames) b s.place s.units s.own)) (block_weight b + 2) s d t
