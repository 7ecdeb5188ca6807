-- An operand comes first, and a frame waits for its value.
use Rattle.std.proofs.Common.{◌≡◌, ℕ, ◌+◌, ◌<◌, refl, sym, arith}
use denote.Bor.{Bor}
use Rattle.lam_resolve_tree.specs.declared.Expr.{Expr}
use Rattle.lam_resolve_tree.specs.Tree.{expr_tree, ResolvedTree}
use Rattle.lam_value.specs.declared.values.Value.{Value}
use Rattle.lam_meaning.specs.Trees.{Tree, on_end, gives}
use Rattle.source_walk_state.specs.declared.Frame.{Frame}
use Rattle.source_walk_state.specs.declared.Control.{Control}
use Rattle.source_walk_state.specs.declared.Control.TheVariants.{Eval, Give}
use Rattle.source_walk_state.specs.Meaning.{value_of, after}
use Rattle.source_walk_parts.specs.Weights.{expr_weight, frame_weight}
use Rattle.source_walk_parts.specs.States.{State, pushed, left_at, IsWaiting}
use Rattle.source_walk_parts.proofs.Steps.{by_waiting}
use Rattle.source_walk_open.specs.Opens.{Opens}

module _ (tree : ResolvedTree → Tree Value) (weight : ℕ) (s : State) where
  -- by the law of its form
  pub waits : {d : Control} {t : State} (depth : ℕ) (e : Bor Expr) (f : Frame) → IsWaiting (Eval depth e) f s d t
      → ((r : ResolvedTree) → on_end (tree r) (after r s.frames s.place) ≡ on_end (value_of r depth (expr_tree e.now) s.place s.units s.own) (after r (pushed s f).frames s.place))
      → expr_weight (expr_tree e.now) + frame_weight f < weight → Opens tree weight s d t
  unfolding left_at
  waits depth e f w law h =
      by_waiting (λ d t. Opens tree weight s d t) w (record { left = λ r. sym (law r); units = refl; less = omega (arith, h) })

  -- its value is there at once
  pub is_given : (v : Value) → ((r : ResolvedTree) → tree r ≡ gives v s.units s.own) → 1 < weight → Opens tree weight s (Give v) s
  unfolding left_at on_end
  is_given v law h = record { left = λ r. sym (rw (law r)); units = refl; less = omega (arith, h) }
