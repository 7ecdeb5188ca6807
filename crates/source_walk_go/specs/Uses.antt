-- The values of arguments are used.
use Rattle.std.specs.Prelude.{◌≡◌, ℕ, ◌+◌, List}
use Rattle.lam_value.specs.declared.values.Value.{Value}
use Rattle.lam_resolve_tree.specs.Tree.{ResolvedTree}
use Rattle.lam_meaning.specs.Trees.{on_end}
use Rattle.source_walk_state.specs.declared.Using.{Using}
use Rattle.source_walk_state.specs.declared.Control.{Control}
use Rattle.source_walk_state.specs.Meaning.{used, after}
use Rattle.source_walk_parts.specs.Weights.{using_weight, frames_weight, pending}
use Rattle.source_walk_parts.specs.States.{State, left_at, IsLess}

-- a step to control d that leaves the asks of that use, before the frames of s. It takes a unit, or less is pending then
-- than before
pub record Uses (r : ResolvedTree) (depth : ℕ) (u : Using) (vs : List Value) (s : State) (d : Control) (t : State) : Type 0 where
  pub left : left_at r d t ≡ on_end (used r depth u s.place vs s.units s.own) (after r s.frames s.place)
  pub less : IsLess t.units (pending d t.frames) s.units (using_weight u + 2 + frames_weight s.frames)
