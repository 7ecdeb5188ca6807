-- The controls that a truth value chooses, and those before a region.
use Rattle.std.specs.Prelude.{ℕ, Bool, true, false, List}
use denote.Bor.{Bor}
use Rattle.lam_value.specs.declared.values.Value.{Value}
use Rattle.lam_value.specs.declared.values.Value.TheVariants.{Bool as Truth, Nothing, Lab, CapV}
use Rattle.lam_asks.specs.declared.fault.Fault.TheVariants.{Null}
use Rattle.lam_resolve_tree.specs.declared.Expr.{Expr}
use Rattle.lam_resolve_tree.specs.declared.Stmt.{Stmt}
use Rattle.source_walk_state.specs.declared.Region.{Region}
use Rattle.source_walk_state.specs.declared.BeforeRegion.{BeforeRegion}
use Rattle.source_walk_state.specs.declared.BeforeRegion.TheVariants as part
use Rattle.source_walk_state.specs.declared.Frame.{Frame}
use Rattle.source_walk_state.specs.declared.Frame.TheVariants as frame
use Rattle.source_walk_state.specs.declared.Control.{Control}
use Rattle.source_walk_state.specs.declared.Control.TheVariants.{Eval, Block, Give, Raise, Enter, Broken}

-- `&&` and `||`, whose first operand is this value
abbrev pub and_control : ℕ → Bor Expr → Value → Control
and_control depth e (Truth true) = Eval depth e
and_control depth e (Truth false) = Give (Truth false)
and_control depth e v = Broken

abbrev pub or_control : ℕ → Bor Expr → Value → Control
or_control depth e (Truth true) = Give (Truth true)
or_control depth e (Truth false) = Eval depth e
or_control depth e v = Broken

abbrev pub branch_control : ℕ → Bor (List Stmt) → Bor (List Stmt) → Value → Control
branch_control depth a b (Truth true) = Block depth a
branch_control depth a b (Truth false) = Block depth b
branch_control depth a b v = Broken

-- a region, with the values of its label and its capabilities
abbrev pub enter_control : ℕ → Region → Value → Value → Control
enter_control depth x (Lab l) (CapV p m) = Enter depth l (record { plus = p; minus = m }) x
enter_control depth x (Lab l) Nothing = Raise Null
enter_control depth x Nothing (CapV p m) = Raise Null
enter_control depth x Nothing Nothing = Raise Null
enter_control depth x l c = Broken

-- the ends of a region, which no `return` comes to
abbrev pub is_region_end : BeforeRegion → Bool
is_region_end (part.Body outside) = true
is_region_end (part.Caught f outside) = true
is_region_end b = false

abbrev pub is_region_delimiter : Frame → Bool
is_region_delimiter (frame.Region d x b) = is_region_end b
is_region_delimiter (frame.Catch outside) = true
is_region_delimiter f = false
