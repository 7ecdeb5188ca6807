-- What the definitions see of a unit.
use Rattle.std.specs.Prelude.{ℕ, ◌+◌, List, map}
use Rattle.std.specs.Borrow.{Bor}
use Rattle.lam_operators.specs.Words.{Word}
use Rattle.lam_resolve_tree.specs.Tree.{types_tree}
use Rattle.lam_resolve_laws.specs.Resolved.{Locals, State as ResolvedState, state_as, slots_of, taken_over, locals_from, types_of}
use Rattle.lam_resolve_exprs.specs.declared.values.Local.{Local}
use Rattle.lam_resolve_exprs.specs.Values.{local, locals}
use Rattle.lam_resolve_units.specs.declared.units.State.{State}
use Rattle.lam_resolve_units.specs.declared.units.Entered.{Entered}

abbrev pub state : State → ResolvedState
state st = state_as (types_tree st.slots.items) st.regions

-- the captured names
abbrev pub captured : List (Bor Word × Local) → Locals
captured cs = map (λ c. (c.0.now, local c.1)) cs

-- a region that is entered: the captured slots, the names in scope, and the state
pub record Inside : Type 0 where
  pub captures : List ℕ
  pub names : Locals
  pub state : ResolvedState

abbrev pub entered : Entered → Inside
entered e = record { captures = e.captures.items; names = locals e.unit.scope; state = state e.unit.state }

abbrev pub entered_by : Locals → ℕ → Inside
entered_by cs regions = record { captures = slots_of cs; names = locals_from 0 (taken_over cs); state = state_as (types_of (taken_over cs)) (regions + 1) }
