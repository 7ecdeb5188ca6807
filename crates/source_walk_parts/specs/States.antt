-- Where a walk stands, and what a step of it does.
use Rattle.std.specs.Prelude.{◌≡◌, ◌<◌, ◌≤◌, ◌⊎◌, ℕ, ◌+◌, Bool, true, false, if◌then◌else◌, List, ◌∷◌, reverse}
use Rattle.flow_labels.specs.declared.Label.{Label}
use Rattle.capabilities.specs.declared.Caps.{Caps}
use Rattle.lam_value.specs.declared.values.Value.{Value}
use Rattle.lam_resolve_tree.specs.Tree.{ResolvedTree}
use Rattle.lam_meaning.specs.Trees.{Own, with_locals, with_local, Tree, on_end}
use Rattle.lam_meaning.specs.Means.{At, inside, deeper}
use Rattle.source_walk_state.specs.declared.Outside.{Outside}
use Rattle.source_walk_state.specs.declared.Frame.{Frame}
use Rattle.source_walk_state.specs.declared.Control.{Control}
use Rattle.source_walk_state.specs.declared.Control.TheVariants as control
use Rattle.source_walk_state.specs.Meaning.{left, place_of, own_of, after}
use Rattle.source_walk_parts.specs.declared.walk.Walk.{Walk}
use Rattle.source_walk_parts.specs.Weights.{pending, frames_weight}

-- all but the control: the frames, the next one first, the place, the units that are left, and the context's own
pub record State : Type 0 where
  pub frames : List Frame
  pub place : At
  pub units : ℕ
  pub own : Own

abbrev pub state_of : Walk → State
state_of w =
    record { frames = reverse w.frames.items; place = record { label = w.label; calls = w.calls }; units = w.units; own = record { locals = w.locals; caps = w.caps } }

abbrev pub with_frames : State → List Frame → State
with_frames s fs = record { frames = fs; place = s.place; units = s.units; own = s.own }

-- one frame more, the next one
abbrev pub pushed : State → Frame → State
pushed s f = with_frames s (f ∷ s.frames)

abbrev pub with_own : State → Own → State
with_own s o = record { frames = s.frames; place = s.place; units = s.units; own = o }

abbrev pub at_place : State → At → State
at_place s p = record { frames = s.frames; place = p; units = s.units; own = s.own }

abbrev pub with_units : State → ℕ → State
with_units s n = record { frames = s.frames; place = s.place; units = n; own = s.own }

-- with a value in a local
abbrev pub local_set : State → ℕ → Value → State
local_set s x v = with_own s (with_local s.own x v)

-- what stood around a region comes back
abbrev pub outside_of : State → Outside → State
outside_of s out = record { frames = s.frames; place = place_of out; units = s.units; own = own_of out }

-- the caller's locals come back
abbrev pub returned : State → ℕ → List Value → State
returned s calls ls = record { frames = s.frames; place = record { label = s.place.label; calls = calls }; units = s.units; own = with_locals s.own ls }

-- a call begins, with its locals
abbrev pub called : State → List Value → State
called s ls = record { frames = s.frames; place = deeper s.place; units = s.units; own = with_locals s.own ls }

-- the tree of asks that is left
unfoldable pub left_at : ResolvedTree → Control → State → Tree (Unit {0})
left_at r c s = left r c s.frames s.place s.units s.own

-- a unit was taken, or less is pending
abbrev pub IsLess : ℕ → ℕ → ℕ → ℕ → Type 0
IsLess n m k l = (n < k) ⊎ ((n ≡ k) × (m < l))

-- a step from control c where it stands so, to control d: it leaves the tree of asks as it is, and takes a unit or
-- makes less pending
pub record Goes (r : ResolvedTree) (c : Control) (s : State) (d : Control) (t : State) : Type 0 where
  pub left : left_at r d t ≡ left_at r c s
  pub less : IsLess t.units (pending d t.frames) s.units (pending c s.frames)

-- the same for every program
abbrev pub Always : Control → State → Control → State → Type 0
Always c s d t = (r : ResolvedTree) → Goes r c s d t

-- this control comes first, and a frame waits for its value
pub record IsWaiting (c : Control) (f : Frame) (s : State) (d : Control) (t : State) : Type 0 where
  pub control : d ≡ c
  pub state : t ≡ pushed s f

-- the context of a region
abbrev pub begun : State → Label → Caps → List Value → State
begun s l k ls = record { frames = s.frames; place = inside l; units = s.units; own = record { locals = ls; caps = k } }

-- a control that goes on as this tree of values does, before the frames of s, and has no more pending than them and m
pub record IsLeft (r : ResolvedTree) (tree : Tree Value) (m : ℕ) (s : State) (d : Control) (t : State) : Type 0 where
  pub left : left_at r d t ≡ on_end tree (after r s.frames s.place)
  pub units : t.units ≡ s.units
  pub least : pending d t.frames ≤ m + frames_weight s.frames

abbrev pub is_ask : Control → Bool
is_ask (control.Ask a sort y) = true
is_ask c = false

-- a frame waits for the answer, where the control asks
abbrev pub pushed_if : Control → State → Frame → State
pushed_if c s f = if is_ask c then pushed s f else s
