-- Threads of a code at the addresses of its thinned code.
use Rattle.std.specs.Prelude.{◌≡◌, ℕ, Bool, true, List, [], map, Option, Some, None, slice_get}
use Rattle.lam_asks.specs.declared.fault.Fault.{Fault}
use Rattle.lam_bytecode.specs.Codes.{CodeTree}
use Rattle.lam_bytecode.specs.declared.unit.CodeUnit.{CodeUnit}
use Rattle.thread_steps.specs.Threads.{Frame, Inside, Phase, Bottom, Body, Catch, Context, Thread}
use Rattle.thread_steps.specs.Next.{frame_at, outermost, Next, goes, asks, stuck}
use Rattle.thinned_code.specs.Thinned.{staying_in, moved}

abbrev pub staying_of : CodeTree → Option CodeUnit → List Bool
staying_of code None = []
staying_of code (Some u) = staying_in code u

-- of each operation of the unit with a number whether it stays
unfoldable pub staying_at : CodeTree → ℕ → List Bool
staying_at code unit = staying_of code (slice_get code.units unit)

abbrev pub moved_frame : CodeTree → Frame → Frame
moved_frame code f = frame_at f (moved (staying_at code f.unit) f.at) f.locals f.stack

abbrev pub moved_inside : CodeTree → Inside → Inside
moved_inside code i = record { frame = moved_frame code i.frame; callers = map (moved_frame code) i.callers; fault = i.fault }

-- the catch place of a region is an address of its unit
abbrev pub moved_phase : List Bool → Phase → Phase
moved_phase ks Bottom = Bottom
moved_phase ks (Body catch_at) = Body (moved ks catch_at)
moved_phase ks Catch = Catch

-- the unit of the outermost frame: of a region's context, the region's
abbrev pub outer_unit : Inside → ℕ
outer_unit i = (outermost i.frame i.callers).unit

abbrev pub moved_context : CodeTree → Context → Context
moved_context code c =
    record {
      label = c.label;
      caps = c.caps;
      depth = c.depth;
      phase = moved_phase (staying_at code (outer_unit c.inside)) c.phase;
      held = c.held;
      inside = moved_inside code c.inside;
    }

abbrev pub moved_thread : CodeTree → Thread → Thread
moved_thread code th = record { contexts = map (moved_context code) th.contexts; result = th.result }

abbrev pub moved_next : CodeTree → Next → Next
moved_next code (goes i) = goes (moved_inside code i)
moved_next code (asks a after) = asks a (moved_inside code after)
moved_next code stuck = stuck

-- ---- where a context stands

abbrev pub StaysBy : CodeTree → Frame → Option Fault → Type 0
StaysBy code f None = slice_get (staying_at code f.unit) f.at ≡ Some true
StaysBy code f (Some fault) = Unit {0}

-- at an operation that stays, or at a fault
abbrev pub Stays : CodeTree → Context → Type 0
Stays code c = StaysBy code c.inside.frame c.inside.fault
