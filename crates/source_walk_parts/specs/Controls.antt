-- The controls that what was computed goes on with.
use Rattle.std.specs.Prelude.{ℕ, ℤ, pos, negsuc, nat_le, if◌then◌else◌, Bool, true, false, List}
use Rattle.lam_value.specs.declared.values.Value.{Value}
use Rattle.lam_value.specs.declared.values.Value.TheVariants as value
use Rattle.lam_value.specs.declared.shapes.Kind.{Kind}
use Rattle.lam_value.specs.declared.shapes.Shape.TheVariants.{Array}
use Rattle.thread_steps.specs.Limits.{length_limit}
use Rattle.lam_asks.specs.declared.fault.Fault.TheVariants as fault
use Rattle.lam_asks.specs.declared.ask.Ask.{Ask}
use Rattle.lam_asks.specs.declared.ask.Ask.TheVariants as ask
use Rattle.thread_steps.specs.Operators as operators
use Rattle.thread_steps.specs.Operators.{Pure}
use Rattle.thread_steps.specs.Builtins as calls
use Rattle.thread_steps.specs.Builtins.{Calls}
use Rattle.source_walk_state.specs.declared.Sort.{Sort}
use Rattle.source_walk_state.specs.declared.Sort.TheVariants.{Number}
use Rattle.source_walk_state.specs.declared.Reply.TheVariants as reply
use Rattle.source_walk_state.specs.declared.Control.{Control}
use Rattle.source_walk_state.specs.declared.Control.TheVariants as control

abbrev pub pure_control : Pure → Control
pure_control (operators.fine v) = control.Give v
pure_control (operators.faults f) = control.Raise f
pure_control operators.wrong = control.Broken

-- a built-in call whose result is of a sort
abbrev pub calls_control : Sort → Calls → Control
calls_control s (calls.now v) = control.Give v
calls_control s (calls.faults f) = control.Raise f
calls_control s (calls.asks a) = control.Ask a s reply.Value
calls_control s (calls.acts a) = control.Ask a Number reply.Done
calls_control s calls.wrong = control.Broken

-- that a monitor be taken, or given back
abbrev pub monitor_ask : Bool → Value → Ask
monitor_ask true r = ask.MonEnter r
monitor_ask false r = ask.MonLeave r

abbrev pub monitor_control : Bool → Value → Control
monitor_control takes (value.Obj x) = control.Ask (monitor_ask takes (value.Obj x)) Number reply.Done
monitor_control takes (value.Arr x len) = control.Ask (monitor_ask takes (value.Arr x len)) Number reply.Done
monitor_control takes value.Nothing = control.Raise fault.Null
monitor_control takes v = control.Broken

-- a new array, of a number as its length
abbrev pub array_of : Kind → ℤ → Control
array_of k (pos m) = if nat_le m length_limit then control.Ask (ask.New (Array k m)) Number reply.Value else control.Raise fault.Long
array_of k (negsuc m) = control.Raise fault.Long

abbrev pub array_control : Kind → Value → Control
array_control k (value.Int z) = array_of k z
array_control k v = control.Broken

-- the fault that a number throws
abbrev pub thrown_control : Value → Control
thrown_control (value.Int z) = control.Raise (fault.Thrown z)
thrown_control v = control.Broken

-- a new thread that runs a function with capabilities and arguments
abbrev pub spawn_control : ℕ → Value → List Value → Control
spawn_control f (value.CapV p m) vs = control.Spawn f vs (record { plus = p; minus = m })
spawn_control f value.Nothing vs = control.Raise fault.Null
spawn_control f c vs = control.Broken
