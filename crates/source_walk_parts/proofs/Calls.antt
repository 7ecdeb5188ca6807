-- Built-in calls with a null argument, and with more arguments than any takes.
use Rattle.std.proofs.Common.{◌≡◌, ◌<◌, Bool, true, false, cond, List, ◌∷◌, length, refl, sym, ap, ◌∙◌, arith}
use Rattle.flow_labels.specs.declared.Label.{Label}
use Rattle.capabilities.specs.declared.Caps.{Caps}
use Rattle.lam_value.specs.declared.values.Value.{Value}
use Rattle.lam_value.specs.declared.values.Value.TheVariants.{Int, Bytes, Arr, File, Dir, Pipe, Thread, Lab, CapV}
use Rattle.lam_builtins.specs.declared.Builtin.{Builtin}
use Rattle.lam_builtins.specs.declared.Builtin.TheVariants as call
use Rattle.lam_asks.specs.declared.fault.Fault.TheVariants.{Null}
use Rattle.thread_steps.specs.Operators.{some_null}
use Rattle.thread_steps.specs.Builtins.{Calls, faults, calls, wrong, builtin}
use Rattle.source_walk_state.specs.declared.Sort.{Sort}
use Rattle.source_walk_state.specs.declared.Control.TheVariants.{Raise, Broken}
use Rattle.source_walk_parts.specs.Controls.{calls_control}

module _ (l : Label) (k : Caps) (rest : List Value) where
  -- where the first arguments are of the kinds that a call takes, it still finds more; all else is wrong at once
  four : (b : Builtin) (v w x y : Value) → calls l k b (v ∷ w ∷ x ∷ y ∷ rest) ≡ wrong
  four call.Len (Arr n len) w x y = refl
  four call.Size (Bytes bs) w x y = refl
  four call.Byte (Bytes bs) (Int i) x y = refl
  four call.Slice (Bytes bs) (Int i) (Int j) y = refl
  four call.Cat (Bytes a) (Bytes c) x y = refl
  four call.Text (Int i) w x y = refl
  four call.Number (Bytes bs) w x y = refl
  four call.Copy v (Lab m) x y = refl
  four call.Say (Bytes bs) w x y = refl
  four call.MakeFile (Dir d) (Bytes n) (Lab m) y = refl
  four call.MakeDir (Dir d) (Bytes n) (Lab m) y = refl
  four call.OpenFile (Dir d) (Bytes n) x y = refl
  four call.OpenDir (Dir d) (Bytes n) x y = refl
  four call.Remove (Dir d) (Bytes n) x y = refl
  four call.Read (File f) (Int at) (Int n) y = refl
  four call.Length (File f) w x y = refl
  four call.Append (File f) (Bytes bs) x y = refl
  four call.Cut (File f) (Int n) x y = refl
  four call.MakePipe (Lab m) w x y = refl
  four call.Send (Pipe d) (Bytes bs) x y = refl
  four call.SendCaps (Pipe d) (CapV plus minus) x y = refl
  four call.Receive (Pipe d) w x y = refl
  four call.ReceiveCaps (Pipe d) w x y = refl
  four call.Join (Thread t) w x y = refl
  four b v w x y = refl

module _ (s : Sort) (l : Label) (k : Caps) (b : Builtin) where
  null_by : (n : Bool) (x : Calls) → n ≡ true → Raise Null ≡ calls_control s (cond n (faults Null) x)
  null_by n x h = ap (λ m. calls_control s (cond m (faults Null) x)) (sym h)

  wrong_by : (n : Bool) (x : Calls) → n ≡ false → x ≡ wrong → Broken ≡ calls_control s (cond n (faults Null) x)
  wrong_by n x h e = ap (calls_control s) (sym e) ∙ ap (λ m. calls_control s (cond m (faults Null) x)) (sym h)

  pub null_calls : (vs : List Value) → some_null vs ≡ true → Raise Null ≡ calls_control s (builtin l k b vs)
  unfolding builtin
  null_calls vs h = null_by (some_null vs) (calls l k b vs) h

  known : (vs : List Value) → some_null vs ≡ false → calls l k b vs ≡ wrong → Broken ≡ calls_control s (builtin l k b vs)
  unfolding builtin
  known vs h e = wrong_by (some_null vs) (calls l k b vs) h e

  pub many_calls : (vs : List Value) → 3 < length vs → some_null vs ≡ false → Broken ≡ calls_control s (builtin l k b vs)
  many_calls (v ∷ w ∷ x ∷ y ∷ rest) h n = known (v ∷ w ∷ x ∷ y ∷ rest) n (four l k rest b v w x y)
  many_calls vs h n = absurd (omega arith)
