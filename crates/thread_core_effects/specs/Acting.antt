-- What the code of an operation says of it, and what it leaves of the operands.
use Rattle.std.specs.Prelude.{ℕ, nat_lt, if◌then◌else◌, Bool, true, false, List, [], ◌∷◌, ◌++◌, map, reverse, take, drop, length, slice_get, slice_set}
use Rattle.std.specs.FinSet.{insert, from_list}
use Rattle.flow_labels.specs.Tags.{Tags}
use Rattle.capabilities.specs.Changes.{no_caps}
use Rattle.std.specs.Fmt.{signed_decimal}
use Rattle.flow_labels.specs.declared.Label.{Label}
use Rattle.capabilities.specs.declared.Caps.{Caps}
use Rattle.lam_value.specs.declared.values.Value.{Value}
use Rattle.lam_value.specs.declared.values.Value.TheVariants as value
use Rattle.lam_value.specs.declared.shapes.Kind.{Kind}
use Rattle.lam_value.specs.declared.shapes.Shape.TheVariants as shape
use Rattle.lam_value.specs.Shapes.{zero_of}
use Rattle.lam_builtins.specs.declared.Builtin.{Builtin}
use Rattle.lam_builtins.specs.Builtins.{row}
use Rattle.thread_core_state.specs.CodeUnit.{CodeUnit}
use Rattle.thread_core_state.specs.Ask.{Ask}
use Rattle.thread_core_state.specs.Ask.TheVariants as ask
use Rattle.thread_core_state.specs.Operators as operators
use Rattle.thread_core_state.specs.Operators.{Pure, label_from, with_sign}
use Rattle.thread_core_state.specs.Builtins as built
use Rattle.thread_core_state.specs.Builtins.{Calls, builtin, root_name}
use Rattle.thread_core_state.specs.Limits.{frames_limit}
use Rattle.thread_core_state.specs.Ops.{Did, gives, sets, jumps, calls, returns, fails, wants, leaves, breaks, on_any, on_many, on_known, on_caps, on_label, operated, new_object, region_takes, region_in, function_takes, called}
use Rattle.thread_core_state.specs.Fault.TheVariants as fault
use Rattle.thread_core_effects.specs.declared.acted.Computed.{Computed}
use Rattle.thread_core_effects.specs.declared.acted.Computed.TheVariants as computed
use Rattle.thread_core_effects.specs.declared.acted.AskRef.{AskRef}
use Rattle.thread_core_effects.specs.declared.acted.AskRef.TheVariants as ask_ref
use Rattle.thread_core_effects.specs.declared.acted.ValueRef.{ValueRef}
use Rattle.thread_core_effects.specs.declared.acted.ValueRef.TheVariants as value_ref
use Rattle.thread_core_effects.specs.declared.acted.Called.{Called}
use Rattle.thread_core_effects.specs.declared.acted.Called.TheVariants as calling
use Rattle.thread_core_effects.specs.declared.acted.OpEffect.{OpEffect}
use Rattle.thread_core_effects.specs.declared.acted.OpEffect.TheVariants as op_effect

-- ---- asks and values whose parts are borrowed

abbrev pub ask_of : AskRef → Ask
ask_of (ask_ref.Read r at) = ask.Read r.now at
ask_of (ask_ref.Write r at v) = ask.Write r.now at v.now
ask_of (ask_ref.NewObject class kinds) = ask.New (shape.Class class (map zero_of kinds.now))
ask_of (ask_ref.NewArray kind len) = ask.New (shape.Array kind len)
ask_of (ask_ref.CopyTo r own) = ask.CopyTo r.now own.now
ask_of ask_ref.Mint = ask.Mint
ask_of (ask_ref.Enter label plus minus region args) = ask.Enter label.now (record { plus = plus.now; minus = minus.now }) region args.now
ask_of (ask_ref.Barred denied) = ask.Barred denied
ask_of (ask_ref.MonEnter r) = ask.MonEnter r.now
ask_of (ask_ref.MonLeave r) = ask.MonLeave r.now
ask_of (ask_ref.MakeFile dir entry own) = ask.MakeFile dir.now entry.now own.now
ask_of (ask_ref.MakeDir dir entry own) = ask.MakeDir dir.now entry.now own.now
ask_of (ask_ref.OpenFile dir entry) = ask.OpenFile dir.now entry.now
ask_of (ask_ref.OpenDir dir entry) = ask.OpenDir dir.now entry.now
ask_of (ask_ref.Remove dir entry) = ask.Remove dir.now entry.now
ask_of (ask_ref.FileRead file at n) = ask.FileRead file.now at n
ask_of (ask_ref.FileLength file) = ask.FileLength file.now
ask_of (ask_ref.Append file bytes) = ask.Append file.now bytes.now
ask_of (ask_ref.Cut file len) = ask.Cut file.now len
ask_of (ask_ref.MakePipe own) = ask.MakePipe own.now
ask_of (ask_ref.Send pipe bytes) = ask.Send pipe.now bytes.now
ask_of (ask_ref.SendCaps pipe plus minus) = ask.SendCaps pipe.now (record { plus = plus.now; minus = minus.now })
ask_of (ask_ref.Receive pipe) = ask.Receive pipe.now
ask_of (ask_ref.ReceiveCaps pipe) = ask.ReceiveCaps pipe.now
ask_of (ask_ref.Spawn unit args plus minus) = ask.Spawn unit args.now (record { plus = plus.now; minus = minus.now })
ask_of (ask_ref.Join thread) = ask.Join thread
ask_of (ask_ref.Say bytes) = ask.Say bytes.now

-- the tags among values
abbrev pub tag_list : List Value → List ℕ
tag_list [] = []
tag_list (value.Tag t ∷ vs) = t ∷ tag_list vs
tag_list (v ∷ vs) = tag_list vs

abbrev pub signed : Bool → Tags → Tags → ℕ → Value
signed true p m t = value.CapV (insert p t) m
signed false p m t = value.CapV p (insert m t)

abbrev pub value_of : ValueRef → Value
value_of (value_ref.Int n) = value.Int n
value_of (value_ref.Bool b) = value.Bool b
value_of (value_ref.Same v) = v.now
value_of (value_ref.Bytes bytes) = value.Bytes bytes.now
value_of (value_ref.Joined a b) = value.Bytes (a.now ++ b.now)
value_of (value_ref.Text n) = value.Bytes (signed_decimal n)
value_of (value_ref.Lab label) = value.Lab label.now
value_of (value_ref.OfTags secrets vouchers) = value.Lab (record { s = from_list (tag_list secrets.now); i = from_list (tag_list vouchers.now) })
value_of (value_ref.Caps caps) = value.CapV caps.now.plus caps.now.minus
value_of value_ref.NoCaps = value.CapV no_caps.plus no_caps.minus
value_of (value_ref.Signed sign plus minus tag) = signed sign plus.now minus.now tag
value_of value_ref.Root = value.Dir root_name

-- what an operator gives
abbrev pub pure_of : Computed → Pure
pure_of (computed.Fine w) = operators.fine (value_of w)
pure_of (computed.Faults f) = operators.faults f
pure_of computed.Wrong = operators.wrong

abbrev pub calls_of : Called → Calls
calls_of (calling.Now w) = built.now (value_of w)
calls_of (calling.Faults f) = built.faults f
calls_of (calling.Asks k) = built.asks (ask_of k)
calls_of (calling.Acts k) = built.acts (ask_of k)
calls_of calling.Wrong = built.wrong

-- null stands in the answer's place where the ask has no value
abbrev pub left_over : ℕ → Bool → List Value → List Value
left_over takes true s = value.Nothing ∷ drop takes s
left_over takes false s = drop takes s

-- what an operation does to the locals and the operands, as it was seen
abbrev pub did_of : OpEffect → List Value → List Value → Did
did_of (op_effect.Drops takes) locals s = gives (drop takes s)
did_of (op_effect.Puts takes w) locals s = gives (value_of w ∷ drop takes s)
did_of (op_effect.Sets local) locals s = on_any s (λ v s. sets (slice_set locals local v) s)
did_of (op_effect.Jumps to takes) locals s = jumps to (drop takes s)
did_of (op_effect.Calls unit count) locals s = calls unit (reverse (take count s)) (drop count s)
did_of op_effect.Returns locals s = on_any s (λ v s. returns v)
did_of (op_effect.Fails f) locals s = fails f
did_of (op_effect.Asks k takes leaves_null) locals s = wants (ask_of k) (left_over takes leaves_null s)
did_of op_effect.Leaves locals s = leaves
did_of op_effect.Breaks locals s = breaks

-- ---- operations

-- the label of so many tags of secrecy and, above them, so many of integrity
abbrev pub labelled : ℕ → ℕ → List Value → Did
labelled p q s = on_many q s (λ vouchers s. on_many p s (λ secrets s. operated s (label_from secrets vouchers)))

-- capabilities with the plus of the tag above them, or with its minus
abbrev pub signs : Bool → List Value → Did
signs plus s = on_any s (λ t s. on_any s (λ c s. operated s (with_sign plus c t)))

-- an object of a class, by its number
abbrev pub makes_object : List (List Kind) → ℕ → List Value → Did
makes_object classes c s = new_object c s (slice_get classes c)

-- a region is entered with captures, and with the label and the capabilities that stand on top
abbrev pub enters_with : ℕ → List Value → List Value → Did
enters_with r args s = on_caps s (λ c s. on_label s (λ l s. wants (ask.Enter l c r args) s))

-- a region is entered with what stands on top: its label, its capabilities, and the captures above them
abbrev pub enters : List CodeUnit → ℕ → List Value → Did
enters us r s = on_known (region_takes (region_in r us)) (λ n. on_many n s (λ args s. enters_with r args s))

-- a thread is made with arguments, and with the capabilities that stand on top
abbrev pub spawns_with : ℕ → List Value → List Value → Did
spawns_with u args s = on_caps s (λ c s. wants (ask.Spawn u args c) s)

abbrev pub spawns : List CodeUnit → ℕ → List Value → Did
spawns us u s = on_known (function_takes (slice_get us u)) (λ n. on_many n s (λ args s. spawns_with u args s))

-- a built-in call with the arguments on top
abbrev pub systems : Label → Caps → Builtin → List Value → Did
systems p c b s = on_many (length (row b).signature.takes) s (λ args s. called s (builtin p c b args))

-- a function is called, by its number, where so many calls are open
abbrev pub calls_unit : List CodeUnit → ℕ → ℕ → List Value → Did
calls_unit us frames u s = on_known (function_takes (slice_get us u)) (λ n. on_many n s (λ args s. if nat_lt frames frames_limit then calls u args s else fails fault.Deep))
