-- What each operation asks for.
use Rattle.std.proofs.Common.{◌≡◌, ℕ, ℤ, pos, negsuc, Bool, true, false, List, [], ◌∷◌, ◌++◌, Option, Some, None, refl}
use Rattle.std.specs.Prelude.{if◌then◌else◌, nat_lt, nat_le, drop, slice_get, ◌&&◌, length}
use Rattle.flow_labels.specs.declared.Label.{Label}
use Rattle.flow_labels.specs.declared.Denied.{Denied}
use Rattle.capabilities.specs.declared.Caps.{Caps}
use Rattle.lam_value.specs.declared.names.Name.{Name}
use Rattle.lam_value.specs.declared.values.Value.{Value}
use Rattle.lam_value.specs.declared.values.Value.TheVariants.{Int, Bool as Truth, Bytes, Nothing, Obj, Arr, File, Dir, Pipe, Thread, Lab, CapV}
use Rattle.lam_value.specs.declared.shapes.Kind.{Kind}
use Rattle.lam_builtins.specs.declared.Builtin.{Builtin}
use Rattle.lam_builtins.specs.declared.Builtin.TheVariants as call
use Rattle.lam_asks.specs.declared.fault.Fault.TheVariants as fault
use Rattle.lam_asks.specs.declared.ask.Ask.{Ask}
use Rattle.lam_asks.specs.declared.ask.Ask.TheVariants as ask
use Rattle.lam_bytecode.specs.declared.op.Op.{Op}
use Rattle.lam_bytecode.specs.declared.op.Op.TheVariants.{Const, Load, Store, Pop, Add, Sub, Mul, Div, Rem, Neg, Not, Eq, Ne, Lt, Le, Gt, Ge, Jump, JumpIfFalse, Call, Return, Throw, ReadBarrier, WriteBarrier, GetField, PutField, GetElement, PutElement, NewObject, NewArray, MakeLabel, NoCaps, WithPlus, WithMinus, System, EnterMonitor, LeaveMonitor, EnterRegion, LeaveRegion, Spawn}
use Rattle.lam_operators.specs.declared.BinaryOp.{BinaryOp}
use Rattle.lam_operators.specs.declared.UnaryOp.{UnaryOp}
use Rattle.lam_operators.specs.declared.BinaryOp.TheVariants as binary
use Rattle.lam_operators.specs.declared.UnaryOp.TheVariants as unary
use Rattle.thread_steps.specs.Operators as operators
use Rattle.thread_steps.specs.Operators.{Pure, fine, is_small, some_null, label_from}
use Rattle.thread_steps.specs.Builtins as builtins
use Rattle.thread_steps.specs.Builtins.{Calls, now, asks, acts, byte_now, byte_at, slice_at, number_in, own_label, copied, read_from, cut_to, builtin}
use Rattle.thread_steps.specs.Ops.{Did, calls, fails, wants, on_any, on_int, on_truth, on_many, on_thing, on_caps, on_label, operated, between, before, unless_denied, barrier, may_read, may_write, within, gets_field, puts_field, gets_element, puts_element, new_object, new_array, on_known, called, is_held, monitor_of, on_constant, at_address, Around, effect}
use Rattle.thread_steps.specs.Limits.{frames_limit}
use Rattle.lam_machine_laws.specs.Turns.{lists}
use Rattle.lam_machine_valid.specs.Laws.{IsTop, IsBarred, LeadsTo, IsRead, IsWritten}

abbrev pub IsThing : Value → Type 0
IsThing r = (n : Name) × LeadsTo r n

-- what holds where an operation asks
abbrev pub AskOf : Around → List Value → Op → Ask → Type 0
AskOf a s op (ask.Read r at) = IsRead a.label r
AskOf a s op (ask.Write r at v) = IsWritten a.label r
AskOf a s op (ask.CopyTo r l) = IsThing r
AskOf a s op (ask.Barred d) = IsBarred a.label s d op
AskOf a s op (ask.MonEnter r) = IsThing r
AskOf a s op (ask.MonLeave r) = lists a.held r ≡ true
AskOf a s op ask.Leave = ⊥
AskOf a s op (ask.Caught f) = ⊥
AskOf a s op (ask.Suppressed f) = ⊥
AskOf a s op (ask.End r) = ⊥
AskOf a s op q = Unit {0}

abbrev pub Proper : Around → List Value → Op → Did → Type 0
Proper a s op (wants q t) = AskOf a s op q
Proper a s op (calls u vs t) = nat_lt a.frames frames_limit ≡ true
Proper a s op d = Unit {0}

-- ---- built-in calls

-- what holds where a built-in call asks
abbrev CallAsks : Ask → Type 0
CallAsks (ask.Read r at) = ⊥
CallAsks (ask.Write r at v) = ⊥
CallAsks (ask.CopyTo r l) = IsThing r
CallAsks (ask.Barred d) = ⊥
CallAsks (ask.MonEnter r) = ⊥
CallAsks (ask.MonLeave r) = ⊥
CallAsks ask.Leave = ⊥
CallAsks (ask.Caught f) = ⊥
CallAsks (ask.Suppressed f) = ⊥
CallAsks (ask.End r) = ⊥
CallAsks q = Unit {0}

abbrev IsCall : Calls → Type 0
IsCall (asks q) = CallAsks q
IsCall (acts q) = CallAsks q
IsCall x = Unit {0}

if_call : (b : Bool) (x y : Calls) → IsCall x → IsCall y → IsCall (if b then x else y)
if_call true x y h k = h
if_call false x y h k = k

byte_call : (bs : List ℕ) (i : ℤ) → IsCall (byte_at bs i)
byte_call bs (pos i) = go (slice_get bs i)
  where
    go : (x : Option ℕ) → IsCall (byte_now x)
    go None = tt
    go (Some b) = tt
byte_call bs (negsuc i) = tt

slice_call : (bs : List ℕ) (i j : ℤ) → IsCall (slice_at bs i j)
slice_call bs (pos i) (pos j) = if_call (nat_le i j && nat_le j (length bs)) _ _ tt tt
slice_call bs i j = tt

number_call : (x : Option ℤ) → IsCall (number_in x)
number_call None = tt
number_call (Some z) = tt

label_call : (v : Value) → IsCall (own_label v)
label_call (Obj n) = tt
label_call (Arr n len) = tt
label_call (File n) = tt
label_call (Dir n) = tt
label_call (Pipe n) = tt
label_call v = tt

copied_call : (v : Value) (l : Label) → IsCall (copied v l)
copied_call (Obj n) l = (n, refl)
copied_call (Arr n len) l = (n, refl)
copied_call v l = tt

read_call : (f : Name) (at n : ℤ) → IsCall (read_from f at n)
read_call f (pos at) (pos n) = if_call (nat_le n 65536) _ _ tt tt
read_call f (pos at) (negsuc n) = tt
read_call f (negsuc at) n = tt

cut_call : (f : Name) (n : ℤ) → IsCall (cut_to f n)
cut_call f (pos n) = tt
cut_call f (negsuc n) = tt

calls_call : (p : Label) (c : Caps) (b : Builtin) (vs : List Value) → IsCall (builtins.calls p c b vs)
calls_call p c call.Len (Arr n len ∷ []) = if_call (is_small (pos len)) _ _ tt tt
calls_call p c call.Size (Bytes bs ∷ []) = if_call (is_small (pos (length bs))) _ _ tt tt
calls_call p c call.Byte (Bytes bs ∷ Int i ∷ []) = byte_call bs i
calls_call p c call.Slice (Bytes bs ∷ Int i ∷ Int j ∷ []) = slice_call bs i j
calls_call p c call.Cat (Bytes a ∷ Bytes b ∷ []) = if_call (nat_le (length (a ++ b)) 65536) _ _ tt tt
calls_call p c call.Text (Int i ∷ []) = tt
calls_call p c call.Number (Bytes bs ∷ []) = number_call _
calls_call p c call.MyLabel [] = tt
calls_call p c call.MyCaps [] = tt
calls_call p c call.Root [] = tt
calls_call p c call.LabelOf (v ∷ []) = label_call v
calls_call p c call.Copy (v ∷ Lab l ∷ []) = copied_call v l
calls_call p c call.Mint [] = tt
calls_call p c call.Say (Bytes bs ∷ []) = tt
calls_call p c call.MakeFile (Dir d ∷ Bytes n ∷ Lab l ∷ []) = tt
calls_call p c call.MakeDir (Dir d ∷ Bytes n ∷ Lab l ∷ []) = tt
calls_call p c call.OpenFile (Dir d ∷ Bytes n ∷ []) = tt
calls_call p c call.OpenDir (Dir d ∷ Bytes n ∷ []) = tt
calls_call p c call.Remove (Dir d ∷ Bytes n ∷ []) = tt
calls_call p c call.Read (File f ∷ Int at ∷ Int n ∷ []) = read_call f at n
calls_call p c call.Length (File f ∷ []) = tt
calls_call p c call.Append (File f ∷ Bytes bs ∷ []) = tt
calls_call p c call.Cut (File f ∷ Int n ∷ []) = cut_call f n
calls_call p c call.MakePipe (Lab l ∷ []) = tt
calls_call p c call.Send (Pipe d ∷ Bytes bs ∷ []) = if_call (nat_le (length bs) 4096) _ _ tt tt
calls_call p c call.SendCaps (Pipe d ∷ CapV plus minus ∷ []) = tt
calls_call p c call.Receive (Pipe d ∷ []) = tt
calls_call p c call.ReceiveCaps (Pipe d ∷ []) = tt
calls_call p c call.Join (Thread t ∷ []) = tt
calls_call p c b vs = tt

builtin_call : (p : Label) (c : Caps) (b : Builtin) (vs : List Value) → IsCall (builtin p c b vs)
unfolding builtin
builtin_call p c b vs = if_call (some_null vs) _ _ tt (calls_call p c b vs)

-- ---- operations

module _ (a : Around) (s : List Value) (op : Op) where
  abbrev P : Did → Type 0
  P d = Proper a s op d

  if_by : (b : Bool) (x y : Did) → (b ≡ true → P x) → P y → P (if b then x else y)
  if_by true x y h k = h refl
  if_by false x y h k = k

  any_by : (t : List Value) (go : Value → List Value → Did) → ((v : Value) (t : List Value) → P (go v t)) → P (on_any t go)
  any_by [] go h = tt
  any_by (v ∷ t) go h = h v t

  int_by : (t : List Value) (go : ℤ → List Value → Did) → ((z : ℤ) (t : List Value) → P (go z t)) → P (on_int t go)
  int_by (Int z ∷ t) go h = h z t
  int_by t go h = tt

  truth_by : (t : List Value) (go : Bool → List Value → Did) → ((b : Bool) (t : List Value) → P (go b t)) → P (on_truth t go)
  truth_by (Truth b ∷ t) go h = h b t
  truth_by t go h = tt

  many_by : (n : ℕ) (t : List Value) (go : List Value → List Value → Did) → ((vs t : List Value) → P (go vs t)) → P (on_many n t go)
  many_by n t go h = if_by (nat_le n (length t)) _ _ (λ e. h _ _) tt

  thing_by : (t : List Value) (go : Name → List Value → Did) → ((n : Name) (u : List Value) → IsTop t n → P (go n u)) → P (on_thing t go)
  thing_by (Obj n ∷ t) go h = h n t refl
  thing_by (Arr n len ∷ t) go h = h n t refl
  thing_by (Nothing ∷ t) go h = tt
  thing_by t go h = tt

  caps_by : (t : List Value) (go : Caps → List Value → Did) → ((c : Caps) (t : List Value) → P (go c t)) → P (on_caps t go)
  caps_by (CapV p m ∷ t) go h = h _ t
  caps_by (Nothing ∷ t) go h = tt
  caps_by t go h = tt

  label_by : (t : List Value) (go : Label → List Value → Did) → ((l : Label) (t : List Value) → P (go l t)) → P (on_label t go)
  label_by (Lab l ∷ t) go h = h l t
  label_by (Nothing ∷ t) go h = tt
  label_by t go h = tt

  known_by : (x : Option ℕ) (go : ℕ → Did) → ((n : ℕ) → P (go n)) → P (on_known x go)
  known_by None go h = tt
  known_by (Some n) go h = h n

  operated_by : (t : List Value) (x : Pure) → P (operated t x)
  operated_by t (fine v) = tt
  operated_by t (operators.faults f) = tt
  operated_by t operators.wrong = tt

  between_by : (o : BinaryOp) → P (between o s)
  between_by o = any_by s _ (λ w t. any_by t _ (λ v t. operated_by t _))

  before_by : (o : UnaryOp) → P (before o s)
  before_by o = any_by s _ (λ v t. operated_by t _)

  constant_by : (x : Option Value) → P (on_constant s x)
  constant_by None = tt
  constant_by (Some v) = tt

  goes_by : (size to : ℕ) (d : Did) → P d → P (at_address size to d)
  goes_by size to d h = if_by (nat_lt to size) _ _ (λ e. h) tt

  barrier_by : (x : Option Denied) → ((d : Denied) → x ≡ Some d → IsBarred a.label s d op) → P (barrier s x)
  barrier_by None h = tt
  barrier_by (Some d) h = h d refl

  passed_by : (x : Option Denied) (d : Did) → (x ≡ None → P d) → P (unless_denied x d)
  passed_by None d h = h refl
  passed_by (Some x) d h = tt

  within_by : (i : ℤ) (len : ℕ) (go : ℕ → Did) → ((i : ℕ) → P (go i)) → P (within i len go)
  within_by (pos i) len go h = if_by (nat_lt i len) _ _ (λ e. h i) tt
  within_by (negsuc i) len go h = tt

  gets_field_by : (f : ℕ) (t : List Value) → P (gets_field a.label f t)
  gets_field_by f (Obj n ∷ t) = passed_by (may_read a.label n.own) _ (λ e. (n, refl, e))
  gets_field_by f t = tt

  puts_field_by : (f : ℕ) (v : Value) (t : List Value) → P (puts_field a.label f v t)
  puts_field_by f v (Obj n ∷ t) = passed_by (may_write a.label n.own) _ (λ e. (n, refl, e))
  puts_field_by f v t = tt

  gets_element_by : (i : ℤ) (t : List Value) → P (gets_element a.label i t)
  gets_element_by i (Arr n len ∷ t) = passed_by (may_read a.label n.own) _ (λ e. within_by i len _ (λ at. (n, refl, e)))
  gets_element_by i t = tt

  puts_element_by : (i : ℤ) (v : Value) (t : List Value) → P (puts_element a.label i v t)
  puts_element_by i v (Arr n len ∷ t) = passed_by (may_write a.label n.own) _ (λ e. within_by i len _ (λ at. (n, refl, e)))
  puts_element_by i v t = tt

  object_by : (c : ℕ) (x : Option (List Kind)) → P (new_object c s x)
  object_by c None = tt
  object_by c (Some kinds) = tt

  array_by : (k : Kind) (t : List Value) (n : ℤ) → P (new_array k t n)
  array_by k t (pos n) = if_by (nat_le n 65536) _ _ (λ e. tt) tt
  array_by k t (negsuc n) = tt

  call_ask : (q : Ask) → CallAsks q → AskOf a s op q
  call_ask (ask.Read r at) h = absurd h
  call_ask (ask.Write r at v) h = absurd h
  call_ask (ask.CopyTo r l) h = h
  call_ask (ask.Barred d) h = absurd h
  call_ask (ask.MonEnter r) h = absurd h
  call_ask (ask.MonLeave r) h = absurd h
  call_ask ask.Leave h = absurd h
  call_ask (ask.Caught f) h = absurd h
  call_ask (ask.Suppressed f) h = absurd h
  call_ask (ask.End r) h = absurd h
  call_ask q h = tt

  called_by : (t : List Value) (x : Calls) → IsCall x → P (called t x)
  called_by t (now v) h = tt
  called_by t (builtins.faults f) h = tt
  called_by t (asks q) h = call_ask q h
  called_by t (acts q) h = call_ask q h
  called_by t builtins.wrong h = tt

  enter_by : (t : List Value) → P (monitor_of (λ r. ask.MonEnter r) (λ n. true) t)
  enter_by (Obj n ∷ t) = (n, refl)
  enter_by (Arr n len ∷ t) = (n, refl)
  enter_by (Nothing ∷ t) = tt
  enter_by t = tt

  leave_by : (t : List Value) → P (monitor_of (λ r. ask.MonLeave r) (λ n. is_held n a.held) t)
  leave_by (Obj n ∷ t) = if_by (is_held n a.held) _ _ (λ e. e) tt
  leave_by (Arr n len ∷ t) = if_by (is_held n a.held) _ _ (λ e. e) tt
  leave_by (Nothing ∷ t) = tt
  leave_by t = tt

pub effect_is : (a : Around) (s : List Value) (op : Op) → Proper a s op (effect a s op)
unfolding effect
effect_is a s (Const k) = constant_by a s (Const k) (slice_get a.code.constants k)
effect_is a s (Load n) = constant_by a s (Load n) (slice_get a.locals n)
effect_is a s (Store n) = any_by a s (Store n) s _ (λ v t. if_by a s (Store n) (nat_lt n (length a.locals)) _ _ (λ e. tt) tt)
effect_is a s Pop = any_by a s Pop s _ (λ v t. tt)
effect_is a s Add = between_by a s Add binary.Add
effect_is a s Sub = between_by a s Sub binary.Sub
effect_is a s Mul = between_by a s Mul binary.Mul
effect_is a s Div = between_by a s Div binary.Div
effect_is a s Rem = between_by a s Rem binary.Rem
effect_is a s Neg = before_by a s Neg unary.Neg
effect_is a s Not = before_by a s Not unary.Not
effect_is a s Eq = between_by a s Eq binary.Eq
effect_is a s Ne = between_by a s Ne binary.Ne
effect_is a s Lt = between_by a s Lt binary.Lt
effect_is a s Le = between_by a s Le binary.Le
effect_is a s Gt = between_by a s Gt binary.Gt
effect_is a s Ge = between_by a s Ge binary.Ge
effect_is a s (Jump to) = goes_by a s (Jump to) a.size to _ tt
effect_is a s (JumpIfFalse to) = goes_by a s (JumpIfFalse to) a.size to _ (truth_by a s (JumpIfFalse to) s _ (λ b t. if_by a s (JumpIfFalse to) b _ _ (λ e. tt) tt))
effect_is a s (Call u) = known_by a s (Call u) _ _ (λ n. many_by a s (Call u) n s (λ vs t. if nat_lt a.frames frames_limit then calls u vs t else fails fault.Deep) (λ vs t. if_by a s (Call u) (nat_lt a.frames frames_limit) (calls u vs t) (fails fault.Deep) (λ e. e) tt))
effect_is a s Return = any_by a s Return s _ (λ v t. tt)
effect_is a s Throw = int_by a s Throw s _ (λ n t. tt)
effect_is a s (ReadBarrier d) = thing_by a s (ReadBarrier d) (drop d s) _ (λ n t top. barrier_by a s (ReadBarrier d) (may_read a.label n.own) (λ x e. (n, top, e)))
effect_is a s (WriteBarrier d) = thing_by a s (WriteBarrier d) (drop d s) _ (λ n t top. barrier_by a s (WriteBarrier d) (may_write a.label n.own) (λ x e. (n, top, e)))
effect_is a s (GetField f) = gets_field_by a s (GetField f) f s
effect_is a s (PutField f) = any_by a s (PutField f) s _ (λ v t. puts_field_by a s (PutField f) f v t)
effect_is a s GetElement = int_by a s GetElement s _ (λ i t. gets_element_by a s GetElement i t)
effect_is a s PutElement = any_by a s PutElement s _ (λ v t. int_by a s PutElement t _ (λ i t. puts_element_by a s PutElement i v t))
effect_is a s (NewObject c) = object_by a s (NewObject c) c _
effect_is a s (NewArray k) = int_by a s (NewArray k) s _ (λ n t. array_by a s (NewArray k) k t n)
effect_is a s (MakeLabel p q) = many_by a s (MakeLabel p q) q s _ (λ vs t. many_by a s (MakeLabel p q) p t (λ ws t. operated t (label_from ws vs)) (λ ws t. operated_by a s (MakeLabel p q) t (label_from ws vs)))
effect_is a s NoCaps = tt
effect_is a s WithPlus = any_by a s WithPlus s _ (λ v t. any_by a s WithPlus t _ (λ c t. operated_by a s WithPlus t _))
effect_is a s WithMinus = any_by a s WithMinus s _ (λ v t. any_by a s WithMinus t _ (λ c t. operated_by a s WithMinus t _))
effect_is a s (System b) = many_by a s (System b) _ s _ (λ vs t. called_by a s (System b) t _ (builtin_call a.label a.caps b vs))
effect_is a s EnterMonitor = enter_by a s EnterMonitor s
effect_is a s LeaveMonitor = leave_by a s LeaveMonitor s
effect_is a s (EnterRegion r) = known_by a s (EnterRegion r) _ _ (λ n. many_by a s (EnterRegion r) n s _ (λ vs t. caps_by a s (EnterRegion r) t _ (λ c t. label_by a s (EnterRegion r) t (λ l t. wants (ask.Enter l c r vs) t) (λ l t. tt))))
effect_is a s LeaveRegion = tt
effect_is a s (Spawn u) = known_by a s (Spawn u) _ _ (λ n. many_by a s (Spawn u) n s _ (λ vs t. caps_by a s (Spawn u) t (λ c t. wants (ask.Spawn u vs c) t) (λ c t. tt)))
