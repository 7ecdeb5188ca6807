-- A private turn keeps that what stands in the acting context lives, and an ask holds only what lives, row by row.
use Rattle.std.proofs.Common.{◌≡◌, ℕ, zero, suc, ◌<◌, ℤ, pos, negsuc, Bool, true, false, List, [], ◌∷◌, ◌++◌, Option, Some, None, length, take, drop, refl, subst}
use Rattle.std.specs.Prelude.{◌+ℤ◌, ◌-ℤ◌, ◌*ℤ◌, neg_ℤ, int_div, int_rem, nat_lt, nat_le, ◌&&◌, ◌-◌, reverse, replicate, map, slice_get, slice_set, IsTrue, if◌then◌else◌}
use Rattle.std.specs.List.{AllByRecursion}
use Rattle.std.specs.FinMap as map_of
use Rattle.decimal_text.specs.Decimal.{int_of}
use mathlib.Core.List.{reverse_aux}
use Rattle.flow_labels.specs.declared.Label.{Label}
use Rattle.flow_labels.specs.declared.Denied.{Denied}
use Rattle.capabilities.specs.declared.Caps.{Caps}
use Rattle.lam_value.specs.declared.names.Name.{Name}
use Rattle.lam_value.specs.declared.values.Value.{Value}
use Rattle.lam_value.specs.declared.values.Value.TheVariants.{Int, Bool as Truth, Bytes, Nothing, Obj, Arr, File, Dir, Pipe, Thread, Tag, Lab, CapV}
use Rattle.lam_value.specs.declared.shapes.Kind.{Kind}
use Rattle.lam_value.specs.declared.shapes.Kind.TheVariants as kind
use Rattle.lam_value.specs.declared.shapes.Shape.TheVariants.{Array}
use Rattle.lam_value.specs.Shapes.{zero_of}
use Rattle.lam_builtins.specs.declared.Builtin.{Builtin}
use Rattle.lam_builtins.specs.declared.Builtin.TheVariants as call
use Rattle.lam_builtins.specs.Builtins.{row}
use Rattle.lam_operators.specs.declared.BinaryOp.{BinaryOp}
use Rattle.lam_operators.specs.declared.BinaryOp.TheVariants as binary
use Rattle.lam_operators.specs.declared.UnaryOp.{UnaryOp}
use Rattle.lam_operators.specs.declared.UnaryOp.TheVariants as unary
use Rattle.lam_asks.specs.declared.fault.Fault.{Fault}
use Rattle.lam_asks.specs.declared.fault.Fault.TheVariants as fault
use Rattle.lam_asks.specs.declared.ask.Ask.{Ask}
use Rattle.lam_asks.specs.declared.ask.Ask.TheVariants as ask
use Rattle.lam_bytecode.specs.Codes.{CodeTree, IsCode, IsConstant}
use Rattle.lam_bytecode.specs.declared.op.Op.{Op}
use Rattle.lam_bytecode.specs.declared.op.Op.TheVariants.{Const, Load, Store, Pop, Add, Sub, Mul, Div, Rem, Neg, Not, Eq, Ne, Lt, Le, Gt, Ge, Jump, JumpIfFalse, Call, Return, Throw, ReadBarrier, WriteBarrier, GetField, PutField, GetElement, PutElement, NewObject, NewArray, MakeLabel, NoCaps, WithPlus, WithMinus, System, EnterMonitor, LeaveMonitor, EnterRegion, LeaveRegion, Spawn}
use Rattle.thread_steps.specs.Threads.{Frame, Inside, Phase, Bottom, Body, Catch, Context}
use Rattle.thread_steps.specs.Operators as operators
use Rattle.thread_steps.specs.Operators.{Pure, fine, of_numbers, by_divisor, number, is_small, is_zero, operator, prefix, some_null, tag_before, tags_in, label_by, label_from, with_sign}
use Rattle.thread_steps.specs.Builtins as builtins
use Rattle.thread_steps.specs.Builtins.{Calls, now, faults, asks, acts, wrong, root_name, byte_now, byte_at, slice_at, number_in, own_label, copied, read_from, cut_to, send_into, builtin}
use Rattle.thread_steps.specs.Ops.{Did, gives, sets, jumps, calls, returns, fails, wants, leaves, breaks, on_any, on_int, on_truth, on_many, on_thing, on_caps, on_label, operated, between, before, unless_denied, barrier, within, gets_field, puts_field, gets_element, puts_element, may_read, may_write, new_object, new_array, on_known, called, is_held, monitor_of, on_constant, at_address, Around, effect}
use Rattle.thread_steps.specs.Limits.{frames_limit}
use Rattle.thread_steps.specs.Next as next
use Rattle.thread_steps.specs.Next.{next_of, next_by, next_in, next_op, entry, returned, ending, leaving, raised, around}
use Rattle.lam_machine_laws.specs.Worlds.{World}
use Rattle.lam_machine_laws.specs.Sound.{ThingLives, CopiesLiving}
use Rattle.lam_machine_laws.specs.Valid.{IsKnown, AreKnown, Lives, AllLive, FrameLives, ContextLives, IsValid}
use Rattle.lam_machine_valid.specs.Living.{InsideLives, AskLives, NextLives, NamesWhatLives}
use Rattle.lam_machine_valid.proofs.TagLemmas.{below_empty, public_known, below_insert, below_list}

-- ---- either way

either : {X : Type 0} (P : X → Type 0) (b : Bool) (x y : X) → P x → P y → P (if b then x else y)
either P true x y h k = h
either P false x y h k = k

module _ (w : World) where
  -- ---- lists

  pub found_live : (vs : List Value) (n : ℕ) (v : Value) → AllLive w vs → slice_get vs n ≡ Some v → Lives w v
  found_live [] n v h e = cc
  found_live (x ∷ vs) zero v h e = let same : x ≡ v = cc in subst (Lives w) same h.0
  found_live (x ∷ vs) (suc n) v h e = found_live vs n v h.1 e

  pub set_live : (vs : List Value) (n : ℕ) (v : Value) → AllLive w vs → Lives w v → AllLive w (slice_set vs n v)
  set_live [] n v h l = tt
  set_live (x ∷ vs) zero v h l = (l, h.1)
  set_live (x ∷ vs) (suc n) v h l = (h.0, set_live vs n v h.1 l)

  take_live : (n : ℕ) (vs : List Value) → AllLive w vs → AllLive w (take n vs)
  take_live zero vs h = tt
  take_live (suc n) [] h = tt
  take_live (suc n) (x ∷ vs) h = (h.0, take_live n vs h.1)

  drop_live : (n : ℕ) (vs : List Value) → AllLive w vs → AllLive w (drop n vs)
  drop_live zero vs h = h
  drop_live (suc n) [] h = tt
  drop_live (suc n) (x ∷ vs) h = drop_live n vs h.1

  pub append_live : (xs ys : List Value) → AllLive w xs → AllLive w ys → AllLive w (xs ++ ys)
  append_live [] ys h k = k
  append_live (x ∷ xs) ys h k = (h.0, append_live xs ys h.1 k)

  pub copies_live : (n : ℕ) (v : Value) → Lives w v → AllLive w (replicate n v)
  copies_live zero v h = tt
  copies_live (suc n) v h = (h, copies_live n v h)

  onto_live : (xs ys : List Value) → AllLive w xs → AllLive w ys → AllLive w (reverse_aux xs ys)
  onto_live [] ys h k = k
  onto_live (x ∷ xs) ys h k = onto_live xs (x ∷ ys) h.1 (h.0, k)

  pub reverse_live : (xs : List Value) → AllLive w xs → AllLive w (reverse xs)
  reverse_live xs h = onto_live xs [] h tt

  constant_live : (v : Value) → IsConstant v → Lives w v
  constant_live (Int n) h = tt
  constant_live (Truth b) h = tt
  constant_live (Bytes bytes) h = tt
  constant_live Nothing h = tt
  constant_live v h = absurd h

  constants_live : (vs : List Value) → AllByRecursion IsConstant vs → AllLive w vs
  constants_live [] h = tt
  constants_live (v ∷ vs) h = (constant_live v h.0, constants_live vs h.1)

  zero_live : (k : Kind) → Lives w (zero_of k)
  zero_live kind.Int = tt
  zero_live kind.Bool = tt
  zero_live kind.Null = tt

  pub zeros_live : (ks : List Kind) → AllLive w (map zero_of ks)
  zeros_live [] = tt
  zeros_live (k ∷ ks) = (zero_live k, zeros_live ks)

  -- ---- operators

  abbrev PureLives : Pure → Type 0
  PureLives (fine v) = Lives w v
  PureLives (operators.faults f) = Unit {0}
  PureLives operators.wrong = Unit {0}

  number_live : (z : ℤ) → PureLives (number z)
  number_live z = either PureLives (is_small z) (fine (Int z)) (operators.faults fault.Overflow) tt tt

  numbers_live : (f : ℤ → ℤ → Pure) (v u : Value) → ((a b : ℤ) → PureLives (f a b)) → PureLives (of_numbers f v u)
  numbers_live f (Int a) (Int b) h = h a b
  numbers_live f v u h = tt

  operator_live : (op : BinaryOp) (v u : Value) → PureLives (operator op v u)
  operator_live binary.Or v u = tt
  operator_live binary.And v u = tt
  operator_live binary.Eq v u = tt
  operator_live binary.Ne v u = tt
  operator_live binary.Lt v u = numbers_live _ v u (λ a b. tt)
  operator_live binary.Le v u = numbers_live _ v u (λ a b. tt)
  operator_live binary.Gt v u = numbers_live _ v u (λ a b. tt)
  operator_live binary.Ge v u = numbers_live _ v u (λ a b. tt)
  operator_live binary.Add v u = numbers_live (λ a b. number (a +ℤ b)) v u (λ a b. number_live (a +ℤ b))
  operator_live binary.Sub v u = numbers_live (λ a b. number (a -ℤ b)) v u (λ a b. number_live (a -ℤ b))
  operator_live binary.Mul v u = numbers_live (λ a b. number (a *ℤ b)) v u (λ a b. number_live (a *ℤ b))
  operator_live binary.Div v u = numbers_live (λ a b. by_divisor b (number (int_div a b))) v u (λ a b. either PureLives (is_zero b) (operators.faults fault.Zero) (number (int_div a b)) tt (number_live (int_div a b)))
  operator_live binary.Rem v u = numbers_live (λ a b. by_divisor b (number (int_rem a b))) v u (λ a b. either PureLives (is_zero b) (operators.faults fault.Zero) (number (int_rem a b)) tt (number_live (int_rem a b)))

  prefix_live : (op : UnaryOp) (v : Value) → PureLives (prefix op v)
  prefix_live unary.Not (Truth b) = tt
  prefix_live unary.Neg (Int n) = number_live (neg_ℤ n)
  prefix_live op v = tt

  abbrev TagsLive : Option (List ℕ) → Type 0
  TagsLive None = Unit {0}
  TagsLive (Some ts) = AllByRecursion (λ (t : ℕ). t < w.next_tag) ts

  before_live : (v : Value) (x : Option (List ℕ)) → Lives w v → TagsLive x → TagsLive (tag_before v x)
  before_live (Tag t) (Some ts) h k = (h, k)
  before_live v x h k = tt

  tags_live : (vs : List Value) → AllLive w vs → TagsLive (tags_in vs)
  tags_live [] h = tt
  tags_live (v ∷ vs) h = before_live v (tags_in vs) h.0 (tags_live vs h.1)

  label_by_live : (x y : Option (List ℕ)) → TagsLive x → TagsLive y → PureLives (label_by x y)
  label_by_live (Some s) (Some i) h k = (below_list w.next_tag s h, below_list w.next_tag i k)
  label_by_live x y h k = tt

  label_live : (s i : List Value) → AllLive w s → AllLive w i → PureLives (label_from s i)
  label_live s i h k = either PureLives (some_null (s ++ i)) (operators.faults fault.Null) (label_by (tags_in s) (tags_in i)) tt (label_by_live (tags_in s) (tags_in i) (tags_live s h) (tags_live i k))

  sign_live : (b : Bool) (c t : Value) → Lives w c → Lives w t → PureLives (with_sign b c t)
  sign_live true (CapV p m) (Tag t) h l = (below_insert w.next_tag p t l h.0, h.1)
  sign_live false (CapV p m) (Tag t) h l = (h.0, below_insert w.next_tag m t l h.1)
  sign_live b (CapV p m) Nothing h l = tt
  sign_live b Nothing (Tag t) h l = tt
  sign_live b Nothing Nothing h l = tt
  sign_live b c t h l = tt

  -- ---- built-in calls

  abbrev CallLives : Calls → Type 0
  CallLives (now v) = Lives w v
  CallLives (faults f) = Unit {0}
  CallLives (asks a) = AskLives w a
  CallLives (acts a) = AskLives w a
  CallLives wrong = Unit {0}

  byte_live : (x : Option ℕ) → CallLives (byte_now x)
  byte_live None = tt
  byte_live (Some b) = tt

  byte_at_live : (bs : List ℕ) (z : ℤ) → CallLives (byte_at bs z)
  byte_at_live bs (pos i) = byte_live (slice_get bs i)
  byte_at_live bs (negsuc i) = tt

  slice_live : (bs : List ℕ) (i j : ℤ) → CallLives (slice_at bs i j)
  slice_live bs (pos i) (pos j) = either CallLives (nat_le i j && nat_le j (length bs)) (now (Bytes (take (j - i) (drop i bs)))) (faults fault.Index) tt tt
  slice_live bs i j = tt

  number_in_live : (x : Option ℤ) → CallLives (number_in x)
  number_in_live None = tt
  number_in_live (Some z) = tt

  own_live : (v : Value) → Lives w v → CallLives (own_label v)
  own_live (Obj n) h = h.0.1
  own_live (Arr n len) h = h.0.1
  own_live (File n) h = h.0.1
  own_live (Dir n) h = h.0.1
  own_live (Pipe n) h = h.0.1
  own_live v h = tt

  copied_live : (v : Value) (l : Label) → Lives w v → IsKnown w l → CallLives (copied v l)
  copied_live (Obj n) l h k = (h, k)
  copied_live (Arr n len) l h k = (h, k)
  copied_live v l h k = tt

  read_live : (f : Name) (i j : ℤ) → Lives w (File f) → CallLives (read_from f i j)
  read_live f (pos at) (pos n) h = either CallLives (nat_le n 65536) (asks (ask.FileRead f at n)) (faults fault.Long) h tt
  read_live f (pos at) (negsuc n) h = tt
  read_live f (negsuc at) n h = tt

  cut_live : (f : Name) (z : ℤ) → Lives w (File f) → CallLives (cut_to f z)
  cut_live f (pos n) h = h
  cut_live f (negsuc n) h = tt

  send_live : (p : Name) (bs : List ℕ) → Lives w (Pipe p) → CallLives (send_into p bs)
  send_live p bs h = either CallLives (nat_le (length bs) 4096) (acts (ask.Send p bs)) (faults fault.Long) h tt

  module _ (root : Lives w (Dir root_name)) (p : Label) (c : Caps) (lp : IsKnown w p) (lc : AreKnown w c) where
    calls_live : (b : Builtin) (vs : List Value) → AllLive w vs → CallLives (builtins.calls p c b vs)
    calls_live call.Len (Arr n len ∷ []) h = either CallLives (is_small (pos len)) _ _ tt tt
    calls_live call.Size (Bytes bs ∷ []) h = either CallLives (is_small (pos (length bs))) _ _ tt tt
    calls_live call.Byte (Bytes bs ∷ Int i ∷ []) h = byte_at_live bs i
    calls_live call.Slice (Bytes bs ∷ Int i ∷ Int j ∷ []) h = slice_live bs i j
    calls_live call.Cat (Bytes a ∷ Bytes b ∷ []) h = either CallLives (nat_le (length (a ++ b)) 65536) _ _ tt tt
    calls_live call.Text (Int i ∷ []) h = tt
    calls_live call.Number (Bytes bs ∷ []) h = number_in_live (int_of bs)
    calls_live call.MyLabel [] h = lp
    calls_live call.MyCaps [] h = lc
    calls_live call.Root [] h = root
    calls_live call.LabelOf (v ∷ []) h = own_live v h.0
    calls_live call.Copy (v ∷ Lab l ∷ []) h = copied_live v l h.0 h.1.0
    calls_live call.Mint [] h = tt
    calls_live call.Say (Bytes bs ∷ []) h = tt
    calls_live call.MakeFile (Dir d ∷ Bytes n ∷ Lab l ∷ []) h = (h.0, h.1.1.0)
    calls_live call.MakeDir (Dir d ∷ Bytes n ∷ Lab l ∷ []) h = (h.0, h.1.1.0)
    calls_live call.OpenFile (Dir d ∷ Bytes n ∷ []) h = h.0
    calls_live call.OpenDir (Dir d ∷ Bytes n ∷ []) h = h.0
    calls_live call.Remove (Dir d ∷ Bytes n ∷ []) h = h.0
    calls_live call.Read (File f ∷ Int at ∷ Int n ∷ []) h = read_live f at n h.0
    calls_live call.Length (File f ∷ []) h = h.0
    calls_live call.Append (File f ∷ Bytes bs ∷ []) h = h.0
    calls_live call.Cut (File f ∷ Int n ∷ []) h = cut_live f n h.0
    calls_live call.MakePipe (Lab l ∷ []) h = h.0
    calls_live call.Send (Pipe d ∷ Bytes bs ∷ []) h = send_live d bs h.0
    calls_live call.SendCaps (Pipe d ∷ CapV plus minus ∷ []) h = (h.0, h.1.0)
    calls_live call.Receive (Pipe d ∷ []) h = h.0
    calls_live call.ReceiveCaps (Pipe d ∷ []) h = h.0
    calls_live call.Join (Thread t ∷ []) h = h.0
    calls_live b vs h = tt

    builtin_live : (b : Builtin) (vs : List Value) → AllLive w vs → CallLives (builtin p c b vs)
    unfolding builtin
    builtin_live b vs h = either CallLives (some_null vs) (faults fault.Null) (builtins.calls p c b vs) tt (calls_live b vs h)

  -- ---- operands

  abbrev DidLives : Did → Type 0
  DidLives (gives s) = AllLive w s
  DidLives (sets ls s) = AllLive w ls × AllLive w s
  DidLives (jumps to s) = AllLive w s
  DidLives (calls u args s) = AllLive w args × AllLive w s
  DidLives (returns v) = Lives w v
  DidLives (fails f) = Unit {0}
  DidLives (wants a s) = AskLives w a × AllLive w s
  DidLives leaves = Unit {0}
  DidLives breaks = Unit {0}

  any_live : (s : List Value) (go : Value → List Value → Did) → AllLive w s → ((v : Value) (s : List Value) → Lives w v → AllLive w s → DidLives (go v s)) → DidLives (on_any s go)
  any_live [] go h k = tt
  any_live (v ∷ s) go h k = k v s h.0 h.1

  int_live : (s : List Value) (go : ℤ → List Value → Did) → AllLive w s → ((n : ℤ) (s : List Value) → AllLive w s → DidLives (go n s)) → DidLives (on_int s go)
  int_live (Int n ∷ s) go h k = k n s h.1
  int_live s go h k = tt

  truth_live : (s : List Value) (go : Bool → List Value → Did) → AllLive w s → ((b : Bool) (s : List Value) → AllLive w s → DidLives (go b s)) → DidLives (on_truth s go)
  truth_live (Truth b ∷ s) go h k = k b s h.1
  truth_live s go h k = tt

  many_live : (n : ℕ) (s : List Value) (go : List Value → List Value → Did) → AllLive w s → ((args s : List Value) → AllLive w args → AllLive w s → DidLives (go args s)) → DidLives (on_many n s go)
  many_live n s go h k =
      either DidLives (nat_le n (length s)) (go (reverse (take n s)) (drop n s)) breaks (k (reverse (take n s)) (drop n s) (reverse_live (take n s) (take_live n s h)) (drop_live n s h)) tt

  thing_live : (s : List Value) (go : Name → List Value → Did) → ((n : Name) (s : List Value) → DidLives (go n s)) → DidLives (on_thing s go)
  thing_live (Obj n ∷ s) go k = k n s
  thing_live (Arr n len ∷ s) go k = k n s
  thing_live (Nothing ∷ s) go k = tt
  thing_live s go k = tt

  caps_live : (s : List Value) (go : Caps → List Value → Did) → AllLive w s → ((c : Caps) (s : List Value) → AreKnown w c → AllLive w s → DidLives (go c s)) → DidLives (on_caps s go)
  caps_live (CapV p m ∷ s) go h k = k (record { plus = p; minus = m }) s h.0 h.1
  caps_live (Nothing ∷ s) go h k = tt
  caps_live s go h k = tt

  on_label_live : (s : List Value) (go : Label → List Value → Did) → AllLive w s → ((l : Label) (s : List Value) → IsKnown w l → AllLive w s → DidLives (go l s)) → DidLives (on_label s go)
  on_label_live (Lab l ∷ s) go h k = k l s h.0 h.1
  on_label_live (Nothing ∷ s) go h k = tt
  on_label_live s go h k = tt

  operated_live : (s : List Value) (x : Pure) → AllLive w s → PureLives x → DidLives (operated s x)
  operated_live s (fine v) h k = (k, h)
  operated_live s (operators.faults f) h k = tt
  operated_live s operators.wrong h k = tt

  between_live : (op : BinaryOp) (s : List Value) → AllLive w s → DidLives (between op s)
  between_live op s h = any_live s _ h (λ u s lu h. any_live s (λ v s. operated s (operator op v u)) h (λ v s lv h. operated_live s (operator op v u) h (operator_live op v u)))

  one_live : (op : UnaryOp) (s : List Value) → AllLive w s → DidLives (before op s)
  one_live op s h = any_live s (λ v s. operated s (prefix op v)) h (λ v s lv h. operated_live s (prefix op v) h (prefix_live op v))

  barrier_live : (s : List Value) (x : Option Denied) → AllLive w s → DidLives (barrier s x)
  barrier_live s None h = h
  barrier_live s (Some d) h = (tt, h)

  unless_live : (x : Option Denied) (d : Did) → DidLives d → DidLives (unless_denied x d)
  unless_live None d h = h
  unless_live (Some x) d h = tt

  within_live : (z : ℤ) (len : ℕ) (go : ℕ → Did) → ((at : ℕ) → DidLives (go at)) → DidLives (within z len go)
  within_live (pos i) len go h = either DidLives (nat_lt i len) (go i) (fails fault.Index) (h i) tt
  within_live (negsuc i) len go h = tt

  gets_field_live : (p : Label) (f : ℕ) (s : List Value) → AllLive w s → DidLives (gets_field p f s)
  gets_field_live p f (Obj n ∷ s) h = unless_live (may_read p n.own) (wants (ask.Read (Obj n) f) s) h
  gets_field_live p f s h = tt

  puts_field_live : (p : Label) (f : ℕ) (v : Value) (s : List Value) → Lives w v → AllLive w s → DidLives (puts_field p f v s)
  puts_field_live p f v (Obj n ∷ s) l h = unless_live (may_write p n.own) (wants (ask.Write (Obj n) f v) s) ((h.0, l), h.1)
  puts_field_live p f v s l h = tt

  gets_element_live : (p : Label) (z : ℤ) (s : List Value) → AllLive w s → DidLives (gets_element p z s)
  gets_element_live p z (Arr n len ∷ s) h =
      let go : ℕ → Did = λ at. wants (ask.Read (Arr n len) at) s in
      unless_live (may_read p n.own) (within z len go) (within_live z len go (λ at. h))
  gets_element_live p z s h = tt

  puts_element_live : (p : Label) (z : ℤ) (v : Value) (s : List Value) → Lives w v → AllLive w s → DidLives (puts_element p z v s)
  puts_element_live p z v (Arr n len ∷ s) l h =
      let go : ℕ → Did = λ at. wants (ask.Write (Arr n len) at v) s in
      unless_live (may_write p n.own) (within z len go) (within_live z len go (λ at. ((h.0, l), h.1)))
  puts_element_live p z v s l h = tt

  object_live : (c : ℕ) (s : List Value) (x : Option (List Kind)) → AllLive w s → DidLives (new_object c s x)
  object_live c s None h = tt
  object_live c s (Some ks) h = (zeros_live ks, h)

  array_live : (k : Kind) (s : List Value) (z : ℤ) → AllLive w s → DidLives (new_array k s z)
  array_live k s (pos n) h = either DidLives (nat_le n 65536) (wants (ask.New (Array k n)) s) (fails fault.Long) (copies_live n (zero_of k) (zero_live k), h) tt
  array_live k s (negsuc n) h = tt

  known_live : (x : Option ℕ) (go : ℕ → Did) → ((n : ℕ) → DidLives (go n)) → DidLives (on_known x go)
  known_live None go h = tt
  known_live (Some n) go h = h n

  called_live : (s : List Value) (x : Calls) → AllLive w s → CallLives x → DidLives (called s x)
  called_live s (now v) h k = (k, h)
  called_live s (faults f) h k = tt
  called_live s (asks a) h k = (k, h)
  called_live s (acts a) h k = (k, (tt, h))
  called_live s wrong h k = tt

  monitor_live : (a : Value → Ask) (may : Name → Bool) (s : List Value) → ((v : Value) → Lives w v → AskLives w (a v)) → AllLive w s → DidLives (monitor_of a may s)
  monitor_live a may (Obj n ∷ s) k h = either DidLives (may n) (wants (a (Obj n)) s) breaks (k (Obj n) h.0, h.1) tt
  monitor_live a may (Arr n len ∷ s) k h = either DidLives (may n) (wants (a (Arr n len)) s) breaks (k (Arr n len) h.0, h.1) tt
  monitor_live a may (Nothing ∷ s) k h = tt
  monitor_live a may s k h = tt

  put_live : (s : List Value) (x : Option Value) → AllLive w s → ((v : Value) → x ≡ Some v → Lives w v) → DidLives (on_constant s x)
  put_live s None h k = tt
  put_live s (Some v) h k = (k v refl, h)

  goes_live : (size to : ℕ) (d : Did) → DidLives d → DidLives (at_address size to d)
  goes_live size to d h = either DidLives (nat_lt to size) d breaks h tt

  -- ---- the rows

  module _ (root : Lives w (Dir root_name)) (a : Around) (lp : IsKnown w a.label) (lc : AreKnown w a.caps) (locals : AllLive w a.locals) (constants : AllLive w a.code.constants) where
    effect_live : (s : List Value) (op : Op) → AllLive w s → DidLives (effect a s op)
    unfolding effect
    effect_live s (Const k) h = put_live s _ h (λ v e. found_live a.code.constants k v constants e)
    effect_live s (Load n) h = put_live s _ h (λ v e. found_live a.locals n v locals e)
    effect_live s (Store n) h = any_live s _ h (λ v s lv h. either DidLives (nat_lt n (length a.locals)) (sets (slice_set a.locals n v) s) breaks (set_live a.locals n v locals lv, h) tt)
    effect_live s Pop h = any_live s _ h (λ v s lv h. h)
    effect_live s Add h = between_live binary.Add s h
    effect_live s Sub h = between_live binary.Sub s h
    effect_live s Mul h = between_live binary.Mul s h
    effect_live s Div h = between_live binary.Div s h
    effect_live s Rem h = between_live binary.Rem s h
    effect_live s Neg h = one_live unary.Neg s h
    effect_live s Not h = one_live unary.Not s h
    effect_live s Eq h = between_live binary.Eq s h
    effect_live s Ne h = between_live binary.Ne s h
    effect_live s Lt h = between_live binary.Lt s h
    effect_live s Le h = between_live binary.Le s h
    effect_live s Gt h = between_live binary.Gt s h
    effect_live s Ge h = between_live binary.Ge s h
    effect_live s (Jump to) h = goes_live a.size to (jumps to s) h
    effect_live s (JumpIfFalse to) h = goes_live a.size to _ (truth_live s _ h (λ b s h. either DidLives b (gives s) (jumps to s) h h))
    effect_live s (Call u) h = known_live _ _ (λ n. many_live n s (λ args s. if nat_lt a.frames frames_limit then calls u args s else fails fault.Deep) h (λ args s la h. either DidLives (nat_lt a.frames frames_limit) (calls u args s) (fails fault.Deep) (la, h) tt))
    effect_live s Return h = any_live s _ h (λ v s lv h. lv)
    effect_live s Throw h = int_live s _ h (λ n s h. tt)
    effect_live s (ReadBarrier d) h = thing_live (drop d s) _ (λ n rest. barrier_live s _ h)
    effect_live s (WriteBarrier d) h = thing_live (drop d s) _ (λ n rest. barrier_live s _ h)
    effect_live s (GetField f) h = gets_field_live a.label f s h
    effect_live s (PutField f) h = any_live s _ h (λ v s lv h. puts_field_live a.label f v s lv h)
    effect_live s GetElement h = int_live s _ h (λ i s h. gets_element_live a.label i s h)
    effect_live s PutElement h = any_live s _ h (λ v s lv h. int_live s (λ i s. puts_element a.label i v s) h (λ i s h. puts_element_live a.label i v s lv h))
    effect_live s (NewObject c) h = object_live c s _ h
    effect_live s (NewArray k) h = int_live s _ h (λ n s h. array_live k s n h)
    effect_live s (MakeLabel p q) h = many_live q s (λ vouchers s. on_many p s (λ secrets s. operated s (label_from secrets vouchers))) h (λ vouchers s lv h. many_live p s (λ secrets s. operated s (label_from secrets vouchers)) h (λ secrets s ls h. operated_live s (label_from secrets vouchers) h (label_live secrets vouchers ls lv)))
    effect_live s NoCaps h = ((below_empty w.next_tag, below_empty w.next_tag), h)
    effect_live s WithPlus h = any_live s _ h (λ t s lt h. any_live s (λ c s. operated s (with_sign true c t)) h (λ c s lc h. operated_live s (with_sign true c t) h (sign_live true c t lc lt)))
    effect_live s WithMinus h = any_live s _ h (λ t s lt h. any_live s (λ c s. operated s (with_sign false c t)) h (λ c s lc h. operated_live s (with_sign false c t) h (sign_live false c t lc lt)))
    effect_live s (System b) h = many_live (length (row b).signature.takes) s (λ args s. called s (builtin a.label a.caps b args)) h (λ args s la h. called_live s (builtin a.label a.caps b args) h (builtin_live root a.label a.caps lp lc b args la))
    effect_live s EnterMonitor h = monitor_live (λ r. ask.MonEnter r) (λ n. true) s (λ v l. l) h
    effect_live s LeaveMonitor h = monitor_live (λ r. ask.MonLeave r) (λ n. is_held n a.held) s (λ v l. l) h
    effect_live s (EnterRegion r) h = known_live _ _ (λ n. many_live n s _ h (λ args s la h. caps_live s (λ c s. on_label s (λ l s. wants (ask.Enter l c r args) s)) h (λ c s lc h. on_label_live s (λ l s. wants (ask.Enter l c r args) s) h (λ l s ll h. ((ll, (lc, la)), h)))))
    effect_live s LeaveRegion h = tt
    effect_live s (Spawn u) h = known_live _ _ (λ n. many_live n s _ h (λ args s la h. caps_live s (λ c s. wants (ask.Spawn u args c) s) h (λ c s lc h. ((la, lc), h))))

  -- ---- what comes next

  with_operands : (i : Inside) (at : ℕ) (ls s : List Value) → InsideLives w i → AllLive w ls → AllLive w s → InsideLives w (next.with_frame i (next.frame_at i.frame at ls s))
  with_operands i at ls s l k h = record { frame = record { locals = k; stack = h }; callers = l.callers }

  pub entered_live : (code : CodeTree) (u : ℕ) (args : List Value) → AllLive w args → FrameLives w (entry code u args)
  entered_live code u args h = record { locals = append_live args _ h (copies_live _ Nothing tt); stack = tt }

  ending_live : (ph : Phase) (i : Inside) (v : Value) → InsideLives w i → Lives w v → NextLives w (ending ph i v)
  ending_live Bottom i v l h = (h, l)
  ending_live (Body at) i v l h = tt
  ending_live Catch i v l h = tt

  returned_live : (ph : Phase) (i : Inside) (v : Value) (fs : List Frame) → InsideLives w i → Lives w v → AllByRecursion (FrameLives w) fs → NextLives w (returned ph i v fs)
  returned_live ph i v [] l h k = ending_live ph i v l h
  returned_live ph i v (f ∷ fs) l h k = record { frame = record { locals = (k.0).locals; stack = (h, (k.0).stack) }; callers = k.1 }

  leaving_live : (ph : Phase) (i : Inside) → InsideLives w i → NextLives w (leaving ph i)
  leaving_live Bottom i l = tt
  leaving_live (Body at) i l = (tt, l)
  leaving_live Catch i l = (tt, l)

  by_live : (code : CodeTree) (ph : Phase) (i : Inside) (d : Did) → InsideLives w i → DidLives d → NextLives w (next_by code ph i d)
  by_live code ph i (gives s) l h = with_operands i _ i.frame.locals s l l.frame.locals h
  by_live code ph i (sets ls s) l h = with_operands i _ ls s l h.0 h.1
  by_live code ph i (jumps to s) l h = with_operands i to i.frame.locals s l l.frame.locals h
  by_live code ph i (calls u args s) l h = record { frame = entered_live code u args h.0; callers = (record { locals = l.frame.locals; stack = h.1 }, l.callers) }
  by_live code ph i (returns v) l h = returned_live ph i v i.callers l h l.callers
  by_live code ph i (fails f) l h = record { frame = l.frame; callers = l.callers }
  by_live code ph i (wants a s) l h = (h.0, with_operands i _ i.frame.locals s l l.frame.locals h.1)
  by_live code ph i leaves l h = leaving_live ph i l
  by_live code ph i breaks l h = tt

  raised_live : (ph : Phase) (i : Inside) (f : Fault) → InsideLives w i → NextLives w (raised ph i f)
  raised_live Bottom i f l = (tt, l)
  raised_live (Body at) i f l = (tt, l)
  raised_live Catch i f l = (tt, l)

  module _ (code : CodeTree) (is : IsCode code) (root : Lives w (Dir root_name)) (c : Context) (lp : IsKnown w c.label) (lc : AreKnown w c.caps) (l : InsideLives w c.inside) where
    op_live : (x : Option Op) → NextLives w (next_op code c x)
    op_live None = tt
    op_live (Some op) = by_live code c.phase c.inside _ l (effect_live root (around code c) lp lc l.frame.locals (constants_live code.constants is.each_constant) c.inside.frame.stack op l.frame.stack)

    in_live : (x : Option Fault) → NextLives w (next_in code c x)
    in_live (Some f) = raised_live c.phase c.inside f l
    in_live None = op_live _

    pub next_live : NextLives w (next_of code c)
    unfolding next_of
    next_live = in_live c.inside.fault

-- ---- valid worlds

pub root_live : (w : World) → IsValid w → Lives w (Dir root_name)
root_live w v = ((public_known w, public_known w), subst (λ n. IsTrue (map_of.contains_key w.files.dirs n)) v.sound.root v.sound.files.rooted)

pub inside_live : (w : World) (t : ℕ) (c : Context) → ContextLives w t c → InsideLives w c.inside
inside_live w t c h = record { frame = h.frame; callers = h.callers }

pub name_what_lives : (code : CodeTree) → NamesWhatLives code
name_what_lives code is w t th c rest v at top =
    let all = subst (λ cs. AllByRecursion (ContextLives w t) cs) top (v.threads t th at).contexts in
    next_live w code is (root_live w v) c all.0.label all.0.caps (inside_live w t c all.0)

-- ---- what an ask copies

thing_lives : (w : World) (r : Value) → Lives w r → ThingLives w r
thing_lives w (Obj n) h = h.1
thing_lives w (Arr n len) h = h.1.0
thing_lives w v h = tt

pub copies_living : (w : World) (a : Ask) → AskLives w a → CopiesLiving w a
copies_living w (ask.CopyTo r l) h = thing_lives w r h.0
copies_living w a h = tt
