-- What each operation takes from the operands and puts there, row by row: as many as its change says.
use Rattle.std.proofs.Common.{◌≡◌, ℕ, zero, suc, ◌+◌, ◌≤◌, ℤ, pos, negsuc, inl, inr, Bool, true, false, List, [], ◌∷◌, ◌++◌, Option, Some, None, length, take, drop, refl, sym, ap, ◌∙◌, arith, length-append}
use Rattle.std.specs.Prelude.{nat_lt, nat_le, ◌&&◌, ◌-◌, reverse, replicate, slice_get, if◌then◌else◌}
use Rattle.std.proofs.lemmas.Bool.{leb-true}
use Rattle.std.proofs.lemmas.List.{length-reverse, length-replicate, length-take-le}
use Rattle.decimal_text.specs.Decimal.{int_of}
use Rattle.flow_labels.specs.declared.Label.{Label}
use Rattle.flow_labels.specs.declared.Denied.{Denied}
use Rattle.capabilities.specs.declared.Caps.{Caps}
use Rattle.capabilities.specs.Changes.{no_caps}
use Rattle.lam_value.specs.declared.names.Name.{Name}
use Rattle.lam_value.specs.declared.values.Value.{Value}
use Rattle.lam_value.specs.declared.values.Value.TheVariants.{Int, Bool as Truth, Bytes, Nothing, Obj, Arr, File, Dir, Pipe, Thread, Lab, CapV}
use Rattle.lam_value.specs.declared.shapes.Kind.{Kind}
use Rattle.lam_value.specs.declared.shapes.Shape.TheVariants.{Array}
use Rattle.lam_builtins.specs.Types.{PlaceBy}
use Rattle.lam_builtins.specs.declared.Builtin.{Builtin}
use Rattle.lam_builtins.specs.declared.Builtin.TheVariants as call
use Rattle.lam_builtins.specs.Builtins.{row}
use Rattle.lam_operators.specs.declared.BinaryOp.{BinaryOp}
use Rattle.lam_operators.specs.declared.BinaryOp.TheVariants as binary
use Rattle.lam_operators.specs.declared.UnaryOp.{UnaryOp}
use Rattle.lam_operators.specs.declared.UnaryOp.TheVariants as unary
use Rattle.lam_asks.specs.declared.fault.Fault.TheVariants as fault
use Rattle.lam_asks.specs.declared.ask.Ask.{Ask}
use Rattle.lam_asks.specs.declared.ask.Ask.TheVariants as ask
use Rattle.lam_asks.specs.Suits.{Given, is_done, is_entered, is_value}
use Rattle.lam_bytecode.specs.Codes.{CodeTree}
use Rattle.lam_bytecode.specs.declared.op.Op.{Op}
use Rattle.lam_bytecode.specs.declared.op.Op.TheVariants.{Const, Pop, Add, Sub, Mul, Div, Rem, Neg, Not, Eq, Ne, Lt, Le, Gt, Ge, Jump, JumpIfFalse, Call, Return, Throw, GetField, PutField, GetElement, PutElement, NewObject, NewArray, MakeLabel, NoCaps, WithPlus, WithMinus, System, EnterMonitor, LeaveMonitor, EnterRegion, Spawn}
use Rattle.thread_steps.specs.Limits.{bytes_limit, message_limit, length_limit, frames_limit}
use Rattle.thread_steps.specs.Operators as operators
use Rattle.thread_steps.specs.Operators.{Pure, fine, is_small, operator, prefix, some_null, label_from, with_sign}
use Rattle.thread_steps.specs.Builtins as builtins
use Rattle.thread_steps.specs.Builtins.{Calls, now, faults, asks, acts, byte_now, byte_at, slice_at, number_in, own_label, copied, read_from, cut_to, send_into, builtin}
use Rattle.thread_steps.specs.Ops.{Did, gives, sets, jumps, calls, returns, fails, wants, breaks, on_any, on_int, on_truth, on_many, on_caps, on_label, operated, between, before, unless_denied, within, gets_field, puts_field, gets_element, puts_element, may_read, may_write, new_object, new_array, function_takes, region_in, region_takes, on_known, called, is_held, monitor_of, on_constant, Around, effect}
use Rattle.guarded_code.specs.declared.known.ValueKind.{ValueKind}
use Rattle.guarded_code.specs.declared.known.ValueKind.TheVariants.{Number, Truth as TruthKind, Other, Unknown}
use Rattle.guarded_code.specs.Changes.{Any, Only, Change, Trades, kind_of_answer, constant_kind, result_kind, places_of, anything, change, goes}
use Rattle.guarded_code_threads.specs.Answers.{given_by}
use Rattle.guarded_code_threads.specs.Laws.{TakesAll}
use Rattle.guarded_code_threads.proofs.Agreeing.{PutOn}
use Rattle.guarded_code_threads.proofs.Addresses.{In}

-- ---- lists

drop_none : {A : Type 0} (n : ℕ) → drop {A = A} n [] ≡ []
drop_none zero = refl
drop_none (suc n) = refl

drop_both : {A : Type 0} (n m : ℕ) (s : List A) → drop m (drop n s) ≡ drop (n + m) s
drop_both zero m s = let e : m ≡ 0 + m = omega arith in ap (λ k. drop k s) e
drop_both (suc n) m [] = drop_none m ∙ sym (drop_none (suc n + m))
drop_both (suc n) m (x ∷ s) = let e : suc (n + m) ≡ suc n + m = omega arith in drop_both n m s ∙ ap (λ k. drop k (x ∷ s)) e

places_long : {C : Type 0} (ps : List (PlaceBy C)) → length (places_of ps) ≡ length ps
places_long [] = refl
places_long (p ∷ ps) = ap suc (places_long ps)

-- ---- what an operation does, where the rest of the operands stays, a value of a kind is put there or none, and it goes
-- on at some of the addresses

module _ (code : CodeTree) (at : ℕ) (bs : List ℕ) (g : Option ValueKind) (rest : List Value) where
  -- the rest alone, on which the answer's value is put
  abbrev pub ValueOn : Option ValueKind → List Value → Type 0
  ValueOn None s = ⊥
  ValueOn (Some kind) s = s ≡ rest

  abbrev pub GivenOn : Given → List Value → Type 0
  GivenOn is_done s = PutOn g rest s
  GivenOn is_entered s = ⊥
  GivenOn (is_value sort) s = ValueOn g s

  abbrev pub AskTrades : Ask → List Value → Type 0
  AskTrades (ask.Enter l k r vs) s = PutOn g rest s × (region_takes (region_in r code.units) ≡ Some (length vs))
  AskTrades (ask.Spawn u vs k) s = ValueOn g s × TakesAll code u vs
  AskTrades ask.Leave s = ⊥
  AskTrades (ask.Barred d) s = ⊥
  AskTrades (ask.Caught f) s = ⊥
  AskTrades (ask.Suppressed f) s = ⊥
  AskTrades (ask.End r) s = ⊥
  AskTrades a s = GivenOn (given_by a) s

  abbrev pub DidTrades : Did → Type 0
  DidTrades (gives s) = In (at + 1) bs × PutOn g rest s
  DidTrades (sets ls s) = ⊥
  DidTrades (jumps to s) = In to bs × PutOn g rest s
  DidTrades (calls u vs s) = In (at + 1) bs × ValueOn g s × TakesAll code u vs
  DidTrades (wants a s) = In (at + 1) bs × AskTrades a s
  DidTrades _ = Unit {0}

  either : (b : Bool) (x y : Did) → DidTrades x → DidTrades y → DidTrades (if b then x else y)
  either true x y h k = h
  either false x y h k = k

  unless : (x : Option Denied) (d : Did) → DidTrades d → DidTrades (unless_denied x d)
  unless None d h = h
  unless (Some x) d h = tt

  inside : (z : ℤ) (len : ℕ) (go : ℕ → Did) → ((i : ℕ) → DidTrades (go i)) → DidTrades (within z len go)
  inside (pos i) len go h = either (nat_lt i len) (go i) (fails fault.Index) (h i) tt
  inside (negsuc i) len go h = tt

  many : (n : ℕ) (s : List Value) (go : List Value → List Value → Did) → (n ≤ length s → DidTrades (go (reverse (take n s)) (drop n s))) → DidTrades (on_many n s go)
  many n s go h = by (nat_le n (length s)) refl
    where
      by : (b : Bool) → nat_le n (length s) ≡ b → DidTrades (if b then go (reverse (take n s)) (drop n s) else breaks)
      by true e = h (leb-true n (length s) e)
      by false e = tt

-- so many operands are taken
taken_long : (n : ℕ) (s : List Value) → n ≤ length s → length (reverse (take n s)) ≡ n
taken_long n s le = length-reverse (take n s) ∙ length-take-le n s le

-- where it goes on alone
abbrev pub straight : ℕ → List ℕ
straight at = (at + 1) ∷ []

on : (at : ℕ) → In (at + 1) (straight at)
on at = inl refl

-- ---- a value for the operands that are taken

module _ (code : CodeTree) (at : ℕ) (kind : ValueKind) where
  abbrev Gives : List Value → Did → Type 0
  Gives rest d = DidTrades code at (straight at) (Some kind) rest d

  operated_gives : (rest s : List Value) → s ≡ rest → (x : Pure) → Gives rest (operated s x)
  operated_gives rest s e (fine v) = (on at, (v, ap (λ r. v ∷ r) e))
  operated_gives rest s e x = tt

  constant_gives : (s : List Value) (x : Option Value) → Gives s (on_constant s x)
  constant_gives s None = tt
  constant_gives s (Some v) = (on at, (v, refl))

  between_gives : (op : BinaryOp) (s : List Value) → Gives (drop 2 s) (between op s)
  between_gives op (w ∷ v ∷ s) = operated_gives s s refl (operator op v w)
  between_gives op s = tt

  before_gives : (op : UnaryOp) (s : List Value) → Gives (drop 1 s) (before op s)
  before_gives op [] = tt
  before_gives op (v ∷ s) = operated_gives s s refl (prefix op v)

  field_gives : (p : Label) (f : ℕ) (s : List Value) → Gives (drop 1 s) (gets_field p f s)
  field_gives p f (Obj n ∷ s) = unless code at (straight at) (Some kind) s (may_read p n.own) (wants (ask.Read (Obj n) f) s) (on at, refl)
  field_gives p f s = tt

  element_gives : (p : Label) (s : List Value) → Gives (drop 2 s) (on_int s (λ i s. gets_element p i s))
  element_gives p (Int i ∷ Arr n len ∷ s) =
      unless code at (straight at) (Some kind) s (may_read p n.own) (within i len (λ j. wants (ask.Read (Arr n len) j) s))
      (inside code at (straight at) (Some kind) s i len (λ j. wants (ask.Read (Arr n len) j) s) (λ j. (on at, refl)))
  element_gives p s = tt

  object_gives : (c : ℕ) (s : List Value) (x : Option (List Kind)) → Gives s (new_object c s x)
  object_gives c s None = tt
  object_gives c s (Some kinds) = (on at, refl)

  array_by : (k : Kind) (s : List Value) (z : ℤ) → Gives s (new_array k s z)
  array_by k s (pos n) = either code at (straight at) (Some kind) s (nat_le n length_limit) (wants (ask.New (Array k n)) s) (fails fault.Long) (on at, refl) tt
  array_by k s (negsuc n) = tt

  array_gives : (k : Kind) (s : List Value) → Gives (drop 1 s) (on_int s (λ n s. new_array k s n))
  array_gives k (Int n ∷ s) = array_by k s n
  array_gives k s = tt

  label_gives : (p q : ℕ) (s : List Value) → Gives (drop (length (replicate (p + q) (Only kind))) s) (on_many q s (λ vouchers s. on_many p s (λ secrets s. operated s (label_from secrets vouchers))))
  label_gives p q s =
      let rest = drop (length (replicate (p + q) (Only kind))) s in
      let count : length (replicate (p + q) (Only kind)) ≡ p + q = length-replicate (p + q) (Only kind) in
      let same : q + p ≡ length (replicate (p + q) (Only kind)) = omega (arith, count) in
      many code at (straight at) (Some kind) rest q s (λ vouchers s. on_many p s (λ secrets s. operated s (label_from secrets vouchers)))
      (λ le. many code at (straight at) (Some kind) rest p (drop q s) (λ secrets r. operated r (label_from secrets (reverse (take q s))))
      (λ more. operated_gives rest (drop p (drop q s)) (drop_both q p s ∙ ap (λ n. drop n s) same) (label_from (reverse (take p (drop q s))) (reverse (take q s)))))

  sign_gives : (plus : Bool) (s : List Value) → Gives (drop 2 s) (on_any s (λ t s. on_any s (λ c s. operated s (with_sign plus c t))))
  sign_gives plus (t ∷ c ∷ s) = operated_gives s s refl (with_sign plus c t)
  sign_gives plus s = tt

  -- ---- calls of functions, and new threads

  called_gives : (u : ℕ) (frames : ℕ) (s : List Value) (x : Option ℕ) → function_takes (slice_get code.units u) ≡ x →
      Gives (drop (length (anything x)) s) (on_known x (λ n. on_many n s (λ args s. if nat_lt frames frames_limit then calls u args s else fails fault.Deep)))
  called_gives u frames s None e = tt
  called_gives u frames s (Some n) e =
      let rest = drop (length (replicate n Any)) s in
      many code at (straight at) (Some kind) rest n s (λ args s. if nat_lt frames frames_limit then calls u args s else fails fault.Deep)
      (λ le. either code at (straight at) (Some kind) rest (nat_lt frames frames_limit) (calls u (reverse (take n s)) (drop n s)) (fails fault.Deep)
      (on at, ap (λ k. drop k s) (sym (length-replicate n Any)), e ∙ ap (λ k. Some k) (sym (taken_long n s le))) tt)

  spawned_gives : (u : ℕ) (s : List Value) (x : Option ℕ) → function_takes (slice_get code.units u) ≡ x →
      Gives (drop (length (anything x ++ Only kind ∷ [])) s) (on_known x (λ n. on_many n s (λ args s. on_caps s (λ c s. wants (ask.Spawn u args c) s))))
  spawned_gives u s None e = tt
  spawned_gives u s (Some n) e =
      let rest = drop (length (replicate n Any ++ Only kind ∷ [])) s in
      let one : length (replicate n Any ++ Only kind ∷ []) ≡ length (replicate n Any) + 1 = length-append (replicate n Any) (Only kind ∷ []) in
      let count : length (replicate n Any) ≡ n = length-replicate n Any in
      let same : n + 1 ≡ length (replicate n Any ++ Only kind ∷ []) = omega (arith, one, count) in
      many code at (straight at) (Some kind) rest n s (λ args s. on_caps s (λ c s. wants (ask.Spawn u args c) s))
      (λ le. by rest (reverse (take n s)) (e ∙ ap (λ k. Some k) (sym (taken_long n s le))) (drop n s) (drop_both n 1 s ∙ ap (λ k. drop k s) same))
    where
      by : (rest args : List Value) → TakesAll code u args → (s : List Value) → drop 1 s ≡ rest → Gives rest (on_caps s (λ c s. wants (ask.Spawn u args c) s))
      by rest args t (CapV p m ∷ s) same = (on at, (same, t))
      by rest args t (Nothing ∷ s) same = tt
      by rest args t s same = tt

  -- ---- built-in calls

  module _ (rest s : List Value) (same : s ≡ rest) where
    abbrev CallGives : Calls → Type 0
    CallGives x = Gives rest (called s x)

    either_call : (b : Bool) (x y : Calls) → CallGives x → CallGives y → CallGives (if b then x else y)
    either_call true x y h k = h
    either_call false x y h k = k

    put_now : (v : Value) → CallGives (now v)
    put_now v = (on at, (v, ap (λ r. v ∷ r) same))

    byte_gives : (x : Option ℕ) → CallGives (byte_now x)
    byte_gives None = tt
    byte_gives (Some b) = put_now (Int (pos b))

    byte_at_gives : (bytes : List ℕ) (z : ℤ) → CallGives (byte_at bytes z)
    byte_at_gives bytes (pos i) = byte_gives (slice_get bytes i)
    byte_at_gives bytes (negsuc i) = tt

    slice_gives : (bytes : List ℕ) (i j : ℤ) → CallGives (slice_at bytes i j)
    slice_gives bytes (pos i) (pos j) = either_call (nat_le i j && nat_le j (length bytes)) (now (Bytes (take (j - i) (drop i bytes)))) (faults fault.Index) (put_now _) tt
    slice_gives bytes i j = tt

    number_gives : (x : Option ℤ) → CallGives (number_in x)
    number_gives None = tt
    number_gives (Some z) = put_now (Int z)

    own_gives : (v : Value) → CallGives (own_label v)
    own_gives (Obj n) = put_now (Lab n.own)
    own_gives (Arr n len) = put_now (Lab n.own)
    own_gives (File n) = put_now (Lab n.own)
    own_gives (Dir n) = put_now (Lab n.own)
    own_gives (Pipe n) = put_now (Lab n.own)
    own_gives v = tt

    copied_gives : (v : Value) (l : Label) → CallGives (copied v l)
    copied_gives (Obj n) l = (on at, same)
    copied_gives (Arr n len) l = (on at, same)
    copied_gives v l = tt

    read_gives : (f : Name) (i j : ℤ) → CallGives (read_from f i j)
    read_gives f (pos i) (pos n) = either_call (nat_le n bytes_limit) (asks (ask.FileRead f i n)) (faults fault.Long) (on at, same) tt
    read_gives f i j = tt

    cut_gives : (f : Name) (z : ℤ) → CallGives (cut_to f z)
    cut_gives f (pos n) = (on at, (Nothing, ap (λ r. Nothing ∷ r) same))
    cut_gives f (negsuc n) = tt

    send_gives : (pipe : Name) (bytes : List ℕ) → CallGives (send_into pipe bytes)
    send_gives pipe bytes = either_call (nat_le (length bytes) message_limit) (acts (ask.Send pipe bytes)) (faults fault.Long) (on at, (Nothing, ap (λ r. Nothing ∷ r) same)) tt

    calls_give : (p : Label) (c : Caps) (b : Builtin) (vs : List Value) → CallGives (builtins.calls p c b vs)
    calls_give p c call.Len (Arr n len ∷ []) = either_call (is_small (pos len)) (now (Int (pos len))) (faults fault.Overflow) (put_now _) tt
    calls_give p c call.Size (Bytes bytes ∷ []) = either_call (is_small (pos (length bytes))) (now (Int (pos (length bytes)))) (faults fault.Overflow) (put_now _) tt
    calls_give p c call.Byte (Bytes bytes ∷ Int i ∷ []) = byte_at_gives bytes i
    calls_give p c call.Slice (Bytes bytes ∷ Int i ∷ Int j ∷ []) = slice_gives bytes i j
    calls_give p c call.Cat (Bytes x ∷ Bytes y ∷ []) = either_call (nat_le (length (x ++ y)) bytes_limit) (now (Bytes (x ++ y))) (faults fault.Long) (put_now _) tt
    calls_give p c call.Text (Int i ∷ []) = put_now _
    calls_give p c call.Number (Bytes bytes ∷ []) = number_gives (int_of bytes)
    calls_give p c call.MyLabel [] = put_now _
    calls_give p c call.MyCaps [] = put_now _
    calls_give p c call.Root [] = put_now _
    calls_give p c call.LabelOf (v ∷ []) = own_gives v
    calls_give p c call.Copy (v ∷ Lab l ∷ []) = copied_gives v l
    calls_give p c call.Mint [] = (on at, same)
    calls_give p c call.Say (Bytes bytes ∷ []) = (on at, (Nothing, ap (λ r. Nothing ∷ r) same))
    calls_give p c call.MakeFile (Dir d ∷ Bytes n ∷ Lab l ∷ []) = (on at, same)
    calls_give p c call.MakeDir (Dir d ∷ Bytes n ∷ Lab l ∷ []) = (on at, same)
    calls_give p c call.OpenFile (Dir d ∷ Bytes n ∷ []) = (on at, same)
    calls_give p c call.OpenDir (Dir d ∷ Bytes n ∷ []) = (on at, same)
    calls_give p c call.Remove (Dir d ∷ Bytes n ∷ []) = (on at, (Nothing, ap (λ r. Nothing ∷ r) same))
    calls_give p c call.Read (File f ∷ Int i ∷ Int n ∷ []) = read_gives f i n
    calls_give p c call.Length (File f ∷ []) = (on at, same)
    calls_give p c call.Append (File f ∷ Bytes bytes ∷ []) = (on at, (Nothing, ap (λ r. Nothing ∷ r) same))
    calls_give p c call.Cut (File f ∷ Int n ∷ []) = cut_gives f n
    calls_give p c call.MakePipe (Lab l ∷ []) = (on at, same)
    calls_give p c call.Send (Pipe d ∷ Bytes bytes ∷ []) = send_gives d bytes
    calls_give p c call.SendCaps (Pipe d ∷ CapV plus minus ∷ []) = (on at, (Nothing, ap (λ r. Nothing ∷ r) same))
    calls_give p c call.Receive (Pipe d ∷ []) = (on at, same)
    calls_give p c call.ReceiveCaps (Pipe d ∷ []) = (on at, same)
    calls_give p c call.Join (Thread t ∷ []) = (on at, same)
    calls_give p c b vs = tt

    builtin_gives : (p : Label) (c : Caps) (b : Builtin) (vs : List Value) → CallGives (builtin p c b vs)
    unfolding builtin
    builtin_gives p c b vs = either_call (some_null vs) (faults fault.Null) (builtins.calls p c b vs) tt (calls_give p c b vs)

  system_gives : (p : Label) (c : Caps) (b : Builtin) (s : List Value) →
      Gives (drop (length (reverse (places_of (row b).signature.takes))) s) (on_many (length (row b).signature.takes) s (λ args s. called s (builtin p c b args)))
  system_gives p c b s =
      let takes = (row b).signature.takes in
      let rest = drop (length (reverse (places_of takes))) s in
      let count : length takes ≡ length (reverse (places_of takes)) = sym (length-reverse (places_of takes) ∙ places_long takes) in
      many code at (straight at) (Some kind) rest (length takes) s (λ args s. called s (builtin p c b args))
      (λ le. builtin_gives rest (drop (length takes) s) (ap (λ k. drop k s) count) p c b (reverse (take (length takes) s)))

-- ---- nothing for the operands that are taken

module _ (code : CodeTree) (at : ℕ) where
  abbrev Takes : List Value → Did → Type 0
  Takes rest d = DidTrades code at (straight at) None rest d

  pop_takes : (s : List Value) → Takes (drop 1 s) (on_any s (λ v s. gives s))
  pop_takes [] = tt
  pop_takes (v ∷ s) = (on at, refl)

  field_takes : (p : Label) (f : ℕ) (s : List Value) → Takes (drop 2 s) (on_any s (λ v s. puts_field p f v s))
  field_takes p f (v ∷ Obj n ∷ s) = unless code at (straight at) None s (may_write p n.own) (wants (ask.Write (Obj n) f v) s) (on at, refl)
  field_takes p f s = tt

  element_takes : (p : Label) (s : List Value) → Takes (drop 3 s) (on_any s (λ v s. on_int s (λ i s. puts_element p i v s)))
  element_takes p (v ∷ Int i ∷ Arr n len ∷ s) =
      unless code at (straight at) None s (may_write p n.own) (within i len (λ j. wants (ask.Write (Arr n len) j v) s))
      (inside code at (straight at) None s i len (λ j. wants (ask.Write (Arr n len) j v) s) (λ j. (on at, refl)))
  element_takes p s = tt

  enter_takes : (s : List Value) → Takes (drop 1 s) (monitor_of (λ r. ask.MonEnter r) (λ n. true) s)
  enter_takes (Obj n ∷ s) = (on at, refl)
  enter_takes (Arr n len ∷ s) = (on at, refl)
  enter_takes s = tt

  leave_takes : (held : List Name) (s : List Value) → Takes (drop 1 s) (monitor_of (λ r. ask.MonLeave r) (λ n. is_held n held) s)
  leave_takes held (Obj n ∷ s) = either code at (straight at) None s (is_held n held) (wants (ask.MonLeave (Obj n)) s) breaks (on at, refl) tt
  leave_takes held (Arr n len ∷ s) = either code at (straight at) None s (is_held n held) (wants (ask.MonLeave (Arr n len)) s) breaks (on at, refl) tt
  leave_takes held s = tt

  region_takes_all : (r : ℕ) (kind : ValueKind) (s : List Value) (x : Option ℕ) → region_takes (region_in r code.units) ≡ x →
      Takes (drop (length (anything x ++ Only kind ∷ Only kind ∷ [])) s) (on_known x (λ n. on_many n s (λ args s. on_caps s (λ c s. on_label s (λ l s. wants (ask.Enter l c r args) s)))))
  region_takes_all r kind s None e = tt
  region_takes_all r kind s (Some n) e =
      let rest = drop (length (replicate n Any ++ Only kind ∷ Only kind ∷ [])) s in
      let two : length (replicate n Any ++ Only kind ∷ Only kind ∷ []) ≡ length (replicate n Any) + 2 = length-append (replicate n Any) (Only kind ∷ Only kind ∷ []) in
      let count : length (replicate n Any) ≡ n = length-replicate n Any in
      let same : n + 2 ≡ length (replicate n Any ++ Only kind ∷ Only kind ∷ []) = omega (arith, two, count) in
      many code at (straight at) None rest n s (λ args s. on_caps s (λ c s. on_label s (λ l s. wants (ask.Enter l c r args) s)))
      (λ le. by rest (reverse (take n s)) (e ∙ ap (λ k. Some k) (sym (taken_long n s le))) (drop n s) (drop_both n 2 s ∙ ap (λ k. drop k s) same))
    where
      by : (rest args : List Value) → region_takes (region_in r code.units) ≡ Some (length args) → (s : List Value) → drop 2 s ≡ rest → Takes rest (on_caps s (λ c s. on_label s (λ l s. wants (ask.Enter l c r args) s)))
      by rest args t (CapV p m ∷ Lab l ∷ s) same = (on at, (same, t))
      by rest args t (CapV p m ∷ Nothing ∷ s) same = tt
      by rest args t (CapV p m ∷ s) same = tt
      by rest args t (Nothing ∷ s) same = tt
      by rest args t s same = tt

-- ---- where nothing goes on, or where it jumps

module _ (code : CodeTree) (at : ℕ) where
  return_takes : (bs : List ℕ) (s : List Value) → DidTrades code at bs None (drop 1 s) (on_any s (λ v s. returns v))
  return_takes bs [] = tt
  return_takes bs (v ∷ s) = tt

  throw_takes : (bs : List ℕ) (s : List Value) → DidTrades code at bs None (drop 1 s) (on_int s (λ n s. fails (fault.Thrown n)))
  throw_takes bs (Int n ∷ s) = tt
  throw_takes bs s = tt

  branch_takes : (to : ℕ) (s : List Value) → DidTrades code at ((at + 1) ∷ to ∷ []) None (drop 1 s) (on_truth s (λ b s. if b then gives s else jumps to s))
  branch_takes to (Truth b ∷ s) = either code at ((at + 1) ∷ to ∷ []) None s b (gives s) (jumps to s) (inl refl, refl) (inr (inl refl), refl)
  branch_takes to s = tt

-- ---- each operation that trades

abbrev pub IsTrade : Change → Type 0
IsTrade (Trades takes g) = Unit {0}
IsTrade k = ⊥

module _ (a : Around) (s : List Value) (at : ℕ) where
  abbrev pub ChangeTrades : List ℕ → Change → Did → Type 0
  ChangeTrades bs (Trades takes g) d = DidTrades a.code at bs g (drop (length takes) s) d
  ChangeTrades bs c d = Unit {0}

  pub op_trades : (op : Op) → ChangeTrades (goes at op) (change a.code op) (effect a s op)
  unfolding effect
  op_trades (Const k) = constant_gives a.code at (constant_kind (slice_get a.code.constants k)) s (slice_get a.code.constants k)
  op_trades Pop = pop_takes a.code at s
  op_trades Add = between_gives a.code at Number binary.Add s
  op_trades Sub = between_gives a.code at Number binary.Sub s
  op_trades Mul = between_gives a.code at Number binary.Mul s
  op_trades Div = between_gives a.code at Number binary.Div s
  op_trades Rem = between_gives a.code at Number binary.Rem s
  op_trades Neg = before_gives a.code at Number unary.Neg s
  op_trades Not = before_gives a.code at TruthKind unary.Not s
  op_trades Eq = between_gives a.code at TruthKind binary.Eq s
  op_trades Ne = between_gives a.code at TruthKind binary.Ne s
  op_trades Lt = between_gives a.code at TruthKind binary.Lt s
  op_trades Le = between_gives a.code at TruthKind binary.Le s
  op_trades Gt = between_gives a.code at TruthKind binary.Gt s
  op_trades Ge = between_gives a.code at TruthKind binary.Ge s
  op_trades (Jump to) = either a.code at (to ∷ []) None s (nat_lt to a.size) (jumps to s) breaks (inl refl, refl) tt
  op_trades (JumpIfFalse to) =
      either a.code at ((at + 1) ∷ to ∷ []) None (drop 1 s) (nat_lt to a.size) (on_truth s (λ b s. if b then gives s else jumps to s)) breaks (branch_takes a.code at to s) tt
  op_trades (Call u) = called_gives a.code at (result_kind (slice_get a.code.units u)) u a.frames s (function_takes (slice_get a.code.units u)) refl
  op_trades Return = return_takes a.code at [] s
  op_trades Throw = throw_takes a.code at [] s
  op_trades (GetField f) = field_gives a.code at Unknown a.label f s
  op_trades (PutField f) = field_takes a.code at a.label f s
  op_trades GetElement = element_gives a.code at Unknown a.label s
  op_trades PutElement = element_takes a.code at a.label s
  op_trades (NewObject c) = object_gives a.code at Other c s (slice_get a.code.classes c)
  op_trades (NewArray k) = array_gives a.code at Other k s
  op_trades (MakeLabel p q) = label_gives a.code at Other p q s
  op_trades NoCaps = (on at, (CapV no_caps.plus no_caps.minus, refl))
  op_trades WithPlus = sign_gives a.code at Other true s
  op_trades WithMinus = sign_gives a.code at Other false s
  op_trades (System b) = system_gives a.code at (kind_of_answer (row b).signature.answer) a.label a.caps b s
  op_trades EnterMonitor = enter_takes a.code at s
  op_trades LeaveMonitor = leave_takes a.code at a.held s
  op_trades (EnterRegion r) = region_takes_all a.code at r Other s (region_takes (region_in r a.code.units)) refl
  op_trades (Spawn u) = spawned_gives a.code at Other u s (function_takes (slice_get a.code.units u)) refl
  op_trades op = tt
