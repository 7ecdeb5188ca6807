-- What an operation does at its new address.
use Rattle.std.proofs.Common.{IsTrue, ◌≡◌, ℕ, ℤ, pos, negsuc, ◌+◌, Bool, true, false, List, [], ◌∷◌, Option, Some, None, length, take, drop, refl, sym, ap, ◌∙◌}
use Rattle.std.specs.Prelude.{if◌then◌else◌, nat_le, nat_lt, reverse, slice_get}
use Rattle.std.proofs.lemmas.Bool.{and_parts}
use Rattle.flow_labels.specs.declared.Label.{Label}
use Rattle.flow_labels.specs.declared.Denied.{Denied}
use Rattle.capabilities.specs.declared.Caps.{Caps}
use Rattle.lam_value.specs.declared.names.Name.{Name}
use Rattle.lam_value.specs.declared.values.Value.{Value}
use Rattle.lam_value.specs.declared.values.Value.TheVariants.{Int, Bool as Truth, Obj, Arr, Lab, CapV}
use Rattle.lam_value.specs.declared.shapes.Kind.{Kind}
use Rattle.lam_value.specs.declared.shapes.Shape.TheVariants.{Array}
use Rattle.lam_builtins.specs.Builtins.{row}
use Rattle.lam_asks.specs.declared.fault.Fault.TheVariants as fault
use Rattle.lam_asks.specs.declared.ask.Ask.{Ask}
use Rattle.lam_asks.specs.declared.ask.Ask.TheVariants as ask
use Rattle.lam_bytecode.specs.declared.op.Op.{Op}
use Rattle.lam_bytecode.specs.declared.op.Op.TheVariants.{Const, Load, Store, Pop, Add, Sub, Mul, Div, Rem, Neg, Not, Eq, Ne, Lt, Le, Gt, Ge, Jump, JumpIfFalse, Call, Return, Throw, ReadBarrier, WriteBarrier, GetField, PutField, GetElement, PutElement, NewObject, NewArray, MakeLabel, NoCaps, WithPlus, WithMinus, System, EnterMonitor, LeaveMonitor, EnterRegion, LeaveRegion, Spawn}
use Rattle.lam_operators.specs.declared.BinaryOp.{BinaryOp}
use Rattle.lam_operators.specs.declared.BinaryOp.TheVariants as binary
use Rattle.lam_operators.specs.declared.UnaryOp.{UnaryOp}
use Rattle.lam_operators.specs.declared.UnaryOp.TheVariants as unary
use Rattle.thread_steps.specs.Limits.{frames_limit, length_limit}
use Rattle.thread_steps.specs.Operators.{Pure, fine, operator, prefix, label_from, with_sign}
use Rattle.thread_steps.specs.Builtins.{Calls, now, builtin}
use Rattle.thread_steps.specs.Ops.{Did, gives, jumps, calls, returns, fails, wants, breaks, on_any, on_int, on_truth, on_many, on_thing, on_caps, on_label, operated, between, before, unless_denied, barrier, tested, may_read, may_write, within, gets_field, puts_field, gets_element, puts_element, new_object, new_array, function_takes, region_in, region_takes, on_known, called, is_held, monitor_of, on_constant, at_address, Around, effect}
use Rattle.guarded_code.specs.Changes.{goes}
use Rattle.guarded_code.specs.Breaks.{all_within}
use Rattle.thinned_code.specs.Thinned.{moved, moved_op, thin_code}
use Rattle.thinned_code.proofs.Units.{same_takes, same_captures}

-- the address that it goes on at is moved
abbrev pub moved_did : List Bool → Did → Did
moved_did ks (jumps to s) = jumps (moved ks to) s
moved_did ks d = d

module _ (ks : List Bool) where
  -- it names no address
  abbrev Still : Did → Type 0
  Still d = d ≡ moved_did ks d

  still_if : (b : Bool) (x y : Did) → Still x → Still y → Still (if b then x else y)
  still_if true x y h k = h
  still_if false x y h k = k

  still_any : (s : List Value) (go : Value → List Value → Did) → ((v : Value) (r : List Value) → Still (go v r)) → Still (on_any s go)
  still_any [] go h = refl
  still_any (v ∷ s) go h = h v s

  still_int : (s : List Value) (go : ℤ → List Value → Did) → ((z : ℤ) (r : List Value) → Still (go z r)) → Still (on_int s go)
  still_int (Int z ∷ s) go h = h z s
  still_int s go h = refl

  still_many : (n : ℕ) (s : List Value) (go : List Value → List Value → Did) → ((vs r : List Value) → Still (go vs r)) → Still (on_many n s go)
  still_many n s go h = still_if (nat_le n (length s)) (go (reverse (take n s)) (drop n s)) breaks (h (reverse (take n s)) (drop n s)) refl

  still_thing : (s : List Value) (go : Name → List Value → Did) → ((n : Name) (r : List Value) → Still (go n r)) → Still (on_thing s go)
  still_thing (Obj n ∷ s) go h = h n s
  still_thing (Arr n len ∷ s) go h = h n s
  still_thing s go h = refl

  still_caps : (s : List Value) (go : Caps → List Value → Did) → ((c : Caps) (r : List Value) → Still (go c r)) → Still (on_caps s go)
  still_caps (CapV p m ∷ s) go h = h (record { plus = p; minus = m }) s
  still_caps s go h = refl

  still_label : (s : List Value) (go : Label → List Value → Did) → ((l : Label) (r : List Value) → Still (go l r)) → Still (on_label s go)
  still_label (Lab l ∷ s) go h = h l s
  still_label s go h = refl

  still_known : (x : Option ℕ) (go : ℕ → Did) → ((n : ℕ) → Still (go n)) → Still (on_known x go)
  still_known None go h = refl
  still_known (Some n) go h = h n

  still_operated : (s : List Value) (x : Pure) → Still (operated s x)
  still_operated s (fine v) = refl
  still_operated s x = refl

  still_between : (op : BinaryOp) (s : List Value) → Still (between op s)
  still_between op s = still_any s _ (λ w r. still_any r _ (λ v t. still_operated t (operator op v w)))

  still_before : (op : UnaryOp) (s : List Value) → Still (before op s)
  still_before op s = still_any s _ (λ v t. still_operated t (prefix op v))

  still_unless : (x : Option Denied) (d : Did) → Still d → Still (unless_denied x d)
  still_unless None d h = h
  still_unless (Some denied) d h = refl

  still_barrier : (s : List Value) (x : Option Denied) → Still (barrier s x)
  still_barrier s None = refl
  still_barrier s (Some denied) = refl

  still_tested : (s : List Value) (d : ℕ) (rule : Label → Option Denied) → Still (tested s d rule)
  still_tested s d rule = still_thing (drop d s) _ (λ n r. still_barrier s (rule n.own))

  still_within : (z : ℤ) (len : ℕ) (go : ℕ → Did) → ((i : ℕ) → Still (go i)) → Still (within z len go)
  still_within (pos i) len go h = still_if (nat_lt i len) (go i) (fails fault.Index) (h i) refl
  still_within (negsuc i) len go h = refl

  still_gets : (p : Label) (f : ℕ) (s : List Value) → Still (gets_field p f s)
  still_gets p f (Obj n ∷ s) = still_unless (may_read p n.own) (wants (ask.Read (Obj n) f) s) refl
  still_gets p f s = refl

  still_puts : (p : Label) (f : ℕ) (v : Value) (s : List Value) → Still (puts_field p f v s)
  still_puts p f v (Obj n ∷ s) = still_unless (may_write p n.own) (wants (ask.Write (Obj n) f v) s) refl
  still_puts p f v s = refl

  still_gets_element : (p : Label) (z : ℤ) (s : List Value) → Still (gets_element p z s)
  still_gets_element p z (Arr n len ∷ s) =
      still_unless (may_read p n.own) (within z len (λ at. wants (ask.Read (Arr n len) at) s)) (still_within z len _ (λ at. refl))
  still_gets_element p z s = refl

  still_puts_element : (p : Label) (z : ℤ) (v : Value) (s : List Value) → Still (puts_element p z v s)
  still_puts_element p z v (Arr n len ∷ s) =
      still_unless (may_write p n.own) (within z len (λ at. wants (ask.Write (Arr n len) at v) s)) (still_within z len _ (λ at. refl))
  still_puts_element p z v s = refl

  still_object : (c : ℕ) (s : List Value) (x : Option (List Kind)) → Still (new_object c s x)
  still_object c s None = refl
  still_object c s (Some kinds) = refl

  still_array : (k : Kind) (s : List Value) (z : ℤ) → Still (new_array k s z)
  still_array k s (pos n) = still_if (nat_le n length_limit) (wants (ask.New (Array k n)) s) (fails fault.Long) refl refl
  still_array k s (negsuc n) = refl

  still_called : (s : List Value) (x : Calls) → Still (called s x)
  still_called s (now v) = refl
  still_called s x = refl

  still_monitor : (a : Value → Ask) (may : Name → Bool) (s : List Value) → Still (monitor_of a may s)
  still_monitor a may (Obj n ∷ s) = still_if (may n) (wants (a (Obj n)) s) breaks refl refl
  still_monitor a may (Arr n len ∷ s) = still_if (may n) (wants (a (Arr n len)) s) breaks refl refl
  still_monitor a may s = refl

  still_constant : (s : List Value) (x : Option Value) → Still (on_constant s x)
  still_constant s None = refl
  still_constant s (Some v) = refl

  still_call : (u frames : ℕ) (x : Option ℕ) (s : List Value) → Still (on_known x (λ n. on_many n s (λ args s. if nat_lt frames frames_limit then calls u args s else fails fault.Deep)))
  still_call u frames x s =
      still_known x _ (λ n. still_many n s _ (λ args r. still_if (nat_lt frames frames_limit) (calls u args r) (fails fault.Deep) refl refl))

  still_enter : (r : ℕ) (x : Option ℕ) (s : List Value) → Still (on_known x (λ n. on_many n s (λ args s. on_caps s (λ c s. on_label s (λ l s. wants (ask.Enter l c r args) s)))))
  still_enter r x s =
      still_known x _ (λ n. still_many n s _ (λ args t. still_caps t _ (λ c t. still_label t (λ l t. wants (ask.Enter l c r args) t) (λ l t. refl))))

  still_spawn : (u : ℕ) (x : Option ℕ) (s : List Value) → Still (on_known x (λ n. on_many n s (λ args s. on_caps s (λ c s. wants (ask.Spawn u args c) s))))
  still_spawn u x s = still_known x _ (λ n. still_many n s _ (λ args t. still_caps t (λ c t. wants (ask.Spawn u args c) t) (λ c t. refl)))

  -- a test of a truth value
  branch : (to : ℕ) (s : List Value) → on_truth s (λ b s. if b then gives s else jumps (moved ks to) s) ≡ moved_did ks (on_truth s (λ b s. if b then gives s else jumps to s))
  branch to (Truth true ∷ s) = refl
  branch to s = refl

-- the same but for the code and the number of operations
abbrev pub around_thin : Around → ℕ → Around
around_thin a size =
    record { code = thin_code a.code; label = a.label; caps = a.caps; held = a.held; locals = a.locals; size = size; frames = a.frames }

first_inside : (size b : ℕ) (bs : List ℕ) → IsTrue (all_within size (b ∷ bs)) → nat_lt b size ≡ true
first_inside size b bs e = (and_parts (nat_lt b size) (all_within size bs) e).0

second_inside : (size b c : ℕ) → IsTrue (all_within size (b ∷ c ∷ [])) → nat_lt c size ≡ true
second_inside size b c e = first_inside size c [] (and_parts (nat_lt b size) (all_within size (c ∷ [])) e).1

if_both : (b c : Bool) (x y z : Did) → b ≡ true → c ≡ true → x ≡ y → (if b then x else z) ≡ (if c then y else z)
if_both b c x y z eb ec e = ap (λ (t : Bool). if t then x else z) eb ∙ e ∙ sym (ap (λ (t : Bool). if t then y else z) ec)

jump_did : (ks : List Bool) (size n to : ℕ) (d d' : Did) → nat_lt to size ≡ true → nat_lt (moved ks to) n ≡ true → d' ≡ moved_did ks d → at_address n (moved ks to) d' ≡ moved_did ks (at_address size to d)
jump_did ks size n to d d' e f h =
    ap (λ (t : Bool). if t then d' else breaks) f ∙ h ∙ sym (ap (λ (t : Bool). moved_did ks (if t then d else breaks)) e)

pub effect_moved : (a : Around) (ks : List Bool) (size at to : ℕ) (s : List Value) (op : Op) → IsTrue (all_within a.size (goes at op)) → IsTrue (all_within size (goes to (moved_op ks op))) → effect (around_thin a size) s (moved_op ks op) ≡ moved_did ks (effect a s op)
unfolding effect
effect_moved a ks size at to s (Const k) h i = still_constant ks s (slice_get a.code.constants k)
effect_moved a ks size at to s (Load n) h i = still_constant ks s (slice_get a.locals n)
effect_moved a ks size at to s (Store n) h i = still_any ks s _ (λ v r. still_if ks (nat_lt n (length a.locals)) _ breaks refl refl)
effect_moved a ks size at to s Pop h i = still_any ks s (λ v r. gives r) (λ v r. refl)
effect_moved a ks size at to s Add h i = still_between ks binary.Add s
effect_moved a ks size at to s Sub h i = still_between ks binary.Sub s
effect_moved a ks size at to s Mul h i = still_between ks binary.Mul s
effect_moved a ks size at to s Div h i = still_between ks binary.Div s
effect_moved a ks size at to s Rem h i = still_between ks binary.Rem s
effect_moved a ks size at to s Neg h i = still_before ks unary.Neg s
effect_moved a ks size at to s Not h i = still_before ks unary.Not s
effect_moved a ks size at to s Eq h i = still_between ks binary.Eq s
effect_moved a ks size at to s Ne h i = still_between ks binary.Ne s
effect_moved a ks size at to s Lt h i = still_between ks binary.Lt s
effect_moved a ks size at to s Le h i = still_between ks binary.Le s
effect_moved a ks size at to s Gt h i = still_between ks binary.Gt s
effect_moved a ks size at to s Ge h i = still_between ks binary.Ge s
effect_moved a ks size at to s (Jump b) h i =
    jump_did ks a.size size b (jumps b s) (jumps (moved ks b) s) (first_inside a.size b [] h) (first_inside size (moved ks b) [] i) refl
effect_moved a ks size at to s (JumpIfFalse b) h i =
    jump_did ks a.size size b (on_truth s (λ t r. if t then gives r else jumps b r)) (on_truth s (λ t r. if t then gives r else jumps (moved ks b) r)) (second_inside a.size (at + 1) b h) (second_inside size (to + 1) (moved ks b) i) (branch ks b s)
effect_moved a ks size at to s (Call u) h i =
    ap (λ x. on_known x (λ n. on_many n s (λ args s. if nat_lt a.frames frames_limit then calls u args s else fails fault.Deep))) (same_takes a.code a.code.units u)
    ∙ still_call ks u a.frames (function_takes (slice_get a.code.units u)) s
effect_moved a ks size at to s Return h i = still_any ks s (λ v r. returns v) (λ v r. refl)
effect_moved a ks size at to s Throw h i = still_int ks s (λ z r. fails (fault.Thrown z)) (λ z r. refl)
effect_moved a ks size at to s (ReadBarrier d) h i = still_tested ks s d (may_read a.label)
effect_moved a ks size at to s (WriteBarrier d) h i = still_tested ks s d (may_write a.label)
effect_moved a ks size at to s (GetField f) h i = still_gets ks a.label f s
effect_moved a ks size at to s (PutField f) h i = still_any ks s _ (λ v r. still_puts ks a.label f v r)
effect_moved a ks size at to s GetElement h i = still_int ks s _ (λ z r. still_gets_element ks a.label z r)
effect_moved a ks size at to s PutElement h i = still_any ks s _ (λ v r. still_int ks r _ (λ z t. still_puts_element ks a.label z v t))
effect_moved a ks size at to s (NewObject c) h i = still_object ks c s (slice_get a.code.classes c)
effect_moved a ks size at to s (NewArray k) h i = still_int ks s _ (λ z r. still_array ks k r z)
effect_moved a ks size at to s (MakeLabel p q) h i =
    still_many ks q s _ (λ vouchers r. still_many ks p r _ (λ secrets t. still_operated ks t (label_from secrets vouchers)))
effect_moved a ks size at to s NoCaps h i = refl
effect_moved a ks size at to s WithPlus h i = still_any ks s _ (λ t r. still_any ks r _ (λ c r. still_operated ks r (with_sign true c t)))
effect_moved a ks size at to s WithMinus h i = still_any ks s _ (λ t r. still_any ks r _ (λ c r. still_operated ks r (with_sign false c t)))
effect_moved a ks size at to s (System b) h i =
    still_many ks (length (row b).signature.takes) s _ (λ args r. still_called ks r (builtin a.label a.caps b args))
effect_moved a ks size at to s EnterMonitor h i = still_monitor ks (λ r. ask.MonEnter r) (λ n. true) s
effect_moved a ks size at to s LeaveMonitor h i = still_monitor ks (λ r. ask.MonLeave r) (λ n. is_held n a.held) s
effect_moved a ks size at to s (EnterRegion r) h i =
    ap (λ x. on_known x (λ n. on_many n s (λ args s. on_caps s (λ c s. on_label s (λ l s. wants (ask.Enter l c r args) s))))) (same_captures a.code r a.code.units)
    ∙ still_enter ks r (region_takes (region_in r a.code.units)) s
effect_moved a ks size at to s LeaveRegion h i = refl
effect_moved a ks size at to s (Spawn u) h i =
    ap (λ x. on_known x (λ n. on_many n s (λ args s. on_caps s (λ c s. wants (ask.Spawn u args c) s)))) (same_takes a.code a.code.units u)
    ∙ still_spawn ks u (function_takes (slice_get a.code.units u)) s
