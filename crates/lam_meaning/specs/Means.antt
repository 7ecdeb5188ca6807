-- The meaning of expressions, statements and threads, over the program with its names resolved.
use Rattle.std.specs.Prelude.{ℕ, zero, suc, ◌+◌, ◌-◌, ℤ, pos, negsuc, Bool, true, false, nat_lt, nat_le, if◌then◌else◌, List, [], ◌∷◌, ◌++◌, length, map, replicate, Option, Some, None, slice_get}
use Rattle.flow_labels.specs.declared.Label.{Label}
use Rattle.flow_labels.specs.Flow.{public_label}
use Rattle.flow_labels.specs.declared.Denied.{Denied as Denial}
use Rattle.flow_labels.specs.Failing.{first_failing, read_test, write_test}
use Rattle.thread_steps.specs.Caps.{Caps}
use Rattle.thread_steps.specs.Changes.{no_caps}
use Rattle.thread_steps.specs.Name.{Name}
use Rattle.thread_steps.specs.Value.{Value}
use Rattle.thread_steps.specs.Value.TheVariants.{Int, Bool as Truth, Bytes, Nothing, Obj, Arr, CapV}
use Rattle.thread_steps.specs.Kind.{Kind}
use Rattle.thread_steps.specs.Kind.TheVariants as kind
use Rattle.thread_steps.specs.Shape.TheVariants.{Class, Array}
use Rattle.thread_steps.specs.Shapes.{zero_of}
use Rattle.lam_operators.specs.declared.BinaryOp.{BinaryOp}
use Rattle.lam_operators.specs.declared.BinaryOp.TheVariants.{Or, And}
use Rattle.lam_builtins.specs.Types.{int, bool, bytes, tag, label, caps, file, dir, pipe, thread, object, array}
use Rattle.thread_steps.specs.Fault.TheVariants.{Denied, Index, Deep, Long, Thrown}
use Rattle.thread_steps.specs.Faults.{fault_number}
use Rattle.thread_steps.specs.Outcome.TheVariants as outcome
use Rattle.thread_steps.specs.Answer.{Answer}
use Rattle.thread_steps.specs.Answer.TheVariants.{Done, Entered, Val, Refused, Failed}
use Rattle.thread_steps.specs.Ask.TheVariants as ask
use Rattle.thread_steps.specs.Suits as sorts
use Rattle.thread_steps.specs.Suits.{Sort, numbers}
use Rattle.thread_steps.specs.Operators.{operator, prefix, label_from, with_sign}
use Rattle.thread_steps.specs.Limits.{frames_limit, length_limit}
use Rattle.thread_steps.specs.Builtins as calls
use Rattle.thread_steps.specs.Builtins.{Calls, builtin}
use Rattle.lam_resolve_tree.specs.Tree.{ResolvedType, CapSlot, Expression, number_value, text_value, bool_value, null_value, local_value, unary_of, binary_of, field_of, element_of, call_of, builtin_of, new_object, new_array, label_of, caps_of, spawn_of, Expressions, args_end, args_more, Statement, let_slot, if_block, while_block, return_value, throw_value, sync_block, region_block, do_value, set_local, set_field, set_element, Block, block_end, block_more, OtherBlock, no_other, other_block, ResolvedFunction, ResolvedTree}
use Rattle.lam_meaning.specs.Trees.{Own, with_locals, with_local, local, asked, End, goes, raises, leaves, Tree, ends, broken, spent, asks, on_end, and_then, gives, fails, done, spend, purely, value_reply, ask_value, ask_unit, ask_done, unless_denied, on_object, on_array, on_thing, on_truth, on_caps, on_region, gained}

-- ---- types

-- the sort of a type's values
abbrev pub sort_of : ResolvedType → Sort
sort_of int = sorts.numbers
sort_of bool = sorts.truths
sort_of bytes = sorts.byte_texts
sort_of tag = sorts.tags
sort_of label = sorts.labels
sort_of caps = sorts.capabilities
sort_of file = sorts.files
sort_of dir = sorts.directories
sort_of pipe = sorts.pipes
sort_of thread = sorts.threads
sort_of (object c) = sorts.objects
sort_of (array t) = sorts.arrays

-- what fields and elements of a type are at first: 0, false or null
abbrev pub kind_of : ResolvedType → Kind
kind_of int = kind.Int
kind_of bool = kind.Bool
kind_of t = kind.Null

-- ---- a context

-- where a piece of a program runs: the label, and the number of open calls of its context
pub record At : Type 0 where
  pub label : Label
  pub calls : ℕ

abbrev pub may_read : At → Name → Option Denial
may_read p r = first_failing (read_test p.label r.own)

abbrev pub may_write : At → Name → Option Denial
may_write p r = first_failing (write_test p.label r.own)

-- a function, and its arguments
abbrev pub Caller : Type 0
Caller = ℕ → List Value → At → ℕ → Own → Tree Value

-- ---- expressions

-- a place of an array
abbrev pub within : {A : Type 0} → ℤ → ℕ → ℕ → Own → (ℕ → Tree A) → Tree A
within (pos i) len n o go = if nat_lt i len then go i else fails Index n o
within (negsuc i) len n o go = fails Index n o

abbrev pub on_number : {A : Type 0} → Value → (ℤ → Tree A) → Tree A
on_number (Int z) go = go z
on_number v go = broken

abbrev pub class_fields : Option (List ResolvedType) → List Value
class_fields None = []
class_fields (Some ts) = map (λ t. zero_of (kind_of t)) ts

abbrev pub makes_array : Kind → ℤ → ℕ → Own → Tree Value
makes_array k (pos m) n o = if nat_le m length_limit then ask_value (asked numbers (ask.New (Array k m))) n o else fails Long n o
makes_array k (negsuc m) n o = fails Long n o

-- the sort of a built-in call's result
abbrev pub result_sort : Option ResolvedType → Sort
result_sort None = numbers
result_sort (Some t) = sort_of t

abbrev pub called_in : Option ResolvedType → ℕ → Own → Calls → Tree Value
called_in t n o (calls.now v) = gives v n o
called_in t n o (calls.faults f) = fails f n o
called_in t n o (calls.asks a) = asks (asked (result_sort t) a) (λ x. value_reply (gained a) n o x)
called_in t n o (calls.acts a) = ask_done a Nothing n o
called_in t n o calls.wrong = broken

-- `+` or `-` behind each tag, from left to right
abbrev pub signed : List CapSlot → Value → ℕ → Own → Tree Value
signed [] c n o = gives c n o
signed (x ∷ xs) c n o = and_then (purely n o (with_sign x.plus c (local o x.slot))) (λ c n o. signed xs c n o)

-- `&&` and `||` stop early
abbrev pub two : BinaryOp → Value → (ℕ → Own → Tree Value) → ℕ → Own → Tree Value
two And v right n o = on_truth v (right n o) (gives (Truth false) n o)
two Or v right n o = on_truth v (gives (Truth true) n o) (right n o)
two op v right n o = and_then (right n o) (λ w n o. purely n o (operator op v w))

abbrev mutual
  -- operands from left to right. An access tests null, then the label rule, then the place
  pub eval : ResolvedTree → Caller → Expression → At → ℕ → Own → Tree Value
  eval r call (number_value z) p n o = gives (Int z) n o
  eval r call (text_value bs) p n o = gives (Bytes bs) n o
  eval r call (bool_value b) p n o = gives (Truth b) n o
  eval r call null_value p n o = gives Nothing n o
  eval r call (local_value x) p n o = gives (local o x) n o
  eval r call (unary_of op e) p n o = and_then (eval r call e p n o) (λ v n o. purely n o (prefix op v))
  eval r call (binary_of op a b) p n o = and_then (eval r call a p n o) (λ v n o. two op v (λ n o. eval r call b p n o) n o)
  eval r call (field_of e c f t) p n o =
      and_then (eval r call e p n o) (λ v n o. on_object v n o (λ x. unless_denied (may_read p x) n o (ask_value (asked (sort_of t) (ask.Read (Obj x) f)) n o)))
  eval r call (element_of e i t) p n o =
      and_then (eval r call e p n o) (λ v n o. and_then (eval r call i p n o) (λ i n o. on_array v n o (λ x len. unless_denied (may_read p x) n o (on_number i (λ z.
      within z len n o (λ at. ask_value (asked (sort_of t) (ask.Read (Arr x len) at)) n o))))))
  eval r call (call_of f args) p n o = and_then (eval_all r call args p n o) (λ vs n o. call f vs p n o)
  eval r call (builtin_of b args t) p n o = and_then (eval_all r call args p n o) (λ vs n o. called_in t n o (builtin p.label o.caps b vs))
  eval r call (new_object c) p n o = ask_value (asked numbers (ask.New (Class c (class_fields (slice_get r.classes c))))) n o
  eval r call (new_array t e) p n o = and_then (eval r call e p n o) (λ v n o. on_number v (λ z. makes_array (kind_of t) z n o))
  eval r call (label_of s i) p n o =
      and_then (eval_all r call s p n o) (λ s n o. and_then (eval_all r call i p n o) (λ i n o. purely n o (label_from s i)))
  eval r call (caps_of items) p n o = signed items (CapV no_caps.plus no_caps.minus) n o
  eval r call (spawn_of c f args) p n o =
      and_then (eval r call c p n o) (λ c n o. and_then (eval_all r call args p n o) (λ vs n o. on_caps c n o (λ k. ask_value (asked numbers (ask.Spawn f vs k)) n o)))

  pub eval_all : ResolvedTree → Caller → Expressions → At → ℕ → Own → Tree (List Value)
  eval_all r call args_end p n o = gives [] n o
  eval_all r call (args_more e rest) p n o =
      and_then (eval r call e p n o) (λ v n o. and_then (eval_all r call rest p n o) (λ vs n o. gives (v ∷ vs) n o))

-- ---- statements

-- the slots of the open `sync`s of the function, the inmost first
abbrev pub Open : Type 0
Open = List ℕ

abbrev pub Does : Type 0
Does = At → ℕ → Own → Tree (Unit {0})

-- a monitor is taken, or given back
abbrev pub take : Value → ℕ → Own → Tree (Unit {0})
take v n o = on_thing v n o (λ r. ask_unit (ask.MonEnter r) n o)

abbrev pub give_back : Value → ℕ → Own → Tree (Unit {0})
give_back v n o = on_thing v n o (λ r. ask_unit (ask.MonLeave r) n o)

-- a `return` gives back the monitors of the open `sync`s, the inmost first
abbrev pub returns : Open → Value → ℕ → Own → Tree (Unit {0})
returns [] v n o = ends (leaves v n o)
returns (slot ∷ rest) v n o = and_then (give_back (local o slot) n o) (λ _ n o. returns rest v n o)

-- the captured values, and null in the other slots
abbrev pub captured : Own → List ℕ → ℕ → List Value
captured o from slots = map (λ x. local o x) from ++ replicate (slots - length from) Nothing

-- a region's end: what the context around has is as it was
abbrev pub caught_end : Own → End (Unit {0}) → Tree (Unit {0})
caught_end outer (goes a n o) = ask_unit ask.Leave n outer
caught_end outer (raises f n o) = ask_unit (ask.Suppressed f) n outer
caught_end outer (leaves v n o) = broken

abbrev pub body_end : Own → ℕ → (ℕ → Own → Tree (Unit {0})) → End (Unit {0}) → Tree (Unit {0})
body_end outer slot handler (goes a n o) = ask_unit ask.Leave n outer
body_end outer slot handler (raises f n o) =
    and_then (ask_unit (ask.Caught f) n o) (λ _ n o. on_end (handler n (with_local o slot (Int (fault_number f)))) (caught_end outer))
body_end outer slot handler (leaves v n o) = broken

abbrev pub enter_reply : Tree (Unit {0}) → ℕ → Own → Answer → Tree (Unit {0})
enter_reply t n o Entered = t
enter_reply t n o (Refused d) = fails Denied n o
enter_reply t n o (Failed f) = fails f n o
enter_reply t n o Done = broken
enter_reply t n o (Val v) = broken

abbrev pub inside : Label → At
inside l = record { label = l; calls = 1 }

-- a region at a label with capabilities: its body, and where a fault is raised its catch block
abbrev pub region : Label → Caps → ℕ → List Value → List Value → ℕ → Does → Does → ℕ → Own → Tree (Unit {0})
region l k number args locals slot body handler n o =
    asks (asked numbers (ask.Enter l k number args))
    (λ x. enter_reply (on_end (body (inside l) n (record { locals = locals; caps = k })) (body_end o slot (λ n o. handler (inside l) n o))) n o x)

abbrev pub throws : Value → ℕ → Own → Tree (Unit {0})
throws (Int z) n o = fails (Thrown z) n o
throws v n o = broken

abbrev pub eval_option : ResolvedTree → Caller → Option Expression → At → ℕ → Own → Tree Value
eval_option r call None p n o = gives Nothing n o
eval_option r call (Some e) p n o = eval r call e p n o

abbrev mutual
  -- `again` is the rest of a loop
  pub exec : ResolvedTree → Caller → (Open → Statement → Does) → Open → Statement → Does
  exec r call again os (let_slot x e) p n o = and_then (eval r call e p n o) (λ v n o. done n (with_local o x v))
  exec r call again os (set_local x e) p n o = and_then (eval r call e p n o) (λ v n o. done n (with_local o x v))
  exec r call again os (set_field e c f t v) p n o =
      and_then (eval r call e p n o) (λ x n o. and_then (eval r call v p n o) (λ v n o.
      on_object x n o (λ x. unless_denied (may_write p x) n o (ask_unit (ask.Write (Obj x) f v) n o))))
  exec r call again os (set_element e i t v) p n o =
      and_then (eval r call e p n o) (λ x n o. and_then (eval r call i p n o) (λ i n o. and_then (eval r call v p n o) (λ v n o.
      on_array x n o (λ x len. unless_denied (may_write p x) n o (on_number i (λ z. within z len n o (λ at. ask_unit (ask.Write (Arr x len) at v) n o)))))))
  exec r call again os (do_value e) p n o = and_then (eval r call e p n o) (λ v n o. done n o)
  exec r call again os (if_block e body other) p n o =
      and_then (eval r call e p n o) (λ v n o. on_truth v (exec_block r call again os body p n o) (exec_other r call again os other p n o))
  -- a turn takes its unit after its test was true
  exec r call again os (while_block e body) p n o =
      and_then (eval r call e p n o)
      (λ v n o. on_truth v (spend n (λ n. and_then (exec_block r call again os body p n o) (λ _ n o. again os (while_block e body) p n o))) (done n o))
  exec r call again os (return_value e) p n o = and_then (eval_option r call e p n o) (λ v n o. returns os v n o)
  exec r call again os (throw_value e) p n o = and_then (eval r call e p n o) (λ v n o. throws v n o)
  exec r call again os (sync_block slot e body) p n o =
      and_then (eval r call e p n o) (λ v n o. and_then (take v n (with_local o slot v)) (λ _ n o.
      and_then (exec_block r call again (slot ∷ os) body p n o) (λ _ n o. give_back (local o slot) n o)))
  exec r call again os (region_block number l c from slots body slot handler) p n o =
      and_then (eval r call l p n o) (λ l n o. and_then (eval r call c p n o) (λ c n o. on_region l c n o (λ l k.
      region l k number (map (λ x. local o x) from) (captured o from (length slots)) slot
      (λ p n o. exec_block r call again [] body p n o) (λ p n o. exec_block r call again [] handler p n o) n o)))

  pub exec_block : ResolvedTree → Caller → (Open → Statement → Does) → Open → Block → Does
  exec_block r call again os block_end p n o = done n o
  exec_block r call again os (block_more s rest) p n o = and_then (exec r call again os s p n o) (λ _ n o. exec_block r call again os rest p n o)

  pub exec_other : ResolvedTree → Caller → (Open → Statement → Does) → Open → OtherBlock → Does
  exec_other r call again os no_other p n o = done n o
  exec_other r call again os (other_block body) p n o = exec_block r call again os body p n o

-- ---- calls

-- a context has at most this many open calls
abbrev pub calls_limit : ℕ
calls_limit = frames_limit

-- the caller's locals are as they were; the capabilities are the context's
abbrev pub call_end : List Value → End (Unit {0}) → Tree Value
call_end ls (goes a n o) = gives Nothing n (with_locals o ls)
call_end ls (raises f n o) = fails f n (with_locals o ls)
call_end ls (leaves v n o) = gives v n (with_locals o ls)

-- the arguments, and null in the other slots
abbrev pub first_locals : ResolvedFunction → List Value → List Value
first_locals f vs = vs ++ replicate (length f.slots - length vs) Nothing

abbrev pub body_of : (Block → Does) → Option ResolvedFunction → List Value → Does
body_of run None vs p n o = broken
body_of run (Some f) vs p n o = run f.body p n (with_locals o (first_locals f vs))

abbrev pub deeper : At → At
deeper p = record { label = p.label; calls = p.calls + 1 }

-- a call takes its unit after its arguments and the test for Deep
abbrev pub calls_to : ResolvedTree → (Block → Does) → Caller
calls_to r run f vs p n o =
    if nat_lt p.calls calls_limit then spend n (λ n. on_end (body_of run (slice_get r.functions f) vs (deeper p) n o) (call_end o.locals)) else fails Deep n o

-- a statement, in which loops and calls go at most b deep
abbrev mutual
  pub runs : ResolvedTree → ℕ → Open → Statement → Does
  runs r zero os s p n o = spent
  runs r (suc b) os s p n o = exec r (calls_to r (λ body. block_runs r b body)) (runs r b) os s p n o

  pub block_runs : ResolvedTree → ℕ → Block → Does
  block_runs r zero body p n o = spent
  block_runs r (suc b) body p n o = exec_block r (calls_to r (λ body. block_runs r b body)) (runs r b) [] body p n o

-- ---- a thread

-- the last ask
abbrev pub last_ask : End (Unit {0}) → Tree (Unit {0})
last_ask (goes a n o) = ask_unit (ask.End (outcome.Value Nothing)) n o
last_ask (raises f n o) = ask_unit (ask.End (outcome.Failed f)) n o
last_ask (leaves v n o) = ask_unit (ask.End (outcome.Value v)) n o

-- a thread that runs a function at the public label with capabilities, with n units for the turns of loops and the calls
unfoldable pub means : ResolvedTree → ℕ → ℕ → List Value → Caps → Tree (Unit {0})
means r n f vs k =
    on_end (body_of (λ body. block_runs r (suc n) body) (slice_get r.functions f) vs (record { label = public_label; calls = 1 }) n (record { locals = []; caps = k })) last_ask
