-- Each ask of a program's meaning wants an answer of the ask's own form.
use Rattle.std.proofs.Common.{◌≡◌, ℕ, zero, suc, ℤ, pos, negsuc, Bool, true, false, if◌then◌else◌, List, [], ◌∷◌, map, Option, Some, None, slice_get, refl, subst}
use Rattle.std.specs.Prelude.{nat_lt, nat_le, length}
use Rattle.flow_labels.specs.declared.Label.{Label}
use Rattle.flow_labels.specs.declared.Denied.{Denied as Denial}
use Rattle.capabilities.specs.declared.Caps.{Caps}
use Rattle.capabilities.specs.Changes.{no_caps}
use Rattle.lam_value.specs.declared.names.Name.{Name}
use Rattle.lam_value.specs.declared.values.Value.{Value}
use Rattle.lam_value.specs.declared.values.Value.TheVariants.{Int, Bool as Truth, Nothing, Obj, Arr, Lab, CapV}
use Rattle.lam_value.specs.declared.shapes.Kind.{Kind}
use Rattle.lam_value.specs.declared.shapes.Shape.TheVariants.{Class, Array}
use Rattle.lam_operators.specs.declared.BinaryOp.{BinaryOp}
use Rattle.lam_operators.specs.declared.BinaryOp.TheVariants.{Or, And}
use Rattle.lam_asks.specs.declared.fault.Fault.TheVariants.{Long, Index}
use Rattle.lam_asks.specs.Faults.{fault_number}
use Rattle.lam_asks.specs.declared.answer.Outcome.TheVariants as outcome
use Rattle.lam_asks.specs.declared.answer.Answer.{Answer}
use Rattle.lam_asks.specs.declared.answer.Answer.TheVariants.{Done, Entered, Val, Failed}
use Rattle.lam_asks.specs.declared.ask.Ask.{Ask}
use Rattle.lam_asks.specs.declared.ask.Ask.TheVariants as ask
use Rattle.lam_asks.specs.Suits.{Sort, numbers, want_of, fits}
use Rattle.thread_steps.specs.Limits.{length_limit}
use Rattle.thread_steps.specs.Operators.{Pure, fine, operator, prefix, label_from, with_sign}
use Rattle.thread_steps.specs.Builtins as calls
use Rattle.thread_steps.specs.Builtins.{Calls, builtin}
use Rattle.lam_resolve_tree.specs.Tree.{ResolvedType, CapSlot, Expression, unary_of, binary_of, field_of, element_of, call_of, builtin_of, new_object, new_array, label_of, caps_of, spawn_of, Expressions, args_end, args_more, Statement, let_slot, if_block, while_block, return_value, throw_value, sync_block, region_block, do_value, set_local, set_field, set_element, Block, block_end, block_more, OtherBlock, no_other, other_block, ResolvedFunction, ResolvedTree}
use Rattle.lam_meaning.specs.Trees.{Own, with_local, local, Asked, asked, End, goes, raises, leaves, Tree, ends, spent, broken, asks, on_end, next, and_then, fails, spend, purely, value_reply, nothing_gained, ask_value, done_reply, ask_done, ask_unit, unless_denied, on_object, on_array, on_thing, on_truth, on_caps, on_region, gained}
use Rattle.lam_meaning.specs.Means.{sort_of, kind_of, class_fields, At, may_read, may_write, Caller, within, on_number, makes_array, result_sort, called_in, signed, two, eval, eval_all, Open, Does, take, give_back, returns, captured, caught_end, body_end, enter_reply, inside, region, throws, eval_option, exec, exec_block, exec_other, calls_limit, call_end, body_of, deeper, calls_to, runs, block_runs, last_ask, means}
use Rattle.lam_meaning.specs.Plays.{asks_of}
use Rattle.guarded_code.proofs.Tables.{none_some, some_inj}

-- an answer of the ask's own form, with a value of some sort
abbrev pub IsWanted : Asked → Type 0
IsWanted q = (s : Sort) × (q.want ≡ want_of s q.ask)

abbrev pub AllWanted : {A : Type 0} → Tree A → Type 0
AllWanted (asks q go) = IsWanted q × ((x : Answer) → AllWanted (go x))
AllWanted t = Unit {0}

-- ---- pieces
ended : {A B : Type 0} (t : Tree A) (go : End A → Tree B) → AllWanted t → ((e : End A) → AllWanted (go e)) → AllWanted (on_end t go)
unfolding on_end
ended (ends e) go h k = k e
ended spent go h k = tt
ended broken go h k = tt
ended (asks q f) go h k = (h.0, λ x. ended (f x) go (h.1 x) k)

then_on : {A B : Type 0} (t : Tree A) (go : A → ℕ → Own → Tree B) → AllWanted t → ((a : A) (n : ℕ) (o : Own) → AllWanted (go a n o)) → AllWanted (and_then t go)
then_on {A} {B} t go h k = ended t (next go) h each
  where
    each : (e : End A) → AllWanted (next go e)
    each (goes a n o) = k a n o
    each (raises f n o) = tt
    each (leaves v n o) = tt

pure_one : (n : ℕ) (o : Own) (x : Pure) → AllWanted (purely n o x)
pure_one n o (fine v) = tt
pure_one n o x = tt

value_one : (gains : Value → Own → Own) (n : ℕ) (o : Own) (x : Answer) → AllWanted (value_reply gains n o x)
value_one gains n o (Val v) = tt
value_one gains n o x = tt

asks_value : (s : Sort) (a : Ask) (n : ℕ) (o : Own) → AllWanted (ask_value (asked s a) n o)
asks_value s a n o = ((s, refl), λ x. value_one nothing_gained n o x)

done_one : {A : Type 0} (a : A) (n : ℕ) (o : Own) (x : Answer) → AllWanted (done_reply a n o x)
done_one a n o Done = tt
done_one a n o x = tt

asks_done : {A : Type 0} (a : Ask) (it : A) (n : ℕ) (o : Own) → AllWanted (ask_done a it n o)
asks_done a it n o = ((numbers, refl), λ x. done_one it n o x)

if_one : {A : Type 0} (b : Bool) (s t : Tree A) → AllWanted s → AllWanted t → AllWanted (if b then s else t)
if_one true s t h k = h
if_one false s t h k = k

unless_one : {A : Type 0} (x : Option Denial) (n : ℕ) (o : Own) (t : Tree A) → AllWanted t → AllWanted (unless_denied x n o t)
unless_one None n o t h = h
unless_one (Some d) n o t h = then_on (ask_unit (ask.Barred d) n o) _ (asks_done (ask.Barred d) tt n o) (λ u n o. tt)

object_one : {A : Type 0} (v : Value) (n : ℕ) (o : Own) (go : Name → Tree A) → ((x : Name) → AllWanted (go x)) → AllWanted (on_object v n o go)
object_one (Obj x) n o go h = h x
object_one v n o go h = tt

array_one : {A : Type 0} (v : Value) (n : ℕ) (o : Own) (go : Name → ℕ → Tree A) → ((x : Name) (len : ℕ) → AllWanted (go x len)) → AllWanted (on_array v n o go)
array_one (Arr x len) n o go h = h x len
array_one v n o go h = tt

thing_one : {A : Type 0} (v : Value) (n : ℕ) (o : Own) (go : Value → Tree A) → ((x : Value) → AllWanted (go x)) → AllWanted (on_thing v n o go)
thing_one (Obj x) n o go h = h (Obj x)
thing_one (Arr x len) n o go h = h (Arr x len)
thing_one v n o go h = tt

truth_one : {A : Type 0} (v : Value) (s t : Tree A) → AllWanted s → AllWanted t → AllWanted (on_truth v s t)
truth_one (Truth true) s t h k = h
truth_one (Truth false) s t h k = k
truth_one v s t h k = tt

caps_one : {A : Type 0} (v : Value) (n : ℕ) (o : Own) (go : Caps → Tree A) → ((k : Caps) → AllWanted (go k)) → AllWanted (on_caps v n o go)
caps_one (CapV p m) n o go h = h (record { plus = p; minus = m })
caps_one v n o go h = tt

region_one : {A : Type 0} (l c : Value) (n : ℕ) (o : Own) (go : Label → Caps → Tree A) → ((l : Label) (k : Caps) → AllWanted (go l k)) → AllWanted (on_region l c n o go)
region_one (Lab l) c n o go h = caps_one c n o (λ k. go l k) (λ k. h l k)
region_one Nothing (CapV p m) n o go h = tt
region_one l c n o go h = tt

number_one : {A : Type 0} (v : Value) (go : ℤ → Tree A) → ((z : ℤ) → AllWanted (go z)) → AllWanted (on_number v go)
number_one (Int z) go h = h z
number_one v go h = tt

within_one : {A : Type 0} (z : ℤ) (len n : ℕ) (o : Own) (go : ℕ → Tree A) → ((i : ℕ) → AllWanted (go i)) → AllWanted (within z len n o go)
within_one (pos i) len n o go h = if_one (nat_lt i len) (go i) (fails Index n o) (h i) tt
within_one (negsuc i) len n o go h = tt

array_made : (k : Kind) (z : ℤ) (n : ℕ) (o : Own) → AllWanted (makes_array k z n o)
array_made k (pos m) n o = if_one (nat_le m length_limit) (ask_value (asked numbers (ask.New (Array k m))) n o) (fails Long n o) (asks_value numbers (ask.New (Array k m)) n o) tt
array_made k (negsuc m) n o = tt

called_one : (t : Option ResolvedType) (n : ℕ) (o : Own) (x : Calls) → AllWanted (called_in t n o x)
called_one t n o (calls.asks a) = ((result_sort t, refl), λ x. value_one (gained a) n o x)
called_one t n o (calls.acts a) = asks_done a Nothing n o
called_one t n o x = tt

signed_one : (xs : List CapSlot) (c : Value) (n : ℕ) (o : Own) → AllWanted (signed xs c n o)
signed_one [] c n o = tt
signed_one (x ∷ xs) c n o = then_on (purely n o (with_sign x.plus c (local o x.slot))) _ (pure_one n o (with_sign x.plus c (local o x.slot))) (λ c n o. signed_one xs c n o)

two_one : (op : BinaryOp) (v : Value) (right : ℕ → Own → Tree Value) (n : ℕ) (o : Own) → ((n : ℕ) (o : Own) → AllWanted (right n o)) → AllWanted (two op v right n o)
two_one And v right n o h = truth_one v (right n o) _ (h n o) tt
two_one Or v right n o h = truth_one v _ (right n o) tt (h n o)
two_one op v right n o h = then_on (right n o) _ (h n o) (λ w n o. pure_one n o (operator op v w))

spend_one : {A : Type 0} (n : ℕ) (go : ℕ → Tree A) → ((n : ℕ) → AllWanted (go n)) → AllWanted (spend n go)
spend_one zero go h = tt
spend_one (suc n) go h = h n

-- ---- expressions
abbrev CallsWanted : Caller → Type 0
CallsWanted call = (f : ℕ) (vs : List Value) (p : At) (n : ℕ) (o : Own) → AllWanted (call f vs p n o)

module _ (r : ResolvedTree) (call : Caller) (called : CallsWanted call) where
  mutual
    eval_one : (e : Expression) (p : At) (n : ℕ) (o : Own) → AllWanted (eval r call e p n o)
    eval_one (unary_of op e) p n o = then_on (eval r call e p n o) _ (eval_one e p n o) (λ v n o. pure_one n o (prefix op v))
    eval_one (binary_of op a b) p n o =
        then_on (eval r call a p n o) _ (eval_one a p n o) (λ v n o. two_one op v (λ n o. eval r call b p n o) n o (λ n o. eval_one b p n o))
    eval_one (field_of e c f t) p n o =
        then_on (eval r call e p n o) _ (eval_one e p n o) (λ v n o. object_one v n o _ (λ x. unless_one (may_read p x) n o _ (asks_value (sort_of t) (ask.Read (Obj x) f) n o)))
    eval_one (element_of e i t) p n o =
        then_on (eval r call e p n o) _ (eval_one e p n o)
        (λ v n o. then_on (eval r call i p n o) _ (eval_one i p n o)
        (λ i n o. array_one v n o _ (λ x len. unless_one (may_read p x) n o _ (number_one i _ (λ z. within_one z len n o _ (λ at. asks_value (sort_of t) (ask.Read (Arr x len) at) n o))))))
    eval_one (call_of f args) p n o = then_on (eval_all r call args p n o) _ (all_one args p n o) (λ vs n o. called f vs p n o)
    eval_one (builtin_of b args t) p n o =
        then_on (eval_all r call args p n o) _ (all_one args p n o) (λ vs n o. called_one t n o (builtin p.label o.caps b vs))
    eval_one (new_object c) p n o = asks_value numbers (ask.New (Class c (class_fields (slice_get r.classes c)))) n o
    eval_one (new_array t e) p n o =
        then_on (eval r call e p n o) _ (eval_one e p n o) (λ v n o. number_one v _ (λ z. array_made (kind_of t) z n o))
    eval_one (label_of s i) p n o =
        then_on (eval_all r call s p n o) _ (all_one s p n o) (λ s n o. then_on (eval_all r call i p n o) _ (all_one i p n o) (λ i n o. pure_one n o (label_from s i)))
    eval_one (caps_of items) p n o = signed_one items (CapV no_caps.plus no_caps.minus) n o
    eval_one (spawn_of c f args) p n o =
        then_on (eval r call c p n o) _ (eval_one c p n o)
        (λ c n o. then_on (eval_all r call args p n o) _ (all_one args p n o) (λ vs n o. caps_one c n o _ (λ k. asks_value numbers (ask.Spawn f vs k) n o)))
    eval_one e p n o = tt

    all_one : (es : Expressions) (p : At) (n : ℕ) (o : Own) → AllWanted (eval_all r call es p n o)
    all_one args_end p n o = tt
    all_one (args_more e rest) p n o =
        then_on (eval r call e p n o) _ (eval_one e p n o) (λ v n o. then_on (eval_all r call rest p n o) _ (all_one rest p n o) (λ vs n o. tt))

  option_one : (e : Option Expression) (p : At) (n : ℕ) (o : Own) → AllWanted (eval_option r call e p n o)
  option_one None p n o = tt
  option_one (Some e) p n o = eval_one e p n o

-- ---- statements
take_one : (v : Value) (n : ℕ) (o : Own) → AllWanted (take v n o)
take_one v n o = thing_one v n o _ (λ x. asks_done (ask.MonEnter x) tt n o)

back_one : (v : Value) (n : ℕ) (o : Own) → AllWanted (give_back v n o)
back_one v n o = thing_one v n o _ (λ x. asks_done (ask.MonLeave x) tt n o)

returns_one : (os : Open) (v : Value) (n : ℕ) (o : Own) → AllWanted (returns os v n o)
returns_one [] v n o = tt
returns_one (slot ∷ rest) v n o = then_on (give_back (local o slot) n o) _ (back_one (local o slot) n o) (λ u n o. returns_one rest v n o)

throws_one : (v : Value) (n : ℕ) (o : Own) → AllWanted (throws v n o)
throws_one (Int z) n o = tt
throws_one v n o = tt

caught_one : (outer : Own) (e : End (Unit {0})) → AllWanted (caught_end outer e)
caught_one outer (goes a n o) = asks_done ask.Leave tt n outer
caught_one outer (raises f n o) = asks_done (ask.Suppressed f) tt n outer
caught_one outer (leaves v n o) = tt

body_one : (outer : Own) (slot : ℕ) (handler : ℕ → Own → Tree (Unit {0})) → ((n : ℕ) (o : Own) → AllWanted (handler n o)) → (e : End (Unit {0})) → AllWanted (body_end outer slot handler e)
body_one outer slot handler h (goes a n o) = asks_done ask.Leave tt n outer
body_one outer slot handler h (raises f n o) =
    then_on (ask_unit (ask.Caught f) n o) _ (asks_done (ask.Caught f) tt n o)
    (λ u n o. ended (handler n (with_local o slot (Int (fault_number f)))) (caught_end outer) (h n (with_local o slot (Int (fault_number f)))) (caught_one outer))
body_one outer slot handler h (leaves v n o) = tt

enter_one : (t : Tree (Unit {0})) (n : ℕ) (o : Own) → AllWanted t → (x : Answer) → AllWanted (enter_reply t n o x)
enter_one t n o h Entered = h
enter_one t n o h x = tt

abbrev DoesWanted : Does → Type 0
DoesWanted does = (p : At) (n : ℕ) (o : Own) → AllWanted (does p n o)

region_does : (l : Label) (k : Caps) (number : ℕ) (args locals : List Value) (slot : ℕ) (body handler : Does) (n : ℕ) (o : Own) → DoesWanted body → DoesWanted handler → AllWanted (region l k number args locals slot body handler n o)
region_does l k number args locals slot body handler n o h g =
    ((numbers, refl), λ x. enter_one _ n o (ended (body (inside l) n (record { locals = locals; caps = k })) (body_end o slot (λ n o. handler (inside l) n o)) (h (inside l) n _) (body_one o slot (λ n o. handler (inside l) n o) (λ n o. g (inside l) n o))) x)

abbrev AgainWanted : (Open → Statement → Does) → Type 0
AgainWanted again = (os : Open) (s : Statement) → DoesWanted (again os s)

module _ (r : ResolvedTree) (call : Caller) (called : CallsWanted call) (again : Open → Statement → Does) (more : AgainWanted again) where
  ev : (e : Expression) (p : At) (n : ℕ) (o : Own) → AllWanted (eval r call e p n o)
  ev e p n o = eval_one r call called e p n o

  mutual
    exec_one : (os : Open) (s : Statement) (p : At) (n : ℕ) (o : Own) → AllWanted (exec r call again os s p n o)
    exec_one os (let_slot x e) p n o = then_on (eval r call e p n o) _ (ev e p n o) (λ v n o. tt)
    exec_one os (set_local x e) p n o = then_on (eval r call e p n o) _ (ev e p n o) (λ v n o. tt)
    exec_one os (set_field e c f t v) p n o =
        then_on (eval r call e p n o) _ (ev e p n o) (λ x n o. then_on (eval r call v p n o) _ (ev v p n o)
        (λ v n o. object_one x n o _ (λ x. unless_one (may_write p x) n o _ (asks_done (ask.Write (Obj x) f v) tt n o))))
    exec_one os (set_element e i t v) p n o =
        then_on (eval r call e p n o) _ (ev e p n o) (λ x n o. then_on (eval r call i p n o) _ (ev i p n o) (λ i n o. then_on (eval r call v p n o) _ (ev v p n o)
        (λ v n o. array_one x n o _ (λ x len. unless_one (may_write p x) n o _ (number_one i _ (λ z. within_one z len n o _ (λ at. asks_done (ask.Write (Arr x len) at v) tt n o)))))))
    exec_one os (do_value e) p n o = then_on (eval r call e p n o) _ (ev e p n o) (λ v n o. tt)
    exec_one os (if_block e body other) p n o =
        then_on (eval r call e p n o) _ (ev e p n o) (λ v n o. truth_one v _ _ (block_one os body p n o) (other_one os other p n o))
    exec_one os (while_block e body) p n o =
        then_on (eval r call e p n o) _ (ev e p n o)
        (λ v n o. truth_one v _ _ (spend_one n _ (λ n. then_on (exec_block r call again os body p n o) _ (block_one os body p n o) (λ u n o. more os (while_block e body) p n o))) tt)
    exec_one os (return_value e) p n o = then_on (eval_option r call e p n o) _ (option_one r call called e p n o) (λ v n o. returns_one os v n o)
    exec_one os (throw_value e) p n o = then_on (eval r call e p n o) _ (ev e p n o) (λ v n o. throws_one v n o)
    exec_one os (sync_block slot e body) p n o =
        then_on (eval r call e p n o) _ (ev e p n o) (λ v n o. then_on (take v n (with_local o slot v)) _ (take_one v n (with_local o slot v))
        (λ u n o. then_on (exec_block r call again (slot ∷ os) body p n o) _ (block_one (slot ∷ os) body p n o) (λ u n o. back_one (local o slot) n o)))
    exec_one os (region_block number l c from slots body slot handler) p n o =
        then_on (eval r call l p n o) _ (ev l p n o) (λ l n o. then_on (eval r call c p n o) _ (ev c p n o) (λ c n o. region_one l c n o _
        (λ l k. region_does l k number (map (λ x. local o x) from) (captured o from (length slots)) slot (λ p n o. exec_block r call again [] body p n o) (λ p n o. exec_block r call again [] handler p n o) n o (λ p n o. block_one [] body p n o) (λ p n o. block_one [] handler p n o))))

    block_one : (os : Open) (b : Block) (p : At) (n : ℕ) (o : Own) → AllWanted (exec_block r call again os b p n o)
    block_one os block_end p n o = tt
    block_one os (block_more s rest) p n o = then_on (exec r call again os s p n o) _ (exec_one os s p n o) (λ u n o. block_one os rest p n o)

    other_one : (os : Open) (b : OtherBlock) (p : At) (n : ℕ) (o : Own) → AllWanted (exec_other r call again os b p n o)
    other_one os no_other p n o = tt
    other_one os (other_block body) p n o = block_one os body p n o

-- ---- calls and threads
call_one : (ls : List Value) (e : End (Unit {0})) → AllWanted (call_end ls e)
call_one ls (goes a n o) = tt
call_one ls e = tt

unit_one : (run : Block → Does) → ((b : Block) → DoesWanted (run b)) → (f : Option ResolvedFunction) (vs : List Value) (p : At) (n : ℕ) (o : Own) → AllWanted (body_of run f vs p n o)
unit_one run h None vs p n o = tt
unit_one run h (Some f) vs p n o = h f.body p n _

module _ (r : ResolvedTree) where
  calls_one : (run : Block → Does) → ((b : Block) → DoesWanted (run b)) → CallsWanted (calls_to r run)
  calls_one run h f vs p n o =
      if_one (nat_lt p.calls calls_limit) _ _
      (spend_one n _ (λ n. ended (body_of run (slice_get r.functions f) vs (deeper p) n o) (call_end o.locals) (unit_one run h (slice_get r.functions f) vs (deeper p) n o) (call_one o.locals))) tt

  record Runs (b : ℕ) : Type 0 where
    statements : AgainWanted (runs r b)
    blocks : (body : Block) → DoesWanted (block_runs r b body)

  runs_one : (b : ℕ) → Runs b
  runs_one zero = record { statements = λ os s p n o. tt; blocks = λ body p n o. tt }
  runs_one (suc b) =
      let h = runs_one b in
      let call : Caller = calls_to r (λ body. block_runs r b body) in
      let called : CallsWanted call = calls_one (block_runs r b) h.blocks in
      record {
        statements = λ os s p n o. exec_one r call called (runs r b) h.statements os s p n o;
        blocks = λ body p n o. block_one r call called (runs r b) h.statements [] body p n o;
      }

  last_one : (e : End (Unit {0})) → AllWanted (last_ask e)
  last_one (goes a n o) = asks_done (ask.End (outcome.Value Nothing)) tt n o
  last_one (raises f n o) = asks_done (ask.End (outcome.Failed f)) tt n o
  last_one (leaves v n o) = asks_done (ask.End (outcome.Value v)) tt n o

  means_wanted : (n f : ℕ) (vs : List Value) (k : Caps) → AllWanted (means r n f vs k)
  unfolding means
  means_wanted n f vs k =
      ended _ last_ask (unit_one (λ body. block_runs r (suc n) body) (runs_one (suc n)).blocks (slice_get r.functions f) vs _ n _) last_one

-- each ask that is made
asks_wanted : {A : Type 0} (t : Tree A) (xs : List Answer) (i : ℕ) (q : Asked) → AllWanted t → slice_get (asks_of t xs) i ≡ Some q → IsWanted q
asks_wanted (asks p go) [] zero q h e = subst IsWanted (some_inj e) h.0
asks_wanted (asks p go) [] (suc i) q h e = none_some e
asks_wanted (asks p go) (x ∷ xs) i q h e = by (fits p.want x) i e (λ j. asks_wanted (go x) xs j q (h.1 x))
  where
    by : (b : Bool) (i : ℕ) → slice_get (if b then p ∷ asks_of (go x) xs else p ∷ []) i ≡ Some q → ((j : ℕ) → slice_get (asks_of (go x) xs) j ≡ Some q → IsWanted q) → IsWanted q
    by true zero f later = subst IsWanted (some_inj f) h.0
    by true (suc i) f later = later i f
    by false zero f later = subst IsWanted (some_inj f) h.0
    by false (suc i) f later = none_some f
asks_wanted t xs i q h e = none_some e

pub made_wanted : (r : ResolvedTree) (n f : ℕ) (vs : List Value) (k : Caps) (xs : List Answer) (i : ℕ) (q : Asked) → slice_get (asks_of (means r n f vs k) xs) i ≡ Some q → IsWanted q
made_wanted r n f vs k xs i q e = asks_wanted (means r n f vs k) xs i q (means_wanted r n f vs k) e
