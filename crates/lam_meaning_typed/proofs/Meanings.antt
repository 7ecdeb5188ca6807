-- With fewer units, the tree of a program is a cut of the one with more.
use Rattle.std.proofs.Common.{ℕ, zero, suc, ℤ, pos, negsuc, ◌≤◌, true, false, List, [], ◌∷◌, Option, Some, None, refl, arith, map, length}
use Rattle.std.specs.Prelude.{nat_lt, nat_le, slice_get}
use Rattle.flow_labels.specs.declared.Label.{Label}
use Rattle.flow_labels.specs.Flow.{public_label}
use Rattle.capabilities.specs.declared.Caps.{Caps}
use Rattle.lam_value.specs.declared.values.Value.{Value}
use Rattle.lam_value.specs.declared.values.Value.TheVariants.{Int, Bool as Truth, Nothing, Obj, Arr, CapV}
use Rattle.lam_value.specs.declared.shapes.Kind.{Kind}
use Rattle.lam_value.specs.declared.shapes.Shape.TheVariants.{Array}
use Rattle.lam_operators.specs.declared.BinaryOp.{BinaryOp}
use Rattle.lam_operators.specs.declared.BinaryOp.TheVariants.{Or, And}
use Rattle.lam_asks.specs.declared.fault.Fault.TheVariants.{Long, Deep}
use Rattle.lam_asks.specs.Faults.{fault_number}
use Rattle.lam_asks.specs.declared.answer.Outcome.TheVariants as outcome
use Rattle.lam_asks.specs.declared.answer.Answer.{Answer}
use Rattle.lam_asks.specs.declared.answer.Answer.TheVariants.{Done, Entered, Val, Refused, Failed}
use Rattle.lam_asks.specs.declared.ask.Ask.TheVariants as ask
use Rattle.lam_asks.specs.Suits.{numbers}
use Rattle.lam_meaning.specs.Operators.{operator, prefix, label_from, with_sign}
use Rattle.lam_meaning.specs.Builtins as calls
use Rattle.lam_meaning.specs.Builtins.{Calls, builtin}
use Rattle.lam_resolve_tree.specs.Tree.{ResolvedType, CapSlot, Expression, unary_of, binary_of, field_of, element_of, call_of, builtin_of, new_object, new_array, label_of, caps_of, spawn_of, Expressions, args_end, args_more, Statement, let_slot, if_block, while_block, return_value, throw_value, sync_block, region_block, do_value, set_local, set_field, set_element, Block, block_end, block_more, OtherBlock, no_other, other_block, ResolvedFunction, ResolvedTree}
use Rattle.lam_meaning.specs.Trees.{Own, with_locals, with_local, local, asked, End, goes, raises, leaves, Tree, fails, gives, gained}
use Rattle.lam_meaning.specs.Means.{At, may_read, may_write, Caller, makes_array, called_in, result_sort, signed, two, eval, eval_all, Open, Does, take, give_back, returns, captured, caught_end, body_end, enter_reply, inside, region, throws, eval_option, exec, exec_block, exec_other, calls_limit, call_end, first_locals, body_of, deeper, calls_to, runs, block_runs, last_ask, means}
use Rattle.lam_meaning_typed.proofs.Cut.{left_of, with_left, Cut, end_cut, then_cut, CutDoes, if_cut, pure_cut, gains_cut, value_cut, done_cut, unless_cut, object_cut, array_cut, thing_cut, caps_cut, region_cut, within_cut, truth_cut, number_cut, spend_cut}

-- ---- expressions

called_cut : (t : Option ResolvedType) (c : Calls) → CutDoes (λ n o. called_in t n o c) (λ n o. called_in t n o c)
called_cut t (calls.now v) n m o le = (m, le, refl)
called_cut t (calls.faults f) n m o le = (m, le, refl)
called_cut t (calls.asks a) n m o le = gains_cut n m o le (asked (result_sort t) a) (λ v o. gained a v o)
called_cut t (calls.acts a) n m o le = done_cut n m o le a Nothing
called_cut t calls.wrong n m o le = refl

made_cut : (k : Kind) (z : ℤ) → CutDoes (makes_array k z) (makes_array k z)
made_cut k (pos i) n m o le = if_cut (nat_le i 65536) _ (fails Long n o) _ (fails Long m o) (value_cut n m o le (asked numbers (ask.New (Array k i)))) (m, le, refl)
made_cut k (negsuc i) n m o le = (m, le, refl)

signed_cut : (xs : List CapSlot) (c : Value) → CutDoes (signed xs c) (signed xs c)
signed_cut [] c n m o le = (m, le, refl)
signed_cut (x ∷ xs) c n m o le = then_cut _ _ _ _ (pure_cut n m o le (with_sign x.plus c (local o x.slot))) (λ c n m o le. signed_cut xs c n m o le)

two_cut : (op : BinaryOp) (v : Value) (right right' : ℕ → Own → Tree Value) → CutDoes right right' → CutDoes (two op v right) (two op v right')
two_cut And v right right' h n m o le = truth_cut v (right n o) (gives (Truth false) n o) (right' m o) (gives (Truth false) m o) (h n m o le) (m, le, refl)
two_cut Or v right right' h n m o le = truth_cut v (gives (Truth true) n o) (right n o) (gives (Truth true) m o) (right' m o) (m, le, refl) (h n m o le)
two_cut op v right right' h n m o le = then_cut _ _ _ _ (h n m o le) (λ w n m o le. pure_cut n m o le (operator op v w))

module _ (r : ResolvedTree) where
  abbrev pub CutCalls : Caller → Caller → Type 0
  CutCalls call call' = (f : ℕ) (vs : List Value) (p : At) → CutDoes (call f vs p) (call' f vs p)

  module _ (call call' : Caller) (well : CutCalls call call') where
    mutual
      pub eval_cut : (e : Expression) (p : At) → CutDoes (eval r call e p) (eval r call' e p)
      eval_cut (unary_of op e) p n m o le = then_cut _ _ _ _ (eval_cut e p n m o le) (λ v n m o le. pure_cut n m o le (prefix op v))
      eval_cut (binary_of op a b) p n m o le = then_cut _ _ _ _ (eval_cut a p n m o le) (λ v n m o le. two_cut op v (λ n o. eval r call b p n o) (λ n o. eval r call' b p n o) (eval_cut b p) n m o le)
      eval_cut (field_of e c f t) p n m o le =
          then_cut _ _ _ _ (eval_cut e p n m o le) (λ v n m o le. object_cut n m o le v _ _ (λ x. unless_cut n m o le (may_read p x) _ _ (value_cut n m o le _)))
      eval_cut (element_of e i t) p n m o le =
          then_cut _ _ _ _ (eval_cut e p n m o le) (λ v n m o le. then_cut _ _ _ _ (eval_cut i p n m o le) (λ i n m o le. array_cut n m o le v _ _ (λ x len. unless_cut n m o le (may_read p x) _ _ (number_cut i _ _ (λ z.
          within_cut n m o le z len _ _ (λ at. value_cut n m o le _))))))
      eval_cut (call_of f args) p n m o le = then_cut _ _ _ _ (args_cut args p n m o le) (λ vs n m o le. well f vs p n m o le)
      eval_cut (builtin_of b args t) p n m o le = then_cut _ _ _ _ (args_cut args p n m o le) (λ vs n m o le. called_cut t (builtin p.label o.caps b vs) n m o le)
      eval_cut (new_object c) p n m o le = value_cut n m o le _
      eval_cut (new_array t e) p n m o le = then_cut _ _ _ _ (eval_cut e p n m o le) (λ v n m o le. number_cut v _ _ (λ z. made_cut _ z n m o le))
      eval_cut (label_of s i) p n m o le = then_cut _ _ _ _ (args_cut s p n m o le) (λ s n m o le. then_cut _ _ _ _ (args_cut i p n m o le) (λ i n m o le. pure_cut n m o le (label_from s i)))
      eval_cut (caps_of items) p n m o le = signed_cut items (CapV _ _) n m o le
      eval_cut (spawn_of c f args) p n m o le =
          then_cut _ _ _ _ (eval_cut c p n m o le) (λ c n m o le. then_cut _ _ _ _ (args_cut args p n m o le) (λ vs n m o le. caps_cut n m o le c _ _ (λ k. value_cut n m o le _)))
      eval_cut e p n m o le = (m, le, refl)

      args_cut : (args : Expressions) (p : At) → CutDoes (eval_all r call args p) (eval_all r call' args p)
      args_cut args_end p n m o le = (m, le, refl)
      args_cut (args_more e rest) p n m o le = then_cut _ _ _ _ (eval_cut e p n m o le) (λ v n m o le. then_cut _ _ _ _ (args_cut rest p n m o le) (λ vs n m o le. (m, le, refl)))

    option_cut : (e : Option Expression) (p : At) → CutDoes (eval_option r call e p) (eval_option r call' e p)
    option_cut None p n m o le = (m, le, refl)
    option_cut (Some e) p n m o le = eval_cut e p n m o le

-- ---- statements

take_cut : (v : Value) → CutDoes (take v) (take v)
take_cut v n m o le = thing_cut n m o le v _ _ (λ x. done_cut n m o le (ask.MonEnter x) tt)

give_cut : (v : Value) → CutDoes (give_back v) (give_back v)
give_cut v n m o le = thing_cut n m o le v _ _ (λ x. done_cut n m o le (ask.MonLeave x) tt)

returns_cut : (os : Open) (v : Value) → CutDoes (returns os v) (returns os v)
returns_cut [] v n m o le = (m, le, refl)
returns_cut (x ∷ os) v n m o le = then_cut _ _ _ _ (give_cut (local o x) n m o le) (λ u n m o le. returns_cut os v n m o le)

throws_cut : (v : Value) → CutDoes (throws v) (throws v)
throws_cut (Int z) n m o le = (m, le, refl)
throws_cut v n m o le = refl

caught_cut : (outer : Own) (e : End (Unit {0})) (m : ℕ) → left_of e ≤ m → Cut (caught_end outer e) (caught_end outer (with_left e m))
caught_cut outer (goes a n o) m le = done_cut n m outer le ask.Leave tt
caught_cut outer (raises f n o) m le = done_cut n m outer le (ask.Suppressed f) tt
caught_cut outer (leaves v n o) m le = refl

body_cut : (outer : Own) (slot : ℕ) (handler handler' : ℕ → Own → Tree (Unit {0})) → CutDoes handler handler' → (e : End (Unit {0})) (m : ℕ) → left_of e ≤ m → Cut (body_end outer slot handler e) (body_end outer slot handler' (with_left e m))
body_cut outer slot handler handler' h (goes a n o) m le = done_cut n m outer le ask.Leave tt
body_cut outer slot handler handler' h (raises f n o) m le =
    then_cut _ _ _ _ (done_cut n m o le (ask.Caught f) tt) (λ u n m o le. end_cut _ _ _ _ (h n m (with_local o slot (Int (fault_number f))) le) (caught_cut outer))
body_cut outer slot handler handler' h (leaves v n o) m le = refl

enter_cut : (t t' : Tree (Unit {0})) (n m : ℕ) (o : Own) → n ≤ m → Cut t t' → (x : Answer) → Cut (enter_reply t n o x) (enter_reply t' m o x)
enter_cut t t' n m o le h Entered = h
enter_cut t t' n m o le h (Refused d) = (m, le, refl)
enter_cut t t' n m o le h (Failed f) = (m, le, refl)
enter_cut t t' n m o le h Done = refl
enter_cut t t' n m o le h (Val v) = refl

inside_cut : (l : Label) (k : Caps) (number : ℕ) (args locals : List Value) (slot : ℕ) (body body' handler handler' : Does) → ((p : At) → CutDoes (body p) (body' p)) → ((p : At) → CutDoes (handler p) (handler' p)) → CutDoes (region l k number args locals slot body handler) (region l k number args locals slot body' handler')
inside_cut l k number args locals slot body body' handler handler' h g n m o le = (
  _,
  refl,
  λ x. enter_cut _ _ n m o le
      (end_cut (body (inside l) n (record { locals = locals; caps = k })) (body' (inside l) m (record { locals = locals; caps = k })) _ _ (h (inside l) n m (record { locals = locals; caps = k }) le)
      (body_cut o slot (λ n o. handler (inside l) n o) (λ n o. handler' (inside l) n o) (g (inside l)))) x,
)

abbrev pub CutRuns : (Open → Statement → Does) → (Open → Statement → Does) → Type 0
CutRuns again again' = (os : Open) (s : Statement) (p : At) → CutDoes (again os s p) (again' os s p)

module _ (r : ResolvedTree) (call call' : Caller) (well : CutCalls r call call') (again again' : Open → Statement → Does) (agains : CutRuns again again') where
  mutual
    pub exec_cut : (os : Open) (s : Statement) (p : At) → CutDoes (exec r call again os s p) (exec r call' again' os s p)
    exec_cut os (let_slot x e) p n m o le = then_cut _ _ _ _ (eval_cut r call call' well e p n m o le) (λ v n m o le. (m, le, refl))
    exec_cut os (set_local x e) p n m o le = then_cut _ _ _ _ (eval_cut r call call' well e p n m o le) (λ v n m o le. (m, le, refl))
    exec_cut os (do_value e) p n m o le = then_cut _ _ _ _ (eval_cut r call call' well e p n m o le) (λ v n m o le. (m, le, refl))
    exec_cut os (set_field e c f t v) p n m o le =
        then_cut _ _ _ _ (eval_cut r call call' well e p n m o le) (λ x n m o le. then_cut _ _ _ _ (eval_cut r call call' well v p n m o le) (λ v n m o le.
        object_cut n m o le x _ _ (λ x. unless_cut n m o le (may_write p x) _ _ (done_cut n m o le (ask.Write (Obj x) f v) tt))))
    exec_cut os (set_element e i t v) p n m o le =
        then_cut _ _ _ _ (eval_cut r call call' well e p n m o le) (λ x n m o le. then_cut _ _ _ _ (eval_cut r call call' well i p n m o le) (λ i n m o le. then_cut _ _ _ _ (eval_cut r call call' well v p n m o le) (λ v n m o le.
        array_cut n m o le x _ _ (λ x len. unless_cut n m o le (may_write p x) _ _ (number_cut i _ _ (λ z. within_cut n m o le z len _ _ (λ at. done_cut n m o le (ask.Write (Arr x len) at v) tt)))))))
    exec_cut os (if_block e body other) p n m o le =
        then_cut _ _ _ _ (eval_cut r call call' well e p n m o le) (λ v n m o le. truth_cut v _ _ _ _ (block_cut os body p n m o le) (other_cut os other p n m o le))
    exec_cut os (while_block e body) p n m o le =
        then_cut _ _ _ _ (eval_cut r call call' well e p n m o le) (λ v n m o le.
        truth_cut v _ _ _ _ (spend_cut n m _ _ le (λ i j ij. then_cut _ _ _ _ (block_cut os body p i j o ij) (λ u n m o le. agains os (while_block e body) p n m o le))) (m, le, refl))
    exec_cut os (return_value e) p n m o le = then_cut _ _ _ _ (option_cut r call call' well e p n m o le) (λ v n m o le. returns_cut os v n m o le)
    exec_cut os (throw_value e) p n m o le = then_cut _ _ _ _ (eval_cut r call call' well e p n m o le) (λ v n m o le. throws_cut v n m o le)
    exec_cut os (sync_block slot e body) p n m o le =
        then_cut _ _ _ _ (eval_cut r call call' well e p n m o le) (λ v n m o le. then_cut _ _ _ _ (take_cut v n m (with_local o slot v) le) (λ u n m o le.
        then_cut _ _ _ _ (block_cut (slot ∷ os) body p n m o le) (λ u n m o le. give_cut (local o slot) n m o le)))
    exec_cut os (region_block number l c from slots body slot handler) p n m o le =
        then_cut _ _ _ _ (eval_cut r call call' well l p n m o le) (λ l n m o le. then_cut _ _ _ _ (eval_cut r call call' well c p n m o le) (λ c n m o le.
        region_cut n m o le l c _ _ (λ l k.
        inside_cut l k number (map (λ x. local o x) from) (captured o from (length slots)) slot (λ p n o. exec_block r call again [] body p n o) (λ p n o. exec_block r call' again' [] body p n o) (λ p n o. exec_block r call again [] handler p n o) (λ p n o. exec_block r call' again' [] handler p n o) (block_cut [] body) (block_cut [] handler) n m o le)))

    pub block_cut : (os : Open) (b : Block) (p : At) → CutDoes (exec_block r call again os b p) (exec_block r call' again' os b p)
    block_cut os block_end p n m o le = (m, le, refl)
    block_cut os (block_more s rest) p n m o le = then_cut _ _ _ _ (exec_cut os s p n m o le) (λ u n m o le. block_cut os rest p n m o le)

    other_cut : (os : Open) (b : OtherBlock) (p : At) → CutDoes (exec_other r call again os b p) (exec_other r call' again' os b p)
    other_cut os no_other p n m o le = (m, le, refl)
    other_cut os (other_block body) p n m o le = block_cut os body p n m o le

-- ---- calls and threads

result_cut : (ls : List Value) (e : End (Unit {0})) (m : ℕ) → left_of e ≤ m → Cut (call_end ls e) (call_end ls (with_left e m))
result_cut ls (goes a n o) m le = (m, le, refl)
result_cut ls e m le = (m, le, refl)

last_cut : (e : End (Unit {0})) (m : ℕ) → left_of e ≤ m → Cut (last_ask e) (last_ask (with_left e m))
last_cut (goes a n o) m le = done_cut n m o le (ask.End (outcome.Value Nothing)) tt
last_cut (raises f n o) m le = done_cut n m o le (ask.End (outcome.Failed f)) tt
last_cut (leaves v n o) m le = done_cut n m o le (ask.End (outcome.Value v)) tt

abbrev CutBlocks : (Block → Does) → (Block → Does) → Type 0
CutBlocks run run' = (b : Block) (p : At) → CutDoes (run b p) (run' b p)

unit_cut : (run run' : Block → Does) → CutBlocks run run' → (f : Option ResolvedFunction) (vs : List Value) (p : At) → CutDoes (body_of run f vs p) (body_of run' f vs p)
unit_cut run run' h None vs p n m o le = refl
unit_cut run run' h (Some f) vs p n m o le = h f.body p n m (with_locals o (first_locals f vs)) le

calls_cut : (r : ResolvedTree) (run run' : Block → Does) → CutBlocks run run' → CutCalls r (calls_to r run) (calls_to r run')
calls_cut r run run' h f vs p n m o le =
    if_cut (nat_lt p.calls calls_limit) _ (fails Deep n o) _ (fails Deep m o) (spend_cut n m _ _ le (λ i j ij. end_cut _ _ _ _ (unit_cut run run' h (slice_get r.functions f) vs (deeper p) i j o ij) (result_cut o.locals))) (m, le, refl)

-- loops and calls that go deeper
record Runs (r : ResolvedTree) (b c : ℕ) : Type 0 where
  statements : CutRuns (runs r b) (runs r c)
  blocks : CutBlocks (λ body. block_runs r b body) (λ body. block_runs r c body)

runs_cut : (r : ResolvedTree) (b c : ℕ) → b ≤ c → Runs r b c
runs_cut r zero c le = record { statements = λ os s p n m o le. tt; blocks = λ b p n m o le. tt }
runs_cut r (suc b) zero le = absurd (omega (arith, le))
runs_cut r (suc b) (suc c) le =
    let h = runs_cut r b c (omega (arith, le)) in
    let call : Caller = calls_to r (λ body. block_runs r b body) in
    let call' : Caller = calls_to r (λ body. block_runs r c body) in
    let well : CutCalls r call call' = calls_cut r (λ body. block_runs r b body) (λ body. block_runs r c body) h.blocks in
    record {
      statements = λ os s p n m o le. exec_cut r call call' well (runs r b) (runs r c) h.statements os s p n m o le;
      blocks = λ body p n m o le. block_cut r call call' well (runs r b) (runs r c) h.statements [] body p n m o le;
    }

pub means_cut : (r : ResolvedTree) (n m f : ℕ) (vs : List Value) (k : Caps) → n ≤ m → Cut (means r n f vs k) (means r m f vs k)
unfolding means
means_cut r n m f vs k le =
    end_cut _ _ _ _
    (unit_cut (λ body. block_runs r (suc n) body) (λ body. block_runs r (suc m) body) (runs_cut r (suc n) (suc m) (omega (arith, le))).blocks (slice_get r.functions f) vs (record { label = public_label; calls = 1 }) n m (record { locals = []; caps = k }) le)
    last_cut
