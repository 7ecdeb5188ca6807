-- What the state of a walk means: the tree of asks that is left.
use Rattle.std.specs.Prelude.{ℕ, Vec, Bool, true, false, List, [], ◌∷◌, ◌++◌, map, Option, Some, None, slice_get}
use Rattle.flow_labels.specs.declared.Label.{Label}
use Rattle.capabilities.specs.declared.Caps.{Caps}
use Rattle.lam_value.specs.declared.values.Value.{Value}
use Rattle.lam_value.specs.declared.values.Value.TheVariants.{Int, Nothing, Obj, Arr}
use Rattle.lam_value.specs.declared.shapes.Shape.TheVariants.{Class}
use Rattle.lam_operators.specs.declared.BinaryOp.{BinaryOp}
use Rattle.lam_operators.specs.declared.BinaryOp.TheVariants as binary
use Rattle.lam_asks.specs.declared.fault.Fault.{Fault}
use Rattle.lam_asks.specs.declared.fault.Fault.TheVariants.{Denied}
use Rattle.lam_asks.specs.Faults.{fault_number}
use Rattle.lam_asks.specs.declared.answer.Answer.{Answer}
use Rattle.lam_asks.specs.declared.ask.Ask.{Ask}
use Rattle.lam_asks.specs.declared.ask.Ask.TheVariants as ask
use Rattle.lam_asks.specs.Suits as sorts
use Rattle.lam_asks.specs.Suits.{Sort, numbers}
use Rattle.thread_steps.specs.Operators.{operator, prefix, label_from}
use Rattle.thread_steps.specs.Builtins as calls
use Rattle.thread_steps.specs.Builtins.{Calls, builtin}
use Rattle.std.specs.declared.alloc.Global.{Global}
use Rattle.lam_resolve_tree.specs.declared.Stmt.{Stmt}
use Rattle.lam_resolve_tree.specs.Tree.{Expression, Expressions, Statement, Block, block_end, OtherBlock, while_block, expr_tree, exprs_tree, stmt_tree, stmts_tree, ResolvedTree}
use Rattle.lam_meaning.specs.Trees.{Own, with_locals, with_local, local, asked, End, goes, raises, leaves, Tree, spent, broken, asks, on_end, next, and_then, gives, fails, done, spend, purely, value_reply, ask_value, done_reply, ask_done, ask_unit, unless_denied, on_object, on_array, on_truth, on_caps, on_region, gained}
use Rattle.lam_meaning.specs.Means.{At, may_read, may_write, Caller, within, on_number, makes_array, class_fields, two, eval, eval_all, Open, Does, take, give_back, returns, captured, caught_end, body_end, inside, region, throws, exec, exec_block, exec_other, calls_to, runs, block_runs, last_ask}
use Rattle.source_walk_state.specs.declared.Sort.{Sort as Written}
use Rattle.source_walk_state.specs.declared.Sort.TheVariants as written
use Rattle.source_walk_state.specs.declared.Using.{Using}
use Rattle.source_walk_state.specs.declared.Using.TheVariants as using
use Rattle.source_walk_state.specs.declared.Region.{Region}
use Rattle.source_walk_state.specs.declared.Outside.{Outside}
use Rattle.source_walk_state.specs.declared.BeforeExpr.TheVariants as expr
use Rattle.source_walk_state.specs.declared.BeforeExpr.{BeforeExpr}
use Rattle.source_walk_state.specs.declared.BeforeBlock.TheVariants as statements
use Rattle.source_walk_state.specs.declared.BeforeBlock.{BeforeBlock}
use Rattle.source_walk_state.specs.declared.BeforeRegion.TheVariants as part
use Rattle.source_walk_state.specs.declared.Frame.{Frame}
use Rattle.source_walk_state.specs.declared.Frame.TheVariants as frame
use Rattle.source_walk_state.specs.declared.Reply.{Reply}
use Rattle.source_walk_state.specs.declared.Reply.TheVariants as reply
use Rattle.source_walk_state.specs.declared.Control.{Control}
use Rattle.source_walk_state.specs.declared.Control.TheVariants as control

-- ---- sorts

abbrev pub sort_seen : Written → Sort
sort_seen written.Number = sorts.numbers
sort_seen written.Truth = sorts.truths
sort_seen written.Bytes = sorts.byte_texts
sort_seen written.Tag = sorts.tags
sort_seen written.Label = sorts.labels
sort_seen written.Caps = sorts.capabilities
sort_seen written.File = sorts.files
sort_seen written.Dir = sorts.directories
sort_seen written.Pipe = sorts.pipes
sort_seen written.Thread = sorts.threads
sort_seen written.Object = sorts.objects
sort_seen written.Array = sorts.arrays

-- ---- pieces of a program, whose loops and calls go so deep

abbrev pub caller : ResolvedTree → ℕ → Caller
caller r d = calls_to r (λ body. block_runs r d body)

abbrev pub value_of : ResolvedTree → ℕ → Expression → At → ℕ → Own → Tree Value
value_of r d e = eval r (caller r d) e

abbrev pub values_of : ResolvedTree → ℕ → Expressions → At → ℕ → Own → Tree (List Value)
values_of r d es = eval_all r (caller r d) es

abbrev pub statement : ResolvedTree → ℕ → Open → Statement → Does
statement r d os s = exec r (caller r d) (runs r d) os s

abbrev pub block : ResolvedTree → ℕ → Open → Block → Does
block r d os b = exec_block r (caller r d) (runs r d) os b

abbrev pub other : ResolvedTree → ℕ → Open → OtherBlock → Does
other r d os b = exec_other r (caller r d) (runs r d) os b

-- where a statement ends it goes on with null
abbrev pub nulls : Unit {0} → ℕ → Own → Tree Value
nulls _ n o = gives Nothing n o

abbrev pub valued : Tree (Unit {0}) → Tree Value
valued t = and_then t nulls

-- ---- accesses

abbrev pub reads_field : At → Sort → ℕ → Value → ℕ → Own → Tree Value
reads_field p s at v n o = on_object v n o (λ x. unless_denied (may_read p x) n o (ask_value (asked s (ask.Read (Obj x) at)) n o))

abbrev pub reads_element : At → Sort → Value → Value → ℕ → Own → Tree Value
reads_element p s v i n o =
    on_array v n o (λ x len. unless_denied (may_read p x) n o (on_number i (λ z. within z len n o (λ at. ask_value (asked s (ask.Read (Arr x len) at)) n o))))

abbrev pub writes_field : At → ℕ → Value → Value → ℕ → Own → Tree (Unit {0})
writes_field p at x v n o = on_object x n o (λ x. unless_denied (may_write p x) n o (ask_unit (ask.Write (Obj x) at v) n o))

abbrev pub writes_element : At → Value → Value → Value → ℕ → Own → Tree (Unit {0})
writes_element p x i v n o =
    on_array x n o (λ x len. unless_denied (may_write p x) n o (on_number i (λ z. within z len n o (λ at. ask_unit (ask.Write (Arr x len) at v) n o))))

abbrev pub spawns : ℕ → Value → List Value → ℕ → Own → Tree Value
spawns f c vs n o = on_caps c n o (λ k. ask_value (asked numbers (ask.Spawn f vs k)) n o)

-- ---- regions

abbrev pub region_body : ResolvedTree → ℕ → Region → Does
region_body r d x p n o = block r d [] (stmts_tree x.body.now) p n o

abbrev pub region_handler : ResolvedTree → ℕ → Region → Does
region_handler r d x p n o = block r d [] (stmts_tree x.catch_body.now) p n o

abbrev pub region_args : Own → Region → List Value
region_args o x = map (λ slot. local o slot) x.captures.now

abbrev pub region_locals : Own → Region → List Value
region_locals o x = captured o x.captures.now x.slots

-- at a label with capabilities, with so many slots
abbrev pub enters_at : ResolvedTree → ℕ → Label → Caps → Region → ℕ → ℕ → Own → Tree (Unit {0})
enters_at r d l k x slots n o = region l k x.number (region_args o x) (captured o x.captures.now slots) x.catch_slot (region_body r d x) (region_handler r d x) n o

abbrev pub enters_by : ResolvedTree → ℕ → Value → Region → ℕ → Value → ℕ → Own → Tree (Unit {0})
enters_by r d label x slots c n o = on_region label c n o (λ l k. enters_at r d l k x slots n o)

abbrev pub enters : ResolvedTree → ℕ → Value → Region → Value → ℕ → Own → Tree (Unit {0})
enters r d label x c n o = enters_by r d label x x.slots c n o

-- the context of a region that is entered with these locals, down to its end
abbrev pub entered : ResolvedTree → ℕ → Label → Caps → Region → List Value → ℕ → Own → Tree (Unit {0})
entered r d l k x ls n o =
    on_end (region_body r d x (inside l) n (record { locals = ls; caps = k })) (body_end o x.catch_slot (λ n o. region_handler r d x (inside l) n o))

-- ---- arguments

-- a built-in call whose result is of a sort
abbrev pub called_as : Sort → ℕ → Own → Calls → Tree Value
called_as s n o (calls.now v) = gives v n o
called_as s n o (calls.faults f) = fails f n o
called_as s n o (calls.asks a) = asks (asked s a) (λ x. value_reply (gained a) n o x)
called_as s n o (calls.acts a) = ask_done a Nothing n o
called_as s n o calls.wrong = broken

abbrev pub used : ResolvedTree → ℕ → Using → At → List Value → ℕ → Own → Tree Value
used r d (using.Call f) p vs n o = caller r d f vs p n o
used r d (using.Builtin b s) p vs n o = called_as (sort_seen s) n o (builtin p.label o.caps b vs)
used r d (using.Secrets vouchers) p vs n o = and_then (values_of r d (exprs_tree vouchers.now) p n o) (λ ws n o. purely n o (label_from vs ws))
used r d (using.Vouchers secrets) p vs n o = purely n o (label_from secrets vs)
used r d (using.Spawn f c) p vs n o = spawns f c vs n o

-- more arguments, behind those that are done
abbrev pub gathered : ResolvedTree → ℕ → Expressions → List Value → Using → At → ℕ → Own → Tree Value
gathered r d es vs u p n o = and_then (values_of r d es p n o) (λ ws n o. used r d u p (vs ++ ws) n o)

-- ---- frames

-- the slots of the open `sync`s, up to the next delimiter
abbrev pub open_of : List Frame → Open
open_of [] = []
open_of (frame.Held slot ∷ fs) = slot ∷ open_of fs
open_of (frame.Called calls locals ∷ fs) = []
open_of (frame.Region d x (part.Body outside) ∷ fs) = []
open_of (frame.Region d x (part.Caught f outside) ∷ fs) = []
open_of (frame.Catch outside ∷ fs) = []
open_of (f ∷ fs) = open_of fs

abbrev pub loop_rest : ResolvedTree → ℕ → Open → Expression → Block → Does
loop_rest r d os test body p n o = runs r d os (while_block test body) p n o

-- a turn of a loop, by its test
abbrev pub turn : ResolvedTree → ℕ → Open → Expression → Block → Value → Does
turn r d os test body v p n o =
    on_truth v (spend n (λ n. and_then (block r d os body p n o) (λ _ n o. loop_rest r d os test body p n o))) (done n o)

-- the body of a `sync`, and its end
abbrev pub under : ResolvedTree → ℕ → Open → ℕ → Block → Does
under r d os slot body p n o = and_then (block r d (slot ∷ os) body p n o) (λ _ n o. give_back (local o slot) n o)

abbrev pub takes : ResolvedTree → ℕ → Open → ℕ → Block → Value → Does
takes r d os slot body v p n o = and_then (take v n (with_local o slot v)) (λ _ n o. under r d os slot body p n o)

-- an expression, after the value of what comes before it
abbrev pub then_expr : ResolvedTree → ℕ → Expression → BeforeExpr → At → Value → ℕ → Own → Tree Value
then_expr r d e (expr.Left op) p v n o = two op v (λ n o. value_of r d e p n o) n o
then_expr r d e (expr.OfElement s) p v n o = and_then (value_of r d e p n o) (λ i n o. reads_element p (sort_seen s) v i n o)
then_expr r d e (expr.OfField at) p v n o = valued (and_then (value_of r d e p n o) (λ w n o. writes_field p at v w n o))
then_expr r d e (expr.OfIndex array) p v n o = valued (and_then (value_of r d e p n o) (λ w n o. writes_element p array v w n o))

abbrev pub then_block : ResolvedTree → ℕ → Open → Block → BeforeBlock → Value → Does
then_block r d os body statements.Statement v p n o = block r d os body p n o
then_block r d os body (statements.Thing slot) v p n o = takes r d os slot body v p n o
then_block r d os body (statements.Taking slot) v p n o = under r d os slot body p n o

-- a loop after its test, or after a turn
abbrev pub loops : ResolvedTree → ℕ → Open → Expression → Block → Bool → Value → Does
loops r d os test body true v p n o = turn r d os test body v p n o
loops r d os test body false v p n o = loop_rest r d os test body p n o

-- what a frame that is no delimiter does with a value
abbrev pub continued : ResolvedTree → Open → Frame → At → Value → ℕ → Own → Tree Value
continued r os (frame.Prefix op) p v n o = purely n o (prefix op v)
continued r os (frame.Operate op left) p v n o = purely n o (operator op left v)
continued r os (frame.Field at s) p v n o = reads_field p (sort_seen s) at v n o
continued r os (frame.Element array s) p i n o = reads_element p (sort_seen s) array i n o
continued r os (frame.Length k) p v n o = on_number v (λ z. makes_array k z n o)
continued r os (frame.Expr d e before) p v n o = then_expr r d (expr_tree e.now) before p v n o
continued r os (frame.Spawn d f args) p c n o = and_then (values_of r d (exprs_tree args.now) p n o) (λ vs n o. spawns f c vs n o)
continued r os (frame.Args d rest vs u) p v n o = gathered r d (exprs_tree rest.now) (vs ++ v ∷ []) u p n o
continued r os (frame.Assign slot) p v n o = gives Nothing n (with_local o slot v)
continued r os frame.Drop p v n o = gives Nothing n o
continued r os (frame.SetField at object) p v n o = valued (writes_field p at object v n o)
continued r os (frame.Index d index value) p x n o =
    valued (and_then (value_of r d (expr_tree index.now) p n o) (λ i n o. and_then (value_of r d (expr_tree value.now) p n o) (λ v n o. writes_element p x i v n o)))
continued r os (frame.SetElement array index) p v n o = valued (writes_element p array index v n o)
continued r os frame.Return p v n o = valued (returns os v n o)
continued r os frame.Throw p v n o = valued (throws v n o)
continued r os (frame.Branch d body rest) p v n o = valued (on_truth v (block r d os (stmts_tree body.now) p n o) (block r d os (stmts_tree rest.now) p n o))
continued r os (frame.Loop d test body tested) p v n o = valued (loops r d os (expr_tree test.now) (stmts_tree body.now) tested v p n o)
continued r os (frame.Block d body before) p v n o = valued (then_block r d os (stmts_tree body.now) before v p n o)
continued r os (frame.Held slot) p v n o = valued (give_back (local o slot) n o)
continued r os (frame.Region d x (part.Label caps)) p l n o = valued (and_then (value_of r d (expr_tree caps.now) p n o) (λ c n o. enters r d l x c n o))
continued r os (frame.Region d x (part.Caps label)) p c n o = valued (enters r d label x c n o)
continued r os frame.Bar p v n o = fails Denied n o
continued r os (frame.Leaving w) p v n o = valued (returns os w n o)
-- delimiters do not come here
continued r os f p v n o = broken

-- ---- ends

abbrev pub unit_end : End Value → End (Unit {0})
unit_end (goes v n o) = goes tt n o
unit_end (raises f n o) = raises f n o
unit_end (leaves v n o) = leaves v n o

abbrev pub place_of : Outside → At
place_of x = record { label = x.label; calls = x.calls }

abbrev pub own_of : Outside → Own
own_of x = record { locals = x.locals; caps = x.caps }

-- the caller's locals are as they were
abbrev pub called_end : List Value → End Value → End Value
called_end ls (goes v n o) = goes Nothing n (with_locals o ls)
called_end ls (raises f n o) = raises f n (with_locals o ls)
called_end ls (leaves v n o) = goes v n (with_locals o ls)

-- the catch block, and the end of its region
abbrev pub handled : ResolvedTree → ℕ → Region → Fault → Own → At → End Value → Tree (Unit {0})
handled r d x f outer p (goes v n o) = on_end (region_handler r d x p n (with_local o x.catch_slot (Int (fault_number f)))) (caught_end outer)
handled r d x f outer p (raises g n o) = fails g n o
handled r d x f outer p (leaves v n o) = broken

-- what frames do with the end of what is done before them, the first frame next
abbrev pub after : ResolvedTree → List Frame → At → End Value → Tree (Unit {0})
after r [] p e = last_ask (unit_end e)
after r (frame.Called calls locals ∷ fs) p e = after r fs (record { label = p.label; calls = calls }) (called_end locals e)
after r (frame.Region d x (part.Body outside) ∷ fs) p e =
    on_end (valued (body_end (own_of outside) x.catch_slot (λ n o. region_handler r d x p n o) (unit_end e))) (after r fs (place_of outside))
after r (frame.Region d x (part.Caught f outside) ∷ fs) p e = on_end (valued (handled r d x f (own_of outside) p e)) (after r fs (place_of outside))
after r (frame.Catch outside ∷ fs) p e = on_end (valued (caught_end (own_of outside) (unit_end e))) (after r fs (place_of outside))
after r (f ∷ fs) p e = on_end (next (continued r (open_of fs) f p) e) (after r fs p)

-- ---- asks

abbrev pub replied : Ask → Reply → ℕ → Own → Answer → Tree Value
replied a reply.Value n o x = value_reply (gained a) n o x
replied a reply.Done n o x = done_reply Nothing n o x

-- a new object of a class
abbrev pub makes_object : ResolvedTree → ℕ → ℕ → Own → Tree Value
makes_object r c n o = ask_value (asked numbers (ask.New (Class c (class_fields (slice_get r.classes c))))) n o

-- ---- states

-- what is done now, where these frames are next
abbrev pub now : ResolvedTree → Open → Control → At → ℕ → Own → Tree Value
now r os (control.Eval d e) p n o = value_of r d (expr_tree e.now) p n o
now r os (control.Gather d rest vs u) p n o = gathered r d (exprs_tree rest.now) vs u p n o
now r os (control.Exec d s) p n o = valued (statement r d os (stmt_tree s.now) p n o)
now r os (control.Block d rest) p n o = valued (block r d os (stmts_tree rest.now) p n o)
now r os (control.Give v) p n o = gives v n o
now r os (control.Raise f) p n o = fails f n o
now r os (control.Leave v) p n o = valued (returns os v n o)
now r os (control.Ask a s y) p n o = asks (asked (sort_seen s) a) (λ x. replied a y n o x)
now r os (control.New c) p n o = makes_object r c n o
now r os (control.Spawn f vs k) p n o = ask_value (asked numbers (ask.Spawn f vs k)) n o
now r os (control.Enter d l k x) p n o = valued (enters_at r d l k x x.slots n o)
now r os control.Spent p n o = spent
now r os c p n o = broken

-- the tree of asks that is left
abbrev pub left : ResolvedTree → Control → List Frame → At → ℕ → Own → Tree (Unit {0})
left r (control.End x) fs p n o = ask_unit (ask.End x) n o
left r control.Over fs p n o = done n o
left r c fs p n o = on_end (now r (open_of fs) c p n o) (after r fs p)

-- the value of a left operand at which an operator stops, where it has one
abbrev pub stops_at : BinaryOp → Option Bool
stops_at binary.And = Some false
stops_at binary.Or = Some true
stops_at op = None

-- the statements of an `else`, none where there is none
abbrev pub block_in : Option (Vec Stmt Global) → Block
block_in None = block_end
block_in (Some b) = stmts_tree b.items
