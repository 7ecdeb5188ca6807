-- The code of a typed statement begins and ends with no operands.
use Rattle.std.proofs.Common.{◌≡◌, ℕ, ◌<◌, List, [], ◌∷◌, ◌++◌, map, length, is_some, Option, Some, None, refl, sym, ap, ◌∙◌, subst, arith, length-append}
use Rattle.std.proofs.lemmas.List.{length-map, length-replicate}
use Rattle.std.proofs.lemmas.Option.{slice_get_within}
use Rattle.std.proofs.lemmas.Bool.{lt-ltb}
use Rattle.lam_builtins.specs.Types.{int, bool, label, caps, object, array, a_value, exactly}
use Rattle.lam_value.specs.declared.values.Value.TheVariants.{Nothing}
use Rattle.lam_bytecode.specs.declared.op.Op.TheVariants.{Store, WriteBarrier, PutField, PutElement, LeaveMonitor, EnterRegion}
use Rattle.thread_steps.specs.Ops.{region_in, region_takes}
use Rattle.lam_resolve_tree.specs.Tree.{ResolvedType, Expression, Statement, let_slot, if_block, while_block, return_value, throw_value, sync_block, region_block, do_value, set_local, set_field, set_element, Block, block_end, block_more, OtherBlock, no_other, other_block, ResolvedTree}
use Rattle.lam_resolve_tree.specs.Typing.{heads_of, a_local, a_monitor, Scope, with_use, Returning, in_function, Returns, AreCaptured, use_of, after, IsStatement, IsBlock, IsOther}
use Rattle.lam_meaning.specs.Scheme.{region_draft, scheme}
use Rattle.lam_meaning_laws.specs.Nested.{Nested, does, both, expression_code, loads_code, gives_back_code, value_code, statement_code, block_code, branches_code}
use Rattle.lam_meaning_laws.proofs.Scopes.{AreOpen, captured_long}
use Rattle.lam_meaning_laws.proofs.Placed.{Placed, IsPlaced, BlockPlaced, OtherPlaced}
use Rattle.guarded_code.specs.declared.known.ValueKind.{ValueKind}
use Rattle.guarded_code.specs.declared.known.ValueKind.TheVariants.{Number, Truth, Other}
use Rattle.guarded_code.specs.declared.known.Access.TheVariants.{Writing}
use Rattle.guarded_code.specs.Changes.{Any, Only, kind_of_type, anything}
use Rattle.compiled_code_guarded.specs.Layouts.{fact_of, TakesKinds, SlotsSay, with_slot}
use Rattle.compiled_code_guarded.proofs.Runs.{slots_same, slots_trans, Joins, Steps, Runs}
use Rattle.compiled_code_guarded.proofs.Operands.{kind_of_given, slots_of, at, object_kind, onto, drop_onto, same_onto, any_each}
use Rattle.compiled_code_guarded.proofs.Expressions.{gives_none, branch, puts_runs, load_step, expression_runs, stands_run}
use Rattle.compiled_code_guarded.proofs.Scopes.{IsOpen, open_monitor, stored_new, stored_old, says_without, at_end, open_after, open_end, says_end}

-- a block's end leads to what stood before it
leaves_block : (env later : Scope) (st : List ValueKind) → SlotsSay (slots_of later) (slots_of env) → Joins (at later st) (at env st)
leaves_block env later st h = (refl, h, tt)

module _ (r : ResolvedTree) (slots : List ResolvedType) where
  abbrev pub Goes : Nested → Scope → List ValueKind → Scope → List ValueKind → Type 0
  Goes c env st env' st' = Runs (scheme r) (length slots) c (at env st) (at env' st')

  -- ---- single operations

  -- the top goes into a slot, whose kind it is of from then on
  pub store_step : (n : ℕ) (k : ValueKind) (env later : Scope) (st : List ValueKind) → n < length slots → SlotsSay (with_slot (slots_of env) n k) (slots_of later) → Goes (does (Store n)) env (k ∷ st) later st
  store_step n k env later st lt h =
      (record { names = lt-ltb n (length slots) lt; takes = (tt, tt); compares = tt; behind = tt }, λ at. (refl, (k, refl, h, tt), tt))

  leave_step : (env later : Scope) → SlotsSay (slots_of later) (slots_of env) → Goes (does LeaveMonitor) later (Other ∷ []) env []
  leave_step env later h = (record { names = refl; takes = (refl, tt); compares = tt; behind = tt }, λ at. (refl, (refl, h, tt), tt))

  module _ (env : Scope) (os : List ℕ) (open' : IsOpen (length slots) env os) where
    loads_run : (ns : List ℕ) (ts : List ResolvedType) (st : List ValueKind) → AreCaptured env ns ts → Goes (loads_code ns) env st env (onto (map kind_of_type ts) st)
    loads_run [] [] st h = refl
    loads_run [] (t ∷ ts) st h = absurd h
    loads_run (n ∷ ns) [] st h = absurd h
    loads_run (n ∷ ns) (t ∷ ts) st h = (at env (kind_of_type t ∷ st), load_step r (length slots) env open'.within n (a_local t) st h.0, loads_run ns ts (kind_of_type t ∷ st) h.1)

    -- the monitors that are held are given back
    gives_back_runs : (xs : List ℕ) (st : List ValueKind) → AreOpen env xs → Goes (gives_back_code xs) env st env st
    gives_back_runs [] st h = refl
    gives_back_runs (x ∷ xs) st h = (
      at env (Other ∷ st),
      load_step r (length slots) env open'.within x (a_monitor h.0.0) st h.0.1,
      (at env st, (record { names = refl; takes = (refl, tt); compares = tt; behind = tt }, λ a. (refl, gives_none env (Only Other ∷ []) (Other ∷ st) st refl, tt)), gives_back_runs xs st h.1),
    )

    value_runs : (ret : Returning) (e : Option Expression) → Returns (heads_of r) ret env e → (k : ValueKind) × Goes (value_code e) env [] env (k ∷ [])
    value_runs (in_function None) None h = (Other, puts_runs r (length slots) env open'.within Nothing [])
    value_runs (in_function (Some t)) (Some e) h = (kind_of_type t, stands_run r (length slots) env open'.within e (exactly t) [] h)
    value_runs ret e h = absurd h

    -- ---- accesses

    writes_field : (f : ℕ) (k : ValueKind) → Goes (both (does (WriteBarrier 1)) (does (PutField f))) env (k ∷ Other ∷ []) env []
    writes_field f k = (
      record { stack = k ∷ Other ∷ []; slots = slots_of env; fact = fact_of Writing 1 },
      (record { names = refl; takes = (tt, (refl, tt)); compares = tt; behind = tt }, λ a. (refl, (refl, slots_same (slots_of env), refl), tt)),
      (record { names = refl; takes = (tt, (refl, tt)); compares = tt; behind = refl }, λ a. (refl, (refl, slots_same (slots_of env), tt), tt)),
    )

    writes_element : (k : ValueKind) → Goes (both (does (WriteBarrier 2)) (does PutElement)) env (k ∷ Number ∷ Other ∷ []) env []
    writes_element k = (
      record { stack = k ∷ Number ∷ Other ∷ []; slots = slots_of env; fact = fact_of Writing 2 },
      (record { names = refl; takes = (tt, (tt, (refl, tt))); compares = tt; behind = tt }, λ a. (refl, (refl, slots_same (slots_of env), refl), tt)),
      (record { names = refl; takes = (tt, (refl, (refl, tt))); compares = tt; behind = refl }, λ a. (refl, (refl, slots_same (slots_of env), tt), tt)),
    )

    -- ---- a region is entered

    enter_step : (number : ℕ) (from : List ℕ) (own : List ResolvedType) (body : Block) (slot : ℕ) (handler : Block) (ks : List ValueKind) → Placed r number (region_draft number from own body slot handler) → length ks ≡ length from →
        Steps (scheme r) (length slots) (EnterRegion number) (at env (onto ks (Other ∷ Other ∷ []))) (at env [])
    enter_step number from own body slot handler ks p long =
        let found = region_in number (scheme r).units in
        let takes : region_takes found ≡ Some (length from) = ap region_takes p.found in
        let places = anything (region_takes found) ++ Only Other ∷ Only Other ∷ [] in
        let many : length (anything (region_takes found)) ≡ length from = ap (λ o. length (anything o)) takes ∙ length-replicate (length from) Any in
        let gone = drop_onto (Other ∷ Other ∷ ks) [] (length places) (omega (arith, long, many, length-append (anything (region_takes found)) (Only Other ∷ Only Other ∷ []))) in (
          record {
            names = ap is_some p.found;
            takes = subst (λ o. TakesKinds (anything o ++ Only Other ∷ Only Other ∷ []) (onto ks (Other ∷ Other ∷ []))) (sym takes) (same_onto Any ks (Other ∷ Other ∷ []) (Only Other ∷ Only Other ∷ []) (length from) long (any_each ks) (refl, (refl, tt)));
            compares = tt;
            behind = tt;
          },
          λ a. (refl, gives_none env places (onto ks (Other ∷ Other ∷ [])) [] gone, tt),
        )

  -- ---- statements

  mutual
    pub statement_runs : (ret : Returning) (env : Scope) (os : List ℕ) (s : Statement) → IsStatement (heads_of r) slots ret env s → IsOpen (length slots) env os → IsPlaced r s → Goes (statement_code os s) env [] (after slots env s) []
    statement_runs ret env os (let_slot n e) h o p = (
      at env (kind_of_type h.0 ∷ []),
      stands_run r (length slots) env o.within e (exactly h.0) [] h.2,
      store_step n (kind_of_type h.0) env (after slots env (let_slot n e)) [] (slice_get_within slots n h.0 h.1.0)
          (subst (λ t. SlotsSay (with_slot (slots_of env) n (kind_of_type h.0)) (slots_of (use_of t env n))) (sym h.1.0) (stored_new env n (a_local h.0))),
    )
    statement_runs ret env os (set_local n e) h o p = (
      at env (kind_of_type h.0 ∷ []),
      stands_run r (length slots) env o.within e (exactly h.0) [] h.2,
      store_step n (kind_of_type h.0) env env [] (o.within n (a_local h.0) h.1) (stored_old env n (a_local h.0) h.1),
    )
    statement_runs ret env os (set_field e c f t v) h o p = (
      at env (Other ∷ []),
      expression_runs r (length slots) env o.within e (a_value (object c)) h.0 [],
      (at env (kind_of_type t ∷ Other ∷ []), stands_run r (length slots) env o.within v (exactly t) (Other ∷ []) h.2, writes_field env os o f (kind_of_type t)),
    )
    statement_runs ret env os (set_element e i t v) h o p = (
      at env (Other ∷ []),
      expression_runs r (length slots) env o.within e (a_value (array t)) h.0 [],
      (
        at env (Number ∷ Other ∷ []),
        stands_run r (length slots) env o.within i (exactly int) (Other ∷ []) h.1,
        (at env (kind_of_type t ∷ Number ∷ Other ∷ []), stands_run r (length slots) env o.within v (exactly t) (Number ∷ Other ∷ []) h.2, writes_element env os o (kind_of_type t)),
      ),
    )
    statement_runs ret env os (do_value e) h o p = (
      at env (kind_of_given h.0 ∷ []),
      expression_runs r (length slots) env o.within e h.0 h.1 [],
      (record { names = refl; takes = (tt, tt); compares = tt; behind = tt }, λ a. (refl, gives_none env (Any ∷ []) (kind_of_given h.0 ∷ []) [] refl, tt)),
    )
    statement_runs ret env os (if_block e body other) h o p =
        (at env (Truth ∷ []), stands_run r (length slots) env o.within e (exactly bool) [] h.0, branches_run ret env os (block_code os body) (at_end slots env body) other (block_runs ret env os body h.1 o p.0) (says_end (heads_of r) slots ret env body h.1) h.2 o p.1)
    statement_runs ret env os (while_block e body) h o p = (
      at env (Truth ∷ []),
      at env [],
      at (at_end slots env body) [],
      stands_run r (length slots) env o.within e (exactly bool) [] h.0,
      branch env [],
      branch env [],
      block_runs ret env os body h.1 o p,
      leaves_block env (at_end slots env body) [] (says_end (heads_of r) slots ret env body h.1),
    )
    statement_runs ret env os (return_value e) h o p =
        let value = value_runs env os o ret e h in (
          at env (value.0 ∷ []),
          value.1,
          (at env (value.0 ∷ []), gives_back_runs env os o os (value.0 ∷ []) o.monitors, (record { names = refl; takes = (tt, tt); compares = tt; behind = tt }, λ a. tt)),
        )
    statement_runs ret env os (throw_value e) h o p =
        (at env (Number ∷ []), stands_run r (length slots) env o.within e (exactly int) [] h, (record { names = refl; takes = (refl, tt); compares = tt; behind = tt }, λ a. tt))
    statement_runs ret env os (sync_block x e body) h o p =
        let env1 = with_use env x (a_monitor h.0) in
        let env2 = at_end slots env1 body in
        let lt = slice_get_within slots x h.0 h.1.0 in
        let o1 = open_monitor (length slots) env x h.0 os lt h.1.1 o in
        let o2 = open_end (heads_of r) slots ret env1 (x ∷ os) body h.4 o1 in
        let held = o1.monitors.0 in
        let still = o2.monitors.0 in
        let value = subst (λ k. Goes (expression_code e) env [] env (k ∷ [])) (object_kind h.0 h.3) (expression_runs r (length slots) env o.within e (a_value h.0) h.2 []) in
        let back = slots_trans (slots_of env2) (slots_of env1) (slots_of env) (says_end (heads_of r) slots ret env1 body h.4) (says_without env x (a_monitor h.0) h.1.1) in (
          at env (Other ∷ []),
          value,
          (
            at env1 [],
            store_step x Other env env1 [] lt (stored_new env x (a_monitor h.0)),
            (
              at env1 (Other ∷ []),
              load_step r (length slots) env1 o1.within x (a_monitor held.0) [] held.1,
              (
                at env1 [],
                (record { names = refl; takes = (refl, tt); compares = tt; behind = tt }, λ a. (refl, gives_none env1 (Only Other ∷ []) (Other ∷ []) [] refl, tt)),
                (
                  at env2 [],
                  block_runs ret env1 (x ∷ os) body h.4 o1 p,
                  (at env2 (Other ∷ []), load_step r (length slots) env2 o2.within x (a_monitor still.0) [] still.1, leave_step env env2 back),
                ),
              ),
            ),
          ),
        )
    statement_runs ret env os (region_block number l c from own body slot handler) h o p =
        let ks = map kind_of_type h.0 in
        let long : length ks ≡ length from = length-map h.0 kind_of_type ∙ sym (captured_long env from h.0 h.4) in (
          at env (Other ∷ []),
          stands_run r (length slots) env o.within l (exactly label) [] h.2,
          (
            at env (Other ∷ Other ∷ []),
            stands_run r (length slots) env o.within c (exactly caps) (Other ∷ []) h.3,
            (at env (onto ks (Other ∷ Other ∷ [])), loads_run env os o from h.0 (Other ∷ Other ∷ []) h.4, enter_step env os o number from own body slot handler ks p.0 long),
          ),
        )

    pub block_runs : (ret : Returning) (env : Scope) (os : List ℕ) (b : Block) → IsBlock (heads_of r) slots ret env b → IsOpen (length slots) env os → BlockPlaced r b → Goes (block_code os b) env [] (at_end slots env b) []
    block_runs ret env os block_end h o p = refl
    block_runs ret env os (block_more s rest) h o p =
        (at (after slots env s) [], statement_runs ret env os s h.0 o p.0, block_runs ret (after slots env s) os rest h.1 (open_after (heads_of r) slots ret env os s h.0 o) p.1)

    branches_run : (ret : Returning) (env : Scope) (os : List ℕ) (c : Nested) (later : Scope) (other : OtherBlock) → Goes c env [] later [] → SlotsSay (slots_of later) (slots_of env) → IsOther (heads_of r) slots ret env other → IsOpen (length slots) env os → OtherPlaced r other →
        Goes (branches_code os c other) env (Truth ∷ []) env []
    branches_run ret env os c later no_other h says k o q = (at env [], at later [], branch env [], branch env [], h, leaves_block env later [] says)
    branches_run ret env os c later (other_block second) h says k o q = (
      at env [],
      at env [],
      at later [],
      at (at_end slots env second) [],
      branch env [],
      branch env [],
      h,
      leaves_block env later [] says,
      block_runs ret env os second k o q,
      leaves_block env (at_end slots env second) [] (says_end (heads_of r) slots ret env second k),
    )
