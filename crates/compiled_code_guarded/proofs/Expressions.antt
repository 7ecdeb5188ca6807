-- The code of a typed expression puts a value of its kind on the operands.
use Rattle.std.proofs.Common.{◌≡◌, ℕ, ◌+◌, Bool, true, false, if◌then◌else◌, List, [], ◌∷◌, ◌++◌, length, is_some, Option, Some, None, slice_get, refl, sym, ap, ◌∙◌, subst, arith, length-append}
use Rattle.std.specs.Prelude.{drop, replicate, reverse}
use Rattle.std.proofs.lemmas.Option.{slice_get_within}
use Rattle.std.proofs.lemmas.Bool.{lt-ltb}
use Rattle.std.proofs.lemmas.List.{append-nil, length-replicate}
use Rattle.lam_operators.specs.declared.BinaryOp.{BinaryOp}
use Rattle.lam_operators.specs.declared.BinaryOp.TheVariants as binary
use Rattle.lam_operators.specs.declared.UnaryOp.{UnaryOp}
use Rattle.lam_operators.specs.declared.UnaryOp.TheVariants as unary
use Rattle.lam_builtins.specs.declared.Builtin.{Builtin}
use Rattle.lam_builtins.specs.Types.{int, bool, bytes, tag, label, caps, thread, object, array, a_value, a_null, exactly}
use Rattle.lam_builtins.specs.Operators.{operand, operator_type, unary_type}
use Rattle.lam_builtins.specs.Builtins.{row, row_by}
use Rattle.lam_value.specs.declared.values.Value.{Value}
use Rattle.lam_value.specs.declared.values.Value.TheVariants.{Int, Bool as TruthValue, Bytes, Nothing}
use Rattle.lam_bytecode.specs.declared.op.Op.{Op}
use Rattle.lam_bytecode.specs.declared.op.Op.TheVariants.{Load, Add, Sub, Mul, Div, Rem, Eq, Ne, Lt, Le, Gt, Ge, Call, ReadBarrier, GetField, GetElement, NewObject, MakeLabel, System, Spawn}
use Rattle.thread_steps.specs.Ops.{function_takes}
use Rattle.lam_resolve_tree.specs.Tree.{ResolvedType, ResolvedGiven, ResolvedPlace, CapSlot, Expression, number_value, text_value, bool_value, null_value, local_value, unary_of, binary_of, field_of, element_of, call_of, builtin_of, new_object, new_array, label_of, caps_of, spawn_of, Expressions, args_end, args_more, ResolvedFunction, ResolvedTree}
use Rattle.lam_resolve_tree.specs.Typing.{ResolvedSignature, heads_of, given_by, exact_places, Use, a_local, Scope, FitsBy, Operates, AreTags, Gives, AreRest, AreTagArgs}
use Rattle.lam_meaning.specs.Scheme.{is_int, count, prefix_op, sign_op, scheme}
use Rattle.lam_meaning_laws.specs.Nested.{Nested, does, puts, both, either, operator_code, signs_code, expression_code, expressions_code}
use Rattle.lam_meaning_laws.proofs.TypedExpressions.{head_at}
use Rattle.lam_meaning_laws.proofs.Expressions.{Inside}
use Rattle.lam_meaning_laws.proofs.Placed.{function_unit}
use Rattle.lam_meaning_laws.proofs.Units.{takes_params, class_kinds}
use Rattle.guarded_code.specs.declared.known.ValueKind.{ValueKind}
use Rattle.guarded_code.specs.declared.known.ValueKind.TheVariants.{Number, Truth, Other, Unknown}
use Rattle.guarded_code.specs.declared.known.Access.TheVariants.{Reading}
use Rattle.guarded_code.specs.Changes.{Place, Any, Only, Trades, kind_of_type, kind_of_place, kind_of_value, kind_of_answer, result_kind, places_of, anything}
use Rattle.compiled_code_guarded.specs.Layouts.{fact_of, IsOfKind, TakesKinds, IsKnown, Follows}
use Rattle.compiled_code_guarded.proofs.Runs.{slots_same, Branches, Steps, Runs}
use Rattle.compiled_code_guarded.proofs.Operands.{kind_of_given, slot_kind, slots_of, at, of_same, kind_known, fits_kind, compare_kinds, onto, drop_onto, EachTakes, same_onto, any_each, place_kinds, exact_long, args_taken, args_long, rest_of, same_places, answer_kind}

-- ---- what the program declares

-- a call's result is of its function's kind
result_of : (t : Option ResolvedType) → IsOfKind (if is_int t then Number else Unknown) (kind_of_given (given_by t))
result_of (Some int) = refl
result_of t = refl

-- ---- lists of operands

onto_append : (xs ys st : List ValueKind) → onto (xs ++ ys) st ≡ onto ys (onto xs st)
onto_append [] ys st = refl
onto_append (x ∷ xs) ys st = onto_append xs ys (x ∷ st)

all_onto : (p : Place) (ks st : List ValueKind) (n : ℕ) → length ks ≡ n → EachTakes p ks → TakesKinds (replicate n p) (onto ks st)
all_onto p ks st n e each = subst (λ ps. TakesKinds ps (onto ks st)) (append-nil (replicate n p)) (same_onto p ks st [] n e each tt)

-- the tags of a label
abbrev others : Expressions → List ValueKind
others args_end = []
others (args_more e rest) = Other ∷ others rest

others_long : (args : Expressions) → length (others args) ≡ count args
others_long args_end = refl
others_long (args_more e rest) = omega (arith, others_long rest)

others_each : (args : Expressions) (ks : List ValueKind) → EachTakes (Only Other) ks → EachTakes (Only Other) (others args ++ ks)
others_each args_end ks h = h
others_each (args_more e rest) ks h = (refl, others_each rest ks h)

-- ---- single operations, where these slots are in scope

-- a value is put on what is left of the operands
pub gives_put : (env : Scope) (takes : List Place) (kind k : ValueKind) (st rest : List ValueKind) → drop (length takes) st ≡ rest → IsOfKind kind k → Follows (Trades takes (Some kind)) (at env st) (at env (k ∷ rest))
gives_put env takes kind k st rest e h = ((k, ap (λ ks. k ∷ ks) (sym e), h), slots_same (slots_of env), tt)

pub gives_none : (env : Scope) (takes : List Place) (st rest : List ValueKind) → drop (length takes) st ≡ rest → Follows (Trades takes None) (at env st) (at env rest)
gives_none env takes st rest e = (sym e, slots_same (slots_of env), tt)

pub branch : (env : Scope) (st : List ValueKind) → Branches (at env (Truth ∷ st)) (at env st)
branch env st = ((refl, tt), gives_none env (Only Truth ∷ []) (Truth ∷ st) st refl)

two_numbers : (env : Scope) (k : ValueKind) (st : List ValueKind) → Follows (Trades (Only Number ∷ Only Number ∷ []) (Some k)) (at env (Number ∷ Number ∷ st)) (at env (k ∷ st))
two_numbers env k st = gives_put env (Only Number ∷ Only Number ∷ []) k k (Number ∷ Number ∷ st) st refl (of_same k)

module _ (r : ResolvedTree) (locals : ℕ) (env : Scope) (within : Inside locals env) where
  abbrev pub Leads : Nested → List ValueKind → List ValueKind → Type 0
  Leads c st to = Runs (scheme r) locals c (at env st) (at env to)

  abbrev pub Step : Op → List ValueKind → List ValueKind → Type 0
  Step op st to = Steps (scheme r) locals op (at env st) (at env to)

  pub puts_runs : (v : Value) (st : List ValueKind) → Leads (puts v) st (kind_of_value v ∷ st)
  puts_runs v st = gives_put env [] (kind_of_value v) (kind_of_value v) st st refl (of_same (kind_of_value v))

  pub load_step : (n : ℕ) (u : Use) (st : List ValueKind) → env n ≡ Some u → Step (Load n) st (slot_kind (Some u) ∷ st)
  load_step n u st e = (
    record { names = lt-ltb n locals (within n u e); takes = tt; compares = tt; behind = tt },
    λ a. (refl, (ap (λ o. slot_kind o ∷ st) (sym e), slots_same (slots_of env), tt), tt),
  )

  -- what gives a value that fits a place puts one of the place's kind
  abbrev pub Puts : Nested → (ResolvedGiven → Type 0) → Type 0
  Puts c E = (g : ResolvedGiven) → E g → (st : List ValueKind) → Leads c st (kind_of_given g ∷ st)

  fit : (c : Nested) (w : ResolvedPlace) (E : ResolvedGiven → Type 0) → FitsBy w E → Puts c E → (st : List ValueKind) → Leads c st (kind_of_place w ∷ st)
  fit c w E h gives st = subst (λ k. Leads c st (k ∷ st)) (fits_kind w h.0 h.2) (gives h.0 h.1 st)

  given : (c : Nested) (st : List ValueKind) (g h : ResolvedGiven) → g ≡ h → Leads c st (kind_of_given h ∷ st) → Leads c st (kind_of_given g ∷ st)
  given c st g h e x = subst (λ y. Leads c st (kind_of_given y ∷ st)) (sym e) x

  -- ---- operators

  either_runs : (a b : Nested) (st : List ValueKind) → Leads a st (Truth ∷ st) → Leads b st (Truth ∷ st) → Leads (either a b) (Truth ∷ st) (Truth ∷ st)
  either_runs a b st x y =
      let joins = gives_none env [] (Truth ∷ st) (Truth ∷ st) refl in
      (at env st, at env st, at env (Truth ∷ st), at env (Truth ∷ st), branch env st, branch env st, x, joins, y, joins)

  numeric_runs : (op : Op) (k : ValueKind) (a b : Nested) (st : List ValueKind) (L R : ResolvedGiven → Type 0) → FitsBy (exactly int) L × FitsBy (exactly int) R → Puts a L → Puts b R → Step op (Number ∷ Number ∷ st) (k ∷ st) → Leads (both a (both b (does op))) st (k ∷ st)
  numeric_runs op k a b st L R h f g step =
      (at env (Number ∷ st), fit a (exactly int) L h.0 f st, (at env (Number ∷ Number ∷ st), fit b (exactly int) R h.1 g (Number ∷ st), step))

  compare_runs : (op : Op) (a b : Nested) (st : List ValueKind) (L R : ResolvedGiven → Type 0) → Operates None L R → Puts a L → Puts b R →
      ((k : ValueKind) → IsKnown k → Step op (k ∷ k ∷ st) (Truth ∷ st)) → Leads (both a (both b (does op))) st (Truth ∷ st)
  compare_runs op a b st L R h f g step =
      let k = kind_of_given h.0 in
      let second = subst (λ m. Leads b (k ∷ st) (m ∷ k ∷ st)) (compare_kinds h.0 h.1 h.4) (g h.1 h.3 (k ∷ st)) in
      (at env (k ∷ st), f h.0 h.2 st, (at env (k ∷ k ∷ st), second, step k (kind_known h.0)))

  two_of : (k : ValueKind) (st : List ValueKind) → Follows (Trades (Any ∷ Any ∷ []) (Some Truth)) (at env (k ∷ k ∷ st)) (at env (Truth ∷ st))
  two_of k st = gives_put env (Any ∷ Any ∷ []) Truth Truth (k ∷ k ∷ st) st refl refl

  operator_runs : (o : BinaryOp) (a b : Nested) (st : List ValueKind) (L R : ResolvedGiven → Type 0) → Operates (operand o) L R → Puts a L → Puts b R → Leads (both a (operator_code o b)) st (kind_of_type {C = ℕ} (operator_type o) ∷ st)
  operator_runs binary.And a b st L R h f g =
      (at env (Truth ∷ st), fit a (exactly bool) L h.0 f st, either_runs b (puts (TruthValue false)) st (fit b (exactly bool) R h.1 g st) (puts_runs (TruthValue false) st))
  operator_runs binary.Or a b st L R h f g =
      (at env (Truth ∷ st), fit a (exactly bool) L h.0 f st, either_runs (puts (TruthValue true)) b st (puts_runs (TruthValue true) st) (fit b (exactly bool) R h.1 g st))
  operator_runs binary.Eq a b st L R h f g =
      compare_runs Eq a b st L R h f g (λ k known. (record { names = refl; takes = (tt, (tt, tt)); compares = (refl, known); behind = tt }, λ at. (refl, two_of k st, tt)))
  operator_runs binary.Ne a b st L R h f g =
      compare_runs Ne a b st L R h f g (λ k known. (record { names = refl; takes = (tt, (tt, tt)); compares = (refl, known); behind = tt }, λ at. (refl, two_of k st, tt)))
  operator_runs binary.Lt a b st L R h f g =
      numeric_runs Lt Truth a b st L R h f g (record { names = refl; takes = (refl, (refl, tt)); compares = tt; behind = tt }, λ at. (refl, two_numbers env Truth st, tt))
  operator_runs binary.Le a b st L R h f g =
      numeric_runs Le Truth a b st L R h f g (record { names = refl; takes = (refl, (refl, tt)); compares = tt; behind = tt }, λ at. (refl, two_numbers env Truth st, tt))
  operator_runs binary.Gt a b st L R h f g =
      numeric_runs Gt Truth a b st L R h f g (record { names = refl; takes = (refl, (refl, tt)); compares = tt; behind = tt }, λ at. (refl, two_numbers env Truth st, tt))
  operator_runs binary.Ge a b st L R h f g =
      numeric_runs Ge Truth a b st L R h f g (record { names = refl; takes = (refl, (refl, tt)); compares = tt; behind = tt }, λ at. (refl, two_numbers env Truth st, tt))
  operator_runs binary.Add a b st L R h f g =
      numeric_runs Add Number a b st L R h f g (record { names = refl; takes = (refl, (refl, tt)); compares = tt; behind = tt }, λ at. (refl, two_numbers env Number st, tt))
  operator_runs binary.Sub a b st L R h f g =
      numeric_runs Sub Number a b st L R h f g (record { names = refl; takes = (refl, (refl, tt)); compares = tt; behind = tt }, λ at. (refl, two_numbers env Number st, tt))
  operator_runs binary.Mul a b st L R h f g =
      numeric_runs Mul Number a b st L R h f g (record { names = refl; takes = (refl, (refl, tt)); compares = tt; behind = tt }, λ at. (refl, two_numbers env Number st, tt))
  operator_runs binary.Div a b st L R h f g =
      numeric_runs Div Number a b st L R h f g (record { names = refl; takes = (refl, (refl, tt)); compares = tt; behind = tt }, λ at. (refl, two_numbers env Number st, tt))
  operator_runs binary.Rem a b st L R h f g =
      numeric_runs Rem Number a b st L R h f g (record { names = refl; takes = (refl, (refl, tt)); compares = tt; behind = tt }, λ at. (refl, two_numbers env Number st, tt))

  prefix_step : (o : UnaryOp) (st : List ValueKind) → Step (prefix_op o) (kind_of_type {C = ℕ} (unary_type o) ∷ st) (kind_of_type {C = ℕ} (unary_type o) ∷ st)
  prefix_step unary.Not st =
      (record { names = refl; takes = (refl, tt); compares = tt; behind = tt }, λ at. (refl, gives_put env (Only Truth ∷ []) Truth Truth (Truth ∷ st) st refl refl, tt))
  prefix_step unary.Neg st =
      (record { names = refl; takes = (refl, tt); compares = tt; behind = tt }, λ at. (refl, gives_put env (Only Number ∷ []) Number Number (Number ∷ st) st refl refl, tt))

  -- ---- accesses: the barrier's fact stands until the next operation

  reads_field : (f : ℕ) (k : ValueKind) (st : List ValueKind) → Leads (both (does (ReadBarrier 0)) (does (GetField f))) (Other ∷ st) (k ∷ st)
  reads_field f k st = (
    record { stack = Other ∷ st; slots = slots_of env; fact = fact_of Reading 0 },
    (record { names = refl; takes = (refl, tt); compares = tt; behind = tt }, λ at. (refl, (refl, slots_same (slots_of env), refl), tt)),
    (record { names = refl; takes = (refl, tt); compares = tt; behind = refl }, λ at. (refl, ((k, refl, refl), slots_same (slots_of env), tt), tt)),
  )

  reads_element : (k : ValueKind) (st : List ValueKind) → Leads (both (does (ReadBarrier 1)) (does GetElement)) (Number ∷ Other ∷ st) (k ∷ st)
  reads_element k st = (
    record { stack = Number ∷ Other ∷ st; slots = slots_of env; fact = fact_of Reading 1 },
    (record { names = refl; takes = (tt, (refl, tt)); compares = tt; behind = tt }, λ at. (refl, (refl, slots_same (slots_of env), refl), tt)),
    (record { names = refl; takes = (refl, (refl, tt)); compares = tt; behind = refl }, λ at. (refl, ((k, refl, refl), slots_same (slots_of env), tt), tt)),
  )

  -- ---- calls

  takes_long : (f n : ℕ) → function_takes (slice_get (scheme r).units f) ≡ Some n → length (anything (function_takes (slice_get (scheme r).units f))) ≡ n
  takes_long f n e = ap (λ o. length (anything o)) e ∙ length-replicate n Any

  call_step : (f : ℕ) (fn : ResolvedFunction) (ks st : List ValueKind) → slice_get r.functions f ≡ Some fn → length ks ≡ length fn.params → Step (Call f) (onto ks st) (kind_of_given (given_by fn.result) ∷ st)
  call_step f fn ks st e long =
      let unit = slice_get (scheme r).units f in
      let takes = takes_params r f fn e in
      let k = kind_of_given (given_by fn.result) in
      let gone = drop_onto ks st (length (anything (function_takes unit))) (long ∙ sym (takes_long f (length fn.params) takes)) in (
        record {
          names = ap is_some takes;
          takes = subst (λ o. TakesKinds (anything o) (onto ks st)) (sym takes) (all_onto Any ks st (length fn.params) long (any_each ks));
          compares = tt;
          behind = tt;
        },
        λ at. (refl, gives_put env (anything (function_takes unit)) (result_kind unit) k (onto ks st) st gone (subst (λ u. IsOfKind (result_kind u) k) (sym (function_unit r f fn e)) (result_of fn.result)), tt),
      )

  spawn_step : (f : ℕ) (fn : ResolvedFunction) (ks st : List ValueKind) → slice_get r.functions f ≡ Some fn → length ks ≡ length fn.params → Step (Spawn f) (onto ks (Other ∷ st)) (Other ∷ st)
  spawn_step f fn ks st e long =
      let unit = slice_get (scheme r).units f in
      let takes = takes_params r f fn e in
      let places = anything (function_takes unit) ++ Only Other ∷ [] in
      let many = takes_long f (length fn.params) takes in
      let gone = drop_onto (Other ∷ ks) st (length places) (omega (arith, long, many, length-append (anything (function_takes unit)) (Only Other ∷ []))) in (
        record {
          names = ap is_some takes;
          takes = subst (λ o. TakesKinds (anything o ++ Only Other ∷ []) (onto ks (Other ∷ st))) (sym takes) (same_onto Any ks (Other ∷ st) (Only Other ∷ []) (length fn.params) long (any_each ks) (refl, tt));
          compares = tt;
          behind = tt;
        },
        λ at. (refl, gives_put env places Other Other (onto ks (Other ∷ st)) st gone refl, tt),
      )

  system_step : (b : Builtin) (k : ValueKind) (st : List ValueKind) → IsOfKind (kind_of_answer (row b).signature.answer) k → Step (System b) (onto (place_kinds (row b).signature.takes) st) (k ∷ st)
  system_step b k st h =
      let ws = (row b).signature.takes in (
        record { names = refl; takes = args_taken ws st; compares = tt; behind = tt },
        λ at. (refl, gives_put env (reverse (places_of ws)) (kind_of_answer (row b).signature.answer) k (onto (place_kinds ws) st) st (drop_onto (place_kinds ws) st (length (reverse (places_of ws))) (args_long ws)) h, tt),
      )

  label_step : (s i : Expressions) (st : List ValueKind) → Step (MakeLabel (count s) (count i)) (onto (others i) (onto (others s) st)) (Other ∷ st)
  label_step s i st =
      let ks = others s ++ others i in
      let n = count s + count i in
      let long : length ks ≡ n = omega (arith, length-append (others s) (others i), others_long s, others_long i) in
      let each = others_each s (others i) (subst (EachTakes (Only Other)) (append-nil (others i)) (others_each i [] tt)) in
      let many = length-replicate n (Only Other) in
      subst (λ stack. Step (MakeLabel (count s) (count i)) stack (Other ∷ st)) (onto_append (others s) (others i) st) (
        record { names = refl; takes = all_onto (Only Other) ks st n long each; compares = tt; behind = tt },
        λ at. (refl, gives_put env (replicate n (Only Other)) Other Other (onto ks st) st (drop_onto ks st (length (replicate n (Only Other))) (long ∙ sym many)) refl, tt),
      )

  sign_step : (plus : Bool) (st : List ValueKind) → Step (sign_op plus) (Other ∷ Other ∷ st) (Other ∷ st)
  sign_step true st =
      (record { names = refl; takes = (refl, (refl, tt)); compares = tt; behind = tt }, λ at. (refl, gives_put env (Only Other ∷ Only Other ∷ []) Other Other (Other ∷ Other ∷ st) st refl refl, tt))
  sign_step false st =
      (record { names = refl; takes = (refl, (refl, tt)); compares = tt; behind = tt }, λ at. (refl, gives_put env (Only Other ∷ Only Other ∷ []) Other Other (Other ∷ Other ∷ st) st refl refl, tt))

  signs_run : (xs : List CapSlot) (st : List ValueKind) → AreTags env xs → Leads (signs_code xs) (Other ∷ st) (Other ∷ st)
  signs_run [] st h = refl
  signs_run (x ∷ xs) st h =
      (at env (Other ∷ Other ∷ st), load_step x.slot (a_local tag) (Other ∷ st) h.0, (at env (Other ∷ st), sign_step x.plus st, signs_run xs st h.1))

  -- ---- expressions

  abbrev Typed : Expression → ResolvedGiven → Type 0
  Typed e g = Gives (heads_of r) env e g

  mutual
    -- a typed expression puts a value of the kind that it gives
    pub expression_runs : (e : Expression) → Puts (expression_code e) (Typed e)
    expression_runs (number_value z) g h st = given (puts (Int z)) st g (a_value int) h (puts_runs (Int z) st)
    expression_runs (text_value bs) g h st = given (puts (Bytes bs)) st g (a_value bytes) h (puts_runs (Bytes bs) st)
    expression_runs (bool_value b) g h st = given (puts (TruthValue b)) st g (a_value bool) h (puts_runs (TruthValue b) st)
    expression_runs null_value g h st = given (puts Nothing) st g a_null h (puts_runs Nothing st)
    expression_runs (local_value n) g h st = given (does (Load n)) st g (a_value h.0) h.2 (load_step n (a_local h.0) st h.1)
    expression_runs (unary_of o e) g h st =
        given (expression_code (unary_of o e)) st g (a_value (unary_type o)) h.1
        (at env (kind_of_type {C = ℕ} (unary_type o) ∷ st), fit (expression_code e) (exactly (unary_type o)) (Typed e) h.0 (expression_runs e) st, prefix_step o st)
    expression_runs (binary_of o a b) g h st =
        given (expression_code (binary_of o a b)) st g (a_value (operator_type o)) h.1
        (operator_runs o (expression_code a) (expression_code b) st (Typed a) (Typed b) h.0 (expression_runs a) (expression_runs b))
    expression_runs (field_of e c f t) g h st =
        given (expression_code (field_of e c f t)) st g (a_value t) h.2 (at env (Other ∷ st), expression_runs e (a_value (object c)) h.0 st, reads_field f (kind_of_type t) st)
    expression_runs (element_of e i t) g h st =
        given (expression_code (element_of e i t)) st g (a_value t) h.2
        (at env (Other ∷ st), expression_runs e (a_value (array t)) h.0 st, (at env (Number ∷ Other ∷ st), fit (expression_code i) (exactly int) (Typed i) h.1 (expression_runs i) (Other ∷ st), reads_element (kind_of_type t) st))
    expression_runs (call_of f args) g h st =
        let there = head_at r.functions f h.0 h.2 in
        let ws = exact_places h.0.params in
        let long = exact_long h.0.params ∙ ap (λ (x : ResolvedSignature). length x.params) (sym there.2) in
        let result = h.4 ∙ ap (λ (x : ResolvedSignature). given_by x.result) (sym there.2) in
        given (expression_code (call_of f args)) st g (given_by there.0.result) result
        (at env (onto (place_kinds ws) st), arguments_run args ws st (rest_of (heads_of r) env ws args h.1 h.3), call_step f there.0 (place_kinds ws) st there.1 long)
    expression_runs (builtin_of b args t) g h st =
        let ws = (row_by ℕ b).signature.takes in
        let kinds = same_places b in
        let kind = answer_kind (heads_of r) env b args h.0 h.1 ∙ ap kind_of_given (sym h.2) in (
          at env (onto (place_kinds (row b).signature.takes) st),
          subst (λ ks. Leads (expressions_code args) st (onto ks st)) kinds (arguments_run args ws st (rest_of (heads_of r) env ws args h.0 h.1)),
          system_step b (kind_of_given g) st (subst (IsOfKind (kind_of_answer (row b).signature.answer)) kind (of_same (kind_of_answer (row b).signature.answer))),
        )
    expression_runs (new_object c) g h st =
        let kinds = class_kinds r c h.0 in
        given (does (NewObject c)) st g (a_value (object c)) h.1
        (record { names = lt-ltb c (length (scheme r).classes) (slice_get_within (scheme r).classes c kinds.0 kinds.1); takes = tt; compares = tt; behind = tt }, λ at. (refl, gives_put env [] Other Other st st refl refl, tt))
    expression_runs (new_array t n) g h st =
        given (expression_code (new_array t n)) st g (a_value (array t)) h.2 (
          at env (Number ∷ st),
          fit (expression_code n) (exactly int) (Typed n) h.1 (expression_runs n) st,
          (record { names = refl; takes = (refl, tt); compares = tt; behind = tt }, λ at. (refl, gives_put env (Only Number ∷ []) Other Other (Number ∷ st) st refl refl, tt)),
        )
    expression_runs (label_of s i) g h st =
        given (expression_code (label_of s i)) st g (a_value label) h.2
        (at env (onto (others s) st), tags_run s st h.0, (at env (onto (others i) (onto (others s) st)), tags_run i (onto (others s) st) h.1, label_step s i st))
    expression_runs (caps_of items) g h st =
        given (expression_code (caps_of items)) st g (a_value caps) h.1
        (at env (Other ∷ st), (record { names = refl; takes = tt; compares = tt; behind = tt }, λ at. (refl, gives_put env [] Other Other st st refl refl, tt)), signs_run items st h.0)
    expression_runs (spawn_of c f args) g h st =
        let there = head_at r.functions f h.0 h.3 in
        let ws = exact_places h.0.params in
        let long = exact_long h.0.params ∙ ap (λ (x : ResolvedSignature). length x.params) (sym there.2) in
        given (expression_code (spawn_of c f args)) st g (a_value thread) h.6 (
          at env (Other ∷ st),
          fit (expression_code c) (exactly caps) (Typed c) h.2 (expression_runs c) st,
          (at env (onto (place_kinds ws) (Other ∷ st)), arguments_run args ws (Other ∷ st) (rest_of (heads_of r) env ws args h.1 h.5), spawn_step f there.0 (place_kinds ws) st there.1 long),
        )

    -- arguments put values of the places' kinds, one by one
    arguments_run : (args : Expressions) (ws : List ResolvedPlace) (st : List ValueKind) → AreRest (heads_of r) env ws args → Leads (expressions_code args) st (onto (place_kinds ws) st)
    arguments_run args_end [] st h = refl
    arguments_run args_end (w ∷ ws) st h = absurd h
    arguments_run (args_more e rest) [] st h = absurd h
    arguments_run (args_more e rest) (w ∷ ws) st h =
        (at env (kind_of_place w ∷ st), fit (expression_code e) w (Typed e) h.0 (expression_runs e) st, arguments_run rest ws (kind_of_place w ∷ st) h.1)

    tags_run : (args : Expressions) (st : List ValueKind) → AreTagArgs (heads_of r) env args → Leads (expressions_code args) st (onto (others args) st)
    tags_run args_end st h = refl
    tags_run (args_more e rest) st h = (at env (Other ∷ st), fit (expression_code e) (exactly tag) (Typed e) h.0 (expression_runs e) st, tags_run rest (Other ∷ st) h.1)

  -- a value for a place
  pub stands_run : (e : Expression) (w : ResolvedPlace) (st : List ValueKind) → FitsBy w (Typed e) → Leads (expression_code e) st (kind_of_place w ∷ st)
  stands_run e w st h = fit (expression_code e) w (Typed e) h (expression_runs e) st
