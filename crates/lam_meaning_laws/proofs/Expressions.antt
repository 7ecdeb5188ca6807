-- Nested code of expressions gives what they mean, above the operands.
use Rattle.std.proofs.Common.{◌≡◌, ℕ, ◌<◌, Bool, true, false, List, [], ◌∷◌, length, Option, Some, None, refl, sym, ap, ◌∙◌, subst, arith}
use Rattle.std.proofs.lemmas.List.{length-map}
use Rattle.std.specs.Prelude.{if◌then◌else◌, nat_lt, slice_get}
use Rattle.capabilities.specs.Changes.{no_caps}
use Rattle.lam_value.specs.declared.names.Name.{Name}
use Rattle.lam_value.specs.declared.values.Value.{Value}
use Rattle.lam_value.specs.declared.values.Value.TheVariants.{Bool as Truth, Nothing, CapV}
use Rattle.lam_value.specs.declared.shapes.Shape.TheVariants.{Class}
use Rattle.lam_operators.specs.declared.BinaryOp.{BinaryOp}
use Rattle.lam_operators.specs.declared.BinaryOp.TheVariants as binary
use Rattle.lam_builtins.specs.Types.{exactly}
use Rattle.lam_builtins.specs.Operators.{operand}
use Rattle.lam_builtins.specs.Builtins.{row_by}
use Rattle.lam_asks.specs.declared.fault.Fault.TheVariants.{Deep, Null}
use Rattle.lam_asks.specs.declared.ask.Ask.TheVariants as ask
use Rattle.lam_asks.specs.Suits.{numbers}
use Rattle.lam_bytecode.specs.Codes.{CodeTree}
use Rattle.lam_bytecode.specs.declared.op.Op.TheVariants.{Load, Call}
use Rattle.thread_steps.specs.Operators.{operator, prefix, label_from, with_sign}
use Rattle.thread_steps.specs.Builtins.{builtin}
use Rattle.thread_steps.specs.Ops as ops
use Rattle.thread_steps.specs.Ops.{Did, calls, wants, effect, on_caps}
use Rattle.thread_steps.specs.Limits.{frames_limit}
use Rattle.lam_resolve_tree.specs.Tree.{ResolvedType, ResolvedGiven, ResolvedPlace, CapSlot, Expression, number_value, text_value, bool_value, null_value, local_value, unary_of, binary_of, field_of, element_of, call_of, builtin_of, new_object, new_array, label_of, caps_of, spawn_of, Expressions, args_end, args_more, ResolvedFunction, ResolvedTree}
use Rattle.lam_resolve_tree.specs.Typing.{ResolvedSignatures, heads_of, exact_places, Use, a_local, Scope, Operates, AreTags, Gives, AreArgs, AreRest, AreTagArgs}
use Rattle.lam_meaning_typed.specs.Trees as tree
use Rattle.lam_meaning_typed.specs.Trees.{Own, local, asked, Tree, ask_value, nothing_gained, on_truth}
use Rattle.lam_meaning_typed.specs.Means as means
use Rattle.lam_meaning_typed.specs.Means.{At, sort_of, kind_of, class_fields, signed, two, eval, eval_all}
use Rattle.lam_meaning_typed.specs.Scheme.{scheme, count, sign_op}
use Rattle.lam_meaning_typed.specs.Nested.{Nested, operator_code, signs_code, expression_code, expressions_code}
use Rattle.lam_meaning_laws.specs.Gathers.{Along, Out, gone, raised, and_on, Does, Caller, never_enters, did, around, op_does, picks, acts}
use Rattle.lam_meaning_typed.proofs.Expressions.{head_at}
use Rattle.lam_meaning_laws.proofs.Plays.{Keep, Held, MatchesAt, All, all_any, all_then, binds_where, binds, maps, onto_same}
use Rattle.lam_meaning_laws.proofs.Lists.{push_all}
use Rattle.lam_meaning_laws.proofs.Operations.{onto, fails_at, pure_at, value_at, called_at, read_field, read_element, array_at, load_is, builtin_plain}
use Rattle.lam_meaning_laws.proofs.Effects.{prefix_is, sign_is, call_is, spawn_is, system_is, label_is, object_is}
use Rattle.lam_meaning_laws.proofs.Units.{takes_params, class_kinds, as_many}

-- calls, beside those of nested code
abbrev pub SameCalls : ResolvedTree → means.Caller → Caller → Type 0
SameCalls r call caller =
    (kp : Keep) (H : Held) (f : ℕ) (fn : ResolvedFunction) (vs : List Value) (p : At) (n : ℕ) (st : Along) → slice_get r.functions f ≡ Some fn → length vs ≡ length fn.params → length st.own.locals ≡ kp.size →
    MatchesAt kp H (λ v. v) (call f vs p n st.own) st (if nat_lt p.calls frames_limit then caller f vs p n (H st.own.locals) st else raised Deep n st)

-- the slots in scope are among the locals
abbrev pub Inside : ℕ → Scope → Type 0
Inside size env = (x : ℕ) (u : Use) → env x ≡ Some u → x < size

-- ---- arguments

-- each is typed
abbrev pub AreGiven : ResolvedSignatures → Scope → Expressions → Type 0
AreGiven hs env args_end = Unit {0}
AreGiven hs env (args_more e rest) = ((g : ResolvedGiven) × Gives hs env e g) × AreGiven hs env rest

module _ (hs : ResolvedSignatures) (env : Scope) where
  given_rest : (ws : List ResolvedPlace) (args : Expressions) → AreRest hs env ws args → AreGiven hs env args × (count args ≡ length ws)
  given_rest [] args_end h = (tt, refl)
  given_rest (w ∷ ws) (args_more e rest) h = let r = given_rest ws rest h.1 in (((h.0.0, h.0.1), r.0), omega (arith, r.1))
  given_rest [] (args_more e rest) h = absurd h
  given_rest (w ∷ ws) args_end h = absurd h

  given_args : (ws : List ResolvedPlace) (args : Expressions) (first : ResolvedGiven) → AreArgs hs env ws args first → AreGiven hs env args × (count args ≡ length ws)
  given_args [] args_end first h = (tt, refl)
  given_args (w ∷ ws) (args_more e rest) first h = let r = given_rest ws rest h.2 in (((first, h.0), r.0), omega (arith, r.1))
  given_args [] (args_more e rest) first h = absurd h
  given_args (w ∷ ws) args_end first h = absurd h

  given_tags : (args : Expressions) → AreTagArgs hs env args → AreGiven hs env args
  given_tags args_end h = tt
  given_tags (args_more e rest) h = ((h.0.0, h.0.1), given_tags rest h.1)

operands_of : (k : Option ResolvedType) (L R : ResolvedGiven → Type 0) → Operates k L R → ((g : ResolvedGiven) × L g) × ((g : ResolvedGiven) × R g)
operands_of None L R h = ((h.0, h.2), (h.1, h.3))
operands_of (Some t) L R h = ((h.0.0, h.0.1), (h.1.0, h.1.1))

counted : (r : ResolvedTree) (call : means.Caller) (args : Expressions) (p : At) (n : ℕ) (o : Own) → All (λ vs. length vs ≡ count args) (eval_all r call args p n o)
counted r call args_end p n o = refl
counted r call (args_more e rest) p n o =
    all_then (λ v. Unit {0}) (λ vs. length vs ≡ count (args_more e rest)) _ _ (all_any (eval r call e p n o)) (λ v n o u.
    all_then (λ vs. length vs ≡ count rest) (λ vs. length vs ≡ count (args_more e rest)) _ _ (counted r call rest p n o) (λ vs n o same. omega (arith, same)))

-- ---- expressions

module _ (r : ResolvedTree) (call : means.Caller) (caller : Caller) (same_calls : SameCalls r call caller) (again : Nested → Does) (kp : Keep) (H : Held) (env : Scope) (inside : Inside kp.size env) where
  abbrev code : CodeTree
  code = scheme r

  -- an operation in place of another that does the same
  instead : {A : Type 0} (h : A → List Value) (t : Tree A) (st : Along) (p : At) (n : ℕ) (held : List Name) (d e : Did) → e ≡ d → MatchesAt kp H h t st (did caller never_enters d p n held st) → MatchesAt kp H h t st (did caller never_enters e p n held st)
  instead h t st p n held d e same m = subst (λ d. MatchesAt kp H h t st (did caller never_enters d p n held st)) (sym same) m

  truth_at : (v : Value) (s : List Value) (n : ℕ) (st : Along) (a b : Tree Value) (x y : List Value → Out (List Value)) → MatchesAt kp H (onto s) a st (x s) → MatchesAt kp H (onto s) b st (y s) → MatchesAt kp H (onto s) (on_truth v a b) st (picks (v ∷ s) st x y)
  truth_at (Truth true) s n st a b x y ma mb = ma
  truth_at (Truth false) s n st a b x y ma mb = mb
  truth_at v s n st a b x y ma mb = record { by = λ ok. absurd ok; keeps = tt }

  -- an operator, its right operand being code that does what a tree says
  operator_at : (o : BinaryOp) (c : Nested) (t : ℕ → Own → Tree Value) (p : At) (v : Value) (n : ℕ) (s : List Value) (st : Along) → length st.own.locals ≡ kp.size → ((s : List Value) → MatchesAt kp H (onto s) (t n st.own) st (acts (scheme r) caller again c p n s (H st.own.locals) st)) → MatchesAt kp H (onto s) (two o v t n st.own) st (acts (scheme r) caller again (operator_code o c) p n (v ∷ s) (H st.own.locals) st)
  unfolding effect
  operator_at binary.And c t p v n s st size m = truth_at v s n st _ _ _ _ (m s) (record { by = λ ok. refl; keeps = size })
  operator_at binary.Or c t p v n s st size m = truth_at v s n st _ _ _ _ (record { by = λ ok. refl; keeps = size }) (m s)
  operator_at binary.Eq c t p v n s st size m = binds kp H H (onto (v ∷ s)) (onto s) _ st _ _ _ (m (v ∷ s)) (λ w n st l. pure_at kp H caller never_enters p n s st l (operator binary.Eq v w))
  operator_at binary.Ne c t p v n s st size m = binds kp H H (onto (v ∷ s)) (onto s) _ st _ _ _ (m (v ∷ s)) (λ w n st l. pure_at kp H caller never_enters p n s st l (operator binary.Ne v w))
  operator_at binary.Lt c t p v n s st size m = binds kp H H (onto (v ∷ s)) (onto s) _ st _ _ _ (m (v ∷ s)) (λ w n st l. pure_at kp H caller never_enters p n s st l (operator binary.Lt v w))
  operator_at binary.Le c t p v n s st size m = binds kp H H (onto (v ∷ s)) (onto s) _ st _ _ _ (m (v ∷ s)) (λ w n st l. pure_at kp H caller never_enters p n s st l (operator binary.Le v w))
  operator_at binary.Gt c t p v n s st size m = binds kp H H (onto (v ∷ s)) (onto s) _ st _ _ _ (m (v ∷ s)) (λ w n st l. pure_at kp H caller never_enters p n s st l (operator binary.Gt v w))
  operator_at binary.Ge c t p v n s st size m = binds kp H H (onto (v ∷ s)) (onto s) _ st _ _ _ (m (v ∷ s)) (λ w n st l. pure_at kp H caller never_enters p n s st l (operator binary.Ge v w))
  operator_at binary.Add c t p v n s st size m = binds kp H H (onto (v ∷ s)) (onto s) _ st _ _ _ (m (v ∷ s)) (λ w n st l. pure_at kp H caller never_enters p n s st l (operator binary.Add v w))
  operator_at binary.Sub c t p v n s st size m = binds kp H H (onto (v ∷ s)) (onto s) _ st _ _ _ (m (v ∷ s)) (λ w n st l. pure_at kp H caller never_enters p n s st l (operator binary.Sub v w))
  operator_at binary.Mul c t p v n s st size m = binds kp H H (onto (v ∷ s)) (onto s) _ st _ _ _ (m (v ∷ s)) (λ w n st l. pure_at kp H caller never_enters p n s st l (operator binary.Mul v w))
  operator_at binary.Div c t p v n s st size m = binds kp H H (onto (v ∷ s)) (onto s) _ st _ _ _ (m (v ∷ s)) (λ w n st l. pure_at kp H caller never_enters p n s st l (operator binary.Div v w))
  operator_at binary.Rem c t p v n s st size m = binds kp H H (onto (v ∷ s)) (onto s) _ st _ _ _ (m (v ∷ s)) (λ w n st l. pure_at kp H caller never_enters p n s st l (operator binary.Rem v w))

  within : (x : ℕ) (t : ResolvedType) (st : Along) → env x ≡ Some (a_local t) → length st.own.locals ≡ kp.size → x < length st.own.locals
  within x t st e size = subst (λ k. x < k) (sym size) (inside x (a_local t) e)

  load_at : (x : ℕ) (t : ResolvedType) (p : At) (n : ℕ) (s : List Value) (st : Along) → env x ≡ Some (a_local t) → length st.own.locals ≡ kp.size → MatchesAt kp H (onto s) (tree.gives (local st.own x) n st.own) st (op_does code caller never_enters (Load x) p n s (H st.own.locals) st)
  load_at x t p n s st e size = record { by = λ ok. sym (load_is code caller never_enters p n s (H st.own.locals) st x (within x t st e size)); keeps = size }

  signs_at : (xs : List CapSlot) (c : Value) (p : At) (n : ℕ) (s : List Value) (st : Along) → AreTags env xs → length st.own.locals ≡ kp.size → MatchesAt kp H (onto s) (signed xs c n st.own) st (acts code caller again (signs_code xs) p n (c ∷ s) (H st.own.locals) st)
  signs_at [] c p n s st h size = record { by = λ ok. refl; keeps = size }
  signs_at (x ∷ xs) c p n s st h size =
      let rest = λ (s : List Value) (n : ℕ) (held : List Name) (st : Along). and_on (op_does code caller never_enters (sign_op x.plus) p n s held st) (λ s n held st. acts code caller again (signs_code xs) p n s held st) in
      subst (λ r. MatchesAt kp H (onto s) (signed (x ∷ xs) c n st.own) st (and_on r rest)) (sym (load_is code caller never_enters p n (c ∷ s) (H st.own.locals) st x.slot (within x.slot _ st h.0 size)))
      (binds kp H H (onto s) (onto s) _ st _ _ _
      (instead (onto s) _ st p n (H st.own.locals) _ _ (sign_is (around code p (H st.own.locals) st) s x.plus c (local st.own x.slot)) (pure_at kp H caller never_enters p n s st size (with_sign x.plus c (local st.own x.slot))))
      (λ c n st l. signs_at xs c p n s st h.1 l))

  caps_at : (xs : List CapSlot) (p : At) (n : ℕ) (s : List Value) (st : Along) → AreTags env xs → length st.own.locals ≡ kp.size → MatchesAt kp H (onto s) (signed xs (CapV no_caps.plus no_caps.minus) n st.own) st (acts code caller again (expression_code (caps_of xs)) p n s (H st.own.locals) st)
  unfolding effect
  caps_at xs p n s st h size = signs_at xs (CapV no_caps.plus no_caps.minus) p n s st h size

  call_did : (b : Bool) (f : ℕ) (vs s : List Value) (p : At) (n : ℕ) (held : List Name) (st : Along) → and_on (if b then caller f vs p n held st else raised Deep n st) (λ v n held st. gone (v ∷ s) n held st) ≡ did caller never_enters (if b then calls f vs s else ops.fails Deep) p n held st
  call_did true f vs s p n held st = refl
  call_did false f vs s p n held st = refl

  call_at : (f : ℕ) (fn : ResolvedFunction) (vs : List Value) (p : At) (n : ℕ) (s : List Value) (st : Along) → slice_get r.functions f ≡ Some fn → length vs ≡ length fn.params → length st.own.locals ≡ kp.size → MatchesAt kp H (onto s) (call f vs p n st.own) st (op_does code caller never_enters (Call f) p n (push_all s vs) (H st.own.locals) st)
  call_at f fn vs p n s st e many size =
      instead (onto s) _ st p n (H st.own.locals) _ _ (call_is (around code p (H st.own.locals) st) s f vs (takes_params r f fn e ∙ ap Some (sym many)))
      (subst (MatchesAt kp H (onto s) (call f vs p n st.own) st) (call_did (nat_lt p.calls frames_limit) f vs s p n (H st.own.locals) st)
      (onto_same kp H (onto s) _ st _ (same_calls kp H f fn vs p n st e many size)))

  spawn_at : (f : ℕ) (c : Value) (vs : List Value) (p : At) (n : ℕ) (s : List Value) (st : Along) → length st.own.locals ≡ kp.size → MatchesAt kp H (onto s) (tree.on_caps c n st.own (λ k. ask_value (asked numbers (ask.Spawn f vs k)) n st.own)) st (did caller never_enters (on_caps (c ∷ s) (λ c s. wants (ask.Spawn f vs c) s)) p n (H st.own.locals) st)
  spawn_at f (CapV plus minus) vs p n s st size = value_at kp H caller never_enters p n s st size (asked numbers (ask.Spawn f vs (record { plus = plus; minus = minus }))) nothing_gained (λ v. refl)
  spawn_at f Nothing vs p n s st size = fails_at kp H caller never_enters p n s st size (onto s) Null (H st.own.locals)
  spawn_at f c vs p n s st size = record { by = λ ok. absurd ok; keeps = tt }

  mutual
    pub eval_same : (e : Expression) (g : ResolvedGiven) → Gives (heads_of r) env e g → (p : At) (n : ℕ) (s : List Value) (st : Along) → length st.own.locals ≡ kp.size → MatchesAt kp H (onto s) (eval r call e p n st.own) st (acts code caller again (expression_code e) p n s (H st.own.locals) st)
    eval_same (number_value z) g h p n s st size = record { by = λ ok. refl; keeps = size }
    eval_same (text_value bs) g h p n s st size = record { by = λ ok. refl; keeps = size }
    eval_same (bool_value b) g h p n s st size = record { by = λ ok. refl; keeps = size }
    eval_same null_value g h p n s st size = record { by = λ ok. refl; keeps = size }
    eval_same (local_value x) g (t, e, h) p n s st size = load_at x t p n s st e size
    eval_same (unary_of o e) g (he, h) p n s st size =
        binds kp H H (onto s) (onto s) _ st _ _ _ (eval_same e he.0 he.1 p n s st size)
        (λ v n st l. instead (onto s) _ st p n (H st.own.locals) _ _ (prefix_is (around code p (H st.own.locals) st) s o v) (pure_at kp H caller never_enters p n s st l (prefix o v)))
    eval_same (binary_of o a b) g (hab, h) p n s st size =
        let both = operands_of (operand o) (λ h. Gives (heads_of r) env a h) (λ h. Gives (heads_of r) env b h) hab in
        binds kp H H (onto s) (onto s) _ st _ _ _ (eval_same a both.0.0 both.0.1 p n s st size)
        (λ v n st l. operator_at o (expression_code b) (λ n o. eval r call b p n o) p v n s st l (λ s. eval_same b both.1.0 both.1.1 p n s st l))
    eval_same (field_of e c f t) g (he, hf, h) p n s st size =
        binds kp H H (onto s) (onto s) _ st _ _ _ (eval_same e _ he p n s st size) (λ v n st l. read_field kp H code caller p n s st l v f (sort_of t))
    eval_same (element_of e i t) g (he, hi, h) p n s st size =
        binds kp H H (onto s) (onto s) _ st _ _ _ (eval_same e _ he p n s st size) (λ v n st l.
        binds kp H H (onto (v ∷ s)) (onto s) _ st _ _ _ (eval_same i hi.0 hi.1 p n (v ∷ s) st l) (λ i n st l. read_element kp H code caller p n s st l v i (sort_of t)))
    eval_same (call_of f args) g (hd, first, e, ha, h) p n s st size =
        let is = given_args (heads_of r) env (exact_places hd.params) args first ha in
        let at = head_at r.functions f hd e in
        binds_where kp H H (λ vs. push_all s vs) (onto s) (λ vs. length vs ≡ count args) _ st _ _ _ (counted r call args p n st.own) (args_same args is.0 p n s st size)
        (λ vs many n st l. call_at f at.0 vs p n s st at.1 (many ∙ is.1 ∙ length-map hd.params exactly ∙ sym (ap (λ hd. length hd.params) at.2)) l)
    eval_same (builtin_of b args t) g (first, ha, h, ht) p n s st size =
        let is = given_args (heads_of r) env (row_by ℕ b).signature.takes args first ha in
        binds_where kp H H (λ vs. push_all s vs) (onto s) (λ vs. length vs ≡ count args) _ st _ _ _ (counted r call args p n st.own) (args_same args is.0 p n s st size)
        (λ vs many n st l. instead (onto s) _ st p n (H st.own.locals) _ _ (system_is (around code p (H st.own.locals) st) s b vs (many ∙ is.1 ∙ sym (as_many b))) (called_at kp H caller never_enters p n s st l t (builtin p.label st.own.caps b vs) (builtin_plain p.label st.own.caps b vs)))
    eval_same (new_object c) g (hc, h) p n s st size =
        let ks = class_kinds r c hc in
        instead (onto s) _ st p n (H st.own.locals) _ _ (object_is (around code p (H st.own.locals) st) s c ks.0 (class_fields (slice_get r.classes c)) ks.1 ks.2)
        (value_at kp H caller never_enters p n s st size (asked numbers (ask.New (Class c (class_fields (slice_get r.classes c))))) nothing_gained (λ v. refl))
    eval_same (new_array t e) g (ht, he, h) p n s st size =
        binds kp H H (onto s) (onto s) _ st _ _ _ (eval_same e he.0 he.1 p n s st size) (λ v n st l. array_at kp H code caller p n s st l (kind_of t) v)
    eval_same (label_of a b) g (ha, hb, h) p n s st size =
        binds_where kp H H (λ vs. push_all s vs) (onto s) (λ vs. length vs ≡ count a) _ st _ _ _ (counted r call a p n st.own) (args_same a (given_tags (heads_of r) env a ha) p n s st size) (λ x mx n st l.
        binds_where kp H H (λ vs. push_all (push_all s x) vs) (onto s) (λ vs. length vs ≡ count b) _ st _ _ _ (counted r call b p n st.own) (args_same b (given_tags (heads_of r) env b hb) p n (push_all s x) st l) (λ y my n st l.
        instead (onto s) _ st p n (H st.own.locals) _ _ (label_is (around code p (H st.own.locals) st) s (count a) (count b) x y mx my) (pure_at kp H caller never_enters p n s st l (label_from x y))))
    eval_same (caps_of items) g (hi, h) p n s st size = caps_at items p n s st hi size
    eval_same (spawn_of c f args) g (hd, first, hc, e, hr, ha, h) p n s st size =
        let is = given_args (heads_of r) env (exact_places hd.params) args first ha in
        let at = head_at r.functions f hd e in
        binds kp H H (onto s) (onto s) _ st _ _ _ (eval_same c hc.0 hc.1 p n s st size) (λ c n st l.
        binds_where kp H H (λ vs. push_all (c ∷ s) vs) (onto s) (λ vs. length vs ≡ count args) _ st _ _ _ (counted r call args p n st.own) (args_same args is.0 p n (c ∷ s) st l) (λ vs many n st l.
        instead (onto s) _ st p n (H st.own.locals) _ _ (spawn_is (around code p (H st.own.locals) st) s f c vs (takes_params r f at.0 at.1 ∙ ap Some (sym (many ∙ is.1 ∙ length-map hd.params exactly ∙ sym (ap (λ hd. length hd.params) at.2)))))
        (spawn_at f c vs p n s st l)))

    args_same : (args : Expressions) → AreGiven (heads_of r) env args → (p : At) (n : ℕ) (s : List Value) (st : Along) → length st.own.locals ≡ kp.size → MatchesAt kp H (λ vs. push_all s vs) (eval_all r call args p n st.own) st (acts code caller again (expressions_code args) p n s (H st.own.locals) st)
    args_same args_end h p n s st size = record { by = λ ok. refl; keeps = size }
    args_same (args_more e rest) h p n s st size =
        binds kp H H (onto s) (λ vs. push_all s vs) _ st _ _ _ (eval_same e h.0.0 h.0.1 p n s st size)
        (λ v n st l. maps kp H (λ vs. v ∷ vs) (λ vs. push_all s vs) _ st _ (args_same rest h.1 p n (v ∷ s) st l))
