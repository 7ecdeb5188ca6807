-- Nested code of statements does what they mean.
use Rattle.std.proofs.Common.{◌≡◌, ℕ, zero, suc, ◌<◌, true, false, List, [], ◌∷◌, ◌++◌, length, map, Option, Some, None, refl, sym, ap, ◌∙◌, subst, arith, length-append}
use Rattle.std.proofs.lemmas.List.{length-map, length-replicate}
use Rattle.std.proofs.lemmas.Option.{slice_get_within}
use Rattle.std.specs.Prelude.{◌-◌, replicate, slice_set}
use Rattle.lam_value.specs.declared.names.Name.{Name}
use Rattle.lam_value.specs.declared.values.Value.{Value}
use Rattle.lam_value.specs.declared.values.Value.TheVariants.{Int, Bool as Truth, Nothing}
use Rattle.lam_builtins.specs.Types.{int}
use Rattle.lam_bytecode.specs.Codes.{CodeTree}
use Rattle.lam_bytecode.specs.declared.op.Op.TheVariants.{Load, Store, Return, LeaveMonitor, EnterMonitor, EnterRegion}
use Rattle.thread_steps.specs.Ops.{region_in, region_takes}
use Rattle.lam_resolve_tree.specs.Tree.{ResolvedType, ResolvedGiven, Expression, Statement, let_slot, if_block, while_block, return_value, throw_value, sync_block, region_block, do_value, set_local, set_field, set_element, Block, block_end, block_more, OtherBlock, no_other, other_block, ResolvedTree}
use Rattle.lam_resolve_tree.specs.Typing.{heads_of, a_local, a_monitor, Scope, with_use, locals_of, Gives, Returning, in_region, in_function, Returns, AreCaptured, after, IsStatement, IsBlock, IsOther}
use Rattle.lam_meaning_typed.specs.Trees as tree
use Rattle.lam_meaning_typed.specs.Trees.{Own, with_local, local, Tree, and_then, on_truth, spend}
use Rattle.lam_meaning_typed.specs.Means as means
use Rattle.lam_meaning_typed.specs.Means.{At, Open, take, give_back, returns, captured, inside, eval_option, exec, exec_block, exec_other}
use Rattle.lam_meaning_typed.specs.Scheme.{scheme}
use Rattle.lam_meaning_typed.specs.Nested.{Nested, loads_code, gives_back_code, value_code, statement_code, block_code, branches_code}
use Rattle.lam_meaning_laws.specs.Gathers.{Along, with_locals, Out, gone, and_on, Does, Caller, never_enters, around, did, op_does, region_by, picks, use_unit, acts}
use Rattle.lam_meaning_laws.proofs.Plays.{Keep, Held, MatchesAt, binds, and_assoc}
use Rattle.lam_meaning_typed.proofs.Locals.{length-set_slot, set_here, slot_here}
use Rattle.lam_meaning_laws.proofs.Lists.{push_all, listed, monitors, AllApart, monitors_set}
use Rattle.lam_meaning_laws.proofs.Operations.{onto, stays, write_field, write_element, throw_at, take_at, give_at, load_is, store_is, pop_is, return_is}
use Rattle.lam_meaning_laws.proofs.Effects.{region_is}
use Rattle.lam_meaning_laws.proofs.Expressions.{SameCalls, Inside, eval_same}
use Rattle.lam_meaning_laws.proofs.Regions.{no_monitors, within_unit, place_at}
use Rattle.lam_meaning_laws.proofs.Scopes.{AreOpen, apart_new, apart_local, open_new, inside_new, inside_head, captured_long, open_after, inside_after}

-- the regions of a statement are in the code, with as many captures
abbrev mutual
  pub IsIn : CodeTree → Statement → Type 0
  IsIn code (if_block e body other) = BlockIn code body × OtherIn code other
  IsIn code (while_block e body) = BlockIn code body
  IsIn code (sync_block x e body) = BlockIn code body
  IsIn code (region_block number l c from slots body slot handler) = (region_takes (region_in number code.units) ≡ Some (length from)) × BlockIn code body × BlockIn code handler
  IsIn code s = Unit {0}

  pub BlockIn : CodeTree → Block → Type 0
  BlockIn code block_end = Unit {0}
  BlockIn code (block_more s rest) = IsIn code s × BlockIn code rest

  pub OtherIn : CodeTree → OtherBlock → Type 0
  OtherIn code no_other = Unit {0}
  OtherIn code (other_block body) = BlockIn code body

abbrev pub keep_of : List ResolvedType → List Name → Keep
keep_of slots base = record { size = length slots; base = base }

-- statements, each time that they are done, beside their code
abbrev pub SameStatements : ResolvedTree → (Open → Statement → means.Does) → (Nested → Does) → Type 0
SameStatements r f g =
    (os : Open) (slots : List ResolvedType) (ret : Returning) (env : Scope) (x : Statement) → IsStatement (heads_of r) slots ret env x → AreOpen env os → Inside (length slots) env → IsIn (scheme r) x →
    (base : List Name) (p : At) (n : ℕ) (s : List Value) (st : Along) → length st.own.locals ≡ length slots →
    MatchesAt (keep_of slots base) (monitors os base) (stays s) (f os x p n st.own) st (g (statement_code os x) p n s (monitors os base st.own.locals) st)

truth_at : (kp : Keep) (H : Held) (v : Value) (s : List Value) (st : Along) (a b : Tree (Unit {0})) (x y : List Value → Out (List Value)) → MatchesAt kp H (stays s) a st (x s) → MatchesAt kp H (stays s) b st (y s) → MatchesAt kp H (stays s) (on_truth v a b) st (picks (v ∷ s) st x y)
truth_at kp H (Truth true) s st a b x y ma mb = ma
truth_at kp H (Truth false) s st a b x y ma mb = mb
truth_at kp H v s st a b x y ma mb = record { by = λ ok. absurd ok; keeps = tt }

pub spend_same : {A B : Type 0} (kp : Keep) (H : Held) (h : A → B) (n : ℕ) (st : Along) (go : ℕ → Tree A) (go' : ℕ → Out B) → ((m : ℕ) → MatchesAt kp H h (go m) st (go' m)) → MatchesAt kp H h (spend n go) st (use_unit n st go')
spend_same kp H h zero st go go' f = record { by = λ ok. refl; keeps = tt }
spend_same kp H h (suc m) st go go' f = f m

module _ (r : ResolvedTree) (call : means.Caller) (caller : Caller) (same_calls : SameCalls r call caller) (again : Open → Statement → means.Does) (again' : Nested → Does) (agains : SameStatements r again again') where
  abbrev code : CodeTree
  code = scheme r

  -- a slot is set that no open `sync` has
  store_at : (kp : Keep) (os : List ℕ) (base : List Name) (x : ℕ) (v : Value) (p : At) (n : ℕ) (s : List Value) (st : Along) → x < length st.own.locals → AllApart x os → length st.own.locals ≡ kp.size → MatchesAt kp (monitors os base) (stays s) (tree.done n (with_local st.own x v)) st (op_does code caller never_enters (Store x) p n (v ∷ s) (monitors os base st.own.locals) st)
  store_at kp os base x v p n s st lt apart size =
      record {
        by = λ ok. ap (λ ns. gone s n ns (with_locals st (slice_set st.own.locals x v))) (monitors_set os base st.own.locals x v apart) ∙ sym (store_is code caller never_enters p n s (monitors os base st.own.locals) st x v lt);
        keeps = length-set_slot st.own.locals x v ∙ size;
      }

  loads_is : (env : Scope) (from : List ℕ) (ts : List ResolvedType) (size : ℕ) (p : At) (n : ℕ) (s : List Value) (held : List Name) (st : Along) → AreCaptured env from ts → Inside size env → length st.own.locals ≡ size → acts code caller again' (loads_code from) p n s held st ≡ gone (push_all s (map (λ x. local st.own x) from)) n held st
  loads_is env [] ts size p n s held st h is l = refl
  loads_is env (x ∷ from) [] size p n s held st h is l = absurd h
  loads_is env (x ∷ from) (t ∷ ts) size p n s held st h is l =
      ap (λ r. and_on r (λ s n held st. acts code caller again' (loads_code from) p n s held st)) (load_is code caller never_enters p n s held st x (subst (λ k. x < k) (sym l) (is x (a_local t) h.0))) ∙
      loads_is env from ts size p n (local st.own x ∷ s) held st h.1 is l

  -- a `return`, with the monitors of the open `sync`s
  returns_at : (kp : Keep) (H : Held) (env : Scope) (os : List ℕ) (v : Value) (p : At) (n : ℕ) (s : List Value) (st : Along) → AreOpen env os → Inside kp.size env → length st.own.locals ≡ kp.size → MatchesAt kp H (stays s) (returns os v n st.own) st (and_on (acts code caller again' (gives_back_code os) p n (v ∷ s) (monitors os kp.base st.own.locals) st) (λ s n held st. op_does code caller never_enters Return p n s held st))
  returns_at kp H env [] v p n s st op is l = record { by = λ ok. sym (return_is code caller never_enters p n s kp.base st v); keeps = l }
  returns_at kp H env (x ∷ os) v p n s st op is l =
      let held = monitors (x ∷ os) kp.base st.own.locals in
      let last = λ (s : List Value) (n : ℕ) (held : List Name) (st : Along). op_does code caller never_enters Return p n s held st in
      let rest = λ (s : List Value) (n : ℕ) (held : List Name) (st : Along). acts code caller again' (gives_back_code os) p n s held st in
      let leave = λ (s : List Value) (n : ℕ) (held : List Name) (st : Along). op_does code caller never_enters LeaveMonitor p n s held st in
      subst (λ r. MatchesAt kp H (stays s) (returns (x ∷ os) v n st.own) st (and_on (and_on r (λ s n held st. and_on (leave s n held st) rest)) last)) (sym (load_is code caller never_enters p n (v ∷ s) held st x (subst (λ k. x < k) (sym l) (is x (a_monitor op.0.0) op.0.1))))
      (subst (MatchesAt kp H (stays s) (returns (x ∷ os) v n st.own) st) (sym (and_assoc (leave (local st.own x ∷ v ∷ s) n held st) rest last))
      (binds kp (monitors os kp.base) H (stays (v ∷ s)) (stays s) (give_back (local st.own x) n st.own) st _ (λ u n o. returns os v n o) (λ s n held st. and_on (rest s n held st) last)
      (give_at kp (monitors os kp.base) code caller p n (v ∷ s) st l (local st.own x)) (λ u n st l. returns_at kp H env os v p n s st op.1 is l)))

  module _ (slots : List ResolvedType) (ret : Returning) (base : List Name) where
    abbrev kp : Keep
    kp = keep_of slots base

    option_same : (os : List ℕ) (env : Scope) (e : Option Expression) → Returns (heads_of r) ret env e → Inside (length slots) env → (p : At) (n : ℕ) (s : List Value) (st : Along) → length st.own.locals ≡ length slots → MatchesAt kp (monitors os base) (onto s) (eval_option r call e p n st.own) st (acts code caller again' (value_code e) p n s (monitors os base st.own.locals) st)
    option_same os env None h is p n s st l = record { by = λ ok. refl; keeps = l }
    option_same os env (Some e) h is p n s st l = let g = returned_given ret e env h in eval_same r call caller same_calls again' kp (monitors os base) env is e g.0 g.1 p n s st l
      where
        returned_given : (ret : Returning) (e : Expression) (env : Scope) → Returns (heads_of r) ret env (Some e) → (g : ResolvedGiven) × Gives (heads_of r) env e g
        returned_given (in_function None) e env h = absurd h
        returned_given (in_function (Some t)) e env h = (h.0, h.1)
        returned_given in_region e env h = absurd h

    -- a `sync` whose monitor is that of a value
    sync_at : (os : List ℕ) (slot : ℕ) (v : Value) (body : Nested) (t : ℕ → Own → Tree (Unit {0})) (p : At) (n : ℕ) (s : List Value) (st : Along) → slot < length slots → AllApart slot os → length st.own.locals ≡ length slots → ((n : ℕ) (st : Along) → length st.own.locals ≡ length slots → MatchesAt kp (monitors (slot ∷ os) base) (stays s) (t n st.own) st (acts code caller again' body p n s (monitors (slot ∷ os) base st.own.locals) st)) →
        MatchesAt kp (monitors os base) (stays s) (and_then (take v n (with_local st.own slot v)) (λ u n o. and_then (t n o) (λ u n o. give_back (local o slot) n o))) st
        (and_on (op_does code caller never_enters (Store slot) p n (v ∷ s) (monitors os base st.own.locals) st) (λ s n held st. and_on (op_does code caller never_enters (Load slot) p n s held st) (λ s n held st. and_on (op_does code caller never_enters EnterMonitor p n s held st) (λ s n held st. and_on (acts code caller again' body p n s held st) (λ s n held st. and_on (op_does code caller never_enters (Load slot) p n s held st) (λ s n held st. op_does code caller never_enters LeaveMonitor p n s held st))))))
    sync_at os slot v body t p n s st lt apart l m =
        let H = monitors os base in
        let H2 = monitors (slot ∷ os) base in
        let held = monitors os base st.own.locals in
        let st1 : Along = with_locals st (slice_set st.own.locals slot v) in
        let here : slot < length st.own.locals = subst (λ k. slot < k) (sym l) lt in
        let l1 : length st1.own.locals ≡ length slots = length-set_slot st.own.locals slot v ∙ l in
        let here1 : slot < length st1.own.locals = subst (λ k. slot < k) (sym l1) lt in
        let whole = and_then (take v n (with_local st.own slot v)) (λ u n o. and_then (t n o) (λ u n o. give_back (local o slot) n o)) in
        let leave = λ (s : List Value) (n : ℕ) (held : List Name) (st : Along). op_does code caller never_enters LeaveMonitor p n s held st in
        let after_body = λ (s : List Value) (n : ℕ) (held : List Name) (st : Along). and_on (op_does code caller never_enters (Load slot) p n s held st) leave in
        let inner = λ (s : List Value) (n : ℕ) (held : List Name) (st : Along). and_on (acts code caller again' body p n s held st) after_body in
        let enter = λ (s : List Value) (n : ℕ) (held : List Name) (st : Along). and_on (op_does code caller never_enters EnterMonitor p n s held st) inner in
        let load = λ (s : List Value) (n : ℕ) (held : List Name) (st : Along). and_on (op_does code caller never_enters (Load slot) p n s held st) enter in
        let is : local st1.own slot ≡ v = set_here st.own.locals slot v here in
        let same : H2 st1.own.locals ≡ listed v held = ap (λ w. listed w (H st1.own.locals)) is ∙ ap (λ ns. listed v ns) (monitors_set os base st.own.locals slot v apart) in
        subst (λ r. MatchesAt kp H (stays s) whole st (and_on r load)) (sym (store_is code caller never_enters p n s held st slot v here))
        (subst (λ r. MatchesAt kp H (stays s) whole st (and_on r enter)) (sym (load_is code caller never_enters p n s held st1 slot here1))
        (binds kp H2 H (stays s) (stays s) (take v n st1.own) st1 _ (λ u n o. and_then (t n o) (λ u n o. give_back (local o slot) n o)) inner
        (subst (λ w. MatchesAt kp H2 (stays s) (take v n st1.own) st1 (op_does code caller never_enters EnterMonitor p n (w ∷ s) held st1)) (sym is) (take_at kp H2 code caller p n s st1 l1 v held same))
        (λ u n st l. binds kp H2 H (stays s) (stays s) (t n st.own) st _ (λ u n o. give_back (local o slot) n o) after_body (m n st l)
        (λ u n st l. subst (λ r. MatchesAt kp H (stays s) (give_back (local st.own slot) n st.own) st (and_on r leave)) (sym (load_is code caller never_enters p n s (H2 st.own.locals) st slot (subst (λ k. slot < k) (sym l) lt)))
        (give_at kp H code caller p n s st l (local st.own slot))))))

  captured_length : (o : Own) (from : List ℕ) (own ts more : List ResolvedType) → own ≡ ts ++ more → length from ≡ length ts → length (captured o from (length own)) ≡ length own
  captured_length o from own ts more same e =
      let a = length-append (map (λ x. local o x) from) (replicate (length own - length from) Nothing) in
      let b = length-replicate (length own - length from) Nothing in
      let c = length-map from (λ x. local o x) in
      let d = ap length same ∙ length-append ts more in
      omega (arith, a, b, c, d, e)

  mutual
    pub exec_same : SameStatements r (exec r call again) (acts code caller again')
    exec_same os slots ret env (let_slot x e) (t, hf, he) op is hr base p n s st l =
        binds (keep_of slots base) (monitors os base) (monitors os base) (onto s) (stays s) _ st _ _ _ (eval_same r call caller same_calls again' (keep_of slots base) (monitors os base) env is e he.0 he.1 p n s st l)
        (λ v n st l. store_at (keep_of slots base) os base x v p n s st (subst (λ k. x < k) (sym l) (slice_get_within slots x t hf.0)) (apart_new env x hf.1 os op) l)
    exec_same os slots ret env (set_local x e) (t, hx, he) op is hr base p n s st l =
        binds (keep_of slots base) (monitors os base) (monitors os base) (onto s) (stays s) _ st _ _ _ (eval_same r call caller same_calls again' (keep_of slots base) (monitors os base) env is e he.0 he.1 p n s st l)
        (λ v n st l. store_at (keep_of slots base) os base x v p n s st (subst (λ k. x < k) (sym l) (is x (a_local t) hx)) (apart_local env x t hx os op) l)
    exec_same os slots ret env (do_value e) (g, he) op is hr base p n s st l =
        binds (keep_of slots base) (monitors os base) (monitors os base) (onto s) (stays s) _ st _ _ _ (eval_same r call caller same_calls again' (keep_of slots base) (monitors os base) env is e g he p n s st l)
        (λ v n st l. record { by = λ ok. sym (pop_is code caller never_enters p n s (monitors os base st.own.locals) st v); keeps = l })
    exec_same os slots ret env (set_field e c f t v) (he, hf, hv) op is hr base p n s st l =
        let kp = keep_of slots base in
        let H = monitors os base in
        binds kp H H (onto s) (stays s) _ st _ _ _ (eval_same r call caller same_calls again' kp H env is e _ he p n s st l) (λ x n st l.
        binds kp H H (onto (x ∷ s)) (stays s) _ st _ _ _ (eval_same r call caller same_calls again' kp H env is v hv.0 hv.1 p n (x ∷ s) st l) (λ w n st l. write_field kp H code caller p n s st l x w f))
    exec_same os slots ret env (set_element e i t v) (he, hi, hv) op is hr base p n s st l =
        let kp = keep_of slots base in
        let H = monitors os base in
        binds kp H H (onto s) (stays s) _ st _ _ _ (eval_same r call caller same_calls again' kp H env is e _ he p n s st l) (λ x n st l.
        binds kp H H (onto (x ∷ s)) (stays s) _ st _ _ _ (eval_same r call caller same_calls again' kp H env is i hi.0 hi.1 p n (x ∷ s) st l) (λ y n st l.
        binds kp H H (onto (y ∷ x ∷ s)) (stays s) _ st _ _ _ (eval_same r call caller same_calls again' kp H env is v hv.0 hv.1 p n (y ∷ x ∷ s) st l) (λ w n st l. write_element kp H code caller p n s st l x y w)))
    exec_same os slots ret env (if_block e body other) (he, hb, ho) op is hr base p n s st l =
        let kp = keep_of slots base in
        let H = monitors os base in
        binds kp H H (onto s) (stays s) _ st _ _ _ (eval_same r call caller same_calls again' kp H env is e he.0 he.1 p n s st l)
        (λ v n st l. branches_same os slots ret env other ho op is hr.1 base p n v s st l (exec_block r call again os body p n st.own) (block_code os body) (block_same os slots ret env body hb op is hr.0 base p n s st l))
    exec_same os slots ret env (while_block e body) h op is hr base p n s st l =
        let kp = keep_of slots base in
        let H = monitors os base in
        binds kp H H (onto s) (stays s) _ st _ _ _ (eval_same r call caller same_calls again' kp H env is e h.0.0 h.0.1 p n s st l) (λ v n st l.
        truth_at kp H v s st _ _ _ _
        (spend_same kp H (stays s) n st _ _ (λ m. binds kp H H (stays s) (stays s) _ st _ _ (λ s n held st. again' (statement_code os (while_block e body)) p n s held st) (block_same os slots ret env body h.1 op is hr base p m s st l) (λ u n st l. agains os slots ret env (while_block e body) h op is hr base p n s st l)))
        (record { by = λ ok. refl; keeps = l }))
    exec_same os slots ret env (return_value e) h op is hr base p n s st l =
        let kp = keep_of slots base in
        let H = monitors os base in
        binds kp H H (onto s) (stays s) _ st _ _ _ (option_same slots ret base os env e h is p n s st l) (λ v n st l. returns_at kp H env os v p n s st op is l)
    exec_same os slots ret env (throw_value e) he op is hr base p n s st l =
        binds (keep_of slots base) (monitors os base) (monitors os base) (onto s) (stays s) _ st _ _ _ (eval_same r call caller same_calls again' (keep_of slots base) (monitors os base) env is e he.0 he.1 p n s st l)
        (λ v n st l. throw_at (keep_of slots base) (monitors os base) code caller p n s st l v)
    exec_same os slots ret env (sync_block x e body) (t, hf, he, ho, hb) op is hr base p n s st l =
        let kp = keep_of slots base in
        let H = monitors os base in
        let lt = slice_get_within slots x t hf.0 in
        binds kp H H (onto s) (stays s) _ st _ _ _ (eval_same r call caller same_calls again' kp H env is e _ he p n s st l) (λ v n st l.
        sync_at slots ret base os x v (block_code (x ∷ os) body) (λ n o. exec_block r call again (x ∷ os) body p n o) p n s st lt (apart_new env x hf.1 os op) l (λ n st l.
        block_same (x ∷ os) slots ret (with_use env x (a_monitor t)) body hb ((t, slot_here env x (a_monitor t)), open_new env x (a_monitor t) os hf.1 op) (inside_new (length slots) env x (a_monitor t) lt is) hr base p n s st l))
    exec_same os slots ret env (region_block number l c from own body slot handler) (ts, more, hl, hc, hfrom, same, hb, hf, hh) op is (takes, rb, rh) base p n s st size =
        let kp = keep_of slots base in
        let H = monitors os base in
        let lt = slice_get_within own slot int hf.0 in
        let first = inside_head own ts more same in
        binds kp H H (onto s) (stays s) _ st _ _ _ (eval_same r call caller same_calls again' kp H env is l hl.0 hl.1 p n s st size) (λ v n st size.
        binds kp H H (onto (v ∷ s)) (stays s) _ st _ _ _ (eval_same r call caller same_calls again' kp H env is c hc.0 hc.1 p n (v ∷ s) st size) (λ c n st size.
        let vs = map (λ x. local st.own x) from in
        let many = length-map from (λ x. local st.own x) in
        let bodyD = λ (p : At) (n : ℕ) (s : List Value) (held : List Name) (st : Along). acts code caller again' (block_code [] body) p n s held st in
        let handlerD = λ (p : At) (n : ℕ) (s : List Value) (held : List Name) (st : Along). and_on (op_does code caller never_enters (Store slot) p n s held st) (λ s n held st. acts code caller again' (block_code [] handler) p n s held st) in
        let enter = region_by (length own) bodyD handlerD in
        let whole = tree.on_region v c n st.own (λ l k. means.region l k number vs (captured st.own from (length own)) slot (λ p n o. exec_block r call again [] body p n o) (λ p n o. exec_block r call again [] handler p n o) n st.own) in
        subst (λ r. MatchesAt kp H (stays s) whole st (and_on r (λ s n held st. op_does code caller enter (EnterRegion number) p n s held st))) (sym (loads_is env from ts (length slots) p n (c ∷ v ∷ s) (H st.own.locals) st hfrom is size))
        (subst (λ d. MatchesAt kp H (stays s) whole st (did caller enter d p n (H st.own.locals) st)) (sym (region_is (around code p (H st.own.locals) st) s number v c vs (takes ∙ ap Some (sym many))))
        (place_at kp H caller (length own) slot number vs (captured st.own from (length own)) (λ p n o. exec_block r call again [] body p n o) (λ p n o. exec_block r call again [] handler p n o) bodyD handlerD
        (λ l n st size. block_same [] own in_region (locals_of ts) body hb tt first rb [] (inside l) n [] st size)
        (λ l z n st size.
        let st1 : Along = with_locals st (slice_set st.own.locals slot (Int z)) in
        subst (λ q. MatchesAt (within_unit (length own)) no_monitors (stays []) (exec_block r call again [] handler (inside l) n (with_local st.own slot (Int z))) st (and_on q (λ s n held st. acts code caller again' (block_code [] handler) (inside l) n s held st))) (sym (store_is code caller never_enters (inside l) n [] [] st slot (Int z) (subst (λ k. slot < k) (sym size) lt)))
        (block_same [] own in_region (with_use (locals_of ts) slot (a_local int)) handler hh tt (inside_new (length own) (locals_of ts) slot (a_local int) lt first) rh [] (inside l) n [] st1 (length-set_slot st.own.locals slot (Int z) ∙ size)))
        (ap (λ k. vs ++ replicate (length own - k) Nothing) (sym many))
        (captured_length st.own from own ts more same (captured_long env from ts hfrom))
        p v c n s st size))))

    pub block_same : (os : Open) (slots : List ResolvedType) (ret : Returning) (env : Scope) (b : Block) → IsBlock (heads_of r) slots ret env b → AreOpen env os → Inside (length slots) env → BlockIn (scheme r) b → (base : List Name) (p : At) (n : ℕ) (s : List Value) (st : Along) → length st.own.locals ≡ length slots → MatchesAt (keep_of slots base) (monitors os base) (stays s) (exec_block r call again os b p n st.own) st (acts code caller again' (block_code os b) p n s (monitors os base st.own.locals) st)
    block_same os slots ret env block_end h op is hr base p n s st l = record { by = λ ok. refl; keeps = l }
    block_same os slots ret env (block_more x rest) h op is hr base p n s st l =
        binds (keep_of slots base) (monitors os base) (monitors os base) (stays s) (stays s) _ st _ _ _ (exec_same os slots ret env x h.0 op is hr.0 base p n s st l)
        (λ u n st l. block_same os slots ret (after slots env x) rest h.1 (open_after (heads_of r) slots ret env x os h.0 op) (inside_after (heads_of r) slots ret env x h.0 is) hr.1 base p n s st l)

    branches_same : (os : Open) (slots : List ResolvedType) (ret : Returning) (env : Scope) (other : OtherBlock) → IsOther (heads_of r) slots ret env other → AreOpen env os → Inside (length slots) env → OtherIn (scheme r) other → (base : List Name) (p : At) (n : ℕ) (v : Value) (s : List Value) (st : Along) → length st.own.locals ≡ length slots → (t : Tree (Unit {0})) (c : Nested) → MatchesAt (keep_of slots base) (monitors os base) (stays s) t st (acts code caller again' c p n s (monitors os base st.own.locals) st) → MatchesAt (keep_of slots base) (monitors os base) (stays s) (on_truth v t (exec_other r call again os other p n st.own)) st (acts code caller again' (branches_code os c other) p n (v ∷ s) (monitors os base st.own.locals) st)
    branches_same os slots ret env no_other h op is hr base p n v s st l t c m = truth_at (keep_of slots base) (monitors os base) v s st _ _ _ _ m (record { by = λ ok. refl; keeps = l })
    branches_same os slots ret env (other_block body) h op is hr base p n v s st l t c m = truth_at (keep_of slots base) (monitors os base) v s st _ _ _ _ m (block_same os slots ret env body h op is hr base p n s st l)
