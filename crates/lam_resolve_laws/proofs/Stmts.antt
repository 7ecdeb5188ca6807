-- Each typed statement that keeps the region rules resolves, to one that is typed without names, and that reads as it
-- was; its slots and its regions are numbered by place.
use Rattle.std.proofs.Common.{◌≡◌, ℕ, suc, ◌+◌, ◌≤◌, Bool, true, false, ◌&&◌, List, [], ◌∷◌, ◌++◌, length, Option, Some, None, refl, sym, ap, ◌∙◌, subst, arith}
use Rattle.std.specs.Prelude.{slice_get, unwrap_or}
use Rattle.std.proofs.lemmas.List.{length-map, append-nil}
use Rattle.lam_syntax.specs.Tree.{IdTree, VarTree, ExprTree, expr_node, binary_expr, StmtTree, stmt_node, StmtForm, let_stmt, if_stmt, while_stmt, return_stmt, throw_stmt, sync_stmt, region_stmt, do_stmt, assign_stmt, StmtList, no_stmts, stmts, ElseTree, no_else, else_block}
use Rattle.lam_operators.specs.Words.{Word}
use Rattle.lam_syntax.specs.Unplaced.{unplaced_id, unplaced_ids, unplaced_var, unplaced_expr, unplaced_option_expr, unplaced_stmt_form, unplaced_stmts, unplaced_else}
use Rattle.lam_builtins.specs.Limits.{most_slots, most_regions}
use Rattle.lam_builtins.specs.Types.{ValueType, int, bool, label, caps, object, array, Given, a_value, given_type, exactly, any_object, suits}
use Rattle.lam_types_kinds.specs.Written.{written}
use Rattle.lam_types_kinds.specs.Tables.{Names, Decls}
use Rattle.lam_types_exprs.specs.Judgement.{IsDeclared, IsGiven}
use Rattle.region_check.specs.Endings.{ends_form, ends_stmt, both_end, ends as tree_ends}
use Rattle.region_check.specs.Stmts.{with_local as with_name_typed, is_place}
use Rattle.region_check.specs.Judgement.{region_slots, IsNew, Stands as StandsWords, Returns as ReturnsWords, AllInScope, after as names_after, IsStmt, IsElse, IsBlock as IsBlockWords}
use Rattle.region_check.specs.Breaks.{with_name}
use Rattle.region_check.specs.Legal.{Reaches, AreReached, ValueReaches, words, after as own_after, IsLegalForm, IsLegalElse, IsLegalBlock}
use Rattle.lam_resolve_tree.specs.Tree.{ResolvedType, ResolvedGiven, Expression, local_value, field_of, element_of, Statement, return_value, throw_value, do_value, set_local, set_field, set_element, Block, OtherBlock}
use Rattle.lam_resolve_tree.specs.Typing.{ResolvedSignatures, Use, a_local, a_monitor, Scope, with_use, locals_of, is_object, FitsBy, Gives, Stands, Returning, in_region, in_function, Returns, use_of, after, IsStatement, IsBlock, IsOther, ends, block_ends, other_ends}
use Rattle.lam_resolve_tree.specs.Limits.{RegionsFit, BlockFits, OtherFits}
use Rattle.lam_resolve_tree.specs.Regions.{regions_in, regions_of, regions_or, count_up}
use Rattle.lam_resolve_laws.specs.Resolved.{then_some, numbered, types_of, Tables, Locals, with_local, locals_from, Value, State, state_as, next_slot, Step, step_as, Closed, resolve_value, assignment, slots_of, taken_over, resolve_stmt_form, resolve_else, resolve_stmts}
use Rattle.lam_resolve_laws.specs.Names.{id_words, slot_words, block_words, else_words, region_words, block_region_words, else_region_words, Words, with_slots, word_at, words_at, id_as, var_named, captures_named, type_at, expr_named, value_named, stmt_as, stmt_named, block_named, other_named}
use Rattle.lam_resolve_laws.proofs.Has.{Has, done, next, from, with_is}
use Rattle.lam_resolve_laws.proofs.Counts.{block_slots}
use Rattle.lam_resolve_laws.proofs.Finding.{get_below, word_is, words_are}
use Rattle.lam_resolve_laws.proofs.SameTypes.{shape, SameGiven}
use Rattle.lam_resolve_laws.proofs.Scopes.{AreTied, InScope}
use Rattle.lam_resolve_laws.proofs.Exprs.{declared_type, type_reads, expr_is, stands_is}
use Rattle.lam_resolve_laws.proofs.Parts.{IsPart, Starts, part_left, part_right, part_head, part_tail, part_at, part_whole, starts_whole, starts_left, Grows, grows_none, grows_then, grows_slot, length_grows, starts_before, length_more, slot_taken, numbers_both}
use Rattle.lam_resolve_laws.proofs.ScopeSteps.{in_later, is_free, in_monitor, in_let, below_locals, captures_are, entered, in_captures}

-- ---- what may be returned

abbrev pub SameReturn : List (Word × Unit {0}) → Option ValueType → Option ResolvedType → Type 0
SameReturn cs None r = r ≡ None
SameReturn cs (Some t) r = (u : ResolvedType) × (numbered cs t ≡ Some u) × (r ≡ Some u)

-- nothing inside a region, else what the function's result says
abbrev pub ReturnsAs : List (Word × Unit {0}) → Bool → Option ValueType → Returning → Type 0
ReturnsAs cs true res ret = ret ≡ in_region
ReturnsAs cs false res ret = (r : Option ResolvedType) × SameReturn cs res r × (ret ≡ in_function r)

-- ---- how a block ends

abbrev pub ends_after : Bool → StmtList → Bool
ends_after before no_stmts = before
ends_after before (stmts s rest) = ends_after (ends_stmt s) rest

pub ends_more : (s : StmtTree) (rest : StmtList) → tree_ends (stmts s rest) ≡ ends_after (ends_stmt s) rest
ends_more s no_stmts = refl
ends_more s (stmts u rest) = ends_more u rest

pub ends_is : (body : StmtList) → tree_ends body ≡ ends_after false body
ends_is no_stmts = refl
ends_is (stmts s rest) = ends_more s rest

-- ---- what is said of statements and blocks

module _ (p : ResolvedSignatures) (w : Words) (rs : List (List Word)) where
  pub record IsClosed (ret : Returning) (env : Scope) (ws : List Word) (st : State) (body : StmtList) (b : Closed Block) : Type 0 where
    pub grows : Grows st b.state (block_words body) (block_region_words body)
    pub numbers : regions_of b.it ≡ count_up st.regions (length (block_region_words body))
    pub ends_so : (before : Bool) → block_ends before b.it ≡ ends_after before body
    pub fits : BlockFits b.it
    pub typed : (whole : List ResolvedType) → Starts b.state.slots whole → IsBlock p whole ret env b.it
    pub reads : (whole : List ResolvedType) → Starts b.state.slots whole → block_named rs (with_slots w ws) whole b.it ≡ unplaced_stmts body

  pub record IsClosedElse (ret : Returning) (env : Scope) (ws : List Word) (st : State) (body : ElseTree) (b : Closed OtherBlock) : Type 0 where
    pub grows : Grows st b.state (else_words body) (else_region_words body)
    pub numbers : regions_or b.it ≡ count_up st.regions (length (else_region_words body))
    pub ends_so : (before : Bool) → (before && other_ends b.it) ≡ both_end before body
    pub fits : OtherFits b.it
    pub typed : (whole : List ResolvedType) → Starts b.state.slots whole → IsOther p whole ret env b.it
    pub reads : (whole : List ResolvedType) → Starts b.state.slots whole → other_named rs (with_slots w ws) whole b.it ≡ unplaced_else body

  pub record IsStep (ret : Returning) (env : Scope) (ws : List Word) (st : State) (form : StmtForm) (s : Step) : Type 0 where
    pub grows : Grows st s.state (slot_words form) (region_words form)
    pub numbers : regions_in s.it ≡ count_up st.regions (length (region_words form))
    pub ends_so : ends s.it ≡ ends_form form
    pub fits : RegionsFit s.it
    pub typed : (whole : List ResolvedType) → Starts s.state.slots whole → IsStatement p whole ret env s.it
    pub reads : (whole : List ResolvedType) → Starts s.state.slots whole → stmt_named rs (with_slots w ws) whole s.it ≡ unplaced_stmt_form form

  -- the scope after a statement
  pub record GoesOn (cs : List (Word × Unit {0})) (i : Bool) (own : List Word) (names : Names) (env : Scope) (ws : List Word) (form : StmtForm) (s : Step) : Type 0 where
    pub env_after : Scope
    pub scope : InScope cs i (own_after own form) (names_after names form) s.locals (length s.state.slots) env_after ws
    pub is_after : (whole : List ResolvedType) → Starts s.state.slots whole → after whole env s.it ≡ env_after

-- ---- the arms

place_kept : (q : ExprTree) → is_place (unplaced_expr q) ≡ is_place q
place_kept (expr_node at (binary_expr op l r)) = refl
place_kept (expr_node at _) = refl

object_given : (cs : List (Word × Unit {0})) (g : Given) (h : ResolvedGiven) → suits any_object g ≡ true → SameGiven cs g h → (u : ResolvedType) × (h ≡ a_value u) × (is_object u ≡ true)
object_given cs (a_value (object x)) h s (u, e, k) = (u, k, ap is_object (shape cs (object x) u e).2)
object_given cs (a_value (array t)) h s (u, e, k) = (u, k, ap is_object (shape cs (array t) u e).2)
object_given cs _ h s k = absurd cc

past_locals : (ts : List ResolvedType) (n : ℕ) → length ts ≤ n → locals_of ts n ≡ None
past_locals ts n le = by (locals_of ts n) refl
  where
    by : (o : Option Use) → locals_of ts n ≡ o → locals_of ts n ≡ None
    by None e = e
    by (Some u) e = absurd (let lt = below_locals ts n u e in omega (arith, lt, le))

same_value : (t u : ResolvedType) → ◌≡◌ {A = ResolvedGiven} (a_value t) (a_value u) → t ≡ u
same_value t u e = cc

moved_fit : (p : ResolvedSignatures) (env : Scope) (t u : ResolvedType) (v : Expression) → ◌≡◌ {A = ResolvedGiven} (a_value t) (a_value u) → Stands p env (exactly t) v → Stands p env (exactly u) v
moved_fit p env t u v e h = subst (λ (z : ResolvedType). Stands p env (exactly z) v) (same_value t u e) h

module _ (d : Decls) (t : Tables) (p : ResolvedSignatures) (w : Words) (tied : AreTied d t p w.classes w.fields w.functions) (rs : List (List Word)) (few_regions : length rs ≤ most_regions) (res : Option ValueType) where
  module _ (i : Bool) (own : List Word) (names : Names) (ls : Locals) (st : State) (env : Scope) (ws : List Word) (ret : Returning) (c : InScope t.names i own names ls (length st.slots) env ws) where
    -- what is said of a statement's step
    abbrev pub Fine : StmtForm → Step → Type 0
    Fine form s = IsStep p w rs ret env ws st form s × GoesOn p w rs t.names i own names env ws form s

    -- no name comes into scope
    same_scope : (st' : State) (ws' : List Word) (rs' : List (List Word)) → Grows st st' ws' rs' → InScope t.names i own names ls (length st'.slots) env ws
    same_scope st' ws' rs' g = let n = length_grows st st' ws' rs' g in in_later t.names i own names ls (length st.slots) env ws c (length st'.slots) (omega (arith, n))

    let_is : (x : VarTree) (e : ExprTree) → IsNew x.name.word names → IsDeclared d x.ty → StandsWords d names (exactly (written x.ty)) e → Reaches i own e → IsPart ws (length st.slots) (x.name.word ∷ []) →
        Has (resolve_stmt_form t ls st (let_stmt x e)) (λ s. Fine (let_stmt x e) s)
    let_is x e new declared h r part =
        let n = length st.slots in
        let named : slice_get ws n ≡ Some x.name.word = part_head ws n x.name.word [] part in
        next (with_is (declared_type d t p w tied x.ty declared)) (λ u k. next (stands_is d t p w tied i own names ls n env ws c (exactly (written x.ty)) (exactly u) e k.1 h r) (λ v y.
        done _ (
          record {
            grows = grows_slot st (next_slot st u) u x.name.word [] [] (grows_none (next_slot st u));
            numbers = refl;
            ends_so = refl;
            fits = tt;
            typed = λ whole s. (u, (slot_taken st u whole s, is_free t.names i own names ls n env ws c), y.fits);
            reads = λ whole s.
                ap (λ (a : Word). let_stmt (var_named w.classes a (type_at whole n)) (expr_named (with_slots w ws) v.it)) (word_is ws n x.name.word named) ∙
                ap (λ o. let_stmt (var_named w.classes x.name.word (unwrap_or o int)) (expr_named (with_slots w ws) v.it)) (slot_taken st u whole s) ∙
                ap (λ a. let_stmt (record { name = unplaced_id x.name; ty = a }) (expr_named (with_slots w ws) v.it)) (type_reads d t p w tied x.ty u k.0) ∙
                ap (λ a. let_stmt (unplaced_var x) a) y.reads;
          },
          record {
            env_after = with_use env n (a_local u);
            scope =
                subst (λ m. InScope t.names i (with_name own x.name.word) (with_name_typed names x.name.word (written x.ty)) (with_local ls x.name.word n u) m (with_use env n (a_local u)) ws) (sym (length_more st.slots u))
                (in_let t.names i own names ls n env ws c x.name.word (written x.ty) u new k.1 named);
            is_after = λ whole s. ap (λ o. use_of o env n) (slot_taken st u whole s);
          },
        )))

    -- a statement without slots and regions of its own
    plain_step : (form : StmtForm) (s : Statement) → slot_words form ≡ [] → region_words form ≡ [] → own_after own form ≡ own → names_after names form ≡ names → regions_in s ≡ [] → ends s ≡ ends_form form → RegionsFit s → ((whole : List ResolvedType) → after whole env s ≡ env) →
        ((whole : List ResolvedType) → IsStatement p whole ret env s) → ((whole : List ResolvedType) → stmt_named rs (with_slots w ws) whole s ≡ unplaced_stmt_form form) → Fine form (step_as s ls st)
    plain_step form s e f own_is names_are g ends_so fits env_is typed reads = (
      record {
        grows = subst (λ (l : List Word). Grows st st l (region_words form)) (sym e) (subst (λ (l : List (List Word)). Grows st st [] l) (sym f) (grows_none st));
        numbers = g ∙ ap (λ (l : List (List Word)). count_up st.regions (length l)) (sym f);
        ends_so = ends_so;
        fits = fits;
        typed = λ whole _. typed whole;
        reads = λ whole _. reads whole;
      },
      record {
        env_after = env;
        scope =
            subst (λ (o : List Word). InScope t.names i o (names_after names form) ls (length st.slots) env ws) (sym own_is)
            (subst (λ (m : Names). InScope t.names i own m ls (length st.slots) env ws) (sym names_are) c);
        is_after = λ whole _. env_is whole;
      },
    )

    throw_is : (e : ExprTree) → StandsWords d names (exactly int) e → Reaches i own e → Has (resolve_stmt_form t ls st (throw_stmt e)) (λ s. Fine (throw_stmt e) s)
    throw_is e h r =
        next (stands_is d t p w tied i own names ls (length st.slots) env ws c (exactly int) (exactly int) e refl h r) (λ v y.
        done _ (plain_step (throw_stmt e) (throw_value v.it) refl refl refl refl refl refl tt (λ _. refl) (λ _. y.fits) (λ _. ap throw_stmt y.reads)))

    do_is : (e : ExprTree) (g : Given) → IsGiven d names e g → Reaches i own e → Has (resolve_stmt_form t ls st (do_stmt e)) (λ s. Fine (do_stmt e) s)
    do_is e g h r =
        next (expr_is d t p w tied i own names ls (length st.slots) env ws c e g h r) (λ v y.
        done _ (plain_step (do_stmt e) (do_value v.it) refl refl refl refl refl refl tt (λ _. refl) (λ _. (v.gives, y.typed)) (λ _. ap do_stmt y.reads)))

    -- the value of a return
    record IsReturned (e : Option ExprTree) (v : Option Expression) : Type 0 where
      typed : Returns p ret env v
      reads : value_named (with_slots w ws) v ≡ unplaced_option_expr e

    value_is : (e : Option ExprTree) (res : Option ValueType) (r : Option ResolvedType) → ReturnsWords d res names e → ValueReaches i own e → SameReturn t.names res r → ret ≡ in_function r → Has (resolve_value t ls e) (λ v. IsReturned e v)
    value_is None None r h reach same is = done None (record { typed = subst (λ (q : Returning). Returns p q env None) (sym (is ∙ ap in_function same)) tt; reads = refl })
    value_is (Some e) (Some ty) r h reach (u, k, same) is =
        next (stands_is d t p w tied i own names ls (length st.slots) env ws c (exactly ty) (exactly u) e k h reach) (λ v y.
        done _ (record { typed = subst (λ (q : Returning). Returns p q env (Some v.it)) (sym (is ∙ ap in_function same)) y.fits; reads = ap Some y.reads }))
    value_is None (Some ty) r h reach same is = absurd h
    value_is (Some e) None r h reach same is = absurd h

    return_is : (e : Option ExprTree) → ReturnsWords d res names e → (i ≡ false) × ValueReaches i own e → ReturnsAs t.names i res ret → Has (resolve_stmt_form t ls st (return_stmt e)) (λ s. Fine (return_stmt e) s)
    return_is e h (outside, reach) k =
        let a = subst (λ (i : Bool). ReturnsAs t.names i res ret) outside k in
        next (value_is e res a.0 h reach a.1 a.2) (λ v y. done _ (plain_step (return_stmt e) (return_value v) refl refl refl refl refl refl tt (λ _. refl) (λ _. y.typed) (λ _. ap return_stmt y.reads)))

    assigned : (q e : ExprTree) (a : Expression) (v : Value) (ty : ResolvedType) → is_place (expr_named (with_slots w ws) a) ≡ true → expr_named (with_slots w ws) a ≡ unplaced_expr q → Gives p env a (a_value ty) →
        FitsBy (exactly ty) (λ h. Gives p env v.it h) → expr_named (with_slots w ws) v.it ≡ unplaced_expr e → Has (then_some (assignment a v.it) (λ s. Some (step_as s ls st))) (λ s. Fine (assign_stmt q e) s)
    assigned q e (local_value n) v ty place reads (u, h, same) fits y =
        from _ (set_local n v.it) refl
        (done _
        (plain_step (assign_stmt q e) (set_local n v.it) refl refl refl refl refl refl tt (λ _. refl) (λ _. (u, h, moved_fit p env ty u v.it same fits))
        (λ _. ap (λ a. assign_stmt a (expr_named (with_slots w ws) v.it)) reads ∙ ap (λ a. assign_stmt (unplaced_expr q) a) y)))
    assigned q e (field_of o k f u) v ty place reads (h, field, same) fits y =
        from _ (set_field o k f u v.it) refl
        (done _
        (plain_step (assign_stmt q e) (set_field o k f u v.it) refl refl refl refl refl refl tt (λ _. refl) (λ _. (h, field, moved_fit p env ty u v.it same fits))
        (λ _. ap (λ a. assign_stmt a (expr_named (with_slots w ws) v.it)) reads ∙ ap (λ a. assign_stmt (unplaced_expr q) a) y)))
    assigned q e (element_of o j u) v ty place reads (h, index, same) fits y =
        from _ (set_element o j u v.it) refl
        (done _
        (plain_step (assign_stmt q e) (set_element o j u v.it) refl refl refl refl refl refl tt (λ _. refl) (λ _. (h, index, moved_fit p env ty u v.it same fits))
        (λ _. ap (λ a. assign_stmt a (expr_named (with_slots w ws) v.it)) reads ∙ ap (λ a. assign_stmt (unplaced_expr q) a) y)))
    assigned q e _ v ty place reads h fits y = absurd cc

    assign_is : (q e : ExprTree) (ty : ValueType) → is_place q ≡ true → IsGiven d names q (a_value ty) → StandsWords d names (exactly ty) e → Reaches i own q → Reaches i own e →
        Has (resolve_stmt_form t ls st (assign_stmt q e)) (λ s. Fine (assign_stmt q e) s)
    assign_is q e ty place g h r reach =
        next (expr_is d t p w tied i own names ls (length st.slots) env ws c q (a_value ty) g r) (λ a x.
        next (stands_is d t p w tied i own names ls (length st.slots) env ws c (exactly ty) (exactly x.same.0) e x.same.1 h reach) (λ v y.
        assigned q e a.it v x.same.0 (ap is_place x.reads ∙ place_kept q ∙ place) x.reads (subst (λ (g : ResolvedGiven). Gives p env a.it g) x.same.2 x.typed) y.fits y.reads))

    while_is : (e : ExprTree) (body : StmtList) → StandsWords d names (exactly bool) e → Reaches i own e → Has (resolve_stmts t ls st body) (λ a. IsClosed p w rs ret env ws st body a) →
        Has (resolve_stmt_form t ls st (while_stmt e body)) (λ s. Fine (while_stmt e body) s)
    while_is e body h r go =
        next (stands_is d t p w tied i own names ls (length st.slots) env ws c (exactly bool) (exactly bool) e refl h r) (λ v y. next go (λ a x.
        done _ (
          record {
            grows = x.grows;
            numbers = x.numbers;
            ends_so = refl;
            fits = x.fits;
            typed = λ whole s. (y.fits, x.typed whole s);
            reads = λ whole s. ap (λ q. while_stmt q (block_named rs (with_slots w ws) whole a.it)) y.reads ∙ ap (λ q. while_stmt (unplaced_expr e) q) (x.reads whole s);
          },
          record { env_after = env; scope = same_scope a.state (block_words body) (block_region_words body) x.grows; is_after = λ whole s. refl },
        )))

    if_is : (e : ExprTree) (first : StmtList) (other : ElseTree) → StandsWords d names (exactly bool) e → Reaches i own e → Has (resolve_stmts t ls st first) (λ a. IsClosed p w rs ret env ws st first a) →
        ((a : State) → Grows st a (block_words first) (block_region_words first) → Has (resolve_else t ls a other) (λ b. IsClosedElse p w rs ret env ws a other b)) →
        Has (resolve_stmt_form t ls st (if_stmt e first other)) (λ s. Fine (if_stmt e first other) s)
    if_is e first other h r go go_on =
        next (stands_is d t p w tied i own names ls (length st.slots) env ws c (exactly bool) (exactly bool) e refl h r) (λ v y. next go (λ a x. next (go_on a.state x.grows) (λ b z.
        let g = grows_then st a.state b.state (block_words first) (else_words other) (block_region_words first) (else_region_words other) x.grows z.grows in
        done _ (
          record {
            grows = g;
            numbers = numbers_both st.regions a.state.regions (block_region_words first) (else_region_words other) (regions_of a.it) (regions_or b.it) x.numbers z.numbers x.grows.regions_are;
            ends_so = ap (λ q. q && other_ends b.it) (x.ends_so false ∙ sym (ends_is first)) ∙ z.ends_so (tree_ends first);
            fits = (x.fits, z.fits);
            typed = λ whole s. (y.fits, x.typed whole (starts_before a.state b.state (else_words other) (else_region_words other) whole z.grows s), z.typed whole s);
            reads = λ whole s.
                ap (λ q. if_stmt q (block_named rs (with_slots w ws) whole a.it) (other_named rs (with_slots w ws) whole b.it)) y.reads ∙
                ap (λ q. if_stmt (unplaced_expr e) q (other_named rs (with_slots w ws) whole b.it)) (x.reads whole (starts_before a.state b.state (else_words other) (else_region_words other) whole z.grows s)) ∙
                ap (λ q. if_stmt (unplaced_expr e) (unplaced_stmts first) q) (z.reads whole s);
          },
          record { env_after = env; scope = same_scope b.state (block_words first ++ else_words other) (block_region_words first ++ else_region_words other) g; is_after = λ whole s. refl },
        ))))

    sync_is : (e : ExprTree) (body : StmtList) → StandsWords d names any_object e → Reaches i own e →
        ((u : ResolvedType) → Has (resolve_stmts t ls (next_slot st u) body) (λ a. IsClosed p w rs ret (with_use env (length st.slots) (a_monitor u)) ws (next_slot st u) body a)) →
        Has (resolve_stmt_form t ls st (sync_stmt e body)) (λ s. Fine (sync_stmt e body) s)
    sync_is e body (g, h, fits) r go =
        next (expr_is d t p w tied i own names ls (length st.slots) env ws c e g h r) (λ v y.
        let k = object_given t.names g v.gives fits y.same in
        from _ k.0 (ap given_type k.1)
        (next (go k.0) (λ a x.
        let grows = grows_slot st a.state k.0 [] (block_words body) (block_region_words body) x.grows in
        done _ (
          record {
            grows = grows;
            numbers = x.numbers;
            ends_so = refl;
            fits = x.fits;
            typed = λ whole s.
                (k.0, (slot_taken st k.0 whole (starts_before (next_slot st k.0) a.state (block_words body) (block_region_words body) whole x.grows s), is_free t.names i own names ls (length st.slots) env ws c), subst (λ (g : ResolvedGiven). Gives p env v.it g) k.1 y.typed, k.2, x.typed whole s);
            reads = λ whole s. ap (λ q. sync_stmt q (block_named rs (with_slots w ws) whole a.it)) y.reads ∙ ap (λ q. sync_stmt (unplaced_expr e) q) (x.reads whole s);
          },
          record { env_after = env; scope = same_scope a.state ([] ∷ block_words body) (block_region_words body) grows; is_after = λ whole s. refl },
        ))))

    -- a region: its body at the head of its unit, and its catch block after the body and the catch name
    region_is : (l k : ExprTree) (xs : List IdTree) (body : StmtList) (x : IdTree) (handler : StmtList) → StandsWords d names (exactly label) l → StandsWords d names (exactly caps) k → AllInScope names xs → IsNew x.word names →
        Reaches i own l → Reaches i own k → AreReached i own xs → region_slots xs body handler ≤ most_slots → IsPart rs st.regions (region_words (region_stmt l k xs body x handler)) →
        ((cs : Locals) → InScope t.names true (words xs) names (locals_from 0 (taken_over cs)) (length (types_of (taken_over cs))) (locals_of (types_of (taken_over cs))) (id_words xs ++ (block_words body ++ x.word ∷ block_words handler)) →
        IsPart (id_words xs ++ (block_words body ++ x.word ∷ block_words handler)) (length (types_of (taken_over cs))) (block_words body) → IsPart rs (st.regions + 1) (block_region_words body) →
        Has (resolve_stmts t (locals_from 0 (taken_over cs)) (state_as (types_of (taken_over cs)) (st.regions + 1)) body)
        (λ a. IsClosed p w rs in_region (locals_of (types_of (taken_over cs))) (id_words xs ++ (block_words body ++ x.word ∷ block_words handler)) (state_as (types_of (taken_over cs)) (st.regions + 1)) body a)) →
        ((cs : Locals) (a : State) → InScope t.names true (with_name (words xs) x.word) (with_name_typed names x.word int) (with_local (locals_from 0 (taken_over cs)) x.word (length a.slots) int) (length (next_slot a int).slots) (with_use (locals_of (types_of (taken_over cs))) (length a.slots) (a_local int)) (id_words xs ++ (block_words body ++ x.word ∷ block_words handler)) →
        IsPart (id_words xs ++ (block_words body ++ x.word ∷ block_words handler)) (length (next_slot a int).slots) (block_words handler) → IsPart rs a.regions (block_region_words handler) →
        Has (resolve_stmts t (with_local (locals_from 0 (taken_over cs)) x.word (length a.slots) int) (next_slot a int) handler)
        (λ b. IsClosed p w rs in_region (with_use (locals_of (types_of (taken_over cs))) (length a.slots) (a_local int)) (id_words xs ++ (block_words body ++ x.word ∷ block_words handler)) (next_slot a int) handler b)) →
        Has (resolve_stmt_form t ls st (region_stmt l k xs body x handler)) (λ s. Fine (region_stmt l k xs body x handler) s)
    region_is l k xs body x handler hl hk hxs new rl rk rxs few part go_body go_handler =
        let inside : List Word = id_words xs ++ (block_words body ++ x.word ∷ block_words handler) in
        let regions : List (List Word) = block_region_words body ++ block_region_words handler in
        let inside_is : words_at rs st.regions ≡ inside = words_are rs st.regions inside (part_head rs st.regions inside regions part) in
        let regions_part : IsPart rs (st.regions + 1) regions = part_tail rs st.regions inside regions part in
        next (stands_is d t p w tied i own names ls (length st.slots) env ws c (exactly label) (exactly label) l refl hl rl) (λ u y.
        next (stands_is d t p w tied i own names ls (length st.slots) env ws c (exactly caps) (exactly caps) k refl hk rk) (λ v z.
        next (entered ls xs st.regions (omega (arith, few_regions, get_below rs st.regions inside (part_head rs st.regions inside regions part))) (captures_are t.names i own names ls (length st.slots) env ws c xs hxs rxs)) (λ cs q.
        let ts : List ResolvedType = types_of (taken_over cs) in
        let count : length (id_words xs) ≡ length ts = ap length (sym q.named) ∙ length-map (taken_over cs) (λ v. v.0) ∙ sym (length-map (taken_over cs) (λ v. v.1)) in
        let first_state : State = state_as ts (st.regions + 1) in
        let own_part : IsPart inside (length ts) (block_words body ++ x.word ∷ block_words handler) =
        part_at inside (0 + length (id_words xs)) (length ts) (block_words body ++ x.word ∷ block_words handler) (omega (arith, count)) (part_right inside 0 (id_words xs) (block_words body ++ x.word ∷ block_words handler) (part_whole inside)) in
        let head_scope = in_captures t.names names env ws inside xs cs q (part_left inside 0 (id_words xs) (block_words body ++ x.word ∷ block_words handler) (part_whole inside)) in
        next (go_body cs head_scope (part_left inside (length ts) (block_words body) (x.word ∷ block_words handler) own_part) (part_left rs (st.regions + 1) (block_region_words body) (block_region_words handler) regions_part)) (λ a m.
        let n = length a.state.slots in
        let n_is : n ≡ length ts + length (block_words body) = length_grows first_state a.state (block_words body) (block_region_words body) m.grows in
        let catch_part : IsPart inside n (x.word ∷ block_words handler) = part_at inside (length ts + length (block_words body)) n (x.word ∷ block_words handler) (sym n_is) (part_right inside (length ts) (block_words body) (x.word ∷ block_words handler) own_part) in
        let catch_named : slice_get inside n ≡ Some x.word = part_head inside n x.word (block_words handler) catch_part in
        let later = in_later t.names true (words xs) names (locals_from 0 (taken_over cs)) (length ts) (locals_of ts) inside head_scope n (omega (arith, n_is)) in
        let catch_scope = in_let t.names true (words xs) names (locals_from 0 (taken_over cs)) n (locals_of ts) inside later x.word int int new refl catch_named in
        next
        (go_handler cs a.state
        (subst (λ m. InScope t.names true (with_name (words xs) x.word) (with_name_typed names x.word int) (with_local (locals_from 0 (taken_over cs)) x.word n int) m (with_use (locals_of ts) n (a_local int)) inside) (sym (length_more a.state.slots int)) catch_scope)
        (part_at inside (n + 1) (length (next_slot a.state int).slots) (block_words handler) (sym (length_more a.state.slots int)) (part_tail inside n x.word (block_words handler) catch_part))
        (part_at rs (st.regions + 1 + length (block_region_words body)) a.state.regions (block_region_words handler) (sym m.grows.regions_are) (part_right rs (st.regions + 1) (block_region_words body) (block_region_words handler) regions_part)))
        (λ b o.
        let grows = grows_then first_state a.state b.state (block_words body) (x.word ∷ block_words handler) (block_region_words body) (block_region_words handler) m.grows (grows_slot a.state b.state int x.word (block_words handler) (block_region_words handler) o.grows) in
        let own_slots : List ResolvedType = b.state.slots in
        let to_catch : Starts (next_slot a.state int).slots own_slots = starts_before (next_slot a.state int) b.state (block_words handler) (block_region_words handler) own_slots o.grows (starts_whole own_slots) in
        let to_body : Starts a.state.slots own_slots = starts_left a.state.slots (int ∷ []) own_slots to_catch in
        let own_count : length own_slots ≤ most_slots =
        omega
        (arith, few, n_is, count, length-map xs (λ (x : IdTree). x.word), length_more a.state.slots int, length_grows (next_slot a.state int) b.state (block_words handler) (block_region_words handler) o.grows, block_slots body, block_slots handler) in
        done _ (
          record {
            grows = record { more = []; slots_are = sym (append-nil st.slots); count = refl; regions_are = (let g = grows.regions_are in omega (arith, g)) };
            numbers =
                ap (λ ns. st.regions ∷ ns) (numbers_both (st.regions + 1) a.state.regions (block_region_words body) (block_region_words handler) (regions_of a.it) (regions_of b.it) m.numbers o.numbers m.grows.regions_are ∙ ap (λ f. count_up f (length regions)) one_more);
            ends_so = refl;
            fits = (own_count, m.fits, o.fits);
            typed = λ whole _.
                (ts, grows.more, y.fits, z.fits, q.captured, grows.slots_are, m.typed own_slots to_body, (slot_taken a.state int own_slots to_catch, past_locals ts n (omega (arith, n_is))), o.typed own_slots (starts_whole own_slots));
            reads = λ whole _.
                ap
                (λ (iw : List Word). region_stmt (expr_named (with_slots w ws) u.it) (expr_named (with_slots w ws) v.it) (captures_named ws (slots_of cs)) (block_named rs (with_slots w iw) own_slots a.it) (id_as (word_at iw n)) (block_named rs (with_slots w iw) own_slots b.it))
                inside_is ∙
                ap (λ e. region_stmt e (expr_named (with_slots w ws) v.it) (captures_named ws (slots_of cs)) (block_named rs (with_slots w inside) own_slots a.it) (id_as (word_at inside n)) (block_named rs (with_slots w inside) own_slots b.it)) y.reads ∙
                ap (λ e. region_stmt (unplaced_expr l) e (captures_named ws (slots_of cs)) (block_named rs (with_slots w inside) own_slots a.it) (id_as (word_at inside n)) (block_named rs (with_slots w inside) own_slots b.it)) z.reads ∙
                ap (λ e. region_stmt (unplaced_expr l) (unplaced_expr k) e (block_named rs (with_slots w inside) own_slots a.it) (id_as (word_at inside n)) (block_named rs (with_slots w inside) own_slots b.it)) q.reads ∙
                ap (λ e. region_stmt (unplaced_expr l) (unplaced_expr k) (unplaced_ids xs) e (id_as (word_at inside n)) (block_named rs (with_slots w inside) own_slots b.it)) (m.reads own_slots to_body) ∙
                ap (λ (e : Word). region_stmt (unplaced_expr l) (unplaced_expr k) (unplaced_ids xs) (unplaced_stmts body) (id_as e) (block_named rs (with_slots w inside) own_slots b.it)) (word_is inside n x.word catch_named) ∙
                ap (λ e. region_stmt (unplaced_expr l) (unplaced_expr k) (unplaced_ids xs) (unplaced_stmts body) (unplaced_id x) e) (o.reads own_slots (starts_whole own_slots));
          },
          record { env_after = env; scope = c; is_after = λ whole _. refl },
        ))))))
      where
        one_more : st.regions + 1 ≡ suc st.regions
        one_more = omega arith

  -- ---- statements and blocks

  mutual
    stmt_is : (form : StmtForm) (i : Bool) (own : List Word) (names : Names) (ls : Locals) (st : State) (env : Scope) (ws : List Word) (ret : Returning) (c : InScope t.names i own names ls (length st.slots) env ws) →
        IsPart ws (length st.slots) (slot_words form) → IsPart rs st.regions (region_words form) → ReturnsAs t.names i res ret → IsStmt d res names form → IsLegalForm i own form →
        Has (resolve_stmt_form t ls st form) (λ s. Fine i own names ls st env ws ret c form s)
    stmt_is (let_stmt x e) i own names ls st env ws ret c part rpart may (new, declared, h) r = let_is i own names ls st env ws ret c x e new declared h r part
    stmt_is (if_stmt e first other) i own names ls st env ws ret c part rpart may (h, a, b) (r, u, v) =
        if_is i own names ls st env ws ret c e first other h r
        (block_is first i own names ls st env ws ret c (part_left ws (length st.slots) (block_words first) (else_words other) part) (part_left rs st.regions (block_region_words first) (else_region_words other) rpart) may a u)
        (λ s g.
        else_is other i own names ls s env ws ret (same_scope i own names ls st env ws ret c s (block_words first) (block_region_words first) g)
        (part_at ws (length st.slots + length (block_words first)) (length s.slots) (else_words other) (sym (length_grows st s (block_words first) (block_region_words first) g)) (part_right ws (length st.slots) (block_words first) (else_words other) part))
        (part_at rs (st.regions + length (block_region_words first)) s.regions (else_region_words other) (sym g.regions_are) (part_right rs st.regions (block_region_words first) (else_region_words other) rpart)) may b v)
    stmt_is (while_stmt e body) i own names ls st env ws ret c part rpart may (h, a) (r, u) = while_is i own names ls st env ws ret c e body h r (block_is body i own names ls st env ws ret c part rpart may a u)
    stmt_is (return_stmt e) i own names ls st env ws ret c part rpart may h r = return_is i own names ls st env ws ret c e h r may
    stmt_is (throw_stmt e) i own names ls st env ws ret c part rpart may h r = throw_is i own names ls st env ws ret c e h r
    stmt_is (sync_stmt e body) i own names ls st env ws ret c part rpart may (h, a) (r, u) =
        sync_is i own names ls st env ws ret c e body h r
        (λ ty.
        block_is body i own names ls (next_slot st ty) (with_use env (length st.slots) (a_monitor ty)) ws ret
        (subst (λ n. InScope t.names i own names ls n (with_use env (length st.slots) (a_monitor ty)) ws) (sym (length_more st.slots ty)) (in_monitor t.names i own names ls (length st.slots) env ws c ty))
        (part_at ws (length st.slots + 1) (length (next_slot st ty).slots) (block_words body) (sym (length_more st.slots ty)) (part_tail ws (length st.slots) [] (block_words body) part)) rpart may a u)
    stmt_is (region_stmt l k xs body x handler) i own names ls st env ws ret c part rpart may (h, j, q, a, new, b, f) (r, u, v, g, y, z) =
        region_is i own names ls st env ws ret c l k xs body x handler h j q new r u v f rpart
        (λ cs s p q.
        block_is body true (words xs) names (locals_from 0 (taken_over cs)) (state_as (types_of (taken_over cs)) (st.regions + 1)) (locals_of (types_of (taken_over cs))) (id_words xs ++ (block_words body ++ x.word ∷ block_words handler)) in_region s p q refl a y)
        (λ cs m s p q.
        block_is handler true (with_name (words xs) x.word) (with_name_typed names x.word int) (with_local (locals_from 0 (taken_over cs)) x.word (length m.slots) int) (next_slot m int) (with_use (locals_of (types_of (taken_over cs))) (length m.slots) (a_local int)) (id_words xs ++ (block_words body ++ x.word ∷ block_words handler)) in_region s p q refl b z)
    stmt_is (do_stmt e) i own names ls st env ws ret c part rpart may (g, h) r = do_is i own names ls st env ws ret c e g h r
    stmt_is (assign_stmt q e) i own names ls st env ws ret c part rpart may (ty, place, g, h) (r, u) = assign_is i own names ls st env ws ret c q e ty place g h r u

    else_is : (other : ElseTree) (i : Bool) (own : List Word) (names : Names) (ls : Locals) (st : State) (env : Scope) (ws : List Word) (ret : Returning) (c : InScope t.names i own names ls (length st.slots) env ws) →
        IsPart ws (length st.slots) (else_words other) → IsPart rs st.regions (else_region_words other) → ReturnsAs t.names i res ret → IsElse d res names other → IsLegalElse i own other →
        Has (resolve_else t ls st other) (λ b. IsClosedElse p w rs ret env ws st other b)
    else_is no_else i own names ls st env ws ret c part rpart may h r =
        done _ (record { grows = grows_none st; numbers = refl; ends_so = λ before. none before; fits = tt; typed = λ whole s. tt; reads = λ whole s. refl })
      where
        none : (b : Bool) → (b && false) ≡ false
        none true = refl
        none false = refl
    else_is (else_block body) i own names ls st env ws ret c part rpart may h r =
        next (block_is body i own names ls st env ws ret c part rpart may h r) (λ a x.
        done _ (record { grows = x.grows; numbers = x.numbers; ends_so = λ before. ap (λ q. before && q) (x.ends_so false ∙ sym (ends_is body)); fits = x.fits; typed = x.typed; reads = λ whole s. ap else_block (x.reads whole s) }))

    pub block_is : (body : StmtList) (i : Bool) (own : List Word) (names : Names) (ls : Locals) (st : State) (env : Scope) (ws : List Word) (ret : Returning) (c : InScope t.names i own names ls (length st.slots) env ws) →
        IsPart ws (length st.slots) (block_words body) → IsPart rs st.regions (block_region_words body) → ReturnsAs t.names i res ret → IsBlockWords d res names body → IsLegalBlock i own body →
        Has (resolve_stmts t ls st body) (λ b. IsClosed p w rs ret env ws st body b)
    block_is no_stmts i own names ls st env ws ret c part rpart may h r =
        done _ (record { grows = grows_none st; numbers = refl; ends_so = λ before. refl; fits = tt; typed = λ whole s. tt; reads = λ whole s. refl })
    block_is (stmts (stmt_node at form) rest) i own names ls st env ws ret c part rpart may (h, hs) (r, rs') =
        next (stmt_is form i own names ls st env ws ret c (part_left ws (length st.slots) (slot_words form) (block_words rest) part) (part_left rs st.regions (region_words form) (block_region_words rest) rpart) may h r) (λ a x.
        let goes = x.1 in
        let g = x.0.grows in
        next
        (block_is rest i (own_after own form) (names_after names form) a.locals a.state goes.env_after ws ret goes.scope
        (part_at ws (length st.slots + length (slot_words form)) (length a.state.slots) (block_words rest) (sym (length_grows st a.state (slot_words form) (region_words form) g)) (part_right ws (length st.slots) (slot_words form) (block_words rest) part))
        (part_at rs (st.regions + length (region_words form)) a.state.regions (block_region_words rest) (sym g.regions_are) (part_right rs st.regions (region_words form) (block_region_words rest) rpart)) may hs rs')
        (λ b y.
        done _
        (record {
          grows = grows_then st a.state b.state (slot_words form) (block_words rest) (region_words form) (block_region_words rest) g y.grows;
          numbers = numbers_both st.regions a.state.regions (region_words form) (block_region_words rest) (regions_in a.it) (regions_of b.it) x.0.numbers y.numbers g.regions_are;
          ends_so = λ before. ap (λ q. block_ends q b.it) x.0.ends_so ∙ y.ends_so (ends_form form);
          fits = (x.0.fits, y.fits);
          typed = λ whole s.
              let first = starts_before a.state b.state (block_words rest) (block_region_words rest) whole y.grows s in
              (x.0.typed whole first, subst (λ (f : Scope). IsBlock p whole ret f b.it) (sym (goes.is_after whole first)) (y.typed whole s));
          reads = λ whole s.
              let first = starts_before a.state b.state (block_words rest) (block_region_words rest) whole y.grows s in
              ap (λ q. stmts (stmt_as q) (block_named rs (with_slots w ws) whole b.it)) (x.0.reads whole first) ∙ ap (λ q. stmts (stmt_as (unplaced_stmt_form form)) q) (y.reads whole s);
        })))
