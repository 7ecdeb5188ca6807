-- Statements, form by form.
use Rattle.std.proofs.Common.{◌≡◌, ℕ, ◌+◌, ◌<◌, arith, List, length, Option, Some, None, IsSome, is_some, refl, sym, ap, ◌∙◌}
use Rattle.lam_syntax.specs.Tree.{IdTree, ExprTree, StmtForm, StmtList, ElseTree, if_stmt, while_stmt, return_stmt, throw_stmt, sync_stmt, region_stmt, do_stmt, assign_stmt, else_block}
use Rattle.lam_builtins.specs.Types.{given_type}
use Rattle.lam_resolve_tree.specs.Tree.{ResolvedType, Expression, Statement, Block, OtherBlock, if_block, while_block, return_value, throw_value, sync_block, do_value, other_block}
use Rattle.lam_resolve_laws.specs.Resolved.{then_some, Tables, Locals, State, next_slot, Value, step_as, Closed, closed_as, resolve, resolve_value, resolve_stmt_form, resolve_else, resolve_stmts, assignment}
use Rattle.lam_resolve_tables.proofs.Options.{first_some, next_some, goes}
use Rattle.lam_resolve_units.specs.Parts.{assigned_tree}
use Rattle.lam_resolve_stmts.proofs.Sizes.{form_size, else_size, stmts_size}

two_steps : {A B C D : Type 0} (o : Option A) (p : Option B) (f : A → B → Option C) (g : C → Option D) → then_some (then_some o (λ a. then_some p (f a))) g ≡ then_some o (λ a. then_some p (λ b. then_some (f a b) g))
unfolding then_some
two_steps None p f g = refl
two_steps (Some a) None f g = refl
two_steps (Some a) (Some b) f g = refl

module _ (t : Tables) (ls : Locals) (st : State) (k : StmtForm) where
  at_form : (form : StmtForm) → k ≡ form → IsSome (resolve_stmt_form t ls st k) → IsSome (resolve_stmt_form t ls st form)
  at_form form e h = sym (ap (λ k. is_some (resolve_stmt_form t ls st k)) e) ∙ h

  pub form_enter : (form : StmtForm) → k ≡ form → IsSome (resolve_stmt_form t ls st k) → (form_size form < 1 + form_size k) × IsSome (resolve_stmt_form t ls st form)
  form_enter form e h = (omega (arith, ap form_size e), at_form form e h)

  module _ (e : ExprTree) (first : StmtList) (other : ElseTree) (q : k ≡ if_stmt e first other) where
    pub if_test : IsSome (resolve_stmt_form t ls st k) → IsSome (resolve t ls e)
    if_test h = first_some (resolve t ls e) _ (at_form (if_stmt e first other) q h)

    if_rest : (v : Value) → Some v ≡ resolve t ls e → IsSome (resolve_stmt_form t ls st k) → IsSome (then_some (resolve_stmts t ls st first) (λ a. then_some (resolve_else t ls a.state other) (λ b. Some (step_as (if_block v.it a.it b.it) ls b.state))))
    if_rest v i h =
        next_some (resolve t ls e) v (λ v. then_some (resolve_stmts t ls st first) (λ a. then_some (resolve_else t ls a.state other) (λ b. Some (step_as (if_block v.it a.it b.it) ls b.state)))) i (at_form (if_stmt e first other) q h)

    pub if_first : (v : Value) → Some v ≡ resolve t ls e → IsSome (resolve_stmt_form t ls st k) → (1 + stmts_size first < form_size k) × IsSome (resolve_stmts t ls st first)
    if_first v i h = (omega (arith, ap form_size q), first_some (resolve_stmts t ls st first) (λ a. then_some (resolve_else t ls a.state other) (λ b. Some (step_as (if_block v.it a.it b.it) ls b.state))) (if_rest v i h))

    pub if_other : (v : Value) (a : Closed Block) (new : Locals) → Some v ≡ resolve t ls e → Some a ≡ resolve_stmts t ls st first → new ≡ ls → IsSome (resolve_stmt_form t ls st k) → (else_size other < form_size k) × IsSome (resolve_else t new a.state other)
    if_other v a new i j n h = (
      omega (arith, ap form_size q),
      ap (λ ls. is_some (resolve_else t ls a.state other)) n ∙ first_some (resolve_else t ls a.state other) (λ b. Some (step_as (if_block v.it a.it b.it) ls b.state))
          (next_some (resolve_stmts t ls st first) a (λ a. then_some (resolve_else t ls a.state other) (λ b. Some (step_as (if_block v.it a.it b.it) ls b.state))) j (if_rest v i h)),
    )

    pub if_done : (v : Value) (a : Closed Block) (b : Closed OtherBlock) (new last : Locals) (s : Statement) → Some v ≡ resolve t ls e → Some a ≡ resolve_stmts t ls st first → new ≡ ls → Some b ≡ resolve_else t new a.state other → last ≡ new → s ≡ if_block v.it a.it b.it →
        Some (step_as s last b.state) ≡ resolve_stmt_form t ls st k
    if_done v a b new last s i j n m p r =
        ap (λ s. Some (step_as s last b.state)) r ∙ ap (λ ls. Some (step_as (if_block v.it a.it b.it) ls b.state)) (p ∙ n) ∙
        sym (ap (resolve_stmt_form t ls st) q ∙
        goes (resolve t ls e) v (λ v. then_some (resolve_stmts t ls st first) (λ a. then_some (resolve_else t ls a.state other) (λ b. Some (step_as (if_block v.it a.it b.it) ls b.state)))) i ∙
        goes (resolve_stmts t ls st first) a (λ a. then_some (resolve_else t ls a.state other) (λ b. Some (step_as (if_block v.it a.it b.it) ls b.state))) j ∙
        goes (resolve_else t ls a.state other) b (λ b. Some (step_as (if_block v.it a.it b.it) ls b.state)) (m ∙ ap (λ ls. resolve_else t ls a.state other) n))

  module _ (e : ExprTree) (body : StmtList) (q : k ≡ while_stmt e body) where
    pub while_test : IsSome (resolve_stmt_form t ls st k) → IsSome (resolve t ls e)
    while_test h = first_some (resolve t ls e) _ (at_form (while_stmt e body) q h)

    pub while_body : (v : Value) → Some v ≡ resolve t ls e → IsSome (resolve_stmt_form t ls st k) → (1 + stmts_size body < form_size k) × IsSome (resolve_stmts t ls st body)
    while_body v i h = (
      omega (arith, ap form_size q),
      first_some (resolve_stmts t ls st body) (λ a. Some (step_as (while_block v.it a.it) ls a.state))
          (next_some (resolve t ls e) v (λ v. then_some (resolve_stmts t ls st body) (λ a. Some (step_as (while_block v.it a.it) ls a.state))) i (at_form (while_stmt e body) q h)),
    )

    pub while_done : (v : Value) (a : Closed Block) (last : Locals) (s : Statement) → Some v ≡ resolve t ls e → Some a ≡ resolve_stmts t ls st body → last ≡ ls → s ≡ while_block v.it a.it → Some (step_as s last a.state) ≡ resolve_stmt_form t ls st k
    while_done v a last s i j p r =
        ap (λ s. Some (step_as s last a.state)) r ∙ ap (λ ls. Some (step_as (while_block v.it a.it) ls a.state)) p ∙
        sym (ap (resolve_stmt_form t ls st) q ∙ goes (resolve t ls e) v (λ v. then_some (resolve_stmts t ls st body) (λ a. Some (step_as (while_block v.it a.it) ls a.state))) i ∙
        goes (resolve_stmts t ls st body) a (λ a. Some (step_as (while_block v.it a.it) ls a.state)) j)

  pub return_needs : (e : Option ExprTree) → k ≡ return_stmt e → IsSome (resolve_stmt_form t ls st k) → IsSome (resolve_value t ls e)
  return_needs e q h = first_some (resolve_value t ls e) _ (at_form (return_stmt e) q h)

  pub return_done : (e : Option ExprTree) (v : Option Expression) → k ≡ return_stmt e → Some v ≡ resolve_value t ls e → Some (step_as (return_value v) ls st) ≡ resolve_stmt_form t ls st k
  return_done e v q i = sym (ap (resolve_stmt_form t ls st) q ∙ goes (resolve_value t ls e) v (λ v. Some (step_as (return_value v) ls st)) i)

  pub throw_needs : (e : ExprTree) → k ≡ throw_stmt e → IsSome (resolve_stmt_form t ls st k) → IsSome (resolve t ls e)
  throw_needs e q h = first_some (resolve t ls e) _ (at_form (throw_stmt e) q h)

  pub throw_done : (e : ExprTree) (v : Value) → k ≡ throw_stmt e → Some v ≡ resolve t ls e → Some (step_as (throw_value v.it) ls st) ≡ resolve_stmt_form t ls st k
  throw_done e v q i = sym (ap (resolve_stmt_form t ls st) q ∙ goes (resolve t ls e) v (λ v. Some (step_as (throw_value v.it) ls st)) i)

  pub do_needs : (e : ExprTree) → k ≡ do_stmt e → IsSome (resolve_stmt_form t ls st k) → IsSome (resolve t ls e)
  do_needs e q h = first_some (resolve t ls e) _ (at_form (do_stmt e) q h)

  pub do_done : (e : ExprTree) (v : Value) → k ≡ do_stmt e → Some v ≡ resolve t ls e → Some (step_as (do_value v.it) ls st) ≡ resolve_stmt_form t ls st k
  do_done e v q i = sym (ap (resolve_stmt_form t ls st) q ∙ goes (resolve t ls e) v (λ v. Some (step_as (do_value v.it) ls st)) i)

  module _ (e : ExprTree) (body : StmtList) (q : k ≡ sync_stmt e body) where
    pub sync_thing : IsSome (resolve_stmt_form t ls st k) → IsSome (resolve t ls e)
    sync_thing h = first_some (resolve t ls e) _ (at_form (sync_stmt e body) q h)

    sync_rest : (v : Value) → Some v ≡ resolve t ls e → IsSome (resolve_stmt_form t ls st k) → IsSome (then_some (given_type v.gives) (λ u. then_some (resolve_stmts t ls (next_slot st u) body) (λ a. Some (step_as (sync_block (length st.slots) v.it a.it) ls a.state))))
    sync_rest v i h =
        next_some (resolve t ls e) v (λ v. then_some (given_type v.gives) (λ u. then_some (resolve_stmts t ls (next_slot st u) body) (λ a. Some (step_as (sync_block (length st.slots) v.it a.it) ls a.state)))) i (at_form (sync_stmt e body) q h)

    pub sync_type : (v : Value) → Some v ≡ resolve t ls e → IsSome (resolve_stmt_form t ls st k) → IsSome (given_type v.gives)
    sync_type v i h = first_some (given_type v.gives) (λ u. then_some (resolve_stmts t ls (next_slot st u) body) (λ a. Some (step_as (sync_block (length st.slots) v.it a.it) ls a.state))) (sync_rest v i h)

    pub sync_body : (v : Value) (u : ResolvedType) (now : State) → Some v ≡ resolve t ls e → Some u ≡ given_type v.gives → now ≡ next_slot st u → IsSome (resolve_stmt_form t ls st k) → (1 + stmts_size body < form_size k) × IsSome (resolve_stmts t ls now body)
    sync_body v u now i j n h = (
      omega (arith, ap form_size q),
      ap (λ st. is_some (resolve_stmts t ls st body)) n ∙ first_some (resolve_stmts t ls (next_slot st u) body) (λ a. Some (step_as (sync_block (length st.slots) v.it a.it) ls a.state))
          (next_some (given_type v.gives) u (λ u. then_some (resolve_stmts t ls (next_slot st u) body) (λ a. Some (step_as (sync_block (length st.slots) v.it a.it) ls a.state))) j (sync_rest v i h)),
    )

    pub sync_done : (v : Value) (u : ResolvedType) (now : State) (a : Closed Block) (n : ℕ) (last : Locals) (s : Statement) → Some v ≡ resolve t ls e → Some u ≡ given_type v.gives → now ≡ next_slot st u → Some a ≡ resolve_stmts t ls now body → n ≡ length st.slots →
        last ≡ ls → s ≡ sync_block n v.it a.it → Some (step_as s last a.state) ≡ resolve_stmt_form t ls st k
    sync_done v u now a n last s i j m p o l r =
        ap (λ s. Some (step_as s last a.state)) r ∙ ap (λ n. Some (step_as (sync_block n v.it a.it) last a.state)) o ∙ ap (λ ls. Some (step_as (sync_block (length st.slots) v.it a.it) ls a.state)) l ∙
        sym (ap (resolve_stmt_form t ls st) q ∙
        goes (resolve t ls e) v (λ v. then_some (given_type v.gives) (λ u. then_some (resolve_stmts t ls (next_slot st u) body) (λ a. Some (step_as (sync_block (length st.slots) v.it a.it) ls a.state)))) i ∙
        goes (given_type v.gives) u (λ u. then_some (resolve_stmts t ls (next_slot st u) body) (λ a. Some (step_as (sync_block (length st.slots) v.it a.it) ls a.state))) j ∙
        goes (resolve_stmts t ls (next_slot st u) body) a (λ a. Some (step_as (sync_block (length st.slots) v.it a.it) ls a.state)) (p ∙ ap (λ st. resolve_stmts t ls st body) m))

  module _ (p e : ExprTree) (q : k ≡ assign_stmt p e) where
    assign_chain : then_some (assigned_tree t ls p e) (λ s. Some (step_as s ls st)) ≡ resolve_stmt_form t ls st (assign_stmt p e)
    assign_chain = two_steps (resolve t ls p) (resolve t ls e) (λ q v. assignment q.it v.it) (λ s. Some (step_as s ls st))

    pub assign_needs : IsSome (resolve_stmt_form t ls st k) → IsSome (assigned_tree t ls p e)
    assign_needs h = first_some (assigned_tree t ls p e) (λ s. Some (step_as s ls st)) (ap is_some assign_chain ∙ at_form (assign_stmt p e) q h)

    pub assign_done : (s : Statement) → Some s ≡ assigned_tree t ls p e → Some (step_as s ls st) ≡ resolve_stmt_form t ls st k
    assign_done s i = sym (ap (resolve_stmt_form t ls st) q ∙ sym assign_chain ∙ goes (assigned_tree t ls p e) s (λ s. Some (step_as s ls st)) i)

  pub region_enter : (l m : ExprTree) (xs : List IdTree) (body : StmtList) (x : IdTree) (handler : StmtList) → k ≡ region_stmt l m xs body x handler → IsSome (resolve_stmt_form t ls st k) →
      (3 + stmts_size body + stmts_size handler < 1 + form_size k) × IsSome (resolve_stmt_form t ls st (region_stmt l m xs body x handler))
  region_enter l m xs body x handler q h = (omega (arith, ap form_size q), at_form (region_stmt l m xs body x handler) q h)

-- what else there is
module _ (t : Tables) (ls : Locals) (st : State) (o : ElseTree) (body : StmtList) (q : o ≡ else_block body) where
  pub else_needs : IsSome (resolve_else t ls st o) → (1 + stmts_size body < else_size o) × IsSome (resolve_stmts t ls st body)
  else_needs h =
      (omega (arith, ap else_size q), first_some (resolve_stmts t ls st body) (λ a. Some (closed_as (other_block a.it) a.state)) (sym (ap (λ o. is_some (resolve_else t ls st o)) q) ∙ h))

  pub else_done : (a : Closed Block) → Some a ≡ resolve_stmts t ls st body → Some (closed_as (other_block a.it) a.state) ≡ resolve_else t ls st o
  else_done a i = sym (ap (resolve_else t ls st) q ∙ goes (resolve_stmts t ls st body) a (λ a. Some (closed_as (other_block a.it) a.state)) i)
