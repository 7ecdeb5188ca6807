-- A region by its parts.
use Rattle.std.proofs.Common.{◌≡◌, ℕ, ◌+◌, List, length, Option, Some, None, IsSome, is_some, refl, sym, ap, ◌∙◌}
use Rattle.lam_syntax.specs.Tree.{IdTree, ExprTree, StmtList, region_stmt}
use Rattle.lam_builtins.specs.Types.{int}
use Rattle.lam_operators.specs.Words.{Word}
use Rattle.lam_resolve_tree.specs.Tree.{ResolvedType, Expression, Statement, Block, region_block}
use Rattle.lam_resolve_laws.specs.Resolved.{then_some, Tables, Locals, State, state_as, next_slot, Value, Step, step_as, Closed, with_local, locals_from, taken_over, types_of, slots_of, resolve, enter_region, resolve_stmt_form, resolve_stmts}
use Rattle.lam_resolve_tables.proofs.Options.{first_some, next_some, goes}
use Rattle.lam_resolve_units.specs.Seen.{Inside, entered_by}
use Rattle.lam_resolve_stmts.specs.Regions.{expr_of, Opening, opening_as, opening, Bodies, bodies_as, bodies_of, node_as}

-- ---- steps joined

one_bound : {A B C : Type 0} (o : Option A) (g : A → B) (k : B → Option C) → then_some (then_some o (λ a. Some (g a))) k ≡ then_some o (λ a. k (g a))
unfolding then_some
one_bound None g k = refl
one_bound (Some a) g k = refl

two_bound : {A B C D : Type 0} (o : Option A) (p : A → Option B) (g : A → B → C) (k : C → Option D) →
    then_some (then_some o (λ a. then_some (p a) (λ b. Some (g a b)))) k ≡ then_some o (λ a. then_some (p a) (λ b. k (g a b)))
unfolding then_some
two_bound None p g k = refl
two_bound (Some a) p g k = one_bound (p a) (g a) k

three_bound : {A B C D E : Type 0} (o : Option A) (p : Option B) (q : Option C) (g : A → B → C → D) (k : D → Option E) (x : A → B → C → Option E) → ((a : A) (b : B) (c : C) → k (g a b c) ≡ x a b c) →
    then_some (then_some o (λ a. then_some p (λ b. then_some q (λ c. Some (g a b c))))) k ≡ then_some o (λ a. then_some p (λ b. then_some q (λ c. x a b c)))
unfolding then_some
three_bound None p q g k x e = refl
three_bound (Some a) None q g k x e = refl
three_bound (Some a) (Some b) None g k x e = refl
three_bound (Some a) (Some b) (Some c) g k x e = e a b c

-- ---- the definition's arm, by its parts

module _ (t : Tables) (ls : Locals) (st : State) (l k : ExprTree) (xs : List IdTree) (body : StmtList) (x : IdTree) (handler : StmtList) where
  abbrev made : Opening → Bodies → Option Step
  made o b = Some (step_as (node_as o b) ls (state_as st.slots b.state.regions))

  abbrev after_opening : Opening → Option Step
  after_opening o = then_some (bodies_of t o.inside.names o.inside.state body x handler) (λ b. made o b)

  abbrev after_captures : Value → Value → Locals → Option Step
  after_captures v w cs =
      then_some (resolve_stmts t (locals_from 0 (taken_over cs)) (state_as (types_of (taken_over cs)) (st.regions + 1)) body) (λ a.
      then_some (resolve_stmts t (with_local (locals_from 0 (taken_over cs)) x.word (length a.state.slots) int) (next_slot a.state int) handler) (λ b.
      Some (step_as (region_block st.regions v.it w.it (slots_of cs) b.state.slots a.it (length a.state.slots) b.it) ls (state_as st.slots b.state.regions))))

  blocks_joined : (v w : Value) (cs : Locals) → after_opening (opening_as st.regions v.it w.it (entered_by cs st.regions)) ≡ after_captures v w cs
  blocks_joined v w cs =
      two_bound (resolve_stmts t (locals_from 0 (taken_over cs)) (state_as (types_of (taken_over cs)) (st.regions + 1)) body)
      (λ (a : Closed Block). resolve_stmts t (with_local (locals_from 0 (taken_over cs)) x.word (length a.state.slots) int) (next_slot a.state int) handler)
      (λ (a b : Closed Block). bodies_as a.it (length a.state.slots) b.it b.state)
      (λ b. made (opening_as st.regions v.it w.it (entered_by cs st.regions)) b)

  parts_joined : then_some (opening t ls st.regions l k xs) (λ o. after_opening o) ≡ resolve_stmt_form t ls st (region_stmt l k xs body x handler)
  parts_joined =
      three_bound (resolve t ls l) (resolve t ls k) (enter_region st.regions ls xs) (λ (v w : Value) (cs : Locals). opening_as st.regions v.it w.it (entered_by cs st.regions)) (λ o. after_opening o) (λ v w cs. after_captures v w cs) blocks_joined

  pub region_opens : IsSome (resolve_stmt_form t ls st (region_stmt l k xs body x handler)) → IsSome (opening t ls st.regions l k xs)
  region_opens h = first_some (opening t ls st.regions l k xs) (λ o. after_opening o) (ap is_some parts_joined ∙ h)

  pub region_goes : (o : Opening) → Some o ≡ opening t ls st.regions l k xs → IsSome (resolve_stmt_form t ls st (region_stmt l k xs body x handler)) → IsSome (bodies_of t o.inside.names o.inside.state body x handler)
  region_goes o i h = first_some (bodies_of t o.inside.names o.inside.state body x handler) (λ b. made o b) (next_some (opening t ls st.regions l k xs) o (λ o. after_opening o) i (ap is_some parts_joined ∙ h))

  pub region_done : (o : Opening) (b : Bodies) (s : Statement) (last : State) → Some o ≡ opening t ls st.regions l k xs → Some b ≡ bodies_of t o.inside.names o.inside.state body x handler → s ≡ node_as o b → last ≡ state_as st.slots b.state.regions →
      Some (step_as s ls last) ≡ resolve_stmt_form t ls st (region_stmt l k xs body x handler)
  region_done o b s last i j r q =
      ap (λ s. Some (step_as s ls last)) r ∙ ap (λ last. Some (step_as (node_as o b) ls last)) q ∙
      sym (goes (bodies_of t o.inside.names o.inside.state body x handler) b (λ b. made o b) j) ∙
      sym (goes (opening t ls st.regions l k xs) o (λ o. after_opening o) i) ∙ parts_joined

-- ---- what stands before the blocks

needs_second : {A B C : Type 0} (o : Option A) (p : Option B) (next : A → B → Option C) → IsSome (then_some o (λ a. then_some p (λ b. next a b))) → IsSome p
unfolding then_some
needs_second None p next h = absurd cc
needs_second (Some a) p next h = first_some p (λ b. next a b) h

needs_third : {A B C D : Type 0} (o : Option A) (p : Option B) (q : Option C) (next : A → B → C → Option D) → IsSome (then_some o (λ a. then_some p (λ b. then_some q (λ c. next a b c)))) → IsSome q
unfolding then_some
needs_third None p q next h = absurd cc
needs_third (Some a) p q next h = needs_second p q (λ b c. next a b c) h

built : {A B C D E F R : Type 0} (o : Option A) (p : Option B) (q : Option C) (f : A → D) (g : B → E) (k : C → F) (m : D → E → F → R) (d : D) (e : E) (x : F) → Some d ≡ then_some o (λ a. Some (f a)) → Some e ≡ then_some p (λ b. Some (g b)) →
    Some x ≡ then_some q (λ c. Some (k c)) → Some (m d e x) ≡ then_some o (λ a. then_some p (λ b. then_some q (λ c. Some (m (f a) (g b) (k c)))))
unfolding then_some
built None p q f g k m d e x i j l = absurd cc
built (Some a) None q f g k m d e x i j l = absurd cc
built (Some a) (Some b) None f g k m d e x i j l = absurd cc
built (Some a) (Some b) (Some c) f g k m d e x i j l = cc

pub expr_done : (t : Tables) (ls : Locals) (e : ExprTree) (v : Value) (a : Expression) → Some v ≡ resolve t ls e → a ≡ v.it → Some a ≡ expr_of t ls e
expr_done t ls e v a i p = ap Some p ∙ sym (goes (resolve t ls e) v (λ v. Some v.it) i)

module _ (t : Tables) (ls : Locals) (n : ℕ) (l k : ExprTree) (xs : List IdTree) where
  pub opens_label : IsSome (opening t ls n l k xs) → IsSome (resolve t ls l)
  opens_label h = first_some (resolve t ls l) (λ v. then_some (resolve t ls k) (λ w. then_some (enter_region n ls xs) (λ cs. Some (opening_as n v.it w.it (entered_by cs n))))) h

  pub opens_caps : IsSome (opening t ls n l k xs) → IsSome (resolve t ls k)
  opens_caps h = needs_second (resolve t ls l) (resolve t ls k) (λ (v w : Value). then_some (enter_region n ls xs) (λ cs. Some (opening_as n v.it w.it (entered_by cs n)))) h

  pub opens_captures : IsSome (opening t ls n l k xs) → IsSome (enter_region n ls xs)
  opens_captures h = needs_third (resolve t ls l) (resolve t ls k) (enter_region n ls xs) (λ (v w : Value) (cs : Locals). Some (opening_as n v.it w.it (entered_by cs n))) h

  pub opens_done : (i : Inside) (a b : Expression) → Some a ≡ expr_of t ls l → Some b ≡ expr_of t ls k → Some i ≡ then_some (enter_region n ls xs) (λ cs. Some (entered_by cs n)) → Some (opening_as n a b i) ≡ opening t ls n l k xs
  opens_done i a b p q r =
      built (resolve t ls l) (resolve t ls k) (enter_region n ls xs) (λ (v : Value). v.it) (λ (v : Value). v.it) (λ (cs : Locals). entered_by cs n) (λ (a b : Expression) (i : Inside). opening_as n a b i) a b i p q r

-- ---- the blocks

module _ (t : Tables) (ls : Locals) (st : State) (body : StmtList) (x : IdTree) (handler : StmtList) where
  abbrev after_body : Closed Block → Option Bodies
  after_body a = then_some (resolve_stmts t (with_local ls x.word (length a.state.slots) int) (next_slot a.state int) handler) (λ b. Some (bodies_as a.it (length a.state.slots) b.it b.state))

  pub bodies_first : IsSome (bodies_of t ls st body x handler) → IsSome (resolve_stmts t ls st body)
  bodies_first h = first_some (resolve_stmts t ls st body) (λ a. after_body a) h

  module _ (a : Closed Block) (ty : ResolvedType) (word : Word) (now names : Locals) (last : State) (ia : Some a ≡ resolve_stmts t ls st body) (ity : ty ≡ int) (iword : word ≡ x.word) (inow : now ≡ ls) (inames : names ≡ with_local now word (length a.state.slots) ty) (ilast : last ≡ next_slot a.state ty) where
    names_is : names ≡ with_local ls x.word (length a.state.slots) int
    names_is =
        inames ∙ ap (λ ty. with_local now word (length a.state.slots) ty) ity ∙ ap (λ word. with_local now word (length a.state.slots) int) iword ∙
        ap (λ now. with_local now x.word (length a.state.slots) int) inow

    handler_is : resolve_stmts t names last handler ≡ resolve_stmts t (with_local ls x.word (length a.state.slots) int) (next_slot a.state int) handler
    handler_is = ap (λ names. resolve_stmts t names last handler) names_is ∙ ap (λ last. resolve_stmts t (with_local ls x.word (length a.state.slots) int) last handler) (ilast ∙ ap (next_slot a.state) ity)

    pub bodies_handler : IsSome (bodies_of t ls st body x handler) → IsSome (resolve_stmts t names last handler)
    bodies_handler h =
        ap is_some handler_is ∙ first_some (resolve_stmts t (with_local ls x.word (length a.state.slots) int) (next_slot a.state int) handler) (λ b. Some (bodies_as a.it (length a.state.slots) b.it b.state))
        (next_some (resolve_stmts t ls st body) a (λ a. after_body a) ia h)

    pub bodies_done : (b : Closed Block) (slot : ℕ) → Some b ≡ resolve_stmts t names last handler → slot ≡ length a.state.slots → Some (bodies_as a.it slot b.it b.state) ≡ bodies_of t ls st body x handler
    bodies_done b slot ib p =
        ap (λ slot. Some (bodies_as a.it slot b.it b.state)) p ∙
        sym (goes (resolve_stmts t ls st body) a (λ a. after_body a) ia ∙
        goes (resolve_stmts t (with_local ls x.word (length a.state.slots) int) (next_slot a.state int) handler) b (λ b. Some (bodies_as a.it (length a.state.slots) b.it b.state)) (ib ∙ handler_is))
