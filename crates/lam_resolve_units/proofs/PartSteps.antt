-- Parts of statements, as the code meets them.
use Rattle.std.proofs.Common.{◌≡◌, ℕ, ◌+◌, ◌<◌, Bool, true, false, List, length, Option, Some, None, IsSome, is_some, refl, sym, ap, ◌∙◌, arith}
use Rattle.std.proofs.lemmas.Bool.Decides.{nat_tests}
use Rattle.std.specs.Prelude.{nat_lt, if◌then◌else◌}
use Rattle.lam_builtins.specs.Limits.{most_regions}
use Rattle.lam_syntax.specs.Tree.{IdTree, ExprTree, VarTree, let_stmt}
use Rattle.lam_operators.specs.Words.{Word}
use Rattle.lam_resolve_tree.specs.Tree.{ResolvedType, Statement, let_slot}
use Rattle.lam_resolve_laws.specs.Resolved.{then_some, Tables, Locals, State, Value, step_as, with_local, next_slot, resolve, resolve_type, resolve_value, resolve_captures, enter_region, resolve_stmt_form, assignment, state_as, slots_of, taken_over, locals_from, types_of}
use Rattle.lam_resolve_tables.proofs.Options.{first_some, next_some, goes}
use Rattle.lam_resolve_units.specs.Seen.{Inside, entered_by}
use Rattle.lam_resolve_units.specs.Parts.{assigned_tree}

module _ (t : Tables) (ls : Locals) where
  pub value_some : (o : Option ExprTree) (e : ExprTree) → o ≡ Some e → IsSome (resolve_value t ls o) → IsSome (resolve t ls e)
  value_some o e q h = first_some (resolve t ls e) (λ v. Some (Some v.it)) (sym (ap (λ o. is_some (resolve_value t ls o)) q) ∙ h)

  pub value_done : (o : Option ExprTree) (e : ExprTree) (v : Value) → o ≡ Some e → Some v ≡ resolve t ls e → Some (Some v.it) ≡ resolve_value t ls o
  value_done o e v q h = sym (ap (resolve_value t ls) q ∙ goes (resolve t ls e) v (λ v. Some (Some v.it)) h)

  module _ (q e : ExprTree) where
    pub assign_place : IsSome (assigned_tree t ls q e) → IsSome (resolve t ls q)
    assign_place h = first_some (resolve t ls q) (λ q. then_some (resolve t ls e) (λ v. assignment q.it v.it)) h

    pub assign_value : (a : Value) → Some a ≡ resolve t ls q → IsSome (assigned_tree t ls q e) → IsSome (resolve t ls e)
    assign_value a i h = first_some (resolve t ls e) (λ v. assignment a.it v.it) (next_some (resolve t ls q) a (λ q. then_some (resolve t ls e) (λ v. assignment q.it v.it)) i h)

    pub assign_needs : (a b : Value) → Some a ≡ resolve t ls q → Some b ≡ resolve t ls e → IsSome (assigned_tree t ls q e) → IsSome (assignment a.it b.it)
    assign_needs a b i j h =
        next_some (resolve t ls e) b (λ v. assignment a.it v.it) j (next_some (resolve t ls q) a (λ q. then_some (resolve t ls e) (λ v. assignment q.it v.it)) i h)

    pub assign_done : (a b : Value) (s : Statement) → Some a ≡ resolve t ls q → Some b ≡ resolve t ls e → Some s ≡ assignment a.it b.it → Some s ≡ assigned_tree t ls q e
    assign_done a b s i j k =
        k ∙ sym (goes (resolve t ls q) a (λ q. then_some (resolve t ls e) (λ v. assignment q.it v.it)) i ∙ goes (resolve t ls e) b (λ v. assignment a.it v.it) j)

  module _ (st : State) (x : VarTree) (e : ExprTree) where
    pub let_type : IsSome (resolve_stmt_form t ls st (let_stmt x e)) → IsSome (resolve_type t.names x.ty)
    let_type h = first_some (resolve_type t.names x.ty) _ h

    pub let_value : (u : ResolvedType) → Some u ≡ resolve_type t.names x.ty → IsSome (resolve_stmt_form t ls st (let_stmt x e)) → IsSome (resolve t ls e)
    let_value u i h = first_some (resolve t ls e) _ (next_some (resolve_type t.names x.ty) u _ i h)

    pub let_done : (u : ResolvedType) (v : Value) (n : ℕ) (w : Word) (new : Locals) (last : State) → Some u ≡ resolve_type t.names x.ty → Some v ≡ resolve t ls e → n ≡ length st.slots → w ≡ x.name.word →
        new ≡ with_local ls w (length st.slots) u → last ≡ next_slot st u → Some (step_as (let_slot n v.it) new last) ≡ resolve_stmt_form t ls st (let_stmt x e)
    let_done u v n w new last i j p q r s =
        ap (λ n. Some (step_as (let_slot n v.it) new last)) p ∙ ap (λ new. Some (step_as (let_slot (length st.slots) v.it) new last)) r ∙
        ap (λ w. Some (step_as (let_slot (length st.slots) v.it) (with_local ls w (length st.slots) u) last)) q ∙
        ap (λ last. Some (step_as (let_slot (length st.slots) v.it) (with_local ls x.name.word (length st.slots) u) last)) s ∙
        sym (goes (resolve_type t.names x.ty) u _ i ∙ goes (resolve t ls e) v _ j)

-- a region that is entered is not past the limit
pub may_enter : (m : ℕ) (ls : Locals) (xs : List IdTree) → IsSome (enter_region m ls xs) → (m < most_regions) × (enter_region m ls xs ≡ resolve_captures ls xs)
may_enter m ls xs h = by (nat_lt m most_regions) refl h
  where
    by : (b : Bool) → nat_lt m most_regions ≡ b → IsSome (if b then resolve_captures ls xs else None) → (m < most_regions) × ((if b then resolve_captures ls xs else None) ≡ resolve_captures ls xs)
    by true e h = (grind (arith, nat_tests, e), refl)
    by false e h = absurd cc

pub enter_done : (o : Option Locals) (cs : Locals) (regions inner : ℕ) (slots : List ℕ) (vs : List (Word × ResolvedType)) (names : Locals) (last : State) → Some cs ≡ o → inner ≡ regions + 1 → slots ≡ slots_of cs → vs ≡ taken_over cs → names ≡ locals_from 0 vs →
    last ≡ state_as (types_of vs) inner → ◌≡◌ {A = Option Inside} (Some (record { captures = slots; names = names; state = last })) (then_some o (λ cs. Some (entered_by cs regions)))
enter_done o cs regions inner slots vs names last i a b c d e =
    ap (λ slots. Some (record { captures = slots; names = names; state = last })) b ∙
    ap (λ names. Some (record { captures = slots_of cs; names = names; state = last })) (d ∙ ap (locals_from 0) c) ∙
    ap (λ last. Some (record { captures = slots_of cs; names = locals_from 0 (taken_over cs); state = last })) (e ∙ ap (λ vs. state_as (types_of vs) inner) c ∙ ap (state_as (types_of (taken_over cs))) a) ∙
    sym (goes o cs (λ cs. Some (entered_by cs regions)) i)
