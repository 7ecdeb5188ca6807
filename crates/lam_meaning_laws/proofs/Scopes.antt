-- Slots in scope: they are among the locals, and those of open `sync`s are not set.
use Rattle.std.proofs.Common.{◌≡◌, ℕ, suc, ◌<◌, Bool, true, false, List, [], ◌∷◌, ◌++◌, length, Option, Some, None, refl, sym, ap, ◌∙◌, subst, arith, length-append}
use Rattle.std.proofs.lemmas.Bool.{eqb-true}
use Rattle.std.proofs.lemmas.Option.{slice_get_within, same_Some}
use Rattle.std.specs.Prelude.{if◌then◌else◌, nat_eq, slice_get}
use Rattle.lam_resolve_tree.specs.Tree.{ResolvedType, Statement, let_slot}
use Rattle.lam_resolve_tree.specs.Typing.{ResolvedSignatures, Use, a_local, a_monitor, Scope, with_use, local_if, locals_of, use_of, after, AreCaptured, Returning, IsStatement}
use Rattle.lam_meaning_typed.proofs.Locals.{within_new}
use Rattle.lam_meaning_laws.proofs.Lists.{AllApart}
use Rattle.lam_meaning_laws.proofs.Expressions.{Inside}

-- the slots of the open `sync`s are in scope for their monitors
abbrev pub AreOpen : Scope → List ℕ → Type 0
AreOpen env [] = Unit {0}
AreOpen env (x ∷ os) = ((t : ResolvedType) × (env x ≡ Some (a_monitor t))) × AreOpen env os

-- ---- a slot of another use is none of theirs

apart_one : (env : Scope) (x y : ℕ) (t : ResolvedType) (u : Option Use) → env x ≡ u → ((t : ResolvedType) → u ≡ Some (a_monitor t) → ⊥) → env y ≡ Some (a_monitor t) → nat_eq y x ≡ false
apart_one env x y t u e not open_one = go (nat_eq y x) refl
  where
    go : (b : Bool) → nat_eq y x ≡ b → b ≡ false
    go false k = refl
    go true k = absurd (not t (sym e ∙ ap env (sym (eqb-true y x k)) ∙ open_one))

apart_all : (env : Scope) (x : ℕ) (u : Option Use) → env x ≡ u → ((t : ResolvedType) → u ≡ Some (a_monitor t) → ⊥) → (os : List ℕ) → AreOpen env os → AllApart x os
apart_all env x u e not [] h = tt
apart_all env x u e not (y ∷ os) h = (apart_one env x y h.0.0 u e not h.0.1, apart_all env x u e not os h.1)

pub apart_new : (env : Scope) (x : ℕ) → env x ≡ None → (os : List ℕ) → AreOpen env os → AllApart x os
apart_new env x e os h = apart_all env x None e (λ t k. cc) os h

pub apart_local : (env : Scope) (x : ℕ) (t : ResolvedType) → env x ≡ Some (a_local t) → (os : List ℕ) → AreOpen env os → AllApart x os
apart_local env x t e os h = apart_all env x (Some (a_local t)) e (λ u k. let z : a_local t ≡ a_monitor u = same_Some (a_local t) (a_monitor u) k in cc) os h

-- ---- scopes that grow

pub open_new : (env : Scope) (x : ℕ) (t : Use) (os : List ℕ) → env x ≡ None → AreOpen env os → AreOpen (with_use env x t) os
open_new env x t [] none h = tt
open_new env x t (y ∷ os) none h = ((h.0.0, within_new env x t none y (a_monitor h.0.0) h.0.1), open_new env x t os none h.1)

pub inside_new : (size : ℕ) (env : Scope) (x : ℕ) (t : Use) → x < size → Inside size env → Inside size (with_use env x t)
inside_new size env x t lt h y u e = go (nat_eq y x) refl e
  where
    go : (b : Bool) → nat_eq y x ≡ b → (if b then Some t else env y) ≡ Some u → y < size
    go true k e = subst (λ z. z < size) (sym (eqb-true y x k)) lt
    go false k e = h y u e

pub inside_head : (slots ts more : List ResolvedType) → slots ≡ ts ++ more → Inside (length slots) (locals_of ts)
inside_head slots ts more same x u e = go (slice_get ts x) refl e
  where
    go : (m : Option ResolvedType) → slice_get ts x ≡ m → local_if m ≡ Some u → x < length slots
    go None k e = absurd cc
    go (Some t) k e = let a = slice_get_within ts x t k in let b = ap length same ∙ length-append ts more in omega (arith, a, b)

pub captured_long : (env : Scope) (from : List ℕ) (ts : List ResolvedType) → AreCaptured env from ts → length from ≡ length ts
captured_long env [] [] h = refl
captured_long env [] (t ∷ ts) h = absurd h
captured_long env (x ∷ from) [] h = absurd h
captured_long env (x ∷ from) (t ∷ ts) h = ap suc (captured_long env from ts h.1)

-- after a statement
pub open_after : (p : ResolvedSignatures) (slots : List ResolvedType) (ret : Returning) (env : Scope) (s : Statement) (os : List ℕ) → IsStatement p slots ret env s → AreOpen env os → AreOpen (after slots env s) os
open_after p slots ret env (let_slot x e) os h op = subst (λ m. AreOpen (use_of m env x) os) (sym h.1.0) (open_new env x (a_local h.0) os h.1.1 op)
open_after p slots ret env s os h op = op

pub inside_after : (p : ResolvedSignatures) (slots : List ResolvedType) (ret : Returning) (env : Scope) (s : Statement) → IsStatement p slots ret env s → Inside (length slots) env → Inside (length slots) (after slots env s)
inside_after p slots ret env (let_slot x e) h is = subst (λ m. Inside (length slots) (use_of m env x)) (sym h.1.0) (inside_new (length slots) env x (a_local h.0) (slice_get_within slots x h.0 h.1.0) is)
inside_after p slots ret env s h is = is
