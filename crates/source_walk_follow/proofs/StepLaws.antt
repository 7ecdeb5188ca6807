-- Steps up to where a walk stands.
use Rattle.std.proofs.Common.{◌≡◌, ℕ, ◌+◌, ◌<◌, ◌≤◌, ◌⊎◌, Bool, true, false, cond, nat_eq, rules, tests, List, [], ◌∷◌, length, refl, sym, ap, ◌∙◌, subst, inl, inr, arith}
use Rattle.std.proofs.lemmas.Bool.Decides.{nat_tests}
use denote.Bor.{Bor}
use Rattle.lam_value.specs.declared.values.Value.{Value}
use Rattle.lam_asks.specs.declared.fault.Fault.{Fault}
use Rattle.lam_resolve_tree.specs.declared.Expr.{Expr}
use Rattle.lam_resolve_tree.specs.declared.Stmt.{Stmt}
use Rattle.lam_resolve_tree.specs.Tree.{args_more, expr_tree, exprs_tree, stmt_tree, stmts_tree, ResolvedTree}
use Rattle.lam_meaning.specs.Trees.{on_end}
use Rattle.source_walk_state.specs.declared.Using.{Using}
use Rattle.source_walk_state.specs.declared.Control.{Control}
use Rattle.source_walk_state.specs.declared.Control.TheVariants as control
use Rattle.source_walk_state.specs.Meaning.{gathered, after}
use Rattle.source_walk_state.proofs.Opening.{gathers_none}
use Rattle.source_walk_parts.specs.Weights.{pending, exprs_weight, using_weight, frames_weight}
use Rattle.source_walk_parts.specs.States.{State, left_at, Goes, IsLess}
use Rattle.source_walk_open.specs.Opens.{OpensExpr, OpensArgs, OpensStmt, OpensBlock}
use Rattle.source_walk_go.specs.Uses.{Uses}
use Rattle.source_walk_follow.specs.Standing.{stands}

module _ (r : ResolvedTree) (s : State) (d : Control) (t : State) (depth : ℕ) where
  pub eval_goes : (e : Bor Expr) → OpensExpr depth (expr_tree e.now) s d t → Goes r (control.Eval depth e) s d t
  unfolding left_at
  eval_goes e h = record { left = h.left r; less = inr (h.units, h.less) }

  pub exec_goes : (e : Bor Stmt) → OpensStmt depth (stmt_tree e.now) s d t → Goes r (control.Exec depth e) s d t
  unfolding left_at
  exec_goes e h = record { left = h.left r; less = inr (h.units, h.less) }

  pub block_goes : (rest : Bor (List Stmt)) → OpensBlock depth (stmts_tree rest.now) s d t → Goes r (control.Block depth rest) s d t
  unfolding left_at
  block_goes rest h = record { left = h.left r; less = inr (h.units, h.less) }

  pub args_go : (rest : Bor (List Expr)) (first : Expr) (others : List Expr) (vs : List Value) (u : Using) → rest.now ≡ first ∷ others → OpensArgs depth (args_more (expr_tree first) (exprs_tree others)) vs u s d t → Goes r (control.Gather depth rest vs u) s d t
  unfolding left_at
  args_go rest first others vs u e h =
      let o : OpensArgs depth (exprs_tree rest.now) vs u s d t = subst (λ x. OpensArgs depth (exprs_tree x) vs u s d t) (sym e) h in
      record { left = o.left r; less = inr (o.units, o.less) }

  abbrev Used : List Value → Using → List Expr → Type 0
  Used vs u x =
      (left_at r d t ≡ on_end (gathered r depth (exprs_tree x) vs u s.place s.units s.own) (after r s.frames s.place)) × IsLess t.units (pending d t.frames) s.units (exprs_weight (exprs_tree x) + using_weight u + 2 + frames_weight s.frames)

  as_less : (n m k l j : ℕ) → j ≡ l → IsLess n m k l → IsLess n m k j
  as_less n m k l j e (inl h) = inl h
  as_less n m k l j e (inr h) = inr (h.0, omega (arith, e, h.1))

  none_used : (vs : List Value) (u : Using) → Uses r depth u vs s d t → Used vs u []
  none_used vs u h =
      (h.left ∙ ap (λ x. on_end x (after r s.frames s.place)) (sym (gathers_none r depth u s.place vs s.units s.own)), as_less t.units (pending d t.frames) s.units (using_weight u + 2 + frames_weight s.frames) (0 + using_weight u + 2 + frames_weight s.frames) (omega arith) h.less)

  pub uses_go : (rest : Bor (List Expr)) (vs : List Value) (u : Using) → rest.now ≡ [] → Uses r depth u vs s d t → Goes r (control.Gather depth rest vs u) s d t
  unfolding left_at
  uses_go rest vs u e h = let o : Used vs u rest.now = subst (λ x. Used vs u x) (sym e) (none_used vs u h) in record { left = o.0; less = o.1 }

-- no arguments
pub no_exprs : (xs : List Expr) → length xs ≡ 0 → xs ≡ []
no_exprs [] h = refl
no_exprs (x ∷ xs) h = absurd (omega (arith, h))

-- by what the control is
pub goes_of : (r : ResolvedTree) (s : State) (d : Control) (t : State) (c b : Control) → c ≡ b → Goes r b s d t → Goes r c s d t
goes_of r s d t c b e h = subst (λ x. Goes r x s d t) (sym e) h

-- ---- where a walk stands

module _ (r : ResolvedTree) where
  -- a control that is none of these stands
  pub must_stand : (c : Control) → ((d : ℕ) (e : Bor Expr) → c ≡ control.Eval d e → ⊥) → ((d : ℕ) (rest : Bor (List Expr)) (vs : List Value) (u : Using) → c ≡ control.Gather d rest vs u → ⊥) → ((d : ℕ) (e : Bor Stmt) → c ≡ control.Exec d e → ⊥) → ((d : ℕ) (rest : Bor (List Stmt)) → c ≡ control.Block d rest → ⊥) →
      ((v : Value) → c ≡ control.Give v → ⊥) → ((f : Fault) → c ≡ control.Raise f → ⊥) → ((v : Value) → c ≡ control.Leave v → ⊥) → stands c ≡ true
  must_stand (control.Eval d e) a b f g h i j = absurd (a d e refl)
  must_stand (control.Gather d rest vs u) a b f g h i j = absurd (b d rest vs u refl)
  must_stand (control.Exec d e) a b f g h i j = absurd (f d e refl)
  must_stand (control.Block d rest) a b f g h i j = absurd (g d rest refl)
  must_stand (control.Give v) a b f g h i j = absurd (h v refl)
  must_stand (control.Raise x) a b f g h i j = absurd (i x refl)
  must_stand (control.Leave v) a b f g h i j = absurd (j v refl)
  must_stand c a b f g h i j = refl

-- ---- what falls while no unit is taken

abbrev pub level : ℕ → ℕ → ℕ → ℕ
level n units m = cond (nat_eq n units) (m + 1) 0

level_same : (n m : ℕ) → level n n m ≡ m + 1
level_same n m = let e : nat_eq n n ≡ true = search (rules, tests) in rw e refl

level_less : (n u m : ℕ) → n < u → level n u m ≡ 0
level_less n u m h = let e : nat_eq n u ≡ false = grind (arith, nat_tests) in rw e refl

pub level_falls : (n m k l u : ℕ) → k ≡ u → IsLess n m k l → level n u m < level k u l
level_falls n m k l u e (inl h) = rw e (omega (arith, level_less n u m (omega (arith, h, e)), level_same u l))
level_falls n m k l u e (inr h) = subst (λ x. level n x m < level k x l) e (omega (arith, ap (λ x. level x k m) h.0, level_same k m, level_same k l, h.1))

pub units_least : (n m k l u : ℕ) → k ≡ u → IsLess n m k l → n ≤ u
units_least n m k l u e (inl h) = omega (arith, h, e)
units_least n m k l u e (inr h) = omega (arith, h.0, e)

pub settle_falls : (b a : Bool) (n m : ℕ) → a ≡ false → (b ≡ true) ⊎ (n < m) → cond b 0 (n + 1) < cond a 0 (m + 1)
settle_falls true a n m e h = rw e (omega arith)
settle_falls false a n m e (inl h) = absurd cc
settle_falls false a n m e (inr h) = rw e (omega (arith, h))
