-- The forms of expressions.
use Rattle.std.proofs.Common.{Result, IfOk, ◌≡◌, ℕ, ℤ, Bool, ◌+◌, ◌<◌, List, [], ◌∷◌, Option, refl, sym, ap, subst, arith}
use denote.Bor.{Bor}
use Rattle.lam_operators.specs.declared.BinaryOp.{BinaryOp}
use Rattle.lam_operators.specs.declared.UnaryOp.{UnaryOp}
use Rattle.lam_builtins.specs.declared.Builtin.{Builtin}
use Rattle.lam_value.specs.declared.values.Value.{Value}
use Rattle.lam_value.specs.declared.values.Value.TheVariants as value
use Rattle.lam_value.specs.declared.shapes.Kind.{Kind}
use Rattle.lam_resolve_tree.specs.declared.Expr.{Expr}
use Rattle.lam_resolve_tree.specs.Tree.{ResolvedType, Expression, number_value, text_value, bool_value, null_value, local_value, unary_of, binary_of, field_of, element_of, call_of, builtin_of, new_object, new_array, label_of, spawn_of, args_more, expr_tree, exprs_tree, ResolvedTree}
use Rattle.lam_meaning.specs.Trees.{on_end, local}
use Rattle.lam_meaning.specs.Means.{sort_of, kind_of, result_sort}
use Rattle.source_walk_state.specs.declared.Sort.{Sort as Written}
use Rattle.source_walk_state.specs.declared.Using.{Using}
use Rattle.source_walk_state.specs.declared.Using.TheVariants as using
use Rattle.source_walk_state.specs.declared.BeforeExpr.TheVariants as expr
use Rattle.source_walk_state.specs.declared.Frame.{Frame}
use Rattle.source_walk_state.specs.declared.Frame.TheVariants as frame
use Rattle.source_walk_state.specs.declared.Control.{Control}
use Rattle.source_walk_state.specs.declared.Control.TheVariants as control
use Rattle.source_walk_state.specs.Meaning.{sort_seen, value_of, gathered, after}
use Rattle.source_walk_state.proofs.Opening.{opens_unary, opens_binary, opens_field, opens_element, opens_array, opens_spawn, opens_builtin, gathers_more}
use Rattle.source_walk_parts.specs.Weights.{expr_weight, exprs_weight, frame_weight, using_weight}
use Rattle.source_walk_parts.specs.States.{State, left_at, IsWaiting}
use Rattle.source_walk_open.specs.Opens.{OpensExpr, OpensArgs}
use Rattle.source_walk_open.proofs.Opened.{waits, is_given}

-- what opens a form opens an expression of that form
pub of_form : {E : Type 0} (res : Result Control E) (depth : ℕ) (s t : State) (e form : Expression) → e ≡ form → IfOk res (λ d. OpensExpr depth form s d t) → IfOk res (λ d. OpensExpr depth e s d t)
of_form res depth s t e form h x = subst (λ (it : Expression). IfOk res (λ d. OpensExpr depth it s d t)) (sym h) x

module _ (s : State) (depth : ℕ) where
  -- an expression whose value is there
  pub number_opens : (z : ℤ) → OpensExpr depth (number_value z) s (control.Give (value.Int z)) s
  number_opens z = is_given (λ r. value_of r depth (number_value z) s.place s.units s.own) 2 s (value.Int z) (λ r. refl) (omega arith)

  pub text_opens : (bs : List ℕ) → OpensExpr depth (text_value bs) s (control.Give (value.Bytes bs)) s
  text_opens bs = is_given (λ r. value_of r depth (text_value bs) s.place s.units s.own) 2 s (value.Bytes bs) (λ r. refl) (omega arith)

  pub bool_opens : (b : Bool) → OpensExpr depth (bool_value b) s (control.Give (value.Bool b)) s
  bool_opens b = is_given (λ r. value_of r depth (bool_value b) s.place s.units s.own) 2 s (value.Bool b) (λ r. refl) (omega arith)

  pub null_opens : OpensExpr depth null_value s (control.Give value.Nothing) s
  null_opens = is_given (λ r. value_of r depth null_value s.place s.units s.own) 2 s value.Nothing (λ r. refl) (omega arith)

  pub local_opens : (x : ℕ) → OpensExpr depth (local_value x) s (control.Give (local s.own x)) s
  local_opens x = is_given (λ r. value_of r depth (local_value x) s.place s.units s.own) 2 s (local s.own x) (λ r. refl) (omega arith)

  -- an expression whose first operand is `e`
  first : {d : Control} {t : State} (form : Expression) (e : Bor Expr) (f : Frame) → IsWaiting (control.Eval depth e) f s d t
      → ((r : ResolvedTree) → on_end (value_of r depth form s.place s.units s.own) (after r s.frames s.place) ≡ on_end (value_of r depth (expr_tree e.now) s.place s.units s.own) (after r (f ∷ s.frames) s.place))
      → expr_weight (expr_tree e.now) + frame_weight f < expr_weight form → OpensExpr depth form s d t
  first form e f w law h = waits (λ r. value_of r depth form s.place s.units s.own) (expr_weight form) s depth e f w law h

  pub unary_opens : {d : Control} {t : State} (op : UnaryOp) (e : Bor Expr) → IsWaiting (control.Eval depth e) (frame.Prefix op) s d t → OpensExpr depth (unary_of op (expr_tree e.now)) s d t
  unary_opens op e w = first (unary_of op (expr_tree e.now)) e (frame.Prefix op) w (λ r. opens_unary r depth s.frames s.place s.units s.own op (expr_tree e.now)) (omega arith)

  pub binary_opens : {d : Control} {t : State} (op : BinaryOp) (e g : Bor Expr) → IsWaiting (control.Eval depth e) (frame.Expr depth g (expr.Left op)) s d t → OpensExpr depth (binary_of op (expr_tree e.now) (expr_tree g.now)) s d t
  binary_opens op e g w =
      first (binary_of op (expr_tree e.now) (expr_tree g.now)) e (frame.Expr depth g (expr.Left op)) w (λ r. opens_binary r depth s.frames s.place s.units s.own op (expr_tree e.now) g) (omega arith)

  pub field_opens : {d : Control} {t : State} (c at : ℕ) (ty : ResolvedType) (q : Written) (e : Bor Expr) → sort_seen q ≡ sort_of ty → IsWaiting (control.Eval depth e) (frame.Field at q) s d t → OpensExpr depth (field_of (expr_tree e.now) c at ty) s d t
  field_opens c at ty q e h w =
      first (field_of (expr_tree e.now) c at ty) e (frame.Field at q) w (λ r. opens_field r depth s.frames s.place s.units s.own (expr_tree e.now) c at ty q h) (omega arith)

  pub element_opens : {d : Control} {t : State} (ty : ResolvedType) (q : Written) (e g : Bor Expr) → sort_seen q ≡ sort_of ty → IsWaiting (control.Eval depth e) (frame.Expr depth g (expr.OfElement q)) s d t → OpensExpr depth (element_of (expr_tree e.now) (expr_tree g.now) ty) s d t
  element_opens ty q e g h w =
      first (element_of (expr_tree e.now) (expr_tree g.now) ty) e (frame.Expr depth g (expr.OfElement q)) w (λ r. opens_element r depth s.frames s.place s.units s.own (expr_tree e.now) g ty q h) (omega arith)

  pub array_opens : {d : Control} {t : State} (ty : ResolvedType) (k : Kind) (e : Bor Expr) → k ≡ kind_of ty → IsWaiting (control.Eval depth e) (frame.Length k) s d t → OpensExpr depth (new_array ty (expr_tree e.now)) s d t
  array_opens ty k e h w =
      first (new_array ty (expr_tree e.now)) e (frame.Length k) w (λ r. opens_array r depth s.frames s.place s.units s.own (expr_tree e.now) ty k h) (omega arith)

  pub spawn_opens : {d : Control} {t : State} (f : ℕ) (e : Bor Expr) (args : Bor (List Expr)) → IsWaiting (control.Eval depth e) (frame.Spawn depth f args) s d t → OpensExpr depth (spawn_of (expr_tree e.now) f (exprs_tree args.now)) s d t
  spawn_opens f e args w =
      first (spawn_of (expr_tree e.now) f (exprs_tree args.now)) e (frame.Spawn depth f args) w (λ r. opens_spawn r depth s.frames s.place s.units s.own (expr_tree e.now) f args) (omega arith)

  -- ---- arguments

  pub call_opens : (f : ℕ) (args : Bor (List Expr)) → OpensExpr depth (call_of f (exprs_tree args.now)) s (control.Gather depth args [] (using.Call f)) s
  unfolding left_at
  call_opens f args = record { left = λ r. refl; units = refl; less = omega arith }

  pub builtin_opens : (b : Builtin) (args : Bor (List Expr)) (ty : Option ResolvedType) (q : Written) → sort_seen q ≡ result_sort ty → OpensExpr depth (builtin_of b (exprs_tree args.now) ty) s (control.Gather depth args [] (using.Builtin b q)) s
  unfolding left_at
  builtin_opens b args ty q h =
      record { left = λ r. ap (λ x. on_end x (after r s.frames s.place)) (sym (opens_builtin r depth s.frames s.place s.units s.own b (exprs_tree args.now) ty q h)); units = refl; less = omega arith }

  pub label_opens : (args vouchers : Bor (List Expr)) → OpensExpr depth (label_of (exprs_tree args.now) (exprs_tree vouchers.now)) s (control.Gather depth args [] (using.Secrets vouchers)) s
  unfolding left_at
  label_opens args vouchers = record { left = λ r. refl; units = refl; less = omega arith }

  pub object_opens : (c : ℕ) → OpensExpr depth (new_object c) s (control.New c) s
  unfolding left_at
  object_opens c = record { left = λ r. refl; units = refl; less = omega arith }

  pub args_open : {d : Control} {t : State} (e : Bor Expr) (rest : Bor (List Expr)) (vs : List Value) (u : Using) → IsWaiting (control.Eval depth e) (frame.Args depth rest vs u) s d t → OpensArgs depth (args_more (expr_tree e.now) (exprs_tree rest.now)) vs u s d t
  args_open e rest vs u w =
      waits (λ r. gathered r depth (args_more (expr_tree e.now) (exprs_tree rest.now)) vs u s.place s.units s.own) (exprs_weight (args_more (expr_tree e.now) (exprs_tree rest.now)) + using_weight u + 2) s depth e (frame.Args depth rest vs u) w
      (λ r. gathers_more r depth u s.place s.frames (expr_tree e.now) rest vs s.units s.own) (omega arith)
