-- The forms of statements, and blocks.
use Rattle.std.proofs.Common.{Result, IfOk, ◌≡◌, ℕ, ◌+◌, ◌<◌, List, [], ◌∷◌, Option, Some, None, true, Vec, length, refl, sym, ap, subst, arith}
use denote.Bor.{Bor}
use Rattle.std.specs.declared.alloc.Global.{Global}
use Rattle.lam_value.specs.declared.values.Value.TheVariants.{Nothing}
use Rattle.lam_resolve_tree.specs.declared.Expr.{Expr}
use Rattle.lam_resolve_tree.specs.declared.Stmt.{Stmt}
use Rattle.lam_resolve_tree.specs.Tree.{ResolvedType, Statement, Block, let_slot, if_block, while_block, return_value, throw_value, sync_block, region_block, do_value, set_local, set_field, set_element, block_end, block_more, expr_tree, stmt_tree, stmts_tree, else_tree, ResolvedTree}
use Rattle.lam_meaning.specs.Trees.{on_end}
use Rattle.source_walk_state.specs.declared.Region.{Region}
use Rattle.source_walk_state.specs.declared.BeforeExpr.TheVariants as expr
use Rattle.source_walk_state.specs.declared.BeforeBlock.TheVariants as statements
use Rattle.source_walk_state.specs.declared.BeforeRegion.TheVariants as part
use Rattle.source_walk_state.specs.declared.Frame.{Frame}
use Rattle.source_walk_state.specs.declared.Frame.TheVariants as frame
use Rattle.source_walk_state.specs.declared.Control.{Control}
use Rattle.source_walk_state.specs.declared.Control.TheVariants as control
use Rattle.source_walk_state.specs.Meaning.{value_of, statement, valued, open_of, after, block_in}
use Rattle.source_walk_state.proofs.Going.{opens_let, opens_set, opens_do, opens_set_field, opens_set_element, opens_throw, opens_return, opens_if, opens_while, opens_sync, opens_region, opens_more}
use Rattle.source_walk_parts.specs.Weights.{expr_weight, stmt_weight, block_weight, other_weight, frame_weight}
use Rattle.source_walk_parts.specs.States.{State, pushed, left_at, IsWaiting}
use Rattle.source_walk_open.specs.Opens.{OpensStmt, OpensBlock}
use Rattle.source_walk_open.proofs.Opened.{waits}

other-weight : (b : Option (Vec Stmt Global)) (c : Bor (List Stmt)) → stmts_tree c.now ≡ block_in b → block_weight (stmts_tree c.now) ≡ other_weight (else_tree b)
other-weight None c h = ap block_weight h
other-weight (Some b) c h = ap block_weight h

-- what opens a form opens a statement of that form
pub of_form : {E : Type 0} (res : Result Control E) (depth : ℕ) (s t : State) (it form : Statement) → it ≡ form → IfOk res (λ d. OpensStmt depth form s d t) → IfOk res (λ d. OpensStmt depth it s d t)
of_form res depth s t it form h x = subst (λ (a : Statement). IfOk res (λ d. OpensStmt depth a s d t)) (sym h) x

pub of_block : {E : Type 0} (res : Result Control E) (depth : ℕ) (s t : State) (it form : Block) → it ≡ form → IfOk res (λ d. OpensBlock depth form s d t) → IfOk res (λ d. OpensBlock depth it s d t)
of_block res depth s t it form h x = subst (λ (a : Block). IfOk res (λ d. OpensBlock depth a s d t)) (sym h) x

-- a region, by what its parts are equal to
pub region_parts : (m : ℕ) (ts : List ResolvedType) (slot : ℕ) (l l' k k' : Expr) (xs xs' : List ℕ) (a a' b b' : List Stmt) → l' ≡ l → k' ≡ k → xs' ≡ xs → a' ≡ a → b' ≡ b
    → region_block m (expr_tree l) (expr_tree k) xs ts (stmts_tree a) slot (stmts_tree b) ≡ region_block m (expr_tree l') (expr_tree k') xs' ts (stmts_tree a') slot (stmts_tree b')
region_parts m ts slot l l' k k' xs xs' a a' b b' e f g h i = rw (e, f, g, h, i)

pub no_stmts : (xs : List Stmt) → length xs ≡ 0 → stmts_tree xs ≡ block_end
no_stmts [] h = refl
no_stmts (x ∷ xs) h = absurd (omega (arith, h))

module _ (s : State) (depth : ℕ) where
  -- a statement whose first operand is `e`
  first : {d : Control} {t : State} (form : Statement) (e : Bor Expr) (f : Frame) → IsWaiting (control.Eval depth e) f s d t
      → ((r : ResolvedTree) → on_end (valued (statement r depth (open_of s.frames) form s.place s.units s.own)) (after r s.frames s.place) ≡ on_end (value_of r depth (expr_tree e.now) s.place s.units s.own) (after r (f ∷ s.frames) s.place))
      → expr_weight (expr_tree e.now) + frame_weight f < stmt_weight form → OpensStmt depth form s d t
  first form e f w law h = waits (λ r. valued (statement r depth (open_of s.frames) form s.place s.units s.own)) (stmt_weight form) s depth e f w law h

  pub let_opens : {d : Control} {t : State} (x : ℕ) (e : Bor Expr) → IsWaiting (control.Eval depth e) (frame.Assign x) s d t → OpensStmt depth (let_slot x (expr_tree e.now)) s d t
  let_opens x e w = first (let_slot x (expr_tree e.now)) e (frame.Assign x) w (λ r. opens_let r depth s.frames s.place s.units s.own x (expr_tree e.now)) (omega arith)

  pub set_opens : {d : Control} {t : State} (x : ℕ) (e : Bor Expr) → IsWaiting (control.Eval depth e) (frame.Assign x) s d t → OpensStmt depth (set_local x (expr_tree e.now)) s d t
  set_opens x e w = first (set_local x (expr_tree e.now)) e (frame.Assign x) w (λ r. opens_set r depth s.frames s.place s.units s.own x (expr_tree e.now)) (omega arith)

  pub do_opens : {d : Control} {t : State} (e : Bor Expr) → IsWaiting (control.Eval depth e) frame.Drop s d t → OpensStmt depth (do_value (expr_tree e.now)) s d t
  do_opens e w = first (do_value (expr_tree e.now)) e frame.Drop w (λ r. opens_do r depth s.frames s.place s.units s.own (expr_tree e.now)) (omega arith)

  pub return_opens : {d : Control} {t : State} (e : Bor Expr) → IsWaiting (control.Eval depth e) frame.Return s d t → OpensStmt depth (return_value (Some (expr_tree e.now))) s d t
  return_opens e w = first (return_value (Some (expr_tree e.now))) e frame.Return w (λ r. opens_return r depth s.frames s.place s.units s.own (expr_tree e.now)) (omega arith)

  pub throw_opens : {d : Control} {t : State} (e : Bor Expr) → IsWaiting (control.Eval depth e) frame.Throw s d t → OpensStmt depth (throw_value (expr_tree e.now)) s d t
  throw_opens e w = first (throw_value (expr_tree e.now)) e frame.Throw w (λ r. opens_throw r depth s.frames s.place s.units s.own (expr_tree e.now)) (omega arith)

  pub none_returns : OpensStmt depth (return_value None) s (control.Leave Nothing) s
  unfolding left_at on_end
  none_returns = record { left = λ r. refl; units = refl; less = omega arith }

  pub if_opens : {d : Control} {t : State} (e : Bor Expr) (a c : Bor (List Stmt)) (b : Option (Vec Stmt Global)) → stmts_tree c.now ≡ block_in b → IsWaiting (control.Eval depth e) (frame.Branch depth a c) s d t →
      OpensStmt depth (if_block (expr_tree e.now) (stmts_tree a.now) (else_tree b)) s d t
  if_opens e a c b h w =
      first (if_block (expr_tree e.now) (stmts_tree a.now) (else_tree b)) e (frame.Branch depth a c) w (λ r. opens_if r depth s.frames s.place s.units s.own (expr_tree e.now) a c b h) (omega (arith, other-weight b c h))

  pub while_opens : {d : Control} {t : State} (e : Bor Expr) (a : Bor (List Stmt)) → IsWaiting (control.Eval depth e) (frame.Loop depth e a true) s d t → OpensStmt depth (while_block (expr_tree e.now) (stmts_tree a.now)) s d t
  while_opens e a w = first (while_block (expr_tree e.now) (stmts_tree a.now)) e (frame.Loop depth e a true) w (λ r. opens_while r depth s.frames s.place s.units s.own e a) (omega arith)

  pub sync_opens : {d : Control} {t : State} (x : ℕ) (e : Bor Expr) (a : Bor (List Stmt)) → IsWaiting (control.Eval depth e) (frame.Block depth a (statements.Thing x)) s d t → OpensStmt depth (sync_block x (expr_tree e.now) (stmts_tree a.now)) s d t
  sync_opens x e a w =
      first (sync_block x (expr_tree e.now) (stmts_tree a.now)) e (frame.Block depth a (statements.Thing x)) w (λ r. opens_sync r depth s.frames s.place s.units s.own x (expr_tree e.now) a) (omega arith)

  pub region_opens : {d : Control} {t : State} (l c : Bor Expr) (x : Region) (slots : List ResolvedType) → x.slots ≡ length slots → IsWaiting (control.Eval depth l) (frame.Region depth x (part.Label c)) s d t →
      OpensStmt depth (region_block x.number (expr_tree l.now) (expr_tree c.now) x.captures.now slots (stmts_tree x.body.now) x.catch_slot (stmts_tree x.catch_body.now)) s d t
  region_opens l c x slots h w =
      first (region_block x.number (expr_tree l.now) (expr_tree c.now) x.captures.now slots (stmts_tree x.body.now) x.catch_slot (stmts_tree x.catch_body.now)) l (frame.Region depth x (part.Label c)) w
      (λ r. opens_region r depth s.frames s.place s.units s.own (expr_tree l.now) c slots x h) (omega arith)

  pub field_opens : {d : Control} {t : State} (c at : ℕ) (ty : ResolvedType) (e g : Bor Expr) → IsWaiting (control.Eval depth e) (frame.Expr depth g (expr.OfField at)) s d t → OpensStmt depth (set_field (expr_tree e.now) c at ty (expr_tree g.now)) s d t
  field_opens c at ty e g w =
      first (set_field (expr_tree e.now) c at ty (expr_tree g.now)) e (frame.Expr depth g (expr.OfField at)) w (λ r. opens_set_field r depth s.frames s.place s.units s.own (expr_tree e.now) c at ty g) (omega arith)

  pub element_opens : {d : Control} {t : State} (ty : ResolvedType) (e i g : Bor Expr) → IsWaiting (control.Eval depth e) (frame.Index depth i g) s d t → OpensStmt depth (set_element (expr_tree e.now) (expr_tree i.now) ty (expr_tree g.now)) s d t
  element_opens ty e i g w =
      first (set_element (expr_tree e.now) (expr_tree i.now) ty (expr_tree g.now)) e (frame.Index depth i g) w (λ r. opens_set_element r depth s.frames s.place s.units s.own (expr_tree e.now) i ty g) (omega arith)

  -- ---- blocks

  pub end_opens : OpensBlock depth block_end s (control.Give Nothing) s
  unfolding left_at on_end
  end_opens = record { left = λ r. refl; units = refl; less = omega arith }

  pub more_opens : (it : Bor Stmt) (a : Bor (List Stmt)) (t : State) → t ≡ pushed s (frame.Block depth a statements.Statement) → OpensBlock depth (block_more (stmt_tree it.now) (stmts_tree a.now)) s (control.Exec depth it) t
  unfolding left_at
  more_opens it a t e =
      rw e
      (record { left = λ r. sym (opens_more r depth s.frames s.place s.units s.own (stmt_tree it.now) a); units = refl; less = omega arith })
