-- Frames of statements that have blocks.
use Rattle.std.proofs.Common.{◌≡◌, ℕ, suc, zero, ◌-◌, ◌<◌, ◌≤◌, Bool, true, false, List, ◌∷◌, refl, sym, ap, ◌∙◌, subst, inl, inr, arith}
use denote.Bor.{Bor}
use Rattle.lam_value.specs.declared.values.Value.{Value}
use Rattle.lam_value.specs.declared.values.Value.TheVariants.{Int, Bool as Truth, Nothing, Obj, Arr, Lab, CapV}
use Rattle.lam_asks.specs.declared.fault.Fault.{Fault}
use Rattle.lam_asks.specs.Faults.{fault_number}
use Rattle.lam_asks.specs.declared.ask.Ask.TheVariants as ask
use Rattle.lam_resolve_tree.specs.declared.Expr.{Expr}
use Rattle.lam_resolve_tree.specs.declared.Stmt.{Stmt}
use Rattle.lam_resolve_tree.specs.Tree.{expr_tree, stmts_tree, ResolvedTree}
use Rattle.lam_meaning.specs.Trees.{Tree, spent, on_end, with_local, local, spend, and_then}
use Rattle.lam_meaning.specs.Means.{give_back}
use Rattle.source_walk_state.specs.declared.Sort.TheVariants.{Number}
use Rattle.source_walk_state.specs.declared.Reply.TheVariants as reply
use Rattle.source_walk_state.specs.declared.Region.{Region}
use Rattle.source_walk_state.specs.declared.Outside.{Outside}
use Rattle.source_walk_state.specs.declared.BeforeBlock.TheVariants as before
use Rattle.source_walk_state.specs.declared.BeforeRegion.TheVariants as part
use Rattle.source_walk_state.specs.declared.Frame.TheVariants as frame
use Rattle.source_walk_state.specs.declared.Control.{Control}
use Rattle.source_walk_state.specs.declared.Control.TheVariants as control
use Rattle.source_walk_state.specs.Meaning.{block, valued, loop_rest, under, open_of, after, own_of, place_of}
use Rattle.source_walk_state.proofs.Opening.{asks_done}
use Rattle.source_walk_state.proofs.Going.{goes_region, opens_while, turns, holds}
use Rattle.source_walk_state.proofs.Delimiters as laws
use Rattle.source_walk_parts.specs.Controls.{monitor_control}
use Rattle.source_walk_parts.specs.Weights.{control_weight}
use Rattle.source_walk_parts.specs.States.{State, pushed, pushed_if, local_set, with_units, outside_of, left_at, Goes, IsWaiting}
use Rattle.source_walk_go.specs.Choices.{branch_control, enter_control}
use Rattle.source_walk_go.proofs.Waiting.{waits_goes}

module _ (r : ResolvedTree) (s : State) where
  -- ---- branches and loops

  branch_goes : (v : Value) (depth : ℕ) (a b : Bor (List Stmt)) → Goes r (control.Give v) (pushed s (frame.Branch depth a b)) (branch_control depth a b v) s
  unfolding left_at on_end
  branch_goes (Truth true) depth a b = record { left = refl; less = inr (refl, omega arith) }
  branch_goes v depth a b = record { left = refl; less = inr (refl, omega arith) }

  pub branch_by : (v : Value) (depth : ℕ) (a b : Bor (List Stmt)) (d : Control) → d ≡ branch_control depth a b v → Goes r (control.Give v) (pushed s (frame.Branch depth a b)) d s
  branch_by v depth a b d e = subst (λ x. Goes r (control.Give v) (pushed s (frame.Branch depth a b)) x s) (sym e) (branch_goes v depth a b)

  none_left : {A : Type 0} (n : ℕ) (go : ℕ → Tree A) → n ≡ 0 → spend n go ≡ spent
  none_left zero go h = refl
  none_left (suc n) go h = absurd (omega (arith, h))

  one_left : {A : Type 0} (n m : ℕ) (go : ℕ → Tree A) → n ≡ suc m → spend n go ≡ go m
  one_left zero m go h = absurd (omega (arith, h))
  one_left (suc n) m go h = ap go (omega (arith, h))

  pub turn_spent : (depth : ℕ) (e : Bor Expr) (a : Bor (List Stmt)) → s.units ≡ 0 → Goes r (control.Give (Truth true)) (pushed s (frame.Loop depth e a true)) control.Spent s
  unfolding left_at on_end
  turn_spent depth e a h =
      record {
        left = ap (λ t. on_end (valued t) (after r s.frames s.place)) (sym (none_left s.units (λ n. and_then (block r depth (open_of s.frames) (stmts_tree a.now) s.place n s.own) (λ _ n o. loop_rest r depth (open_of s.frames) (expr_tree e.now) (stmts_tree a.now) s.place n o)) h));
        less = inr (refl, omega arith);
      }

  pub turn_goes : (depth : ℕ) (e : Bor Expr) (a : Bor (List Stmt)) (t : State) → 0 < s.units → t ≡ pushed (with_units s (s.units - 1)) (frame.Loop depth e a false) → Goes r (control.Give (Truth true)) (pushed s (frame.Loop depth e a true)) (control.Block depth a) t
  unfolding left_at on_end
  turn_goes depth e a t h w =
      rw w
      (record {
        left =
            sym
            (ap (λ t. on_end (valued t) (after r s.frames s.place)) (one_left s.units (s.units - 1) (λ n. and_then (block r depth (open_of s.frames) (stmts_tree a.now) s.place n s.own) (λ _ n o. loop_rest r depth (open_of s.frames) (expr_tree e.now) (stmts_tree a.now) s.place n o)) (omega (arith, h)))
            ∙ turns r depth s.frames s.place (s.units - 1) s.own e a);
        less = inl (omega (arith, h));
      })

  pub loop_ends : (depth : ℕ) (e : Bor Expr) (a : Bor (List Stmt)) → Goes r (control.Give (Truth false)) (pushed s (frame.Loop depth e a true)) (control.Give Nothing) s
  unfolding left_at on_end
  loop_ends depth e a = record { left = refl; less = inr (refl, omega arith) }

  pub loop_breaks : (v : Value) (depth : ℕ) (e : Bor Expr) (a : Bor (List Stmt)) → ((b : Bool) → v ≡ Truth b → ⊥) → Goes r (control.Give v) (pushed s (frame.Loop depth e a true)) control.Broken s
  unfolding left_at on_end
  loop_breaks (Truth b) depth e a h = absurd (h b refl)
  loop_breaks v depth e a h = record { left = refl; less = inr (refl, omega arith) }

  pub again_spent : (v : Value) (depth : ℕ) (e : Bor Expr) (a : Bor (List Stmt)) → depth ≡ 0 → Goes r (control.Give v) (pushed s (frame.Loop depth e a false)) control.Spent s
  unfolding left_at on_end
  again_spent v depth e a h =
      subst (λ d. Goes r (control.Give v) (pushed s (frame.Loop d e a false)) control.Spent s) (sym h) (record { left = refl; less = inr (refl, omega arith) })

  again_by : (v : Value) (b : ℕ) (e : Bor Expr) (a : Bor (List Stmt)) {d : Control} {t : State} → IsWaiting (control.Eval b e) (frame.Loop b e a true) s d t → Goes r (control.Give v) (pushed s (frame.Loop (suc b) e a false)) d t
  unfolding left_at on_end
  again_by v b e a w = waits_goes r s v (frame.Loop (suc b) e a false) b e (frame.Loop b e a true) w (opens_while r b s.frames s.place s.units s.own e a) (omega arith)

  pub again_goes : (v : Value) (depth b : ℕ) (e : Bor Expr) (a : Bor (List Stmt)) {d : Control} {t : State} → depth ≡ suc b → IsWaiting (control.Eval b e) (frame.Loop b e a true) s d t → Goes r (control.Give v) (pushed s (frame.Loop depth e a false)) d t
  again_goes v depth b e a {d = d} {t = t} h w = subst (λ x. Goes r (control.Give v) (pushed s (frame.Loop x e a false)) d t) (sym h) (again_by v b e a w)

  -- ---- blocks

  pub block_next : (v : Value) (depth : ℕ) (a : Bor (List Stmt)) → Goes r (control.Give v) (pushed s (frame.Block depth a before.Statement)) (control.Block depth a) s
  unfolding left_at on_end
  block_next v depth a = record { left = refl; less = inr (refl, omega arith) }

  module _ (depth : ℕ) (a : Bor (List Stmt)) (slot : ℕ) where
    taking : (v : Value) → Goes r (control.Give v) (pushed s (frame.Block depth a (before.Thing slot))) (monitor_control true v) (pushed_if (monitor_control true v) (local_set s slot v) (frame.Block depth a (before.Taking slot)))
    unfolding left_at on_end
    taking (Obj x) =
        record {
          left = sym (laws.asks_then (ask.MonEnter (Obj x)) s.units (with_local s.own slot (Obj x)) (λ n o. under r depth (open_of s.frames) slot (stmts_tree a.now) s.place n o) (after r s.frames s.place) (after r (frame.Block depth a (before.Taking slot) ∷ s.frames) s.place) (λ n o. refl) (λ f n o. refl));
          less = inr (refl, omega arith);
        }
    taking (Arr x len) =
        record {
          left = sym (laws.asks_then (ask.MonEnter (Arr x len)) s.units (with_local s.own slot (Arr x len)) (λ n o. under r depth (open_of s.frames) slot (stmts_tree a.now) s.place n o) (after r s.frames s.place) (after r (frame.Block depth a (before.Taking slot) ∷ s.frames) s.place) (λ n o. refl) (λ f n o. refl));
          less = inr (refl, omega arith);
        }
    taking Nothing = record { left = refl; less = inr (refl, omega arith) }
    taking v = record { left = refl; less = inr (refl, omega arith) }

    pub takes_goes : (v : Value) (d : Control) (u t : State) → d ≡ monitor_control true v → u ≡ local_set s slot v → t ≡ pushed_if d u (frame.Block depth a (before.Taking slot)) → Goes r (control.Give v) (pushed s (frame.Block depth a (before.Thing slot))) d t
    takes_goes v d u t e h g =
        subst (λ x. Goes r (control.Give v) (pushed s (frame.Block depth a (before.Thing slot))) d x) (sym g)
        (subst (λ x. Goes r (control.Give v) (pushed s (frame.Block depth a (before.Thing slot))) d (pushed_if d x (frame.Block depth a (before.Taking slot)))) (sym h)
        (subst (λ x. Goes r (control.Give v) (pushed s (frame.Block depth a (before.Thing slot))) x (pushed_if x (local_set s slot v) (frame.Block depth a (before.Taking slot)))) (sym e) (taking v)))

    pub holds_goes : (v : Value) (t : State) → t ≡ pushed s (frame.Held slot) → Goes r (control.Give v) (pushed s (frame.Block depth a (before.Taking slot))) (control.Block depth a) t
    unfolding left_at on_end
    holds_goes v t e = rw e (record { left = sym (holds r depth s.frames s.place s.units s.own slot (stmts_tree a.now)); less = inr (refl, omega arith) })

  -- a monitor is given back
  pub gives_back : (x : Value) → left_at r (monitor_control false x) s ≡ on_end (valued (give_back x s.units s.own)) (after r s.frames s.place)
  unfolding left_at on_end
  gives_back (Obj x) = ap (λ t. on_end t (after r s.frames s.place)) (sym (asks_done (ask.MonLeave (Obj x)) s.units s.own))
  gives_back (Arr x len) = ap (λ t. on_end t (after r s.frames s.place)) (sym (asks_done (ask.MonLeave (Arr x len)) s.units s.own))
  gives_back v = refl

  monitor_weighs : (takes : Bool) (x : Value) → control_weight (monitor_control takes x) ≤ 1
  monitor_weighs takes (Obj x) = omega arith
  monitor_weighs takes v = omega arith

  pub held_goes : (v x : Value) (slot : ℕ) (d : Control) → x ≡ local s.own slot → d ≡ monitor_control false x → Goes r (control.Give v) (pushed s (frame.Held slot)) d s
  unfolding left_at on_end
  held_goes v x slot d e h =
      let law = gives_back (local s.own slot) in
      subst (λ y. Goes r (control.Give v) (pushed s (frame.Held slot)) y s) (sym (h ∙ ap (monitor_control false) e))
      (record { left = law; less = inr (refl, omega (arith, monitor_weighs false (local s.own slot))) })

  -- ---- regions

  module _ (depth : ℕ) (x : Region) where
    pub label_goes : {d : Control} {t : State} (l : Value) (c : Bor Expr) → IsWaiting (control.Eval depth c) (frame.Region depth x (part.Caps l)) s d t → Goes r (control.Give l) (pushed s (frame.Region depth x (part.Label c))) d t
    unfolding left_at on_end
    label_goes l c w =
        waits_goes r s l (frame.Region depth x (part.Label c)) depth c (frame.Region depth x (part.Caps l)) w (goes_region r depth s.frames s.place s.units s.own l x (expr_tree c.now)) (omega arith)

    enters_goes : (l c : Value) → Goes r (control.Give c) (pushed s (frame.Region depth x (part.Caps l))) (enter_control depth x l c) s
    unfolding left_at on_end
    enters_goes (Lab l) (CapV p m) = record { left = refl; less = inr (refl, omega arith) }
    enters_goes Nothing (CapV p m) = record { left = refl; less = inr (refl, omega arith) }
    enters_goes l c = record { left = refl; less = inr (refl, omega arith) }

    pub enters_by : (l c : Value) (d : Control) → d ≡ enter_control depth x l c → Goes r (control.Give c) (pushed s (frame.Region depth x (part.Caps l))) d s
    enters_by l c d e = subst (λ y. Goes r (control.Give c) (pushed s (frame.Region depth x (part.Caps l))) y s) (sym e) (enters_goes l c)

    pub handles_goes : (v : Value) (f : Fault) (out : Outside) (u t : State) → u ≡ local_set s x.catch_slot (Int (fault_number f)) → t ≡ pushed u (frame.Catch out) → Goes r (control.Give v) (pushed s (frame.Region depth x (part.Caught f out))) (control.Block depth x.catch_body) t
    unfolding left_at on_end
    handles_goes v f out u t e h =
        subst (λ y. Goes r (control.Give v) (pushed s (frame.Region depth x (part.Caught f out))) (control.Block depth x.catch_body) y) (sym (h ∙ ap (λ y. pushed y (frame.Catch out)) e))
        (record { left = sym (laws.handles r depth s.frames x out f s.place s.units s.own); less = inr (refl, omega arith) })

    pub body_ends : (v : Value) (out : Outside) (d : Control) (t : State) → d ≡ control.Ask ask.Leave Number reply.Done → t ≡ outside_of s out → Goes r (control.Give v) (pushed s (frame.Region depth x (part.Body out))) d t
    unfolding left_at on_end
    body_ends v out d t e h =
        subst (λ y. Goes r (control.Give v) (pushed s (frame.Region depth x (part.Body out))) y t) (sym e)
        (subst (λ y. Goes r (control.Give v) (pushed s (frame.Region depth x (part.Body out))) (control.Ask ask.Leave Number reply.Done) y) (sym h)
        (record { left = ap (λ y. on_end y (after r s.frames (place_of out))) (sym (asks_done ask.Leave s.units (own_of out))); less = inr (refl, omega arith) }))
