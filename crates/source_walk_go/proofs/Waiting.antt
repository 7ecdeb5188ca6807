-- A frame with its value opens an expression, and another frame waits for that.
use Rattle.std.proofs.Common.{◌≡◌, ℕ, ◌+◌, ◌<◌, ◌∷◌, refl, sym, subst, inr, arith}
use denote.Bor.{Bor}
use Rattle.lam_resolve_tree.specs.declared.Expr.{Expr}
use Rattle.lam_resolve_tree.specs.Tree.{expr_tree, ResolvedTree}
use Rattle.lam_value.specs.declared.values.Value.{Value}
use Rattle.lam_meaning.specs.Trees.{on_end}
use Rattle.source_walk_state.specs.declared.Frame.{Frame}
use Rattle.source_walk_state.specs.declared.Control.{Control}
use Rattle.source_walk_state.specs.declared.Control.TheVariants.{Eval, Give}
use Rattle.source_walk_state.specs.Meaning.{value_of, after}
use Rattle.source_walk_parts.specs.Weights.{expr_weight, frame_weight}
use Rattle.source_walk_parts.specs.States.{State, pushed, left_at, Goes, IsWaiting}
use Rattle.source_walk_parts.proofs.Steps.{by_waiting}

pub waits_goes : (r : ResolvedTree) (s : State) (v : Value) (f : Frame) {d : Control} {t : State} (depth : ℕ) (e : Bor Expr) (g : Frame) → IsWaiting (Eval depth e) g s d t
    → left_at r (Give v) (pushed s f) ≡ on_end (value_of r depth (expr_tree e.now) s.place s.units s.own) (after r (g ∷ s.frames) s.place) → expr_weight (expr_tree e.now) + frame_weight g < 1 + frame_weight f → Goes r (Give v) (pushed s f) d t
unfolding left_at
waits_goes r s v f depth e g w law h =
    by_waiting (λ d t. Goes r (Give v) (pushed s f) d t) w (record { left = sym law; less = inr (refl, omega (arith, h)) })

-- from an equal state, to an equal state, and with an equal frame
pub goes_from : {r : ResolvedTree} {c d : Control} {s p t : State} → s ≡ p → Goes r c p d t → Goes r c s d t
goes_from {r = r} {c = c} {d = d} {t = t} e h = subst (λ x. Goes r c x d t) (sym e) h

pub goes_to : {r : ResolvedTree} {c d : Control} {s p t : State} → t ≡ p → Goes r c s d p → Goes r c s d t
goes_to {r = r} {c = c} {d = d} {s = s} e h = subst (λ x. Goes r c s d x) (sym e) h

pub by_frame : {r : ResolvedTree} {c d : Control} {f g : Frame} (s : State) {t : State} → f ≡ g → Goes r c (pushed s g) d t → Goes r c (pushed s f) d t
by_frame {r = r} {c = c} {d = d} s {t = t} e h = subst (λ x. Goes r c (pushed s x) d t) (sym e) h

pub goes_by_value : {r : ResolvedTree} {d : Control} {v w : Value} {s t : State} → v ≡ w → Goes r (Give w) s d t → Goes r (Give v) s d t
goes_by_value {r = r} {d = d} {s = s} {t = t} e h = subst (λ x. Goes r (Give x) s d t) (sym e) h
