-- How a walk begins.
use Rattle.std.proofs.Common.{◌≡◌, ℕ, zero, suc, ◌-◌, List, [], ◌∷◌, ◌++◌, length, replicate, Some, None, refl, sym, ap, ◌∙◌}
use Rattle.std.specs.Prelude.{slice_get}
use Rattle.std.specs.Option.{option_map}
use denote.Bor.{Bor}
use Rattle.flow_labels.specs.Flow.{public_label}
use Rattle.capabilities.specs.declared.Caps.{Caps}
use Rattle.lam_value.specs.declared.values.Value.{Value}
use Rattle.lam_value.specs.declared.values.Value.TheVariants.{Nothing}
use Rattle.lam_resolve_tree.specs.declared.Class.{Class}
use Rattle.lam_resolve_tree.specs.declared.Function.{Function}
use Rattle.lam_resolve_tree.specs.declared.Stmt.{Stmt}
use Rattle.lam_resolve_tree.specs.Tree.{stmts_tree, class_tree, classes_tree, function_tree, ResolvedTree}
use Rattle.lam_meaning.specs.Trees.{on_end}
use Rattle.lam_meaning.specs.Means.{body_of, block_runs, first_locals, last_ask, means}
use Rattle.source_walk_state.specs.declared.Control.TheVariants as control
use Rattle.source_walk_state.proofs.Begins.{walk_begins}
use Rattle.source_walk_state.proofs.Programs.{types_length}
use Rattle.source_walk_parts.specs.States.{State, left_at}
use Rattle.source_walk_follow.specs.Standing.{first_state}

-- the classes of a program, by place
pub class_at : (cs : List Class) (n : ℕ) → slice_get (classes_tree cs) n ≡ option_map class_tree (slice_get cs n)
class_at [] n = refl
class_at (c ∷ cs) zero = refl
class_at (c ∷ cs) (suc n) = class_at cs n

module _ (r : ResolvedTree) (n f : ℕ) (vs : List Value) (k : Caps) where
  pub begins_at : (callee : Function) (rest : Bor (List Stmt)) (ls : List Value) → slice_get r.functions f ≡ Some (function_tree callee) → rest.now ≡ callee.body.items → ls ≡ vs ++ replicate (length callee.slots.items - length vs) Nothing →
      left_at r (control.Block n rest) (first_state n ls k) ≡ means r n f vs k
  unfolding left_at
  begins_at callee rest ls found same e =
      let whole : ls ≡ first_locals (function_tree callee) vs = e ∙ ap (λ m. vs ++ replicate (m - length vs) Nothing) (sym (types_length callee.slots.items)) in
      ap (λ l. left_at r (control.Block n rest) (first_state n l k)) whole ∙ walk_begins r n f (function_tree callee) vs k rest found (ap stmts_tree same)

  pub begins_nowhere : (s : State) → slice_get r.functions f ≡ None → left_at r control.Broken s ≡ means r n f vs k
  unfolding left_at means on_end
  begins_nowhere s e =
      sym (ap (λ x. on_end (body_of (λ body. block_runs r (suc n) body) x vs (record { label = public_label; calls = 1 }) n (record { locals = []; caps = k })) last_ask) e)
