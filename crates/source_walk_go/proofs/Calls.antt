-- Calls, and the other uses of arguments.
use Rattle.std.proofs.Common.{◌≡◌, ℕ, suc, zero, ◌-◌, ◌<◌, ◌≤◌, true, false, nat_lt, List, [], ◌++◌, length, replicate, Some, None, refl, sym, ap, ◌∙◌, subst, inl, inr, arith}
use Rattle.std.specs.Prelude.{slice_get, option_map, get_or}
use Rattle.std.proofs.lemmas.Option.{slice_get_past, slice_get_read}
use denote.Bor.{Bor}
use Rattle.lam_builtins.specs.declared.Builtin.{Builtin}
use Rattle.lam_value.specs.declared.values.Value.{Value}
use Rattle.lam_value.specs.declared.values.Value.TheVariants.{Nothing}
use Rattle.lam_asks.specs.declared.fault.Fault.TheVariants.{Deep}
use Rattle.thread_steps.specs.Operators.{label_from}
use Rattle.thread_steps.specs.Builtins.{builtin}
use Rattle.lam_resolve_tree.specs.declared.Expr.{Expr}
use Rattle.lam_resolve_tree.specs.declared.Stmt.{Stmt}
use Rattle.lam_resolve_tree.specs.declared.Function.{Function}
use Rattle.lam_resolve_tree.specs.Tree.{stmts_tree, function_tree, functions_tree, ResolvedFunction, ResolvedTree}
use Rattle.lam_meaning.specs.Trees.{Tree, broken, spent, on_end, spend, with_locals}
use Rattle.lam_meaning.specs.Means.{calls_limit, call_end, body_of, block_runs, deeper, first_locals}
use Rattle.source_walk_state.specs.declared.Sort.{Sort as Written}
use Rattle.source_walk_state.specs.declared.Using.{Using}
use Rattle.source_walk_state.specs.declared.Using.TheVariants as using
use Rattle.source_walk_state.specs.declared.Frame.TheVariants as frame
use Rattle.source_walk_state.specs.declared.Control.{Control}
use Rattle.source_walk_state.specs.declared.Control.TheVariants as control
use Rattle.source_walk_state.specs.Meaning.{block, used, after}
use Rattle.source_walk_state.proofs.Delimiters as laws
use Rattle.source_walk_state.proofs.Programs.{function_at as any_function, types_length}
use Rattle.source_walk_parts.specs.Controls.{pure_control, calls_control, spawn_control}
use Rattle.source_walk_parts.specs.States.{State, pushed, with_units, called, left_at, IsLeft}
use Rattle.source_walk_parts.proofs.Steps.{pure_left, calls_left, spawn_left}
use Rattle.source_walk_go.specs.Uses.{Uses}

-- ---- functions of a program

-- in a list that the code reads
pub function_at : (xs fs : List Function) (i : ℕ) (f : Function) → xs ≡ fs → i < length xs → f ≡ get_or xs i f → slice_get (functions_tree fs) i ≡ Some (function_tree f)
function_at xs fs i f e h g = any_function fs i ∙ ap (λ ys. option_map function_tree (slice_get ys i)) (sym e) ∙ ap (option_map function_tree) (slice_get_read xs (length xs) i f refl h g)

pub none_at : (xs fs : List Function) (i : ℕ) → xs ≡ fs → length xs ≤ i → slice_get (functions_tree fs) i ≡ None
none_at xs fs i e h = any_function fs i ∙ ap (λ ys. option_map function_tree (slice_get ys i)) (sym e) ∙ ap (option_map function_tree) (slice_get_past xs i h)

-- the locals of a call
pub locals_of : (f : Function) (vs ls : List Value) (slots : ℕ) → slots ≡ length f.slots.items → ls ≡ vs ++ replicate (slots - length vs) Nothing → ls ≡ first_locals (function_tree f) vs
locals_of f vs ls slots e h = h ∙ ap (λ n. vs ++ replicate (n - length vs) Nothing) (e ∙ sym (types_length f.slots.items))

-- where a call begins
pub call_begins : (s a b t : State) (ls first outer : List Value) (calls n : ℕ) → a ≡ with_units s n → ls ≡ first → outer ≡ a.own.locals → b ≡ called a ls → t ≡ pushed b (frame.Called calls outer) → t ≡ pushed (called (with_units s n) first) (frame.Called calls s.own.locals)
call_begins s a b t ls first outer calls n e k g h w =
    w ∙ ap (λ (x : List Value). pushed b (frame.Called calls x)) (g ∙ ap (λ (x : State). x.own.locals) e)
    ∙ ap (λ (x : State). pushed x (frame.Called calls s.own.locals)) (h ∙ ap (λ (x : State). called x ls) e ∙ ap (λ (x : List Value). called (with_units s n) x) k)

module _ (r : ResolvedTree) (s : State) (depth : ℕ) (vs : List Value) where
  -- by a tree of values, before the frames that are there
  uses_by : (u : Using) (d : Control) (t : State) → IsLeft r (used r depth u s.place vs s.units s.own) 1 s d t → Uses r depth u vs s d t
  uses_by u d t h = record { left = h.left; less = inr (h.units, omega (arith, h.least)) }

  pub built_goes : (b : Builtin) (q : Written) (d : Control) → d ≡ calls_control q (builtin s.place.label s.own.caps b vs) → Uses r depth (using.Builtin b q) vs s d s
  built_goes b q d e = rw e (uses_by (using.Builtin b q) (calls_control q (builtin s.place.label s.own.caps b vs)) s (calls_left r s q (builtin s.place.label s.own.caps b vs)))

  pub labels_go : (secrets : List Value) (d : Control) → d ≡ pure_control (label_from secrets vs) → Uses r depth (using.Vouchers secrets) vs s d s
  labels_go secrets d e = rw e (uses_by (using.Vouchers secrets) (pure_control (label_from secrets vs)) s (pure_left r s (label_from secrets vs)))

  pub spawns_go : (f : ℕ) (c : Value) (d : Control) → d ≡ spawn_control f c vs → Uses r depth (using.Spawn f c) vs s d s
  spawns_go f c d e = rw e (uses_by (using.Spawn f c) (spawn_control f c vs) s (spawn_left r s f c vs))

  pub secrets_go : (vouchers : Bor (List Expr)) → Uses r depth (using.Secrets vouchers) vs s (control.Gather depth vouchers [] (using.Vouchers vs)) s
  unfolding left_at
  secrets_go vouchers = record { left = refl; less = inr (refl, omega arith) }

  -- ---- calls

  module _ (f : ℕ) where
    pub too_deep : calls_limit ≤ s.place.calls → Uses r depth (using.Call f) vs s (control.Raise Deep) s
    unfolding left_at on_end
    too_deep h =
        let e : nat_lt s.place.calls calls_limit ≡ false = grind (arith) in
        record { left = rw e refl; less = inr (refl, omega arith) }

    abbrev Body : ℕ → Tree Value
    Body n = on_end (body_of (λ b. block_runs r depth b) (slice_get r.functions f) vs (deeper s.place) n s.own) (call_end s.own.locals)

    may_call : s.place.calls < calls_limit → used r depth (using.Call f) s.place vs s.units s.own ≡ spend s.units (λ n. Body n)
    may_call h = let e : nat_lt s.place.calls calls_limit ≡ true = grind (arith) in rw e refl

    none_left : {A : Type 0} (n : ℕ) (go : ℕ → Tree A) → n ≡ 0 → spend n go ≡ spent
    none_left zero go h = refl
    none_left (suc n) go h = absurd (omega (arith, h))

    one_left : {A : Type 0} (n : ℕ) (go : ℕ → Tree A) → 0 < n → spend n go ≡ go (n - 1)
    one_left zero go h = absurd (omega (arith, h))
    one_left (suc n) go h = ap go (omega arith)

    pub call_spent : s.place.calls < calls_limit → s.units ≡ 0 → Uses r depth (using.Call f) vs s control.Spent s
    unfolding left_at on_end
    call_spent h e = record { left = ap (λ t. on_end t (after r s.frames s.place)) (sym (may_call h ∙ none_left s.units (λ n. Body n) e)); less = inr (refl, omega arith) }

    none_there : (n : ℕ) → slice_get r.functions f ≡ None → Body n ≡ broken
    unfolding on_end
    none_there n e = ap (λ o. on_end (body_of (λ b. block_runs r depth b) o vs (deeper s.place) n s.own) (call_end s.own.locals)) e

    pub no_function : s.place.calls < calls_limit → 0 < s.units → slice_get r.functions f ≡ None → Uses r depth (using.Call f) vs s control.Broken s
    unfolding left_at on_end
    no_function h g e =
        record {
          left = ap (λ t. on_end t (after r s.frames s.place)) (sym (may_call h ∙ one_left s.units (λ n. Body n) g ∙ none_there (s.units - 1) e));
          less = inr (refl, omega arith);
        }

    module _ (fn : ResolvedFunction) (there : slice_get r.functions f ≡ Some fn) where
      body_is : (n : ℕ) → Body n ≡ on_end (block_runs r depth fn.body (deeper s.place) n (with_locals s.own (first_locals fn vs))) (call_end s.own.locals)
      body_is n = ap (λ o. on_end (body_of (λ b. block_runs r depth b) o vs (deeper s.place) n s.own) (call_end s.own.locals)) there

      no_depth : (n : ℕ) → depth ≡ 0 → Body n ≡ spent
      unfolding on_end
      no_depth n e = body_is n ∙ ap (λ b. on_end (block_runs r b fn.body (deeper s.place) n (with_locals s.own (first_locals fn vs))) (call_end s.own.locals)) e

      pub depth_spent : s.place.calls < calls_limit → 0 < s.units → depth ≡ 0 → Uses r depth (using.Call f) vs s control.Spent s
      unfolding left_at on_end
      depth_spent h g e =
          record {
            left = ap (λ t. on_end t (after r s.frames s.place)) (sym (may_call h ∙ one_left s.units (λ n. Body n) g ∙ no_depth (s.units - 1) e));
            less = inr (refl, omega arith);
          }

      one_deeper : (n b : ℕ) → depth ≡ suc b → Body n ≡ on_end (block r b [] fn.body (deeper s.place) n (with_locals s.own (first_locals fn vs))) (call_end s.own.locals)
      one_deeper n b e = body_is n ∙ ap (λ d. on_end (block_runs r d fn.body (deeper s.place) n (with_locals s.own (first_locals fn vs))) (call_end s.own.locals)) e

      pub calls_go : (b : ℕ) (body : Bor (List Stmt)) (t : State) → s.place.calls < calls_limit → 0 < s.units → depth ≡ suc b → stmts_tree body.now ≡ fn.body →
          t ≡ pushed (called (with_units s (s.units - 1)) (first_locals fn vs)) (frame.Called s.place.calls s.own.locals) → Uses r depth (using.Call f) vs s (control.Block b body) t
      unfolding left_at on_end
      calls_go b body t h g e same w =
          rw w
          (record {
            left =
                sym
                (ap (λ t. on_end t (after r s.frames s.place))
                (may_call h ∙ one_left s.units (λ n. Body n) g ∙ one_deeper (s.units - 1) b e ∙ ap (λ x. on_end (block r b [] x (deeper s.place) (s.units - 1) (with_locals s.own (first_locals fn vs))) (call_end s.own.locals)) (sym same))
                ∙ laws.calls_body r b s.frames (deeper s.place) s.place.calls s.own.locals (stmts_tree body.now) (s.units - 1) (with_locals s.own (first_locals fn vs)));
            less = inl (omega (arith, g));
          })

pub by_use : {r : ResolvedTree} {depth : ℕ} {u w : Using} {vs : List Value} {s : State} {d : Control} {t : State} → u ≡ w → Uses r depth w vs s d t → Uses r depth u vs s d t
by_use {r = r} {depth = depth} {vs = vs} {s = s} {d = d} {t = t} e h = subst (λ x. Uses r depth x vs s d t) (sym e) h
