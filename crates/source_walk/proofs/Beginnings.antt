-- How a thread begins that stands at an entry, as its first context tells.
use Rattle.std.proofs.Common.{◌≡◌, ◌-◌, ◌^◌, ◌<◌, ◌≤◌, ◌++◌, length, take, replicate, Some, None, sym, ap, ◌∙◌, subst, arith}
use Rattle.std.specs.Prelude.{slice_get, IfOk, Result, Ok, Err}
use Rattle.std.proofs.lemmas.List.{take_at, length-append}
use Rattle.std.proofs.lemmas.Option.{slice_get_within, none-some}
use Rattle.lam_value.specs.declared.values.Value.TheVariants.{Nothing}
use Rattle.lam_bytecode.specs.Codes.{CodeTree}
use Rattle.lam_resolve_tree.specs.declared.Function.{Function}
use Rattle.lam_resolve_tree.specs.declared.Resolved.{Resolved}
use Rattle.lam_resolve_tree.specs.Tree.{ResolvedFunction, resolved_tree}
use Rattle.lam_resolve_tree.specs.Limits.{WithinLimits}
use Rattle.thread_steps.specs.Threads.{Context, Thread}
use Rattle.thread_steps.specs.Next.{locals_in, first_context, started}
use Rattle.source_walk_terms.specs.Walks.{IsEntry, StandsAtEntry}
use Rattle.source_walk_state.specs.declared.Beginning.{Beginning}
use Rattle.source_walk.specs.Starts.{BeginsAt}
use Rattle.source_walk_state.proofs.Programs.{functions_length, types_length}
use Rattle.source_walk_meets.proofs.Began.{as_many}
use Rattle.source_walk_run.proofs.Programs.{found_is}

some_same : (x y : Context) → Some x ≡ Some y → x ≡ y
some_same x y e = cc

module _ (r : Resolved) (code : CodeTree) (th : Thread) (s : StandsAtEntry (resolved_tree r) code th) where
  -- it has a context, which is its first
  pub first_is : (c : Context) → slice_get th.contexts 0 ≡ Some c → first_context code s.function s.args s.caps ≡ c
  first_is c e = some_same (first_context code s.function s.args s.caps) c (sym (ap (λ (t : Thread). slice_get t.contexts 0) s.it) ∙ e)

  pub unit_is : (c : Context) → slice_get th.contexts 0 ≡ Some c → s.function ≡ c.inside.frame.unit
  unit_is c e = ap (λ (c : Context). c.inside.frame.unit) (first_is c e)

  pub has_context : slice_get th.contexts 0 ≡ None → ⊥
  has_context e = none-some (first_context code s.function s.args s.caps) (sym e ∙ ap (λ (t : Thread). slice_get t.contexts 0) s.it)

  -- its function is one of the program, by a number of the program's
  pub unit_there : (c : Context) → slice_get th.contexts 0 ≡ Some c → c.inside.frame.unit < length r.functions.items
  unit_there c e =
      let lt = slice_get_within (resolved_tree r).functions s.function s.entry.function s.entry.found in
      let many = functions_length r.functions.items in
      let unit = unit_is c e in
      omega (arith, lt, many, unit)

  pub unit_few : (c : Context) → slice_get th.contexts 0 ≡ Some c → WithinLimits (resolved_tree r) → c.inside.frame.unit < 2 ^ 32
  unit_few c e limits =
      let lt = unit_there c e in
      let many = functions_length r.functions.items in
      let few = limits.functions in
      omega (arith, lt, many, few)

  -- the function takes as many arguments as it was given
  takes_all : (f : Function) → slice_get r.functions.items s.function ≡ Some f → length s.args ≡ length f.params.items
  takes_all f e =
      sym (as_many s.entry.function.params s.args s.entry.sorts) ∙ ap (λ (fn : ResolvedFunction). length fn.params) (sym (found_is r s.function f s.entry.function e s.entry.found)) ∙ types_length f.params.items

  locals_are : (c : Context) → slice_get th.contexts 0 ≡ Some c → s.args ++ replicate (locals_in (slice_get code.units s.function) - length s.args) Nothing ≡ c.inside.frame.locals
  locals_are c e = ap (λ (c : Context). c.inside.frame.locals) (first_is c e)

  module _ (c : Context) (f : Function) (e : slice_get th.contexts 0 ≡ Some c) (found : slice_get r.functions.items c.inside.frame.unit ≡ Some f) where
    found_here : slice_get r.functions.items s.function ≡ Some f
    found_here = ap (slice_get r.functions.items) (unit_is c e) ∙ found

    pub enough : length f.params.items ≤ length c.inside.frame.locals
    enough =
        let takes = takes_all f found_here in
        let long = ap length (sym (locals_are c e)) ∙ length-append s.args (replicate (locals_in (slice_get code.units s.function) - length s.args) Nothing) in
        omega (arith, takes, long)

    pub begins : (b : Beginning) → b.function ≡ c.inside.frame.unit → b.args ≡ take (length f.params.items) c.inside.frame.locals → b.caps ≡ c.caps → BeginsAt (resolved_tree r) code th b
    begins b function args caps =
        record {
          it = s.it ∙ (λ i. started code (same_function i) (same_args i) (same_caps i));
          entry = subst (λ n. IsEntry (resolved_tree r) n b.args) same_function (subst (λ vs. IsEntry (resolved_tree r) s.function vs) same_args s.entry);
        }
      where
        same_function : s.function ≡ b.function
        same_function = unit_is c e ∙ sym function

        same_args : s.args ≡ b.args
        same_args =
            sym (take_at s.args (replicate (locals_in (slice_get code.units s.function) - length s.args) Nothing) (length f.params.items) (takes_all f found_here)) ∙ ap (take (length f.params.items)) (locals_are c e) ∙ sym args

        same_caps : s.caps ≡ b.caps
        same_caps = ap (λ (c : Context). c.caps) (first_is c e) ∙ sym caps

-- three facts of what was made
pub of_three : {X Y : Type 0} (r : Result X Y) (P Q R S : X → Type 0) → ((x : X) → P x → Q x → R x → S x) → IfOk r P → IfOk r Q → IfOk r R → IfOk r S
of_three (Ok x) P Q R S f p q t = f x p q t
of_three (Err y) P Q R S f p q t = tt
