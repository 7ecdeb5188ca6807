-- Arguments, one after the other.
use Rattle.std.proofs.Common.{◌≡◌, ℕ, zero, suc, ◌+◌, ◌<◌, arith, List, [], ◌∷◌, ◌++◌, length, drop, get_or, Option, Some, None, IsSome, is_some, refl, sym, ap, ◌∙◌, subst, add-one}
use Rattle.lam_syntax.specs.declared.Expr.{Expr}
use Rattle.lam_syntax.specs.Tree.{expr_tree, exprs_tree}
use Rattle.lam_builtins.specs.Types.{nothing}
use Rattle.lam_resolve_tree.specs.declared.Expr.{Expr as Resolved}
use Rattle.lam_resolve_tree.specs.Tree.{ResolvedGiven, Expressions, args_end, args_more, expr_tree as resolved_tree, exprs_tree as resolved_row}
use Rattle.lam_resolve_tables.specs.Resolved.{then_some, Tables, Locals, Args, args_as, resolve, resolve_args}
use Rattle.lam_resolve_exprs.specs.Meets.{first_of}
use Rattle.lam_resolve_tables.proofs.Options.{first_some, goes, one_more}
use Rattle.lam_resolve_exprs.proofs.Sizes.{expr_size, args_size}

pub item_smaller : (xs : List Expr) (i : ℕ) (x : Expr) → i < length xs → x ≡ get_or xs i x → expr_size (expr_tree x) < args_size (exprs_tree xs)
item_smaller [] i x h e = absurd (omega arith)
item_smaller (y ∷ xs) zero x h e = subst (λ y. expr_size (expr_tree x) < args_size (exprs_tree (y ∷ xs))) e (omega arith)
item_smaller (y ∷ xs) (suc i) x h e = omega (arith, item_smaller xs i x (omega arith) e)

abbrev pub glued : Expressions → Expressions → Expressions
glued args_end r = r
glued (args_more e es) r = args_more e (glued es r)

glued_end : (es : Expressions) → glued es args_end ≡ es
glued_end args_end = refl
glued_end (args_more e es) = ap (args_more e) (glued_end es)

glued_more : (xs : List Resolved) (x : Resolved) (r : Expressions) → glued (resolved_row xs) (args_more (resolved_tree x) r) ≡ glued (resolved_row (xs ++ x ∷ [])) r
glued_more [] x r = refl
glued_more (y ∷ xs) x r = ap (args_more (resolved_tree y)) (glued_more xs x r)

-- the whole is what is done, and then the rest; f is what the first gives, where it is done
pub record ArgsSoFar (whole rest : Option Args) (done : List Resolved) (i : ℕ) (f : ResolvedGiven) : Type 0 where
  pub joins : whole ≡ then_some rest (λ r. Some (args_as (glued (resolved_row done) r.it) (first_of i f r.first)))
  pub noted : first_of i f nothing ≡ f

args_itself : (o : Option Args) (f : ResolvedGiven) → o ≡ then_some o (λ r. Some (args_as r.it (first_of 0 f r.first)))
unfolding then_some
args_itself None f = refl
args_itself (Some a) f = refl

pub args_first : (o : Option Args) (done : List Resolved) (f : ResolvedGiven) → done ≡ [] → f ≡ nothing → ArgsSoFar o o done 0 f
args_first o done f e n =
    record { joins = args_itself o f ∙ ap (λ d. then_some o (λ r. Some (args_as (glued (resolved_row d) r.it) (first_of 0 f r.first)))) (sym e); noted = sym n }

pub args_some : (w r : Option Args) (done : List Resolved) (i : ℕ) (f : ResolvedGiven) → ArgsSoFar w r done i f → IsSome w → IsSome r
args_some w r done i f s h = first_some r (λ r. Some (args_as (glued (resolved_row done) r.it) (first_of i f r.first))) (sym (ap is_some s.joins) ∙ h)

args_chunk : (rest : Option Args) (done : List Resolved) (x : Resolved) (i : ℕ) (f g : ResolvedGiven) →
    then_some (then_some rest (λ r. Some (args_as (args_more (resolved_tree x) r.it) g))) (λ r. Some (args_as (glued (resolved_row done) r.it) (first_of i f r.first))) ≡
    then_some rest (λ r. Some (args_as (glued (resolved_row (done ++ x ∷ [])) r.it) (first_of (suc i) (first_of i f g) r.first)))
unfolding then_some
args_chunk None done x i f g = refl
args_chunk (Some r) done x i f g = ap (λ e. Some (args_as e (first_of i f g))) (glued_more done x r.it)

module _ (t : Tables) (ls : Locals) (xs : List Expr) (i : ℕ) (x : Expr) (lt : i < length xs) (is : x ≡ get_or xs i x) where
  args_step : resolve_args t ls (exprs_tree (drop i xs)) ≡ then_some (resolve t ls (expr_tree x)) (λ v. then_some (resolve_args t ls (exprs_tree (drop (i + 1) xs))) (λ r. Some (args_as (args_more v.it r.it) v.gives)))
  args_step = ap (λ l. resolve_args t ls (exprs_tree l)) (one_more xs i x lt is)

  pub args_needs : (w : Option Args) (done : List Resolved) (f : ResolvedGiven) → ArgsSoFar w (resolve_args t ls (exprs_tree (drop i xs))) done i f → IsSome w → (expr_size (expr_tree x) < args_size (exprs_tree xs)) × IsSome (resolve t ls (expr_tree x))
  args_needs w done f s h =
      (item_smaller xs i x lt is, first_some (resolve t ls (expr_tree x)) (λ v. then_some (resolve_args t ls (exprs_tree (drop (i + 1) xs))) (λ r. Some (args_as (args_more v.it r.it) v.gives))) (sym (ap is_some args_step) ∙ args_some w _ done i f s h))

  pub args_next : (w : Option Args) (done next : List Resolved) (f n : ResolvedGiven) (v : Resolved) (g : ResolvedGiven) → ArgsSoFar w (resolve_args t ls (exprs_tree (drop i xs))) done i f →
      Some (record { it = resolved_tree v; gives = g }) ≡ resolve t ls (expr_tree x) → next ≡ done ++ v ∷ [] → n ≡ first_of i f g → ArgsSoFar w (resolve_args t ls (exprs_tree (drop (i + 1) xs))) next (i + 1) n
  args_next w done next f n v g s e a b =
      let rest = resolve_args t ls (exprs_tree (drop (i + 1) xs)) in
      let step : w ≡ then_some rest (λ r. Some (args_as (glued (resolved_row (done ++ v ∷ [])) r.it) (first_of (suc i) (first_of i f g) r.first))) =
      s.joins ∙ ap (λ r. then_some r (λ r. Some (args_as (glued (resolved_row done) r.it) (first_of i f r.first))))
      (args_step ∙ goes (resolve t ls (expr_tree x)) (record { it = resolved_tree v; gives = g }) (λ v. then_some rest (λ r. Some (args_as (args_more v.it r.it) v.gives))) e) ∙ args_chunk rest done v i f g in
      record {
        joins = step ∙ ap (λ d. then_some rest (λ r. Some (args_as (glued (resolved_row d) r.it) (first_of (suc i) (first_of i f g) r.first)))) (sym a) ∙
            ap (λ m. then_some rest (λ r. Some (args_as (glued (resolved_row next) r.it) (first_of (suc i) m r.first)))) (sym b) ∙
            ap (λ k. then_some rest (λ r. Some (args_as (glued (resolved_row next) r.it) (first_of k n r.first)))) (sym (add-one i));
        noted = ap (λ k. first_of k n nothing) (add-one i);
      }

pub args_last : (w r : Option Args) (done : List Resolved) (i : ℕ) (f : ResolvedGiven) → ArgsSoFar w r done i f → r ≡ Some (args_as args_end nothing) → Some (args_as (resolved_row done) f) ≡ w
args_last w r done i f s e =
    sym (s.joins ∙ goes r (args_as args_end nothing) (λ r. Some (args_as (glued (resolved_row done) r.it) (first_of i f r.first))) (sym e) ∙
    ap (λ d. Some (args_as d (first_of i f nothing))) (glued_end (resolved_row done)) ∙ ap (λ g. Some (args_as (resolved_row done) g)) s.noted)
