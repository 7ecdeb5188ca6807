-- A program with its names resolved has as many classes, functions and regions as it has in words.
use Rattle.std.proofs.Common.{◌≡◌, ℕ, ◌≤◌, List, [], ◌∷◌, length, Option, Some, None, IfSome, refl, subst, arith, length-append}
use Rattle.std.proofs.lemmas.List.{length-map}
use Rattle.lam_syntax.specs.Tree.{FunctionTree, class_item, function_item, ProgramTree, stmt_node, StmtForm, let_stmt, if_stmt, while_stmt, return_stmt, throw_stmt, sync_stmt, region_stmt, do_stmt, assign_stmt, StmtList, no_stmts, stmts, ElseTree, no_else, else_block}
use Rattle.lam_operators.specs.Words.{Word}
use Rattle.lam_types_kinds.specs.Tables.{declared_classes, declared_functions}
use Rattle.lam_types.specs.Judgement as words
use Rattle.lam_types.specs.Judgement.{regions_of_program, IsTyped}
use Rattle.lam_resolve_tree.specs.Tree.{Expression, local_value, field_of, element_of, ResolvedTree}
use Rattle.lam_meaning.specs.Scheme.{regions_of, regions_in, regions_in_other, all_regions}
use Rattle.lam_resolve_laws.specs.Resolved.{then_some, class_names, types_of, resolve_classes, Tables, tables, Locals, State, resolve_stmt_form, resolve_else, resolve_stmts, assignment, resolve_function, resolve_functions, resolved}

-- what holds of all that comes of the second step holds of what comes of both
onward : {A B : Type 0} (o : Option A) (go : A → Option B) (P : B → Type 0) → ((a : A) → IfSome (go a) P) → IfSome (then_some o go) P
unfolding then_some
onward None go P h = tt
onward (Some a) go P h = h a

-- and where something is known of the first step's value
after : {A B : Type 0} (o : Option A) (K : A → Type 0) → IfSome o K → (go : A → Option B) (P : B → Type 0) → ((a : A) → K a → IfSome (go a) P) → IfSome (then_some o go) P
unfolding then_some
after None K k go P h = tt
after (Some a) K k go P h = h a k

-- a statement, a block and the other branch of an `if` have as many regions as they have in words
module _ (t : Tables) where
  assigns : (q v : Expression) → IfSome (assignment q v) (λ s. length (regions_of s) ≡ 0)
  assigns (local_value n) v = refl
  assigns (field_of e c f u) v = refl
  assigns (element_of e i u) v = refl
  assigns q v = tt

  mutual
    in_form : (form : StmtForm) (ls : Locals) (st : State) → IfSome (resolve_stmt_form t ls st form) (λ a. length (regions_of a.it) ≡ words.regions_in form)
    in_form (let_stmt x e) ls st = onward _ _ _ (λ u. onward _ _ _ (λ v. refl))
    in_form (if_stmt e first other) ls st =
        onward _ _ _ (λ v. after _ _ (in_stmts first ls st) _ _ (λ a h. after _ _ (in_else other ls a.state) _ _ (λ b k. omega (arith, length-append (regions_in a.it) (regions_in_other b.it), h, k))))
    in_form (while_stmt e body) ls st = onward _ _ _ (λ v. after _ _ (in_stmts body ls st) _ _ (λ a h. h))
    in_form (return_stmt e) ls st = onward _ _ _ (λ v. refl)
    in_form (throw_stmt e) ls st = onward _ _ _ (λ v. refl)
    in_form (sync_stmt e body) ls st = onward _ _ _ (λ v. onward _ _ _ (λ u. after _ _ (in_stmts body ls _) _ _ (λ a h. h)))
    in_form (region_stmt l k xs body x handler) ls st =
        onward _ _ _ (λ l. onward _ _ _ (λ k. onward _ _ _ (λ cs. after _ _ (in_stmts body _ _) _ _ (λ a h. after _ _ (in_stmts handler _ _) _ _ (λ b g. omega (arith, length-append (regions_in a.it) (regions_in b.it), h, g))))))
    in_form (do_stmt e) ls st = onward _ _ _ (λ v. refl)
    in_form (assign_stmt q e) ls st = onward _ _ _ (λ q. onward _ _ _ (λ v. after _ _ (assigns q.it v.it) _ _ (λ s h. h)))

    in_else : (other : ElseTree) (ls : Locals) (st : State) → IfSome (resolve_else t ls st other) (λ a. length (regions_in_other a.it) ≡ words.regions_or other)
    in_else no_else ls st = refl
    in_else (else_block body) ls st = after _ _ (in_stmts body ls st) _ _ (λ a h. h)

    in_stmts : (body : StmtList) (ls : Locals) (st : State) → IfSome (resolve_stmts t ls st body) (λ a. length (regions_in a.it) ≡ words.regions_of body)
    in_stmts no_stmts ls st = refl
    in_stmts (stmts (stmt_node at form) rest) ls st =
        after _ _ (in_form form ls st) _ _ (λ a h. after _ _ (in_stmts rest a.locals a.state) _ _ (λ b k. omega (arith, length-append (regions_of a.it) (regions_in b.it), h, k)))

  in_function : (m : ℕ) (f : FunctionTree) → IfSome (resolve_function t m f) (λ a. length (regions_in a.0.body) ≡ words.regions_of f.body)
  in_function m f = onward _ _ _ (λ vs. onward _ _ _ (λ result. after _ _ (in_stmts f.body _ _) _ _ (λ b h. h)))

  in_functions : (p : ProgramTree) (m : ℕ) → IfSome (resolve_functions t m p) (λ fs. (length fs ≡ length (declared_functions p)) × (length (all_regions fs) ≡ regions_of_program p))
  in_functions [] m = (refl, refl)
  in_functions (class_item c ∷ p) m = in_functions p m
  in_functions (function_item f ∷ p) m =
      after _ _ (in_function m f) _ _ (λ a h. after _ _ (in_functions p a.1) _ _ (λ fs k. (omega (arith, k.0), omega (arith, length-append (regions_in a.0.body) (all_regions fs), h, k.1))))

in_classes : (cs : List (Word × Unit {0})) (p : ProgramTree) → IfSome (resolve_classes cs p) (λ css. length css ≡ length (declared_classes p))
in_classes cs [] = refl
in_classes cs (class_item c ∷ p) = onward _ _ _ (λ us. after _ _ (in_classes cs p) _ _ (λ css h. omega (arith, h)))
in_classes cs (function_item f ∷ p) = in_classes cs p

-- so few classes, functions and regions
pub record IsSmall (r : ResolvedTree) : Type 0 where
  pub classes : length r.classes ≤ 1024
  pub functions : length r.functions ≤ 1024
  pub regions : length (all_regions r.functions) ≤ 4096

in_tables : (p : ProgramTree) → IfSome (tables p) (λ t. length t.classes ≡ length (declared_classes p))
in_tables p = after _ _ (in_classes (class_names p) p) _ _ (λ classes h. onward _ _ _ (λ heads. h))

small_all : (p : ProgramTree) → IsTyped p → IfSome (resolved p) IsSmall
unfolding resolved
small_all p ((names_differ, few_classes, no_builtin, functions_differ, few_functions), items, few_regions) =
    after _ _ (in_tables p) _ _ (λ t c.
    after _ _ (in_functions t p 0) _ _ (λ fs k.
    record {
      classes = omega (arith, few_classes, c, length-map t.classes types_of);
      functions = omega (arith, few_functions, k.0);
      regions = omega (arith, few_regions, k.1);
    }))

pub small : (p : ProgramTree) (r : ResolvedTree) → IsTyped p → resolved p ≡ Some r → IsSmall r
small p r typed e = subst (λ (o : Option ResolvedTree). IfSome o IsSmall) e (small_all p typed)
