-- Functions and programs, as the code meets them.
use Rattle.std.proofs.Common.{◌≡◌, ℕ, ◌+◌, ◌<◌, List, [], ◌∷◌, ◌++◌, length, map, drop, get_or, Option, Some, None, IsSome, is_some, refl, sym, ap, ◌∙◌, append_assoc, subst}
use Rattle.std.specs.Option.{IsSomeAnd}
use Rattle.lam_syntax.specs.declared.Item.{Item}
use Rattle.lam_syntax.specs.Tree.{FunctionTree, ClassTree, ItemTree, class_item, function_item, ProgramTree, items_tree, item_tree}
use Rattle.lam_operators.specs.Words.{Word}
use Rattle.lam_resolve_tree.specs.declared.Class.{Class}
use Rattle.lam_resolve_tree.specs.declared.Function.{Function}
use Rattle.lam_resolve_tree.specs.Tree.{ResolvedType, ResolvedFunction, ResolvedTree, Block, class_tree, classes_tree, function_tree, functions_tree}
use Rattle.lam_resolve_laws.specs.Resolved.{then_some, Tables, Locals, State, state_as, Closed, locals_from, types_of, resolve_vars, resolve_result, resolve_stmts, function_as, resolve_function, resolve_functions, tables, resolved}
use Rattle.lam_resolve_tables.specs.declared.kinds.Kind.{Kind}
use Rattle.lam_resolve_tables.specs.declared.named.Named.{Named}
use Rattle.lam_resolve_tables.specs.Tables.{fields, all_fields}
use Rattle.lam_resolve_tables.proofs.Options.{first_some, next_some, goes, Collected, collected_some, one_more}
use Rattle.lam_resolve.specs.Meets.{types_of_all, IsAdded}

module _ (t : Tables) (m : ℕ) (f : FunctionTree) where
  abbrev after_body : List (Word × ResolvedType) → Option ResolvedType → Closed Block → Option (ResolvedFunction × ℕ)
  after_body vs r b = Some (function_as f.name.word vs r b, b.state.regions)

  abbrev after_result : List (Word × ResolvedType) → Option ResolvedType → Option (ResolvedFunction × ℕ)
  after_result vs r = then_some (resolve_stmts t (locals_from 0 vs) (state_as (types_of vs) m) f.body) (λ b. after_body vs r b)

  abbrev after_params : List (Word × ResolvedType) → Option (ResolvedFunction × ℕ)
  after_params vs = then_some (resolve_result t.names f.result) (λ r. after_result vs r)

  pub function_params : IsSome (resolve_function t m f) → IsSome (resolve_vars t.names f.params)
  function_params h = first_some (resolve_vars t.names f.params) (λ vs. after_params vs) h

  module _ (vs : List (Word × ResolvedType)) (iv : Some vs ≡ resolve_vars t.names f.params) where
    in_params : IsSome (resolve_function t m f) → IsSome (after_params vs)
    in_params h = next_some (resolve_vars t.names f.params) vs (λ vs. after_params vs) iv h

    pub function_result : IsSome (resolve_function t m f) → IsSome (resolve_result t.names f.result)
    function_result h = first_some (resolve_result t.names f.result) (λ r. after_result vs r) (in_params h)

    module _ (r : Option ResolvedType) (names : Locals) (st : State) (ir : Some r ≡ resolve_result t.names f.result) (inames : names ≡ locals_from 0 vs) (ist : st ≡ state_as (types_of vs) m) where
      body_is : resolve_stmts t names st f.body ≡ resolve_stmts t (locals_from 0 vs) (state_as (types_of vs) m) f.body
      body_is = ap (λ names. resolve_stmts t names st f.body) inames ∙ ap (λ st. resolve_stmts t (locals_from 0 vs) st f.body) ist

      pub function_body : IsSome (resolve_function t m f) → IsSome (resolve_stmts t names st f.body)
      function_body h =
          ap is_some body_is ∙ first_some (resolve_stmts t (locals_from 0 vs) (state_as (types_of vs) m) f.body) (λ b. after_body vs r b) (next_some (resolve_result t.names f.result) r (λ r. after_result vs r) ir (in_params h))

      pub function_done : (b : Closed Block) (name : Word) (params : List ResolvedType) (result : Option ResolvedType) → Some b ≡ resolve_stmts t names st f.body → name ≡ f.name.word → params ≡ types_of vs → result ≡ r →
          ◌≡◌ {A = Option (ResolvedFunction × ℕ)} (Some (record { name = name; params = params; result = result; slots = b.state.slots; body = b.it }, b.state.regions)) (resolve_function t m f)
      function_done b name params result ib p q s =
          ap (λ name. Some (record { name = name; params = params; result = result; slots = b.state.slots; body = b.it }, b.state.regions)) p ∙
          ap (λ params. Some (record { name = f.name.word; params = params; result = result; slots = b.state.slots; body = b.it }, b.state.regions)) q ∙
          ap (λ result. Some (record { name = f.name.word; params = types_of vs; result = result; slots = b.state.slots; body = b.it }, b.state.regions)) s ∙
          sym (goes (resolve_vars t.names f.params) vs (λ vs. after_params vs) iv ∙ goes (resolve_result t.names f.result) r (λ r. after_result vs r) ir ∙
          goes (resolve_stmts t (locals_from 0 vs) (state_as (types_of vs) m) f.body) b (λ b. after_body vs r b) (ib ∙ body_is))

pub functions_push : (fs : List Function) (f : Function) → functions_tree (fs ++ f ∷ []) ≡ functions_tree fs ++ function_tree f ∷ []
functions_push [] f = refl
functions_push (g ∷ fs) f = ap (λ l. function_tree g ∷ l) (functions_push fs f)

chunk_one : {A : Type 0} (rest : Option (List A)) (done : List A) (a : A) → then_some (then_some rest (λ bs. Some (a ∷ bs))) (λ bs. Some (done ++ bs)) ≡ then_some rest (λ bs. Some ((done ++ a ∷ []) ++ bs))
unfolding then_some
chunk_one None done a = refl
chunk_one (Some bs) done a = ap Some (sym (append_assoc done (a ∷ []) bs))

one_function : (o : Option (ResolvedFunction × ℕ)) → IsSome o → IsSome (then_some o (λ a. then_some (Some []) (λ fs. Some (a.0 ∷ fs))))
unfolding then_some
one_function None h = h
one_function (Some a) h = refl

module _ (t : Tables) (m : ℕ) where
  pub function_needs : (i : ItemTree) (f : FunctionTree) → i ≡ function_item f → IsSome (resolve_functions t m (i ∷ [])) → IsSome (resolve_function t m f)
  function_needs i f e h = first_some (resolve_function t m f) (λ a. then_some (Some []) (λ fs. Some (a.0 ∷ fs))) (sym (ap (λ i. is_some (resolve_functions t m (i ∷ []))) e) ∙ h)

  pub class_added : (i : ItemTree) (c : ClassTree) (old : List ResolvedFunction) → i ≡ class_item c → IsAdded t m i m old old
  class_added i c old e = λ p. ap (λ i. then_some (resolve_functions t m (i ∷ p)) (λ fs. Some (old ++ fs))) e

  pub function_added : (i : ItemTree) (f : FunctionTree) (n : ℕ) (g : ResolvedFunction) (old new : List ResolvedFunction) → i ≡ function_item f → Some (g, n) ≡ resolve_function t m f → new ≡ old ++ g ∷ [] → IsAdded t m i n old new
  function_added i f n g old new e h k = λ p.
      ap (λ i. then_some (resolve_functions t m (i ∷ p)) (λ fs. Some (old ++ fs))) e ∙
      ap (λ o. then_some o (λ fs. Some (old ++ fs))) (goes (resolve_function t m f) (g, n) (λ a. then_some (resolve_functions t a.1 p) (λ fs. Some (a.0 ∷ fs))) h) ∙
      chunk_one (resolve_functions t n p) old g ∙ ap (λ new. then_some (resolve_functions t n p) (λ fs. Some (new ++ fs))) (sym k)

  -- an item resolves alone
  pub item_alone : (i : ItemTree) (p : ProgramTree) → IsSome (resolve_functions t m (i ∷ p)) → IsSome (resolve_functions t m (i ∷ []))
  item_alone (class_item c) p h = refl
  item_alone (function_item f) p h = one_function (resolve_function t m f) (first_some (resolve_function t m f) (λ a. then_some (resolve_functions t a.1 p) (λ fs. Some (a.0 ∷ fs))) h)

  pub items_need : (w : Option (List ResolvedFunction)) (done : List ResolvedFunction) (xs : List Item) (k : ℕ) (x : Item) → k < length xs → x ≡ get_or xs k x → Collected w (resolve_functions t m (items_tree (drop k xs))) done → IsSome w → IsSome (resolve_functions t m (item_tree x ∷ []))
  items_need w done xs k x lt is c h =
      item_alone (item_tree x) (items_tree (drop (k + 1) xs))
      (sym (ap (λ l. is_some (resolve_functions t m (items_tree l))) (one_more xs k x lt is)) ∙ collected_some w (resolve_functions t m (items_tree (drop k xs))) done c h)

  pub items_next : (w : Option (List ResolvedFunction)) (old new : List ResolvedFunction) (n : ℕ) (xs : List Item) (k : ℕ) (x : Item) → k < length xs → x ≡ get_or xs k x → Collected w (resolve_functions t m (items_tree (drop k xs))) old → IsAdded t m (item_tree x) n old new →
      Collected w (resolve_functions t n (items_tree (drop (k + 1) xs))) new
  items_next w old new n xs k x lt is c a =
      record { joins = c.joins ∙ ap (λ l. then_some (resolve_functions t m (items_tree l)) (λ fs. Some (old ++ fs))) (one_more xs k x lt is) ∙ a (items_tree (drop (k + 1) xs)) }

-- the classes
classes_push : (cs : List Class) (c : Class) → classes_tree (cs ++ c ∷ []) ≡ classes_tree cs ++ class_tree c ∷ []
classes_push [] c = refl
classes_push (d ∷ cs) c = ap (λ l. class_tree d ∷ l) (classes_push cs c)

pub classes_step : (done next : List Class) (cs : List (Named Kind)) (i : ℕ) (n : Named Kind) (v : Class) (all : List (List ResolvedType)) → i < length cs → n ≡ get_or cs i n → class_tree v ≡ types_of (fields n) → next ≡ done ++ v ∷ [] →
    classes_tree done ++ types_of_all (all_fields (drop i cs)) ≡ all → classes_tree next ++ types_of_all (all_fields (drop (i + 1) cs)) ≡ all
classes_step done next cs i n v all lt is e k h =
    ap (λ l. classes_tree l ++ types_of_all (all_fields (drop (i + 1) cs))) k ∙ ap (λ l. l ++ types_of_all (all_fields (drop (i + 1) cs))) (classes_push done v) ∙
    append_assoc (classes_tree done) (class_tree v ∷ []) (types_of_all (all_fields (drop (i + 1) cs))) ∙ ap (λ u. classes_tree done ++ u ∷ types_of_all (all_fields (drop (i + 1) cs))) e ∙
    ap (λ l. classes_tree done ++ types_of_all (all_fields l)) (sym (one_more cs i n lt is)) ∙ h

-- a program
module _ (p : ProgramTree) where
  abbrev whole : Tables → Option ResolvedTree
  whole t = then_some (resolve_functions t 0 p) (λ fs. Some (record { classes = map types_of t.classes; functions = fs }))

  pub program_tables : IsSome (resolved p) → IsSome (tables p)
  unfolding resolved
  program_tables h = first_some (tables p) (λ t. whole t) h

  pub program_functions : (t : Tables) → Some t ≡ tables p → IsSome (resolved p) → IsSome (resolve_functions t 0 p)
  unfolding resolved
  program_functions t i h = first_some (resolve_functions t 0 p) (λ fs. Some (record { classes = map types_of t.classes; functions = fs })) (next_some (tables p) t (λ t. whole t) i h)

  pub program_done : (t : Tables) (fs : List ResolvedFunction) (cs : List (List ResolvedType)) → Some t ≡ tables p → Some fs ≡ resolve_functions t 0 p → cs ≡ types_of_all t.classes → ◌≡◌ {A = Option ResolvedTree} (Some (record { classes = cs; functions = fs })) (resolved p)
  unfolding resolved
  program_done t fs cs i j k =
      ap (λ cs. Some (record { classes = cs; functions = fs })) k ∙
      sym (goes (tables p) t (λ t. whole t) i ∙ goes (resolve_functions t 0 p) fs (λ fs. Some (record { classes = map types_of t.classes; functions = fs })) j)

-- what holds of what a program resolves to holds of the tree that it is
pub holds_of : (o : Option ResolvedTree) (r : ResolvedTree) (P : ResolvedTree → Type 0) → Some r ≡ o → IsSomeAnd o P → P r
holds_of o r P e h = subst (λ o. IsSomeAnd o P) (sym e) h
