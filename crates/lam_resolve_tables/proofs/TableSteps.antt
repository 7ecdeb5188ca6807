-- The tables, step by step.
use Rattle.std.proofs.Common.{◌≡◌, ℕ, ◌+◌, ◌<◌, List, [], ◌∷◌, ◌++◌, length, map, drop, get_or, Option, Some, None, IsSome, is_some, refl, sym, ap, ◌∙◌, append_assoc, Bor}
use Rattle.std.proofs.lemmas.List.{append-nil}
use Rattle.lam_syntax.specs.declared.Var.{Var}
use Rattle.lam_syntax.specs.declared.Item.{Item}
use Rattle.lam_syntax.specs.Tree.{ItemTree, class_item, function_item, ClassTree, FunctionTree, ProgramTree, vars_tree, var_tree, items_tree, item_tree}
use Rattle.lam_operators.specs.Words.{Word}
use Rattle.lam_resolve_tree.specs.declared.ValueType.{ValueType}
use Rattle.lam_resolve_tree.specs.Tree.{ResolvedType, type_tree, types_tree}
use Rattle.lam_resolve_tree.specs.Typing.{ResolvedSignature}
use Rattle.lam_resolve_laws.specs.Resolved.{then_some, Tables, types_of, class_names, resolve_type, resolve_result, resolve_vars, resolve_classes, resolve_head, resolve_heads, tables_by, tables}
use Rattle.lam_types_kinds.specs.Values.{keyed}
use Rattle.lam_resolve_tables.specs.declared.kinds.Kind.{Kind}
use Rattle.lam_resolve_tables.specs.Kinds.{kind_type}
use Rattle.lam_resolve_tables.specs.Tables.{vars}
use Rattle.lam_resolve_tables.specs.Meets.{IsJoined}
use Rattle.lam_resolve_tables.proofs.Options.{first_some, next_some, goes, one_more, item_more}

abbrev pub Classes : Type 0
Classes = List (Word × Unit {0})

module _ (cs : Classes) where
  pub vars_step : (vs : List Var) (i : ℕ) (v : Var) → i < length vs → v ≡ get_or vs i v →
      resolve_vars cs (vars_tree (drop i vs)) ≡ then_some (resolve_type cs (var_tree v).ty) (λ t. then_some (resolve_vars cs (vars_tree (drop (i + 1) vs))) (λ ts. Some (((var_tree v).name.word, t) ∷ ts)))
  vars_step vs i v lt is = ap (λ l. resolve_vars cs (vars_tree l)) (one_more vs i v lt is)

  cons_some : {T A : Type 0} (o : Option T) (f : T → A) (rest : Option (List A)) →
      then_some o (λ t. then_some rest (λ bs. Some (f t ∷ bs))) ≡ then_some (then_some o (λ t. then_some (Some []) (λ bs. Some (f t ∷ bs)))) (λ a. then_some rest (λ bs. Some (a ++ bs)))
  unfolding then_some
  cons_some None f rest = refl
  cons_some (Some t) f rest = refl

  cons_none : {A : Type 0} (rest : Option (List A)) → rest ≡ then_some (Some []) (λ a. then_some rest (λ bs. Some (a ++ bs)))
  unfolding then_some
  cons_none None = refl
  cons_none (Some bs) = refl

  classes_cons : (x : ItemTree) (p : ProgramTree) → resolve_classes cs (x ∷ p) ≡ then_some (resolve_classes cs (x ∷ [])) (λ a. then_some (resolve_classes cs p) (λ bs. Some (a ++ bs)))
  classes_cons (class_item c) p = cons_some (resolve_vars cs c.fields) (λ fs. fs) (resolve_classes cs p)
  classes_cons (function_item f) p = cons_none (resolve_classes cs p)

  heads_cons : (x : ItemTree) (p : ProgramTree) → resolve_heads cs (x ∷ p) ≡ then_some (resolve_heads cs (x ∷ [])) (λ a. then_some (resolve_heads cs p) (λ bs. Some (a ++ bs)))
  heads_cons (class_item c) p = cons_none (resolve_heads cs p)
  heads_cons (function_item f) p = cons_some (resolve_head cs f) (λ h. (f.name.word, h)) (resolve_heads cs p)

  pub classes_step : (xs : List Item) (i : ℕ) (x : Item) → i < length xs → x ≡ get_or xs i x →
      resolve_classes cs (items_tree (drop i xs)) ≡ then_some (resolve_classes cs (item_tree x ∷ [])) (λ a. then_some (resolve_classes cs (items_tree (drop (i + 1) xs))) (λ bs. Some (a ++ bs)))
  classes_step xs i x lt is = ap (λ l. resolve_classes cs (items_tree l)) (one_more xs i x lt is) ∙ classes_cons (item_tree x) (items_tree (drop (i + 1) xs))

  pub heads_step : (xs : List Item) (i : ℕ) (x : Item) → i < length xs → x ≡ get_or xs i x →
      resolve_heads cs (items_tree (drop i xs)) ≡ then_some (resolve_heads cs (item_tree x ∷ [])) (λ a. then_some (resolve_heads cs (items_tree (drop (i + 1) xs))) (λ bs. Some (a ++ bs)))
  heads_step xs i x lt is = ap (λ l. resolve_heads cs (items_tree l)) (one_more xs i x lt is) ∙ heads_cons (item_tree x) (items_tree (drop (i + 1) xs))

  -- one item
  joined_none : {A : Type 0} (old : List A) → IsJoined old (Some []) old
  unfolding then_some
  joined_none old = ap Some (sym (append-nil old))

  joined_one : {A T : Type 0} (old new : List A) (o : Option T) (f : T → A) (t : T) → Some t ≡ o → new ≡ old ++ f t ∷ [] → IsJoined old (then_some o (λ t. then_some (Some []) (λ bs. Some (f t ∷ bs)))) new
  unfolding then_some
  joined_one old new o f t e n = ap Some n ∙ ap (λ o. then_some (then_some o (λ t. then_some (Some []) (λ bs. Some (f t ∷ bs)))) (λ bs. Some (old ++ bs))) e

  module _ (i : ItemTree) where
    pub class_needs : (c : ClassTree) → i ≡ class_item c → IsSome (resolve_classes cs (i ∷ [])) → IsSome (resolve_vars cs c.fields)
    class_needs c e h = first_some (resolve_vars cs c.fields) (λ fs. then_some (Some []) (λ rest. Some (fs ∷ rest))) (sym (ap (λ i. is_some (resolve_classes cs (i ∷ []))) e) ∙ h)

    pub class_joined : (c : ClassTree) (old new : List (List (Word × ResolvedType))) (fs : List (Word × ResolvedType)) → i ≡ class_item c → Some fs ≡ resolve_vars cs c.fields → new ≡ old ++ fs ∷ [] → IsJoined old (resolve_classes cs (i ∷ [])) new
    class_joined c old new fs e h n = joined_one old new (resolve_vars cs c.fields) (λ fs. fs) fs h n ∙ sym (ap (λ i. then_some (resolve_classes cs (i ∷ [])) (λ bs. Some (old ++ bs))) e)

    pub class_apart : (f : FunctionTree) (old : List (List (Word × ResolvedType))) → i ≡ function_item f → IsJoined old (resolve_classes cs (i ∷ [])) old
    class_apart f old e = joined_none old ∙ sym (ap (λ i. then_some (resolve_classes cs (i ∷ [])) (λ bs. Some (old ++ bs))) e)

    pub head_needs : (f : FunctionTree) → i ≡ function_item f → IsSome (resolve_heads cs (i ∷ [])) → IsSome (resolve_head cs f)
    head_needs f e h = first_some (resolve_head cs f) (λ h. then_some (Some []) (λ rest. Some ((f.name.word, h) ∷ rest))) (sym (ap (λ i. is_some (resolve_heads cs (i ∷ []))) e) ∙ h)

    pub head_joined : (f : FunctionTree) (old new : List (Word × ResolvedSignature)) (k : ResolvedSignature) → i ≡ function_item f → Some k ≡ resolve_head cs f → new ≡ old ++ (f.name.word, k) ∷ [] → IsJoined old (resolve_heads cs (i ∷ [])) new
    head_joined f old new k e h n = joined_one old new (resolve_head cs f) (λ h. (f.name.word, h)) k h n ∙ sym (ap (λ i. then_some (resolve_heads cs (i ∷ [])) (λ bs. Some (old ++ bs))) e)

    pub head_apart : (c : ClassTree) (old : List (Word × ResolvedSignature)) → i ≡ class_item c → IsJoined old (resolve_heads cs (i ∷ [])) old
    head_apart c old e = joined_none old ∙ sym (ap (λ i. then_some (resolve_heads cs (i ∷ [])) (λ bs. Some (old ++ bs))) e)

  -- the head of a function
  module _ (f : FunctionTree) where
    pub head_params : IsSome (resolve_head cs f) → IsSome (resolve_vars cs f.params)
    head_params h = first_some (resolve_vars cs f.params) (λ vs. then_some (resolve_result cs f.result) (λ r. Some (record { params = types_of vs; result = r }))) h

    pub head_result : (vs : List (Word × ResolvedType)) → Some vs ≡ resolve_vars cs f.params → IsSome (resolve_head cs f) → IsSome (resolve_result cs f.result)
    head_result vs e h =
        first_some (resolve_result cs f.result) (λ r. Some (record { params = types_of vs; result = r }))
        (next_some (resolve_vars cs f.params) vs (λ vs. then_some (resolve_result cs f.result) (λ r. Some (record { params = types_of vs; result = r }))) e h)

    pub head_done : (vs : List (Word × ResolvedType)) (r : Option ResolvedType) → Some vs ≡ resolve_vars cs f.params → Some r ≡ resolve_result cs f.result → ◌≡◌ {A = Option ResolvedSignature} (Some (record { params = types_of vs; result = r })) (resolve_head cs f)
    head_done vs r e h =
        sym (goes (resolve_vars cs f.params) vs (λ vs. then_some (resolve_result cs f.result) (λ r. Some (record { params = types_of vs; result = r }))) e ∙
        goes (resolve_result cs f.result) r (λ r. Some (record { params = types_of vs; result = r })) h)

-- the tables of a program
module _ (p : ProgramTree) (cs : Classes) (e : cs ≡ class_names p) where
  pub tables_classes : IsSome (tables p) → IsSome (resolve_classes cs p)
  tables_classes h =
      first_some (resolve_classes cs p) (λ classes. then_some (resolve_heads cs p) (λ heads. Some (record { names = cs; classes = classes; functions = heads }))) (ap (λ cs. is_some (tables_by cs p)) e ∙ h)

  pub tables_heads : (classes : List (List (Word × ResolvedType))) → Some classes ≡ resolve_classes cs p → IsSome (tables p) → IsSome (resolve_heads cs p)
  tables_heads classes i h =
      first_some (resolve_heads cs p) (λ heads. Some (record { names = cs; classes = classes; functions = heads }))
      (next_some (resolve_classes cs p) classes (λ classes. then_some (resolve_heads cs p) (λ heads. Some (record { names = cs; classes = classes; functions = heads }))) i (ap (λ cs. is_some (tables_by cs p)) e ∙ h))

  pub tables_done : (classes : List (List (Word × ResolvedType))) (heads : List (Word × ResolvedSignature)) → Some classes ≡ resolve_classes cs p → Some heads ≡ resolve_heads cs p →
      ◌≡◌ {A = Option Tables} (Some (record { names = cs; classes = classes; functions = heads })) (tables p)
  tables_done classes heads i j =
      sym (goes (resolve_classes cs p) classes (λ classes. then_some (resolve_heads cs p) (λ heads. Some (record { names = cs; classes = classes; functions = heads }))) i ∙
      goes (resolve_heads cs p) heads (λ heads. Some (record { names = cs; classes = classes; functions = heads })) j) ∙ ap (λ cs. tables_by cs p) e

pub types_push : (ts : List ValueType) (t : ValueType) → types_tree (ts ++ t ∷ []) ≡ types_tree ts ++ type_tree t ∷ []
types_push [] t = refl
types_push (u ∷ ts) t = ap (λ l. type_tree u ∷ l) (types_push ts t)

pub fields_vars : (es : List (Bor Word × Kind)) → ◌≡◌ {A = List (Word × ResolvedType)} (map (λ e. (e.0, kind_type e.1)) (keyed es)) (vars es)
fields_vars [] = refl
fields_vars (e ∷ es) = ap (λ l. (e.0.now, kind_type e.1) ∷ l) (fields_vars es)

pub types_step : (done next : List ValueType) (vs : List (Bor Word × Kind)) (i : ℕ) (d : Bor Word × Kind) (t : ValueType) (all : List ResolvedType) → i < length vs → type_tree t ≡ kind_type (get_or vs i d).1 → next ≡ done ++ t ∷ [] →
    types_tree done ++ types_of (vars (drop i vs)) ≡ all → types_tree next ++ types_of (vars (drop (i + 1) vs)) ≡ all
types_step done next vs i d t all lt e n h =
    ap (λ l. types_tree l ++ types_of (vars (drop (i + 1) vs))) n ∙ ap (λ l. l ++ types_of (vars (drop (i + 1) vs))) (types_push done t) ∙ append_assoc (types_tree done) (type_tree t ∷ []) (types_of (vars (drop (i + 1) vs))) ∙
    ap (λ u. types_tree done ++ u ∷ types_of (vars (drop (i + 1) vs))) e ∙ ap (λ l. types_tree done ++ types_of (vars l)) (sym (item_more vs i d lt)) ∙ h
