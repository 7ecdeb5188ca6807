-- Expressions, form by form. An argument x is the expression that the code reached through a box, and l the one in the
-- tree.
use Rattle.std.proofs.Common.{◌≡◌, ℕ, ◌+◌, ◌<◌, arith, List, Option, Some, None, IsSome, is_some, refl, sym, ap, ◌∙◌, subst}
use Rattle.std.specs.Option.{option_map}
use Rattle.lam_syntax.specs.declared.Expr.{Expr}
use Rattle.lam_operators.specs.declared.BinaryOp.{BinaryOp}
use Rattle.lam_operators.specs.declared.UnaryOp.{UnaryOp}
use Rattle.lam_syntax.specs.Tree.{IdTree, TypeTree, ExprForm, ExprList, CapTree, expr_tree, binary_expr, unary_expr, field_expr, element_expr, name_expr, call_expr, new_class_expr, new_array_expr, label_expr, caps_expr, spawn_expr}
use Rattle.lam_operators.specs.Words.{Word}
use Rattle.lam_builtins.specs.Types.{a_value, object, array, label, caps, thread}
use Rattle.lam_builtins.specs.Operators.{operator_type, unary_type}
use Rattle.lam_builtins.specs.Builtins.{builtin_named}
use Rattle.lam_resolve_tree.specs.Tree.{ResolvedType, unary_of, binary_of, new_array, label_of, caps_of, spawn_of, local_value, new_object}
use Rattle.lam_resolve_tree.specs.Typing.{ResolvedSignature}
use Rattle.lam_resolve_tables.specs.Resolved.{then_some, Found, found, Tables, Locals, local_named, Value, value_as, Args, field_read, element_read, called, resolve, resolve_form, resolve_args, resolve_caps, resolve_type}
use Rattle.lam_resolve_tables.proofs.Options.{first_some, next_some, goes}
use Rattle.lam_resolve_exprs.proofs.Sizes.{expr_size, form_size, args_size}

module _ (t : Tables) (ls : Locals) (k : ExprForm) where
  at_form : (form : ExprForm) → k ≡ form → IsSome (resolve_form t ls k) → IsSome (resolve_form t ls form)
  at_form form e h = sym (ap (λ k. is_some (resolve_form t ls k)) e) ∙ h

  known_at : (x l : Expr) → x ≡ l → IsSome (resolve t ls (expr_tree l)) → IsSome (resolve t ls (expr_tree x))
  known_at x l q h = ap (λ x. is_some (resolve t ls (expr_tree x))) q ∙ h

  is_at : (x l : Expr) (a : Value) → x ≡ l → Some a ≡ resolve t ls (expr_tree x) → Some a ≡ resolve t ls (expr_tree l)
  is_at x l a q h = h ∙ ap (λ x. resolve t ls (expr_tree x)) q

  smaller_at : (x l : Expr) → x ≡ l → expr_size (expr_tree l) < 2 + form_size k → expr_size (expr_tree x) < 2 + form_size k
  smaller_at x l q h = subst (λ x. expr_size (expr_tree x) < 2 + form_size k) (sym q) h

  -- a form that has a function of its own
  pub form_needs : (form : ExprForm) → k ≡ form → IsSome (resolve_form t ls k) → (1 + form_size form < 2 + form_size k) × IsSome (resolve_form t ls form)
  form_needs form e h = (omega (arith, ap form_size e), at_form form e h)

  pub form_done : (form : ExprForm) (v : Value) → k ≡ form → Some v ≡ resolve_form t ls form → Some v ≡ resolve_form t ls k
  form_done form v e h = h ∙ sym (ap (resolve_form t ls) e)

  -- two operands
  pub binary_left : (op : BinaryOp) (x l r : Expr) → k ≡ binary_expr op (expr_tree l) (expr_tree r) → x ≡ l → IsSome (resolve_form t ls k) →
      (expr_size (expr_tree x) < 2 + form_size k) × IsSome (resolve t ls (expr_tree x))
  binary_left op x l r e q h =
      (smaller_at x l q (omega (arith, ap form_size e)), known_at x l q (first_some (resolve t ls (expr_tree l)) _ (at_form (binary_expr op (expr_tree l) (expr_tree r)) e h)))

  pub binary_right : (op : BinaryOp) (x l y r : Expr) (a : Value) → k ≡ binary_expr op (expr_tree l) (expr_tree r) → x ≡ l → y ≡ r → Some a ≡ resolve t ls (expr_tree x) → IsSome (resolve_form t ls k) →
      (expr_size (expr_tree y) < 2 + form_size k) × IsSome (resolve t ls (expr_tree y))
  binary_right op x l y r a e q p i h =
      (smaller_at y r p (omega (arith, ap form_size e)), known_at y r p (first_some (resolve t ls (expr_tree r)) _ (next_some (resolve t ls (expr_tree l)) a _ (is_at x l a q i) (at_form (binary_expr op (expr_tree l) (expr_tree r)) e h))))

  pub binary_done : (op : BinaryOp) (x l y r : Expr) (a b v : Value) → k ≡ binary_expr op (expr_tree l) (expr_tree r) → x ≡ l → y ≡ r → Some a ≡ resolve t ls (expr_tree x) → Some b ≡ resolve t ls (expr_tree y) →
      v ≡ value_as (binary_of op a.it b.it) (a_value (operator_type op)) → Some v ≡ resolve_form t ls k
  binary_done op x l y r a b v e q p i j n =
      ap Some n ∙ sym (ap (resolve_form t ls) e ∙ goes (resolve t ls (expr_tree l)) a _ (is_at x l a q i) ∙ goes (resolve t ls (expr_tree r)) b _ (is_at y r b p j))

  pub unary_first : (op : UnaryOp) (x l : Expr) → k ≡ unary_expr op (expr_tree l) → x ≡ l → IsSome (resolve_form t ls k) → (expr_size (expr_tree x) < 2 + form_size k) × IsSome (resolve t ls (expr_tree x))
  unary_first op x l e q h =
      (smaller_at x l q (omega (arith, ap form_size e)), known_at x l q (first_some (resolve t ls (expr_tree l)) _ (at_form (unary_expr op (expr_tree l)) e h)))

  pub unary_done : (op : UnaryOp) (x l : Expr) (a v : Value) → k ≡ unary_expr op (expr_tree l) → x ≡ l → Some a ≡ resolve t ls (expr_tree x) → v ≡ value_as (unary_of op a.it) (a_value (unary_type op)) → Some v ≡ resolve_form t ls k
  unary_done op x l a v e q i n = ap Some n ∙ sym (ap (resolve_form t ls) e ∙ goes (resolve t ls (expr_tree l)) a _ (is_at x l a q i))

  -- a field
  module _ (f : IdTree) (w : Word) (x l : Expr) (e : k ≡ field_expr (expr_tree l) f) (q : x ≡ l) where
    pub field_first : IsSome (resolve_form t ls k) → (expr_size (expr_tree x) < 2 + form_size k) × IsSome (resolve t ls (expr_tree x))
    field_first h =
        (smaller_at x l q (omega (arith, ap form_size e)), known_at x l q (first_some (resolve t ls (expr_tree l)) _ (at_form (field_expr (expr_tree l) f) e h)))

    pub field_needs : (a : Value) → w ≡ f.word → Some a ≡ resolve t ls (expr_tree x) → IsSome (resolve_form t ls k) → IsSome (field_read t a.it a.gives w)
    field_needs a s i h =
        ap (λ w. is_some (field_read t a.it a.gives w)) s ∙ next_some (resolve t ls (expr_tree l)) a (λ v. field_read t v.it v.gives f.word) (is_at x l a q i) (at_form (field_expr (expr_tree l) f) e h)

    pub field_done : (a v : Value) → w ≡ f.word → Some a ≡ resolve t ls (expr_tree x) → Some v ≡ field_read t a.it a.gives w → Some v ≡ resolve_form t ls k
    field_done a v s i n =
        n ∙ ap (field_read t a.it a.gives) s ∙ sym (ap (resolve_form t ls) e ∙ goes (resolve t ls (expr_tree l)) a (λ v. field_read t v.it v.gives f.word) (is_at x l a q i))

  -- an element
  module _ (x l y r : Expr) (e : k ≡ element_expr (expr_tree l) (expr_tree r)) (q : x ≡ l) where
    pub element_first : IsSome (resolve_form t ls k) → (expr_size (expr_tree x) < 2 + form_size k) × IsSome (resolve t ls (expr_tree x))
    element_first h =
        (smaller_at x l q (omega (arith, ap form_size e)), known_at x l q (first_some (resolve t ls (expr_tree l)) _ (at_form (element_expr (expr_tree l) (expr_tree r)) e h)))

    element_rest : (a : Value) → Some a ≡ resolve t ls (expr_tree x) → IsSome (resolve_form t ls k) → IsSome (then_some (resolve t ls (expr_tree r)) (λ i. element_read a.it a.gives i.it))
    element_rest a i h =
        next_some (resolve t ls (expr_tree l)) a (λ v. then_some (resolve t ls (expr_tree r)) (λ i. element_read v.it v.gives i.it)) (is_at x l a q i) (at_form (element_expr (expr_tree l) (expr_tree r)) e h)

    pub element_second : (a : Value) → y ≡ r → Some a ≡ resolve t ls (expr_tree x) → IsSome (resolve_form t ls k) → (expr_size (expr_tree y) < 2 + form_size k) × IsSome (resolve t ls (expr_tree y))
    element_second a p i h =
        (smaller_at y r p (omega (arith, ap form_size e)), known_at y r p (first_some (resolve t ls (expr_tree r)) (λ i. element_read a.it a.gives i.it) (element_rest a i h)))

    pub element_needs : (a b : Value) → y ≡ r → Some a ≡ resolve t ls (expr_tree x) → Some b ≡ resolve t ls (expr_tree y) → IsSome (resolve_form t ls k) → IsSome (element_read a.it a.gives b.it)
    element_needs a b p i j h = next_some (resolve t ls (expr_tree r)) b (λ i. element_read a.it a.gives i.it) (is_at y r b p j) (element_rest a i h)

    pub element_done : (a b v : Value) → y ≡ r → Some a ≡ resolve t ls (expr_tree x) → Some b ≡ resolve t ls (expr_tree y) → Some v ≡ element_read a.it a.gives b.it → Some v ≡ resolve_form t ls k
    element_done a b v p i j n =
        n ∙ sym (ap (resolve_form t ls) e ∙ goes (resolve t ls (expr_tree l)) a (λ v. then_some (resolve t ls (expr_tree r)) (λ i. element_read v.it v.gives i.it)) (is_at x l a q i) ∙
        goes (resolve t ls (expr_tree r)) b (λ i. element_read a.it a.gives i.it) (is_at y r b p j))

  pub name_needs : (x w : Word) → k ≡ name_expr x → w ≡ x → IsSome (resolve_form t ls k) → IsSome (local_named ls w)
  name_needs x w e q h = ap (λ w. is_some (local_named ls w)) q ∙ first_some (local_named ls x) (λ l. Some (value_as (local_value l.slot) (a_value l.ty))) (at_form (name_expr x) e h)

  -- a call
  module _ (f : IdTree) (w : Word) (args : ExprList) (e : k ≡ call_expr f args) where
    pub call_args : IsSome (resolve_form t ls k) → (args_size args < 2 + form_size k) × IsSome (resolve_args t ls args)
    call_args h = (omega (arith, ap form_size e), first_some (resolve_args t ls args) (λ args. called t (builtin_named f.word) f.word args) (at_form (call_expr f args) e h))

    pub call_needs : (a : Args) → w ≡ f.word → Some a ≡ resolve_args t ls args → IsSome (resolve_form t ls k) → IsSome (called t (builtin_named w) w a)
    call_needs a s i h =
        ap (λ w. is_some (called t (builtin_named w) w a)) s ∙ next_some (resolve_args t ls args) a (λ args. called t (builtin_named f.word) f.word args) i (at_form (call_expr f args) e h)

    pub call_done : (a : Args) (v : Value) → w ≡ f.word → Some a ≡ resolve_args t ls args → Some v ≡ called t (builtin_named w) w a → Some v ≡ resolve_form t ls k
    call_done a v s i n =
        n ∙ ap (λ w. called t (builtin_named w) w a) s ∙ sym (ap (resolve_form t ls) e ∙ goes (resolve_args t ls args) a (λ args. called t (builtin_named f.word) f.word args) i)

  pub class_needs : (c : IdTree) (w : Word) → k ≡ new_class_expr c → w ≡ c.word → IsSome (resolve_form t ls k) → IsSome (found w t.names)
  class_needs c w e q h = ap (λ w. is_some (found w t.names)) q ∙ first_some (found c.word t.names) (λ n. Some (value_as (new_object n.number) (a_value (object n.number)))) (at_form (new_class_expr c) e h)

  smaller_in : (x l : Expr) → x ≡ l → expr_size (expr_tree l) < 1 + form_size k → expr_size (expr_tree x) < 1 + form_size k
  smaller_in x l q h = subst (λ x. expr_size (expr_tree x) < 1 + form_size k) (sym q) h

  -- a new array
  module _ (ty : TypeTree) (x l : Expr) (e : k ≡ new_array_expr ty (expr_tree l)) where
    pub array_type : IsSome (resolve_form t ls k) → IsSome (resolve_type t.names ty)
    array_type h = first_some (resolve_type t.names ty) (λ u. then_some (resolve t ls (expr_tree l)) (λ n. Some (value_as (new_array u n.it) (a_value (array u))))) (at_form (new_array_expr ty (expr_tree l)) e h)

    pub array_length : (u : ResolvedType) → x ≡ l → Some u ≡ resolve_type t.names ty → IsSome (resolve_form t ls k) → (expr_size (expr_tree x) < 1 + form_size k) × IsSome (resolve t ls (expr_tree x))
    array_length u q i h = (
      smaller_in x l q (omega (arith, ap form_size e)),
      known_at x l q (first_some (resolve t ls (expr_tree l)) (λ n. Some (value_as (new_array u n.it) (a_value (array u))))
          (next_some (resolve_type t.names ty) u (λ u. then_some (resolve t ls (expr_tree l)) (λ n. Some (value_as (new_array u n.it) (a_value (array u))))) i (at_form (new_array_expr ty (expr_tree l)) e h))),
    )

    pub array_done : (u : ResolvedType) (a v : Value) → x ≡ l → Some u ≡ resolve_type t.names ty → Some a ≡ resolve t ls (expr_tree x) → v ≡ value_as (new_array u a.it) (a_value (array u)) → Some v ≡ resolve_form t ls k
    array_done u a v q i j n =
        ap Some n ∙ sym (ap (resolve_form t ls) e ∙ goes (resolve_type t.names ty) u (λ u. then_some (resolve t ls (expr_tree l)) (λ n. Some (value_as (new_array u n.it) (a_value (array u))))) i ∙
        goes (resolve t ls (expr_tree l)) a (λ n. Some (value_as (new_array u n.it) (a_value (array u)))) (is_at x l a q j))

  -- a label
  module _ (s i : ExprList) (e : k ≡ label_expr s i) where
    pub label_first : IsSome (resolve_form t ls k) → (args_size s < 1 + form_size k) × IsSome (resolve_args t ls s)
    label_first h = (omega (arith, ap form_size e), first_some (resolve_args t ls s) (λ s. then_some (resolve_args t ls i) (λ i. Some (value_as (label_of s.it i.it) (a_value label)))) (at_form (label_expr s i) e h))

    pub label_second : (a : Args) → Some a ≡ resolve_args t ls s → IsSome (resolve_form t ls k) → (args_size i < 1 + form_size k) × IsSome (resolve_args t ls i)
    label_second a p h = (
      omega (arith, ap form_size e),
      first_some (resolve_args t ls i) (λ i. Some (value_as (label_of a.it i.it) (a_value label)))
          (next_some (resolve_args t ls s) a (λ s. then_some (resolve_args t ls i) (λ i. Some (value_as (label_of s.it i.it) (a_value label)))) p (at_form (label_expr s i) e h)),
    )

    pub label_done : (a b : Args) (v : Value) → Some a ≡ resolve_args t ls s → Some b ≡ resolve_args t ls i → v ≡ value_as (label_of a.it b.it) (a_value label) → Some v ≡ resolve_form t ls k
    label_done a b v p q n =
        ap Some n ∙ sym (ap (resolve_form t ls) e ∙ goes (resolve_args t ls s) a (λ s. then_some (resolve_args t ls i) (λ i. Some (value_as (label_of s.it i.it) (a_value label)))) p ∙
        goes (resolve_args t ls i) b (λ i. Some (value_as (label_of a.it i.it) (a_value label))) q)

  pub caps_needs : (xs ys : List CapTree) → k ≡ caps_expr ys → xs ≡ ys → IsSome (resolve_form t ls k) → IsSome (resolve_caps ls xs)
  caps_needs xs ys e q h = ap (λ xs. is_some (resolve_caps ls xs)) q ∙ first_some (resolve_caps ls ys) (λ cs. Some (value_as (caps_of cs) (a_value caps))) (at_form (caps_expr ys) e h)

  -- a thread that is started
  module _ (f : IdTree) (w : Word) (args : ExprList) (x l : Expr) (e : k ≡ spawn_expr (expr_tree l) f args) (q : x ≡ l) where
    pub spawn_caps : IsSome (resolve_form t ls k) → (expr_size (expr_tree x) < 1 + form_size k) × IsSome (resolve t ls (expr_tree x))
    spawn_caps h =
        (smaller_in x l q (omega (arith, ap form_size e)), known_at x l q (first_some (resolve t ls (expr_tree l)) _ (at_form (spawn_expr (expr_tree l) f args) e h)))

    spawn_rest : (a : Value) → Some a ≡ resolve t ls (expr_tree x) → IsSome (resolve_form t ls k) →
        IsSome (then_some (found f.word t.functions) (λ h. then_some (resolve_args t ls args) (λ args. Some (value_as (spawn_of a.it h.number args.it) (a_value thread)))))
    spawn_rest a i h =
        next_some (resolve t ls (expr_tree l)) a (λ c. then_some (found f.word t.functions) (λ h. then_some (resolve_args t ls args) (λ args. Some (value_as (spawn_of c.it h.number args.it) (a_value thread))))) (is_at x l a q i)
        (at_form (spawn_expr (expr_tree l) f args) e h)

    pub spawn_function : (a : Value) → w ≡ f.word → Some a ≡ resolve t ls (expr_tree x) → IsSome (resolve_form t ls k) → IsSome (found w t.functions)
    spawn_function a s i h =
        ap (λ w. is_some (found w t.functions)) s ∙
        first_some (found f.word t.functions) (λ h. then_some (resolve_args t ls args) (λ args. Some (value_as (spawn_of a.it h.number args.it) (a_value thread)))) (spawn_rest a i h)

    number_found : (o : Option (Found ResolvedSignature)) (n : ℕ) → Some n ≡ option_map (λ f. f.number) o → (h : Found ResolvedSignature) × (Some h ≡ o) × (h.number ≡ n)
    number_found None n e = absurd cc
    number_found (Some h) n e = (h, refl, cc)

    pub spawn_args : (a : Value) (n : ℕ) → w ≡ f.word → Some a ≡ resolve t ls (expr_tree x) → Some n ≡ option_map (λ f. f.number) (found w t.functions) → IsSome (resolve_form t ls k) →
        (args_size args < 1 + form_size k) × IsSome (resolve_args t ls args)
    spawn_args a n s i m h =
        let p = number_found (found w t.functions) n m in (
          omega (arith, ap form_size e),
          first_some (resolve_args t ls args) (λ args. Some (value_as (spawn_of a.it p.0.number args.it) (a_value thread)))
              (next_some (found f.word t.functions) p.0 (λ h. then_some (resolve_args t ls args) (λ args. Some (value_as (spawn_of a.it h.number args.it) (a_value thread)))) (p.1 ∙ ap (λ w. found w t.functions) s) (spawn_rest a i h)),
        )

    pub spawn_done : (a v : Value) (n : ℕ) (b : Args) → w ≡ f.word → Some a ≡ resolve t ls (expr_tree x) → Some n ≡ option_map (λ f. f.number) (found w t.functions) → Some b ≡ resolve_args t ls args →
        v ≡ value_as (spawn_of a.it n b.it) (a_value thread) → Some v ≡ resolve_form t ls k
    spawn_done a v n b s i m j r =
        let p = number_found (found w t.functions) n m in
        ap Some r ∙ ap (λ n. Some (value_as (spawn_of a.it n b.it) (a_value thread))) (sym p.2) ∙
        sym (ap (resolve_form t ls) e ∙
        goes (resolve t ls (expr_tree l)) a (λ c. then_some (found f.word t.functions) (λ h. then_some (resolve_args t ls args) (λ args. Some (value_as (spawn_of c.it h.number args.it) (a_value thread))))) (is_at x l a q i) ∙
        goes (found f.word t.functions) p.0 (λ h. then_some (resolve_args t ls args) (λ args. Some (value_as (spawn_of a.it h.number args.it) (a_value thread)))) (p.1 ∙ ap (λ w. found w t.functions) s) ∙
        goes (resolve_args t ls args) b (λ args. Some (value_as (spawn_of a.it p.0.number args.it) (a_value thread))) j)
