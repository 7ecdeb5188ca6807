-- What is shown of a form holds of the form that the code matched. An argument x is the expression that the code
-- reached through a box, and l the one in the tree.
use Rattle.std.proofs.Common.{◌≡◌, ℕ, sym, ap, ◌∙◌, subst, Result, Option}
use Rattle.lam_syntax.specs.declared.Expr.{Expr}
use Rattle.lam_operators.specs.declared.BinaryOp.{BinaryOp}
use Rattle.lam_operators.specs.declared.UnaryOp.{UnaryOp}
use Rattle.lam_syntax.specs.Tree.{IdTree, TypeTree, ExprTree, ExprForm, ExprList, expr_tree, binary_expr, unary_expr, field_expr, element_expr, new_array_expr, label_expr, spawn_expr}
use Rattle.lam_builtins.specs.Types.{ValueType, Given, a_value, Place, exactly, any_class, any_array, int, label, caps, array}
use Rattle.lam_types_kinds.specs.Written.{written}
use Rattle.lam_types_kinds.specs.Verdicts.{Fine, then_on}
use Rattle.lam_types_kinds.specs.Breaks.{Verdict}
use Rattle.lam_builtins.specs.Builtins.{Signature}
use Rattle.lam_types_kinds.specs.Tables.{Names, Decls, find, type_known}
use Rattle.lam_types_kinds.specs.Values.{Breaks, Gives}
use Rattle.lam_types_kinds.specs.declared.types.Got.{Got}
use Rattle.lam_types_kinds.specs.declared.fault.TypeFault.{TypeFault}
use Rattle.lam_types_kinds.proofs.Steps.{stops, goes_on}
use Rattle.lam_types_exprs.specs.Exprs.{at_of, placed, operate, found_field, field_type, element_of, given_of, form_given, args_given, tags_given, count, spawnable, started}
use Rattle.lam_builtins.specs.Operators.{operand, operator_type, unary_type}

module _ (d : Decls) (env : Names) (at : ℕ) (k : ExprForm) where
  of_form : (f : TypeFault) (form : ExprForm) → k ≡ form → Breaks f (form_given d env at form) → Breaks f (form_given d env at k)
  of_form f form e h = subst (λ (k : ExprForm). Breaks f (form_given d env at k)) (sym e) h

  pub gives_form : (r : Result Got TypeFault) (form : ExprForm) → k ≡ form → Gives r (form_given d env at form) → Gives r (form_given d env at k)
  gives_form r form e h = subst (λ (k : ExprForm). Gives r (form_given d env at k)) (sym e) h

  pub gives_through : (r : Result Got TypeFault) (form : ExprTree → ExprForm) (x l : Expr) → k ≡ form (expr_tree l) → x ≡ l → Gives r (form_given d env at (form (expr_tree x))) → Gives r (form_given d env at k)
  gives_through r form x l e q h = gives_form r (form (expr_tree l)) e (subst (λ (x : Expr). Gives r (form_given d env at (form (expr_tree x)))) q h)

  place_at : Place → ExprTree → Verdict Given
  place_at p e = placed (at_of e) p (given_of d env e)

  given_through : (f : TypeFault) (x l : Expr) → x ≡ l → Breaks f (given_of d env (expr_tree x)) → Breaks f (given_of d env (expr_tree l))
  given_through f x l e h = subst (λ (x : Expr). Breaks f (given_of d env (expr_tree x))) e h

  placed_through : (f : TypeFault) (p : Place) (x l : Expr) → x ≡ l → Breaks f (placed (at_of (expr_tree x)) p (given_of d env (expr_tree x))) → Breaks f (placed (at_of (expr_tree l)) p (given_of d env (expr_tree l)))
  placed_through f p x l e h = subst (λ (x : Expr). Breaks f (placed (at_of (expr_tree x)) p (given_of d env (expr_tree x)))) e h

  placed_fine : (p : Place) (g : Given) (x l : Expr) → x ≡ l → placed (at_of (expr_tree x)) p (given_of d env (expr_tree x)) ≡ Fine g → placed (at_of (expr_tree l)) p (given_of d env (expr_tree l)) ≡ Fine g
  placed_fine p g x l e h = subst (λ (x : Expr). placed (at_of (expr_tree x)) p (given_of d env (expr_tree x)) ≡ Fine g) e h

  pub binary_first : (f : TypeFault) (op : BinaryOp) (x l r : Expr) → k ≡ binary_expr op (expr_tree l) (expr_tree r) → x ≡ l → Breaks f (given_of d env (expr_tree x)) → Breaks f (form_given d env at k)
  binary_first f op x l r e q h =
      of_form f (binary_expr op (expr_tree l) (expr_tree r)) e
      (stops f (given_of d env (expr_tree l)) (λ g. then_on (given_of d env (expr_tree r)) (λ h. operate (operand op) (operator_type op) (at_of (expr_tree l)) (at_of (expr_tree r)) g h)) (given_through f x l q h))

  pub binary_second : (f : TypeFault) (op : BinaryOp) (g : Given) (x l y r : Expr) → k ≡ binary_expr op (expr_tree l) (expr_tree r) → x ≡ l → given_of d env (expr_tree x) ≡ Fine g → y ≡ r → Breaks f (given_of d env (expr_tree y)) → Breaks f (form_given d env at k)
  binary_second f op g x l y r e q i p h =
      of_form f (binary_expr op (expr_tree l) (expr_tree r)) e
      (goes_on f (given_of d env (expr_tree l)) g (λ g. then_on (given_of d env (expr_tree r)) (λ h. operate (operand op) (operator_type op) (at_of (expr_tree l)) (at_of (expr_tree r)) g h)) (subst (λ (x : Expr). given_of d env (expr_tree x) ≡ Fine g) q i)
      (stops f (given_of d env (expr_tree r)) (λ h. operate (operand op) (operator_type op) (at_of (expr_tree l)) (at_of (expr_tree r)) g h) (given_through f y r p h)))

  pub unary_stop : (f : TypeFault) (op : UnaryOp) (t : ValueType) (x l : Expr) → k ≡ unary_expr op (expr_tree l) → t ≡ unary_type op → x ≡ l → Breaks f (placed (at_of (expr_tree x)) (exactly t) (given_of d env (expr_tree x))) → Breaks f (form_given d env at k)
  unary_stop f op t x l e i q h =
      of_form f (unary_expr op (expr_tree l)) e
      (stops f (placed (at_of (expr_tree l)) (exactly (unary_type op)) (given_of d env (expr_tree l))) (λ _. Fine (a_value (unary_type op)))
      (placed_through f (exactly (unary_type op)) x l q (subst (λ (t : ValueType). Breaks f (placed (at_of (expr_tree x)) (exactly t) (given_of d env (expr_tree x)))) i h)))

  pub field_stop : (f : TypeFault) (field : IdTree) (x l : Expr) → k ≡ field_expr (expr_tree l) field → x ≡ l → Breaks f (placed (at_of (expr_tree x)) any_class (given_of d env (expr_tree x))) → Breaks f (form_given d env at k)
  field_stop f field x l e q h =
      of_form f (field_expr (expr_tree l) field) e
      (stops f (placed (at_of (expr_tree l)) any_class (given_of d env (expr_tree l))) (λ g. found_field field.at (field_type d g field.word)) (placed_through f any_class x l q h))

  pub element_first : (f : TypeFault) (x l r : Expr) → k ≡ element_expr (expr_tree l) (expr_tree r) → x ≡ l → Breaks f (placed (at_of (expr_tree x)) any_array (given_of d env (expr_tree x))) → Breaks f (form_given d env at k)
  element_first f x l r e q h =
      of_form f (element_expr (expr_tree l) (expr_tree r)) e
      (stops f (placed (at_of (expr_tree l)) any_array (given_of d env (expr_tree l))) (λ g. then_on (placed (at_of (expr_tree r)) (exactly int) (given_of d env (expr_tree r))) (λ _. Fine (element_of g))) (placed_through f any_array x l q h))

  pub element_second : (f : TypeFault) (g : Given) (x l y r : Expr) → k ≡ element_expr (expr_tree l) (expr_tree r) → x ≡ l → placed (at_of (expr_tree x)) any_array (given_of d env (expr_tree x)) ≡ Fine g → y ≡ r →
      Breaks f (placed (at_of (expr_tree y)) (exactly int) (given_of d env (expr_tree y))) → Breaks f (form_given d env at k)
  element_second f g x l y r e q i p h =
      of_form f (element_expr (expr_tree l) (expr_tree r)) e
      (goes_on f (placed (at_of (expr_tree l)) any_array (given_of d env (expr_tree l))) g (λ g. then_on (placed (at_of (expr_tree r)) (exactly int) (given_of d env (expr_tree r))) (λ _. Fine (element_of g))) (placed_fine any_array g x l q i)
      (stops f (placed (at_of (expr_tree r)) (exactly int) (given_of d env (expr_tree r))) (λ _. Fine (element_of g)) (placed_through f (exactly int) y r p h)))

  pub array_first : (f : TypeFault) (t : TypeTree) (r : ExprTree) → k ≡ new_array_expr t r → Breaks f (type_known d t) → Breaks f (form_given d env at k)
  array_first f t r e h =
      of_form f (new_array_expr t r) e (stops f (type_known d t) (λ _. then_on (placed (at_of r) (exactly int) (given_of d env r)) (λ _. Fine (a_value (array (written t))))) h)

  pub array_second : (f : TypeFault) (t : TypeTree) (y r : Expr) → k ≡ new_array_expr t (expr_tree r) → type_known d t ≡ Fine tt → y ≡ r → Breaks f (placed (at_of (expr_tree y)) (exactly int) (given_of d env (expr_tree y))) → Breaks f (form_given d env at k)
  array_second f t y r e i p h =
      of_form f (new_array_expr t (expr_tree r)) e
      (goes_on f (type_known d t) tt (λ _. then_on (placed (at_of (expr_tree r)) (exactly int) (given_of d env (expr_tree r))) (λ _. Fine (a_value (array (written t))))) i
      (stops f (placed (at_of (expr_tree r)) (exactly int) (given_of d env (expr_tree r))) (λ _. Fine (a_value (array (written t)))) (placed_through f (exactly int) y r p h)))

  pub label_first : (f : TypeFault) (s i : ExprList) → k ≡ label_expr s i → Breaks f (tags_given d env s) → Breaks f (form_given d env at k)
  label_first f s i e h = of_form f (label_expr s i) e (stops f (tags_given d env s) (λ _. then_on (tags_given d env i) (λ _. Fine (a_value label))) h)

  pub label_second : (f : TypeFault) (s i : ExprList) → k ≡ label_expr s i → tags_given d env s ≡ Fine tt → Breaks f (tags_given d env i) → Breaks f (form_given d env at k)
  label_second f s i e p h =
      of_form f (label_expr s i) e (goes_on f (tags_given d env s) tt (λ _. then_on (tags_given d env i) (λ _. Fine (a_value label))) p (stops f (tags_given d env i) (λ _. Fine (a_value label)) h))

  pub label_fine : (s i : ExprList) → k ≡ label_expr s i → tags_given d env s ≡ Fine tt → tags_given d env i ≡ Fine tt → form_given d env at k ≡ Fine (a_value label)
  label_fine s i e p q =
      ap (form_given d env at) e ∙ ap (λ (v : Verdict (Unit {0})). then_on v (λ _. then_on (tags_given d env i) (λ _. Fine (a_value label)))) p ∙ ap (λ (v : Verdict (Unit {0})). then_on v (λ _. Fine (a_value label))) q

  pub spawn_head : (f : TypeFault) (c : ExprTree) (x : IdTree) (args : ExprList) (n : ℕ) → k ≡ spawn_expr c x args → n ≡ count args → Breaks f (spawnable at (find x.word d.functions) n) → Breaks f (form_given d env at k)
  spawn_head f c x args n e q h =
      of_form f (spawn_expr c x args) e
      (stops f (spawnable at (find x.word d.functions) (count args)) (λ o. then_on (placed (at_of c) (exactly caps) (given_of d env c)) (λ _. started x.at o (λ ps. args_given d env ps args)))
      (subst (λ (n : ℕ). Breaks f (spawnable at (find x.word d.functions) n)) q h))

  pub spawn_caps : (f : TypeFault) (o : Option Signature) (y c : Expr) (x : IdTree) (args : ExprList) (n : ℕ) → k ≡ spawn_expr (expr_tree c) x args → n ≡ count args → spawnable at (find x.word d.functions) n ≡ Fine o → y ≡ c →
      Breaks f (placed (at_of (expr_tree y)) (exactly caps) (given_of d env (expr_tree y))) → Breaks f (form_given d env at k)
  spawn_caps f o y c x args n e q i p h =
      of_form f (spawn_expr (expr_tree c) x args) e
      (goes_on f (spawnable at (find x.word d.functions) (count args)) o (λ o. then_on (placed (at_of (expr_tree c)) (exactly caps) (given_of d env (expr_tree c))) (λ _. started x.at o (λ ps. args_given d env ps args)))
      (subst (λ (n : ℕ). spawnable at (find x.word d.functions) n ≡ Fine o) q i)
      (stops f (placed (at_of (expr_tree c)) (exactly caps) (given_of d env (expr_tree c))) (λ _. started x.at o (λ ps. args_given d env ps args)) (placed_through f (exactly caps) y c p h)))

  pub spawn_rest : (r : Result Got TypeFault) (o : Option Signature) (g : Given) (y c : Expr) (x : IdTree) (args : ExprList) (n : ℕ) → k ≡ spawn_expr (expr_tree c) x args → n ≡ count args → spawnable at (find x.word d.functions) n ≡ Fine o → y ≡ c →
      placed (at_of (expr_tree y)) (exactly caps) (given_of d env (expr_tree y)) ≡ Fine g → Gives r (started x.at o (λ ps. args_given d env ps args)) → Gives r (form_given d env at k)
  spawn_rest r o g y c x args n e q i p j h =
      gives_form r (spawn_expr (expr_tree c) x args) e
      (subst (λ (v : Verdict (Option Signature)). Gives r (then_on v (λ o. then_on (placed (at_of (expr_tree c)) (exactly caps) (given_of d env (expr_tree c))) (λ _. started x.at o (λ ps. args_given d env ps args)))))
      (sym (subst (λ (n : ℕ). spawnable at (find x.word d.functions) n ≡ Fine o) q i))
      (subst (λ (v : Verdict Given). Gives r (then_on v (λ _. started x.at o (λ ps. args_given d env ps args)))) (sym (placed_fine (exactly caps) g y c p j)) h))
