-- Which expressions are typed, and what they give: one rule for each form, without positions and without order.
use Rattle.std.specs.Prelude.{◌≡◌, true, List, [], ◌∷◌, Option, Some, None}
use Rattle.lam_syntax.specs.Tree.{CapTree, TypeTree, type_node, TypeForm, int_type, bool_type, bytes_type, tag_type, label_type, caps_type, file_type, dir_type, pipe_type, thread_type, class_type, array_type, ExprTree, expr_node, ExprForm, binary_expr, unary_expr, field_expr, element_expr, number_expr, text_expr, bool_expr, null_expr, name_expr, call_expr, new_class_expr, new_array_expr, label_expr, caps_expr, spawn_expr, ExprList, no_exprs, exprs}
use Rattle.lam_operators.specs.Words.{Word}
use Rattle.lam_builtins.specs.Types.{ValueType, int, bool, bytes, tag, label, caps, thread, object, array, Given, a_value, a_null, nothing, Place, exactly, suits, comparable}
use Rattle.lam_types_kinds.specs.Written.{written}
use Rattle.lam_builtins.specs.Builtins.{Signature, answers, answered}
use Rattle.lam_types_kinds.specs.Tables.{Names, Decls, find, signature_named}
use Rattle.lam_builtins.specs.Operators.{operand, operator_type, unary_type}

-- the classes in a written type are declared
abbrev mutual
  pub IsDeclared : Decls → TypeTree → Type 0
  IsDeclared d (type_node at form) = IsDeclaredForm d form

  pub IsDeclaredForm : Decls → TypeForm → Type 0
  IsDeclaredForm d (class_type c) = (fields : Names) × (find c d.classes ≡ Some fields)
  IsDeclaredForm d (array_type t) = IsDeclared d t
  IsDeclaredForm d int_type = Unit {0}
  IsDeclaredForm d bool_type = Unit {0}
  IsDeclaredForm d bytes_type = Unit {0}
  IsDeclaredForm d tag_type = Unit {0}
  IsDeclaredForm d label_type = Unit {0}
  IsDeclaredForm d caps_type = Unit {0}
  IsDeclaredForm d file_type = Unit {0}
  IsDeclaredForm d dir_type = Unit {0}
  IsDeclaredForm d pipe_type = Unit {0}
  IsDeclaredForm d thread_type = Unit {0}

-- what an expression gives, by E, fits a place
abbrev pub Fits : Place → (Given → Type 0) → Type 0
Fits p E = (g : Given) × E g × (suits p g ≡ true)

-- an operator on two operands of a type, or one that compares
abbrev pub Operates : Option ValueType → (Given → Type 0) → (Given → Type 0) → Type 0
Operates None L R = (g : Given) × (h : Given) × L g × R h × (comparable g h ≡ true)
Operates (Some t) L R = Fits (exactly t) L × Fits (exactly t) R

-- the names in `caps` are locals of type tag
abbrev pub AreTagNames : Names → List CapTree → Type 0
AreTagNames env [] = Unit {0}
AreTagNames env (x ∷ xs) = (find x.name.word env ≡ Some tag) × AreTagNames env xs

abbrev mutual
  -- the expression is typed and gives g
  pub IsGiven : Decls → Names → ExprTree → Given → Type 0
  IsGiven d env (expr_node at form) g = IsFormGiven d env form g

  pub IsFormGiven : Decls → Names → ExprForm → Given → Type 0
  IsFormGiven d env (binary_expr op l r) g = Operates (operand op) (λ h. IsGiven d env l h) (λ h. IsGiven d env r h) × (g ≡ a_value (operator_type op))
  IsFormGiven d env (unary_expr op e) g = Fits (exactly (unary_type op)) (λ h. IsGiven d env e h) × (g ≡ a_value (unary_type op))
  IsFormGiven d env (field_expr e f) g =
      (c : Word) × (fields : Names) × (t : ValueType) × IsGiven d env e (a_value (object c)) × (find c d.classes ≡ Some fields) × (find f.word fields ≡ Some t) × (g ≡ a_value t)
  IsFormGiven d env (element_expr e i) g = (t : ValueType) × IsGiven d env e (a_value (array t)) × Fits (exactly int) (λ h. IsGiven d env i h) × (g ≡ a_value t)
  IsFormGiven d env (number_expr n) g = g ≡ a_value int
  IsFormGiven d env (text_expr t) g = g ≡ a_value bytes
  IsFormGiven d env (bool_expr b) g = g ≡ a_value bool
  IsFormGiven d env null_expr g = g ≡ a_null
  IsFormGiven d env (name_expr x) g = (t : ValueType) × (find x env ≡ Some t) × (g ≡ a_value t)
  IsFormGiven d env (call_expr f args) g =
      (s : Signature) × (first : Given) × (signature_named d f.word ≡ Some s) × AreArgs d env s.takes args first × (g ≡ answered s.answer first)
  IsFormGiven d env (new_class_expr c) g = (fields : Names) × (find c.word d.classes ≡ Some fields) × (g ≡ a_value (object c.word))
  IsFormGiven d env (new_array_expr t n) g = IsDeclared d t × Fits (exactly int) (λ h. IsGiven d env n h) × (g ≡ a_value (array (written t)))
  IsFormGiven d env (label_expr s i) g = AreTags d env s × AreTags d env i × (g ≡ a_value label)
  IsFormGiven d env (caps_expr items) g = AreTagNames env items × (g ≡ a_value caps)
  IsFormGiven d env (spawn_expr c f args) g =
      (s : Signature) × (first : Given) × (find f.word d.functions ≡ Some s) × (s.answer ≡ answers int) × Fits (exactly caps) (λ h. IsGiven d env c h) × AreArgs d env s.takes args first × (g ≡ a_value thread)

  -- as many arguments as places, each fitting its own; the first gives `first`
  pub AreArgs : Decls → Names → List Place → ExprList → Given → Type 0
  AreArgs d env [] no_exprs first = first ≡ nothing
  AreArgs d env (p ∷ ps) (exprs e rest) first = IsGiven d env e first × (suits p first ≡ true) × AreRest d env ps rest
  AreArgs d env [] (exprs e rest) first = ⊥
  AreArgs d env (p ∷ ps) no_exprs first = ⊥

  pub AreRest : Decls → Names → List Place → ExprList → Type 0
  AreRest d env [] no_exprs = Unit {0}
  AreRest d env (p ∷ ps) (exprs e rest) = Fits p (λ h. IsGiven d env e h) × AreRest d env ps rest
  AreRest d env [] (exprs e rest) = ⊥
  AreRest d env (p ∷ ps) no_exprs = ⊥

  pub AreTags : Decls → Names → ExprList → Type 0
  AreTags d env no_exprs = Unit {0}
  AreTags d env (exprs e rest) = Fits (exactly tag) (λ h. IsGiven d env e h) × AreTags d env rest
