-- What an expression gives, or the first break in it: from left to right, an operator's own rule after its operands.
use Rattle.std.specs.Prelude.{ℕ, ◌+◌, if◌then◌else◌, is_some, nat_eq, List, [], ◌∷◌, length, Option, Some, None}
use Rattle.lam_syntax.specs.Tree.{CapTree, ExprTree, expr_node, ExprForm, binary_expr, unary_expr, field_expr, element_expr, number_expr, text_expr, bool_expr, null_expr, name_expr, call_expr, new_class_expr, new_array_expr, label_expr, caps_expr, spawn_expr, ExprList, no_exprs, exprs}
use Rattle.lam_operators.specs.Words.{Word}
use Rattle.lam_builtins.specs.Types.{ValueType, int, bool, bytes, tag, label, caps, thread, object, array, Given, a_value, a_null, nothing, Place, exactly, any_class, any_array, comparable}
use Rattle.lam_types_kinds.specs.Written.{written}
use Rattle.lam_builtins.specs.Operators.{operand, operator_type, unary_type}
use Rattle.lam_types_kinds.specs.Verdicts.{Fine, Stop, then_on}
use Rattle.lam_types_kinds.specs.Breaks.{no_name, arity, no_field, Verdict, fit, unequal}
use Rattle.lam_builtins.specs.Builtins.{Signature, answered}
use Rattle.lam_types_kinds.specs.Tables.{Names, Decls, find, signature_named, type_known, named_if}

abbrev pub at_of : ExprTree → ℕ
at_of (expr_node at form) = at

-- an expression at a place
unfoldable pub placed : ℕ → Place → Verdict Given → Verdict Given
placed at p v = then_on v (λ g. fit at p g)

-- an operator's own rule
abbrev pub operate : Option ValueType → ValueType → ℕ → ℕ → Given → Given → Verdict Given
operate None t left right g h = if comparable g h then Fine (a_value t) else Stop (unequal left right g h)
operate (Some u) t left right g h = then_on (fit left (exactly u) g) (λ _. then_on (fit right (exactly u) h) (λ _. Fine (a_value t)))

-- the field of a class; a class that is not declared has none
abbrev pub field_in : Option Names → Word → Option ValueType
field_in None f = None
field_in (Some fields) f = find f fields

abbrev pub field_type : Decls → Given → Word → Option ValueType
field_type d (a_value (object c)) f = field_in (find c d.classes) f
field_type d _ f = None

abbrev pub found_field : ℕ → Option ValueType → Verdict Given
found_field at None = Stop (no_field at)
found_field at (Some t) = Fine (a_value t)

abbrev pub element_of : Given → Given
element_of (a_value (array t)) = a_value t
element_of _ = nothing

abbrev pub known : ℕ → Option ValueType → Verdict Given
known at None = Stop (no_name at)
known at (Some t) = Fine (a_value t)

abbrev pub count : ExprList → ℕ
count no_exprs = 0
count (exprs e rest) = count rest + 1

abbrev pub counted : ℕ → ℕ → ℕ → Verdict (Unit {0})
counted at wanted n = if nat_eq wanted n then Fine tt else Stop (arity at)

-- a call: its number of arguments, then these
abbrev pub called : ℕ → Option Signature → ℕ → (List Place → Verdict Given) → Verdict Given
called at None n args = Stop (no_name at)
called at (Some s) n args = then_on (counted at (length s.takes) n) (λ _. then_on (args s.takes) (λ first. Fine (answered s.answer first)))

-- a function that is spawned has int as its result
abbrev pub spawnable : ℕ → Option Signature → ℕ → Verdict (Option Signature)
spawnable at None n = Fine None
spawnable at (Some s) n = then_on (fit at (exactly int) (answered s.answer nothing)) (λ _. then_on (counted at (length s.takes) n) (λ _. Fine (Some s)))

abbrev pub started : ℕ → Option Signature → (List Place → Verdict Given) → Verdict Given
started at None args = Stop (no_name at)
started at (Some s) args = then_on (args s.takes) (λ _. Fine (a_value thread))

-- each name in `caps` is a local of type tag
abbrev pub cap_tag : Names → CapTree → Verdict Given
cap_tag env x = placed x.name.at (exactly tag) (known x.name.at (find x.name.word env))

abbrev pub cap_tags : Names → List CapTree → Verdict (Unit {0})
cap_tags env [] = Fine tt
cap_tags env (x ∷ xs) = then_on (cap_tag env x) (λ _. cap_tags env xs)

abbrev mutual
  pub given_of : Decls → Names → ExprTree → Verdict Given
  given_of d env (expr_node at form) = form_given d env at form

  pub form_given : Decls → Names → ℕ → ExprForm → Verdict Given
  form_given d env at (binary_expr op l r) =
      then_on (given_of d env l) (λ g. then_on (given_of d env r) (λ h. operate (operand op) (operator_type op) (at_of l) (at_of r) g h))
  form_given d env at (unary_expr op e) =
      then_on (placed (at_of e) (exactly (unary_type op)) (given_of d env e)) (λ _. Fine (a_value (unary_type op)))
  form_given d env at (field_expr e f) =
      then_on (placed (at_of e) any_class (given_of d env e)) (λ g. found_field f.at (field_type d g f.word))
  form_given d env at (element_expr e i) =
      then_on (placed (at_of e) any_array (given_of d env e)) (λ g. then_on (placed (at_of i) (exactly int) (given_of d env i)) (λ _. Fine (element_of g)))
  form_given d env at (number_expr n) = Fine (a_value int)
  form_given d env at (text_expr t) = Fine (a_value bytes)
  form_given d env at (bool_expr b) = Fine (a_value bool)
  form_given d env at null_expr = Fine a_null
  form_given d env at (name_expr x) = known at (find x env)
  form_given d env at (call_expr f args) = called at (signature_named d f.word) (count args) (λ ps. args_given d env ps args)
  form_given d env at (new_class_expr c) = then_on (named_if (is_some (find c.word d.classes)) c.at) (λ _. Fine (a_value (object c.word)))
  form_given d env at (new_array_expr t n) =
      then_on (type_known d t) (λ _. then_on (placed (at_of n) (exactly int) (given_of d env n)) (λ _. Fine (a_value (array (written t)))))
  form_given d env at (label_expr s i) = then_on (tags_given d env s) (λ _. then_on (tags_given d env i) (λ _. Fine (a_value label)))
  form_given d env at (caps_expr items) = then_on (cap_tags env items) (λ _. Fine (a_value caps))
  form_given d env at (spawn_expr c f args) =
      then_on (spawnable at (find f.word d.functions) (count args)) (λ o.
      then_on (placed (at_of c) (exactly caps) (given_of d env c)) (λ _. started f.at o (λ ps. args_given d env ps args)))

  -- arguments at their places; what the first gives
  pub args_given : Decls → Names → List Place → ExprList → Verdict Given
  args_given d env (p ∷ ps) (exprs e rest) =
      then_on (placed (at_of e) p (given_of d env e)) (λ g. then_on (rest_given d env ps rest) (λ _. Fine g))
  args_given d env _ _ = Fine nothing

  pub rest_given : Decls → Names → List Place → ExprList → Verdict (Unit {0})
  rest_given d env (p ∷ ps) (exprs e rest) = then_on (placed (at_of e) p (given_of d env e)) (λ _. rest_given d env ps rest)
  rest_given d env _ _ = Fine tt

  -- the tags of a label
  pub tags_given : Decls → Names → ExprList → Verdict (Unit {0})
  tags_given d env no_exprs = Fine tt
  tags_given d env (exprs e rest) = then_on (placed (at_of e) (exactly tag) (given_of d env e)) (λ _. tags_given d env rest)
