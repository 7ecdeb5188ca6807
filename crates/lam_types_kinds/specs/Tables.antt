-- The declared classes and functions, and names that are declared once.
use Rattle.std.specs.Prelude.{ℕ, Bool, if◌then◌else◌, nat_lt, List, [], ◌∷◌, ◌++◌, length, map, Option, Some, None, is_some}
use Rattle.std.specs.Str.{bytes_eq}
use Rattle.lam_syntax.specs.Tree.{IdTree, TypeTree, type_node, TypeForm, int_type, bool_type, bytes_type, tag_type, label_type, caps_type, file_type, dir_type, pipe_type, thread_type, class_type, array_type, VarTree, ClassTree, FunctionTree, class_item, function_item, ProgramTree}
use Rattle.lam_operators.specs.Words.{Word}
use Rattle.lam_builtins.specs.Types.{ValueType, Place, exactly}
use Rattle.lam_types_kinds.specs.Written.{written}
use Rattle.lam_types_kinds.specs.Verdicts.{Fine, Stop, then_on}
use Rattle.lam_types_kinds.specs.Breaks.{no_name, twice, too_many, Verdict}
use Rattle.lam_builtins.specs.declared.Builtin.{Builtin}
use Rattle.lam_builtins.specs.Limits.{most_classes, most_functions}
use Rattle.lam_builtins.specs.Builtins.{Answer, answers, no_answer, Signature, row, builtin_named}

-- what the first entry of a name has
abbrev pub find : {A : Type 0} → Word → List (Word × A) → Option A
find x [] = None
find x (e ∷ es) = if bytes_eq x e.0 then Some e.1 else find x es

-- names with their types, oldest first
abbrev pub Names : Type 0
Names = List (Word × ValueType)

pub record Decls : Type 0 where
  pub classes : List (Word × Names)
  pub functions : List (Word × Signature)

abbrev pub typed_name : VarTree → Word × ValueType
typed_name v = (v.name.word, written v.ty)

abbrev pub typed_names : List VarTree → Names
typed_names vs = map typed_name vs

-- one more field; where its name is there, the first counts
abbrev pub with_field : Names → VarTree → Names
with_field es v = if is_some (find v.name.word es) then es else es ++ typed_name v ∷ []

-- fields, after those before them
abbrev pub with_fields : Names → List VarTree → Names
with_fields es [] = es
with_fields es (v ∷ vs) = with_fields (with_field es v) vs

-- the fields of a class, in the order of their declaration
abbrev pub fields_of : ClassTree → Names
fields_of c = with_fields [] c.fields

abbrev pub answer_of : Option TypeTree → Answer
answer_of None = no_answer
answer_of (Some t) = answers (written t)

abbrev pub places_of : List VarTree → List Place
places_of vs = map (λ v. exactly (written v.ty)) vs

abbrev pub signature_of : FunctionTree → Signature
signature_of f = record { takes = places_of f.params; answer = answer_of f.result }

abbrev pub declared_classes : ProgramTree → List (Word × Names)
declared_classes [] = []
declared_classes (class_item c ∷ p) = (c.name.word, fields_of c) ∷ declared_classes p
declared_classes (function_item f ∷ p) = declared_classes p

abbrev pub declared_functions : ProgramTree → List (Word × Signature)
declared_functions [] = []
declared_functions (class_item c ∷ p) = declared_functions p
declared_functions (function_item f ∷ p) = (f.name.word, signature_of f) ∷ declared_functions p

-- what a program declares
abbrev pub declared : ProgramTree → Decls
declared p = record { classes = declared_classes p; functions = declared_functions p }

-- how the name of a call is called: a built-in call, or a declared function
abbrev pub signature_or : Option Builtin → Option Signature → Option Signature
signature_or (Some b) o = Some (row b).signature
signature_or None o = o

abbrev pub signature_named : Decls → Word → Option Signature
signature_named d x = signature_or (builtin_named x) (find x d.functions)

-- ---- the first break in declarations

abbrev pub twice_if : Bool → ℕ → Verdict (Unit {0})
twice_if found at = if found then Stop (twice at) else Fine tt

-- no entry has the name
abbrev pub fresh : {A : Type 0} → List (Word × A) → IdTree → Verdict (Unit {0})
fresh es x = twice_if (is_some (find x.word es)) x.at

-- one more, where there are fewer than the limit
abbrev pub room : ℕ → ℕ → ℕ → Verdict (Unit {0})
room at limit n = if nat_lt n limit then Fine tt else Stop (too_many at)

-- a name that is new, and not past the limit
abbrev pub new_name : {A : Type 0} → ℕ → List (Word × A) → IdTree → Verdict (Unit {0})
new_name limit es x = then_on (fresh es x) (λ _. room x.at limit (length es))

-- one more class
unfoldable pub with_class : List (Word × Names) → ClassTree → Verdict (List (Word × Names))
with_class es c = then_on (new_name most_classes es c.name) (λ _. Fine (es ++ (c.name.word, fields_of c) ∷ []))

-- the classes of a program, after those before it
abbrev pub class_table : List (Word × Names) → ProgramTree → Verdict (List (Word × Names))
class_table es [] = Fine es
class_table es (class_item c ∷ p) = then_on (with_class es c) (λ es. class_table es p)
class_table es (function_item f ∷ p) = class_table es p

-- a function's name is no built-in call's
abbrev pub function_name : List (Word × Signature) → IdTree → Verdict (Unit {0})
function_name es x = then_on (twice_if (is_some (builtin_named x.word)) x.at) (λ _. new_name most_functions es x)

-- one more function
unfoldable pub with_function : List (Word × Signature) → FunctionTree → Verdict (List (Word × Signature))
with_function es f = then_on (function_name es f.name) (λ _. Fine (es ++ (f.name.word, signature_of f) ∷ []))

abbrev pub function_table : List (Word × Signature) → ProgramTree → Verdict (List (Word × Signature))
function_table es [] = Fine es
function_table es (class_item c ∷ p) = function_table es p
function_table es (function_item f ∷ p) = then_on (with_function es f) (λ es. function_table es p)

-- all class names, then all function names
abbrev pub tables_of : ProgramTree → Verdict Decls
tables_of p = then_on (class_table [] p) (λ cs. then_on (function_table [] p) (λ fs. Fine (record { classes = cs; functions = fs })))

abbrev pub named_if : Bool → ℕ → Verdict (Unit {0})
named_if found at = if found then Fine tt else Stop (no_name at)

-- the classes in a written type are declared
abbrev mutual
  pub type_known : Decls → TypeTree → Verdict (Unit {0})
  type_known d (type_node at form) = form_known d at form

  pub form_known : Decls → ℕ → TypeForm → Verdict (Unit {0})
  form_known d at (class_type c) = named_if (is_some (find c d.classes)) at
  form_known d at (array_type t) = type_known d t
  form_known d at int_type = Fine tt
  form_known d at bool_type = Fine tt
  form_known d at bytes_type = Fine tt
  form_known d at tag_type = Fine tt
  form_known d at label_type = Fine tt
  form_known d at caps_type = Fine tt
  form_known d at file_type = Fine tt
  form_known d at dir_type = Fine tt
  form_known d at pipe_type = Fine tt
  form_known d at thread_type = Fine tt

-- one more name, of a declared type
unfoldable pub with_var : Decls → ℕ → Names → VarTree → Verdict Names
with_var d limit es v = then_on (new_name limit es v.name) (λ _. then_on (type_known d v.ty) (λ _. Fine (es ++ typed_name v ∷ [])))

-- names that differ, at most as many as the limit, each of a declared type: fields, parameters
abbrev pub vars_known : Decls → ℕ → Names → List VarTree → Verdict Names
vars_known d limit es [] = Fine es
vars_known d limit es (v ∷ vs) = then_on (with_var d limit es v) (λ es. vars_known d limit es vs)
