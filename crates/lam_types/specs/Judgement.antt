-- Which programs are typed: one rule for each form of the grammar, without positions and without order.
use Rattle.std.specs.Prelude.{◌≡◌, ℕ, ◌+◌, ◌≤◌, true, List, [], ◌∷◌, ◌++◌, length, Option, Some, None}
use Rattle.lam_syntax.specs.Tree.{IdTree, TypeTree, VarTree, FunctionTree, ItemTree, class_item, function_item, ProgramTree, ExprTree, stmt_node, StmtForm, let_stmt, if_stmt, while_stmt, return_stmt, throw_stmt, sync_stmt, region_stmt, do_stmt, assign_stmt, StmtList, no_stmts, stmts, ElseTree, no_else, else_block}
use Rattle.lam_operators.specs.Words.{Word}
use Rattle.lam_builtins.specs.Limits.{most_classes, most_functions, most_fields, most_params, most_slots, most_regions}
use Rattle.lam_builtins.specs.Types.{ValueType, int, bool, label, caps, Given, a_value, Place, exactly, any_object}
use Rattle.lam_types_kinds.specs.Written.{written}
use Rattle.lam_builtins.specs.Builtins.{builtin_named}
use Rattle.lam_types_kinds.specs.Tables.{Names, Decls, find, typed_names, declared}
use Rattle.lam_types_exprs.specs.Judgement.{IsDeclared, Fits, IsGiven}
use Rattle.lam_types.specs.Endings.{ends}
use Rattle.lam_types.specs.Stmts.{with_local, is_place}
use Rattle.lam_types.specs.Program.{result_type}

-- ---- counts

abbrev mutual
  -- the slots of its unit that a statement takes: one for each `let` and each `sync`, but those of regions
  pub slots_in : StmtForm → ℕ
  slots_in (let_stmt x e) = 1
  slots_in (if_stmt e first other) = slots_of first + slots_or other
  slots_in (while_stmt e body) = slots_of body
  slots_in (sync_stmt e body) = 1 + slots_of body
  slots_in _ = 0

  pub slots_or : ElseTree → ℕ
  slots_or no_else = 0
  slots_or (else_block body) = slots_of body

  pub slots_of : StmtList → ℕ
  slots_of no_stmts = 0
  slots_of (stmts (stmt_node at form) rest) = slots_in form + slots_of rest

abbrev mutual
  -- the regions in a statement
  pub regions_in : StmtForm → ℕ
  regions_in (if_stmt e first other) = regions_of first + regions_or other
  regions_in (while_stmt e body) = regions_of body
  regions_in (sync_stmt e body) = regions_of body
  regions_in (region_stmt l k xs body x handler) = 1 + regions_of body + regions_of handler
  regions_in _ = 0

  pub regions_or : ElseTree → ℕ
  regions_or no_else = 0
  regions_or (else_block body) = regions_of body

  pub regions_of : StmtList → ℕ
  regions_of no_stmts = 0
  regions_of (stmts (stmt_node at form) rest) = regions_in form + regions_of rest

abbrev pub regions_of_program : ProgramTree → ℕ
regions_of_program [] = 0
regions_of_program (class_item c ∷ p) = regions_of_program p
regions_of_program (function_item f ∷ p) = regions_of f.body + regions_of_program p

-- the slots of a region's unit: its captures, what its body takes, the catch name, and what its catch block takes
abbrev pub region_slots : List IdTree → StmtList → StmtList → ℕ
region_slots xs body handler = length xs + slots_of body + 1 + slots_of handler

-- ---- statements

-- no declaration of the name is in scope
abbrev pub IsNew : {A : Type 0} → Word → List (Word × A) → Type 0
IsNew x env = find x env ≡ None

abbrev pub Stands : Decls → Names → Place → ExprTree → Type 0
Stands d env p e = Fits p (λ g. IsGiven d env e g)

-- a value is returned exactly where the function has a result
abbrev pub Returns : Decls → Option ValueType → Names → Option ExprTree → Type 0
Returns d None env None = Unit {0}
Returns d (Some t) env (Some e) = Stands d env (exactly t) e
Returns d None env (Some e) = ⊥
Returns d (Some t) env None = ⊥

abbrev pub AllInScope : Names → List IdTree → Type 0
AllInScope env [] = Unit {0}
AllInScope env (x ∷ xs) = ((t : ValueType) × (find x.word env ≡ Some t)) × AllInScope env xs

-- the names in scope after a statement
abbrev pub after : Names → StmtForm → Names
after env (let_stmt x e) = with_local env x.name.word (written x.ty)
after env _ = env

abbrev mutual
  pub IsStmt : Decls → Option ValueType → Names → StmtForm → Type 0
  IsStmt d res env (let_stmt x e) = IsNew x.name.word env × IsDeclared d x.ty × Stands d env (exactly (written x.ty)) e
  IsStmt d res env (if_stmt e first other) = Stands d env (exactly bool) e × IsBlock d res env first × IsElse d res env other
  IsStmt d res env (while_stmt e body) = Stands d env (exactly bool) e × IsBlock d res env body
  IsStmt d res env (return_stmt e) = Returns d res env e
  IsStmt d res env (throw_stmt e) = Stands d env (exactly int) e
  IsStmt d res env (sync_stmt e body) = Stands d env any_object e × IsBlock d res env body
  IsStmt d res env (region_stmt l k xs body x handler) =
      Stands d env (exactly label) l × Stands d env (exactly caps) k × AllInScope env xs × IsBlock d res env body ×
      IsNew x.word env × IsBlock d res (with_local env x.word int) handler × (region_slots xs body handler ≤ most_slots)
  IsStmt d res env (do_stmt e) = (g : Given) × IsGiven d env e g
  IsStmt d res env (assign_stmt p e) = (t : ValueType) × (is_place p ≡ true) × IsGiven d env p (a_value t) × Stands d env (exactly t) e

  pub IsElse : Decls → Option ValueType → Names → ElseTree → Type 0
  IsElse d res env no_else = Unit {0}
  IsElse d res env (else_block body) = IsBlock d res env body

  pub IsBlock : Decls → Option ValueType → Names → StmtList → Type 0
  IsBlock d res env no_stmts = Unit {0}
  IsBlock d res env (stmts (stmt_node at form) rest) = IsStmt d res env form × IsBlock d res (after env form) rest

-- ---- programs

-- names that differ from each other and from those before
abbrev pub Differ : {A : Type 0} → List (Word × A) → List (Word × A) → Type 0
Differ seen [] = Unit {0}
Differ seen (e ∷ es) = IsNew e.0 seen × Differ (seen ++ e ∷ []) es

abbrev pub AllDeclared : Decls → List VarTree → Type 0
AllDeclared d [] = Unit {0}
AllDeclared d (v ∷ vs) = IsDeclared d v.ty × AllDeclared d vs

-- fields or parameters: different names, no more than the limit, of declared types
abbrev pub AreVars : Decls → ℕ → List VarTree → Type 0
AreVars d limit vs = Differ [] (typed_names vs) × (length vs ≤ limit) × AllDeclared d vs

abbrev pub IsResult : Decls → Option TypeTree → Type 0
IsResult d None = Unit {0}
IsResult d (Some t) = IsDeclared d t

-- a function with a result returns one
abbrev pub EndsWith : Option TypeTree → StmtList → Type 0
EndsWith None body = Unit {0}
EndsWith (Some t) body = ends body ≡ true

abbrev pub IsFunction : Decls → FunctionTree → Type 0
IsFunction d f =
    EndsWith f.result f.body × AreVars d most_params f.params × IsResult d f.result × IsBlock d (result_type f.result) (typed_names f.params) f.body × (length f.params + slots_of f.body ≤ most_slots)

abbrev pub IsItem : Decls → ItemTree → Type 0
IsItem d (class_item c) = AreVars d most_fields c.fields
IsItem d (function_item f) = IsFunction d f

abbrev pub AllItems : Decls → ProgramTree → Type 0
AllItems d [] = Unit {0}
AllItems d (i ∷ p) = IsItem d i × AllItems d p

-- no function has the name of a built-in call
abbrev pub NoBuiltin : {A : Type 0} → List (Word × A) → Type 0
NoBuiltin [] = Unit {0}
NoBuiltin (e ∷ es) = (builtin_named e.0 ≡ None) × NoBuiltin es

abbrev pub AreTables : Decls → Type 0
AreTables d = Differ [] d.classes × (length d.classes ≤ most_classes) × NoBuiltin d.functions × Differ [] d.functions × (length d.functions ≤ most_functions)

-- a program is typed
abbrev pub IsTyped : ProgramTree → Type 0
IsTyped p = AreTables (declared p) × AllItems (declared p) p × (regions_of_program p ≤ most_regions)
