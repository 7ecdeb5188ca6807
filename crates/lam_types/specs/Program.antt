-- The first break of the typing rules in a program. For example:
--   fn f(): int { return true; }                                     a mismatch at 21: int is wanted, bool was got
--   fn f(): int { return y; }                                        no name at 21
--   fn f(): int { let x: int = 1; let x: int = 2; return x; }        twice at 34
--   fn f(): int { }                                                  no return at 3
--   fn f(x:int):int{return (x+1)*2;}                                 none
use Rattle.std.specs.Prelude.{ℕ, ◌&&◌, not, if◌then◌else◌, is_some, [], ◌∷◌, length, Option, Some, None}
use Rattle.lam_syntax.specs.Tree.{TypeTree, ClassTree, FunctionTree, ItemTree, class_item, function_item, ProgramTree}
use Rattle.lam_builtins.specs.Limits.{most_fields, most_params}
use Rattle.lam_builtins.specs.Types.{ValueType}
use Rattle.lam_types_kinds.specs.Written.{written}
use Rattle.lam_types_kinds.specs.Verdicts.{Fine, Stop, then_on, first_break}
use Rattle.lam_types_kinds.specs.Breaks.{Break, no_return, Verdict}
use Rattle.lam_types_kinds.specs.Tables.{Decls, type_known, vars_known, tables_of}
use Rattle.lam_types.specs.declared.stmts.Counts.{Counts}
use Rattle.lam_types.specs.Endings.{ends}
use Rattle.lam_types.specs.Stmts.{block_checked}

abbrev pub result_type : Option TypeTree → Option ValueType
result_type None = None
result_type (Some t) = Some (written t)

abbrev pub result_known : Decls → Option TypeTree → Verdict (Unit {0})
result_known d None = Fine tt
result_known d (Some t) = type_known d t

-- a function with a result returns one
abbrev pub returns : FunctionTree → Verdict (Unit {0})
returns f = if is_some f.result && not (ends f.body) then Stop (no_return f.name.at) else Fine tt

-- the counts at the head of a function's body: each parameter has a slot
abbrev pub at_head : FunctionTree → ℕ → Counts
at_head f regions = record { slots = length f.params; regions = regions }

-- a function, after so many regions of the program
abbrev pub function_checked : Decls → ℕ → FunctionTree → Verdict ℕ
function_checked d regions f =
    then_on (returns f) (λ _. then_on (vars_known d most_params [] f.params) (λ env. then_on (result_known d f.result) (λ _.
    then_on (block_checked d (result_type f.result) env (at_head f regions) f.body) (λ c. Fine c.regions))))

abbrev pub class_checked : Decls → ClassTree → Verdict (Unit {0})
class_checked d c = then_on (vars_known d most_fields [] c.fields) (λ _. Fine tt)

abbrev pub item_checked : Decls → ℕ → ItemTree → Verdict ℕ
item_checked d regions (class_item c) = then_on (class_checked d c) (λ _. Fine regions)
item_checked d regions (function_item f) = function_checked d regions f

-- the items, in source order
abbrev pub items_checked : Decls → ℕ → ProgramTree → Verdict ℕ
items_checked d regions [] = Fine regions
items_checked d regions (i ∷ p) = then_on (item_checked d regions i) (λ regions. items_checked d regions p)

-- all class names, all function names, then the items; the number of regions
abbrev pub program_checked : ProgramTree → Verdict ℕ
program_checked p = then_on (tables_of p) (λ d. items_checked d 0 p)

unfoldable pub first_type_break : ProgramTree → Option Break
first_type_break p = first_break (program_checked p)
