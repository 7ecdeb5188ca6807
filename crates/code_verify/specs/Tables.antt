-- The descriptions of a code.
use Rattle.std.specs.Prelude.{ℕ, Bool, false, List, map, slice_get, Option, Some, None}
use Rattle.lam_bytecode.specs.Codes.{CodeTree}
use Rattle.lam_bytecode.specs.declared.unit.CodeUnit.{CodeUnit}
use Rattle.lam_bytecode.specs.declared.op.Op.{Op}
use Rattle.guarded_code.specs.Rounds.{Table, Found, Holds, Broke}
use Rattle.guarded_code.specs.Descriptions.{Description}
use Rattle.guarded_code.specs.Changes.{descriptions}
use Rattle.guarded_code.specs.Breaks.{first_bad_target}
use Rattle.code_verify.specs.Redundant.{is_redundant}

abbrev pub table_found : Found Description → Option (Table Description)
table_found (Holds t) = Some t
table_found (Broke a) = None

abbrev pub table_unless : Option ℕ → Option (Table Description) → Option (Table Description)
table_unless None o = o
table_unless (Some a) o = None

-- what stands at the addresses of a unit after the last round; nothing where a target is bad or the rounds break
abbrev pub table_of : CodeTree → CodeUnit → Option (Table Description)
table_of code u = table_unless (first_bad_target code u) (table_found (descriptions code u))

abbrev pub tables_of : CodeTree → List (Option (Table Description))
tables_of code = map (table_of code) code.units

-- ---- redundant barriers

abbrev pub row_in : Option (Option (Table Description)) → ℕ → Option (Option Description)
row_in None a = None
row_in (Some None) a = None
row_in (Some (Some t)) a = slice_get t a

abbrev pub op_in : Option CodeUnit → ℕ → Option Op
op_in None a = None
op_in (Some u) a = slice_get u.ops a

abbrev pub again_by : Option Op → Option (Option Description) → Bool
again_by None row = false
again_by (Some op) None = false
again_by (Some op) (Some o) = is_redundant op o

-- whether a barrier stands at an address, and its operand was tested by its rule already
abbrev pub tests_again_at : CodeTree → List (Option (Table Description)) → ℕ → ℕ → Bool
tests_again_at code tables n a = again_by (op_in (slice_get code.units n) a) (row_in (slice_get tables n) a)
