-- Code without its redundant barriers.
use Rattle.std.specs.Prelude.{ℕ, zero, suc, Bool, true, false, not, List, [], ◌∷◌, map, Option, Some, None}
use Rattle.lam_bytecode.specs.Codes.{CodeTree}
use Rattle.lam_bytecode.specs.declared.unit.CodeUnit.{CodeUnit}
use Rattle.lam_bytecode.specs.declared.unit.UnitKind.{UnitKind}
use Rattle.lam_bytecode.specs.declared.unit.UnitKind.TheVariants.{Function, Region}
use Rattle.lam_bytecode.specs.declared.op.Op.{Op}
use Rattle.lam_bytecode.specs.declared.op.Op.TheVariants.{Jump, JumpIfFalse}
use Rattle.guarded_code.specs.Rounds.{Table, Found, Holds, Broke}
use Rattle.guarded_code.specs.Descriptions.{Description}
use Rattle.guarded_code.specs.Changes.{descriptions}
pub use Rattle.guarded_code.specs.Breaks.{tests_again}
use Rattle.guarded_code.specs.Breaks.{CodeBreak, first_code_break}

-- ---- which operations stay

-- all but the redundant barriers; one at an address without a description stays
abbrev pub stays : Op → Option Description → Bool
stays op None = true
stays op (Some d) = not (tests_again op d)

-- of each operation whether it stays
abbrev pub staying : List Op → Table Description → List Bool
staying [] t = []
staying (op ∷ ops) [] = true ∷ staying ops []
staying (op ∷ ops) (o ∷ t) = stays op o ∷ staying ops t

abbrev pub staying_by : List Op → Found Description → List Bool
staying_by ops (Broke a) = staying ops []
staying_by ops (Holds t) = staying ops t

-- by the descriptions of its unit
abbrev pub staying_in : CodeTree → CodeUnit → List Bool
staying_in code u = staying_by u.ops (descriptions code u)

-- ---- where an address goes

-- as many operations stand before it as stay of those that stood there
abbrev pub moved : List Bool → ℕ → ℕ
moved [] a = 0
moved (k ∷ ks) zero = 0
moved (true ∷ ks) (suc a) = suc (moved ks a)
moved (false ∷ ks) (suc a) = moved ks a

abbrev pub moved_op : List Bool → Op → Op
moved_op ks (Jump to) = Jump (moved ks to)
moved_op ks (JumpIfFalse to) = JumpIfFalse (moved ks to)
moved_op ks op = op

abbrev pub moved_kind : List Bool → UnitKind → UnitKind
moved_kind ks (Function name takes gives_int) = Function name takes gives_int
moved_kind ks (Region region captures catch_at) = Region region captures (moved ks catch_at)

-- ---- thinned code

-- what stays of a list
abbrev pub sifted : {A : Type 0} → List Bool → List A → List A
sifted [] xs = []
sifted (k ∷ ks) [] = []
sifted (true ∷ ks) (x ∷ xs) = x ∷ sifted ks xs
sifted (false ∷ ks) (x ∷ xs) = sifted ks xs

abbrev pub thin_unit : List Bool → CodeUnit → CodeUnit
thin_unit ks u = record { kind = moved_kind ks u.kind; locals = u.locals; ops = sifted ks (map (moved_op ks) u.ops) }

abbrev pub thinned_unit : CodeTree → CodeUnit → CodeUnit
thinned_unit code u = thin_unit (staying_in code u) u

abbrev pub thin_code : CodeTree → CodeTree
thin_code code = record { units = map (thinned_unit code) code.units; constants = code.constants; classes = code.classes }

abbrev pub thinned_unless : Option CodeBreak → CodeTree → CodeTree
thinned_unless None code = thin_code code
thinned_unless (Some b) code = code

-- the code without each redundant barrier; a code that has a break stays as it is
unfoldable pub thinned : CodeTree → CodeTree
thinned code = thinned_unless (first_code_break code) code
