-- The redundant barriers of a unit.
use Rattle.std.specs.Prelude.{Bool, true, false, List, [], ◌∷◌, Option, Some, None}
use Rattle.lam_bytecode.specs.Codes.{CodeTree}
use Rattle.lam_bytecode.specs.declared.unit.CodeUnit.{CodeUnit}
use Rattle.lam_bytecode.specs.declared.op.Op.{Op}
use Rattle.lam_bytecode.specs.declared.op.Op.TheVariants.{ReadBarrier, WriteBarrier}
use Rattle.guarded_code.specs.Rounds.{Table, Found, Holds, Broke}
use Rattle.guarded_code.specs.Descriptions.{Description}
use Rattle.guarded_code.specs.Changes.{descriptions}
use Rattle.guarded_code.specs.Breaks.{tests_again}

abbrev pub is_barrier : Op → Bool
is_barrier (ReadBarrier depth) = true
is_barrier (WriteBarrier depth) = true
is_barrier op = false

-- a barrier is redundant where its operand was tested by its rule already; one that no path reaches is not
abbrev pub is_redundant : Op → Option Description → Bool
is_redundant op None = false
is_redundant op (Some d) = tests_again op d

-- of each operation whether it is a redundant barrier
abbrev pub redundant : List Op → Table Description → List Bool
redundant [] t = []
redundant (op ∷ ops) [] = false ∷ redundant ops []
redundant (op ∷ ops) (o ∷ t) = is_redundant op o ∷ redundant ops t

abbrev pub redundant_by : List Op → Found Description → List Bool
redundant_by ops (Broke a) = redundant ops []
redundant_by ops (Holds t) = redundant ops t

-- by the descriptions of the unit; where its rounds break no barrier is redundant
abbrev pub redundant_in : CodeTree → CodeUnit → List Bool
redundant_in code u = redundant_by u.ops (descriptions code u)
