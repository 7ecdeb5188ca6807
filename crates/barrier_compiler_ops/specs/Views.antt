-- What is seen of instructions: the flat code that they are.
use Rattle.std.specs.Prelude.{◌≤◌, List, length, map, Option, Some, None, Ok, Err}
use Rattle.lam_value.specs.declared.values.Value.{Value}
use Rattle.lam_value.specs.declared.values.Value.TheVariants.{Int as an_int, Bool as a_bool, Bytes as some_bytes, Nothing as null}
use Rattle.lam_meaning.specs.Pieces.{Piece, does, puts, one, Flat, an_op, a_constant}
use Rattle.barrier_compiler_ops.specs.declared.instruction.Constant.{Constant}
use Rattle.barrier_compiler_ops.specs.declared.instruction.Constant.TheVariants.{Int, Bool, Bytes, Nothing}
use Rattle.barrier_compiler_ops.specs.declared.instruction.Instruction.{Instruction}
use Rattle.barrier_compiler_ops.specs.declared.instruction.Instruction.TheVariants.{Op as an_operation, Constant as a_value}
use Rattle.barrier_compiler_ops.specs.declared.buffer.Stop.{Stop}
use Rattle.barrier_compiler_ops.specs.Emits.{State, Emits}
use Rattle.lam_meaning.specs.Long.{most_operations}

abbrev pub constant_value : Constant → Value
constant_value (Int n) = an_int n
constant_value (Bool b) = a_bool b
constant_value (Bytes v) = some_bytes v.items
constant_value Nothing = null

abbrev pub flat_view : Instruction → Flat
flat_view (an_operation o) = an_op o
flat_view (a_value k) = a_constant (constant_value k)

abbrev pub piece_view : Instruction → Piece
piece_view (an_operation o) = does o
piece_view (a_value k) = puts (constant_value k)

abbrev pub state_of : List Instruction → Option Stop → State
state_of items None = Ok (map flat_view items)
state_of items (Some why) = Err why

-- an instruction was put at the end, or not for this reason
pub record PutsLast (old new : List Instruction) (last : Instruction) (fault : Option Stop) : Type 0 where
  pub emits : Emits (Ok (map flat_view old)) (state_of new fault) (one (piece_view last))
  pub room : length new ≤ most_operations
