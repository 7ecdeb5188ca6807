-- An `if` whose first part is put already, and what ends it.
use Rattle.std.specs.Prelude.{ℕ}
use Rattle.lam_bytecode.specs.declared.op.Op.TheVariants.{JumpIfFalse}
use Rattle.lam_meaning.specs.Pieces.{Pieces, op}
use Rattle.barrier_compiler_ops.specs.Emits.{State, Emits, IsAt}

-- whatever the first part is, behind the jump at the address `fork`: the whole is these pieces
pub record Completes (old new : State) (fork : ℕ) (whole : Pieces → Pieces) : Type 0 where
  pub by : (a b : State) (ps : Pieces) → IsAt a fork → Emits a b (op (JumpIfFalse 0)) → Emits b old ps → Emits a new (whole ps)
