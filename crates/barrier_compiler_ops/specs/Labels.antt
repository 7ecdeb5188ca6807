-- A label of tags that are counted.
use Rattle.std.specs.Prelude.{ℕ}
use Rattle.lam_bytecode.specs.declared.op.Op.TheVariants.{MakeLabel}
use Rattle.lam_meaning.specs.Pieces.{op}
use Rattle.barrier_compiler_ops.specs.Emits.{State, Emits, IsCount}

-- the operation that makes a label of so many tags of secrecy and of integrity
pub record MakesLabel (old new : State) (secret trusted : ℕ) : Type 0 where
  pub secrecy : ℕ
  pub integrity : ℕ
  pub s : IsCount old secrecy secret
  pub i : IsCount old integrity trusted
  pub emits : Emits old new (op (MakeLabel secrecy integrity))
