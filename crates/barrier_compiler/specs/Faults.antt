-- Why a program has no code.
use Rattle.std.specs.Prelude.{◌≡◌, ℕ, Result, Err}
use Rattle.lam_bytecode.specs.Codes.{CodeTree}
use Rattle.barrier_compiler.specs.declared.generation.CompileFault.{CompileFault}
use Rattle.barrier_compiler.specs.declared.generation.CompileFault.TheVariants.{CodeTooLong, NoMemory}

-- it is the unit that is too long in what the program comes to, or want of memory
abbrev pub IsFaultOf : CompileFault → Result CodeTree ℕ → Type 0
IsFaultOf (CodeTooLong unit) made = made ≡ Err unit
IsFaultOf NoMemory made = Unit {0}
