-- What a call adds to a unit's code in the making.
use Rattle.std.specs.Prelude.{◌≡◌, ℕ, ◌+◌, ◌^◌, ◌<◌, ◌≤◌, Bool, true, false, ◌&&◌, nat_lt, List, ◌++◌, length, slice_set, Result, Ok, Err, IfOk, refl, ◌⊎◌}
use Rattle.std.proofs.Common.{inl, inr}
use Rattle.std.specs.Coded.{Coded, code_by, coded⊎, coded_list, coded_result}
use Rattle.lam_value.specs.declared.values.Value.{Value}
use Rattle.lam_value.specs.contracts.values.Value as value
use Rattle.lam_bytecode.specs.declared.op.Op.{Op}
use Rattle.lam_bytecode.specs.declared.op.Op.TheVariants.{Load, Store, Call, GetField, PutField, NewObject, EnterRegion, Spawn}
use Rattle.lam_bytecode.specs.contracts.op.Op as operation
use Rattle.lam_meaning.specs.Pieces.{Piece, does, puts, when, either, loops, Pieces, no_pieces, pieces, size, Flat, an_op, a_constant, flat}
use Rattle.barrier_compiler_ops.specs.declared.buffer.Stop.{Stop}
use Rattle.barrier_compiler_ops.specs.declared.buffer.Stop.TheVariants.{TooLong, Wide, NoMemory}
use Rattle.barrier_compiler_ops.specs.contracts.buffer.Stop as stop
use Rattle.lam_meaning.specs.Long.{most_operations}

-- the code so far, or why it is given up
abbrev pub State : Type 0
State = Result (List Flat) Stop

abbrev pub op_or_value : Flat → Op ⊎ Value
op_or_value (an_op o) = inl o
op_or_value (a_constant v) = inr v

abbrev pub flat_from : Op ⊎ Value → Flat
flat_from (inl o) = an_op o
flat_from (inr v) = a_constant v

pub flat-op_or_value : (f : Flat) → flat_from (op_or_value f) ≡ f
flat-op_or_value (an_op o) = refl
flat-op_or_value (a_constant v) = refl

abbrev pub coded_state : Coded State
coded_state =
    coded_result (coded_list (code_by (Op ⊎ Value) (coded⊎ operation.the_row.coded value.the_row.coded) op_or_value flat_from flat-op_or_value)) stop.the_row.coded

-- ---- numbers of 32 bits

-- the number by which an operation names a slot, a field, a class, a function or a region
abbrev pub named_by : Op → ℕ
named_by (Load n) = n
named_by (Store n) = n
named_by (Call n) = n
named_by (GetField n) = n
named_by (PutField n) = n
named_by (NewObject n) = n
named_by (EnterRegion n) = n
named_by (Spawn n) = n
named_by _ = 0

abbrev mutual
  -- each operation names by a number of 32 bits
  pub is_narrow : Piece → Bool
  is_narrow (does o) = nat_lt (named_by o) (2 ^ 32)
  is_narrow (puts v) = true
  is_narrow (when first_part) = are_narrow first_part
  is_narrow (either first_part other_part) = are_narrow first_part && are_narrow other_part
  is_narrow (loops test body) = are_narrow test && are_narrow body

  pub are_narrow : Pieces → Bool
  are_narrow no_pieces = true
  are_narrow (pieces p ps) = is_narrow p && are_narrow ps

-- ---- what is added

-- These pieces are laid out behind the code. Or it is given up: for too many operations only where there are too many,
-- and for a wide number only where there is one. What was given up stays given up.
abbrev pub EmitsBy : State → State → Pieces → Type 0
EmitsBy (Err f) new ps = new ≡ Err f
EmitsBy (Ok code) (Ok more) ps = more ≡ code ++ flat (length code) ps
EmitsBy (Ok code) (Err TooLong) ps = most_operations < length code + size ps
EmitsBy (Ok code) (Err Wide) ps = are_narrow ps ≡ false
EmitsBy (Ok code) (Err NoMemory) ps = Unit {0}

pub record Emits (old new : State) (ps : Pieces) : Type 0 where
  pub by : EmitsBy old new ps

-- ---- addresses and operands

-- n is the next address
pub record IsAt (s : State) (n : ℕ) : Type 0 where
  pub by : IfOk s (λ code. n ≡ length code)

-- n is the number of these things, if they are not more than the instructions
pub record IsCount (s : State) (n things : ℕ) : Type 0 where
  pub by : IfOk s (λ code. things ≤ length code → n ≡ things)

-- n is this number, or the number is too wide
abbrev pub IsOperandBy : State → State → ℕ → ℕ → Type 0
IsOperandBy (Err f) new n number = new ≡ Err f
IsOperandBy (Ok code) (Ok more) n number = (more ≡ code) × (n ≡ number)
IsOperandBy (Ok code) (Err f) n number = (f ≡ Wide) × (2 ^ 32 ≤ number)

pub record IsOperand (old new : State) (n number : ℕ) : Type 0 where
  pub by : IsOperandBy old new n number

abbrev pub stopped : State → Stop → State
stopped (Err f) why = Err f
stopped (Ok code) why = Err why

-- with another operation at an address
abbrev pub pointed : State → ℕ → Op → State
pointed (Err f) at o = Err f
pointed (Ok code) at o = Ok (slice_set code at (an_op o))

-- ---- a list of things, of which some are done

-- whatever adds the rest, adds all from the first on
pub record Goes (first here : State) (all rest : Pieces) : Type 0 where
  pub by : (new : State) → Emits here new rest → Emits first new all
