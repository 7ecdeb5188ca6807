-- Constants that are kept with the map of their places.
use Rattle.std.specs.Prelude.{◌≡◌, ℕ, ◌+◌, ◌<◌, ◌≤◌, true, List, length, Option, Some, None, if◌then◌else◌}
use Rattle.std.specs.declared.cmp.Ordering.{Ordering}
use Rattle.std.specs.BTreeMap.{BTreeMap, get}
use Rattle.std.specs.List.{AllByRecursion}
use Rattle.lam_value.specs.declared.values.Value.{Value}
use Rattle.lam_bytecode.specs.Codes.{IsConstant}
use Rattle.lam_meaning.specs.Pieces.{is_in, with_constant, place_of}
use Rattle.barrier_compiler_ops.specs.declared.instruction.Constant.{Constant}
use Rattle.barrier_compiler_ops.specs.contracts.instruction.ConstantOrd.TheImpl as order
use Rattle.barrier_compiler_ops.specs.Views.{constant_value}

-- the order of constants
abbrev pub constant_cmp : Constant → Constant → Ordering
constant_cmp = (order.ghosts).cmp

-- the place of a constant, where it is among these
abbrev pub found_in : List Value → Value → Option ℕ
found_in vs v = if is_in v vs then Some (place_of vs v) else None

-- constants with a map, which has the place of each of them, and nothing else
pub record AreKept (places : BTreeMap Constant ℕ) (vs : List Value) : Type 0 where
  pub constants : AllByRecursion IsConstant vs
  pub found : (k : Constant) → get constant_cmp places k ≡ found_in vs (constant_value k)

-- a constant stands at this place of the new ones, which are the old ones with it
pub record Places (old new : List Value) (v : Value) (n : ℕ) : Type 0 where
  pub pool : new ≡ with_constant old v
  pub place : n ≡ place_of new v
  pub found : is_in v new ≡ true
  pub within : n < length new
  pub room : length new ≤ length old + 1
