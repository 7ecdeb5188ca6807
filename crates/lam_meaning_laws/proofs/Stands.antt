-- Where nested code stands in flat code.
use Rattle.std.proofs.Common.{◌≡◌, ℕ, ◌+◌, ◌<◌, ◌≤◌, [], length, Option, Some}
use Rattle.std.specs.Prelude.{slice_get}
use Rattle.lam_value.specs.declared.values.Value.{Value}
use Rattle.lam_value.specs.declared.values.Value.TheVariants.{Nothing}
use Rattle.lam_bytecode.specs.Codes.{CodeTree}
use Rattle.lam_bytecode.specs.declared.op.Op.{Op}
use Rattle.lam_bytecode.specs.declared.op.Op.TheVariants.{Const, Jump, JumpIfFalse, Return, EnterRegion, LeaveRegion}
use Rattle.lam_bytecode.specs.declared.unit.CodeUnit.{CodeUnit}
use Rattle.lam_bytecode.specs.declared.unit.UnitKind.TheVariants.{Region}
use Rattle.thread_steps.specs.Ops.{region_in}
use Rattle.thread_steps.specs.Next.{ops_of}
use Rattle.lam_resolve_tree.specs.Tree.{ResolvedFunction, ResolvedTree}
use Rattle.lam_meaning_typed.specs.Nested.{Nested, no_code, does, puts, both, when, either, loops, enters, block_code}

-- the number of its operations in its own unit
abbrev pub width : Nested → ℕ
width no_code = 0
width (does o) = 1
width (puts v) = 1
width (both a b) = width a + width b
width (when a) = 1 + width a
width (either a b) = 1 + width a + 1 + width b
width (loops t b) = width t + 1 + width b + 1
width (enters number captures slots body handler) = 1

-- the turns that it takes at most, where no loop goes round and no call is made
abbrev pub cost : Nested → ℕ
cost no_code = 0
cost (does o) = 1
cost (puts v) = 1
cost (both a b) = cost a + cost b
cost (when a) = cost a + 1
cost (either a b) = cost a + cost b + 2
cost (loops t b) = cost t + (cost b + 2)
cost (enters number captures slots body handler) = cost body + (cost handler + 2) + 1

module _ (code : CodeTree) where
  abbrev pub op_here : ℕ → ℕ → Option Op
  op_here u pc = slice_get (ops_of code u) pc

  -- an address of the unit
  abbrev pub IsAddress : ℕ → ℕ → Type 0
  IsAddress u pc = pc < length (ops_of code u)

  abbrev pub PutsAt : ℕ → ℕ → Value → Type 0
  PutsAt u pc v = (k : ℕ) × (op_here u pc ≡ Some (Const k)) × (slice_get code.constants k ≡ Some v)

  -- it stands in a unit from an address on
  abbrev pub Stands : ℕ → ℕ → Nested → Type 0
  Stands u pc no_code = Unit {0}
  Stands u pc (does o) = op_here u pc ≡ Some o
  Stands u pc (puts v) = PutsAt u pc v
  Stands u pc (both a b) = Stands u pc a × Stands u (pc + width a) b
  Stands u pc (when a) = (op_here u pc ≡ Some (JumpIfFalse (pc + 1 + width a))) × IsAddress u (pc + 1 + width a) × Stands u (pc + 1) a
  Stands u pc (either a b) =
      (op_here u pc ≡ Some (JumpIfFalse (pc + 1 + width a + 1))) × IsAddress u (pc + 1 + width a + 1) × Stands u (pc + 1) a ×
      (op_here u (pc + 1 + width a) ≡ Some (Jump (pc + 1 + width a + 1 + width b))) × IsAddress u (pc + 1 + width a + 1 + width b) × Stands u (pc + 1 + width a + 1) b
  Stands u pc (loops t b) =
      Stands u pc t × (op_here u (pc + width t) ≡ Some (JumpIfFalse (pc + width t + 1 + width b + 1))) × IsAddress u (pc + width t + 1 + width b + 1) ×
      Stands u (pc + width t + 1) b × (op_here u (pc + width t + 1 + width b) ≡ Some (Jump pc)) × IsAddress u pc
  Stands u pc (enters number captures slots body handler) =
      (op_here u pc ≡ Some (EnterRegion number)) × (v : ℕ) × (it : CodeUnit) × (region_in number code.units ≡ Some (record { number = v; it = it })) × (slice_get code.units v ≡ Some it) ×
      (it.kind ≡ Region number captures (width body + 1)) × (it.locals ≡ slots) ×
      Stands v 0 body × (op_here v (0 + width body) ≡ Some LeaveRegion) × Stands v (width body + 1) handler × (op_here v (width body + 1 + width handler) ≡ Some LeaveRegion)

  -- a function, which takes at most so many turns
  pub record FunctionStands (f most : ℕ) (fn : ResolvedFunction) : Type 0 where
    pub it : CodeUnit
    pub there : slice_get code.units f ≡ Some it
    pub locals : it.locals ≡ length fn.slots
    pub body : Stands f 0 (block_code [] fn.body)
    pub null : PutsAt f (0 + width (block_code [] fn.body)) Nothing
    pub last : op_here f (0 + width (block_code [] fn.body) + 1) ≡ Some Return
    pub few : cost (block_code [] fn.body) + 2 ≤ most

abbrev pub AllStand : CodeTree → ℕ → ResolvedTree → Type 0
AllStand code most r = (f : ℕ) (fn : ResolvedFunction) → slice_get r.functions f ≡ Some fn → FunctionStands code f most fn
