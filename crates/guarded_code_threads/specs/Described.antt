-- When a thread agrees with the descriptions of its code: what is known at the address at which a frame stands holds of
-- its operands and locals. Facts are those of the acting label, which never changes in a context; of kinds nothing is said.
use Rattle.std.specs.Prelude.{◌≡◌, ℕ, List, ◌∷◌, IsTrue, Option, Some, None, length, slice_get, unwrap_or}
use Rattle.std.specs.List.{AllByRecursion}
use Rattle.flow_labels.specs.declared.Label.{Label}
use Rattle.flow_labels.specs.declared.Denied.{Denied}
use Rattle.lam_value.specs.declared.values.Value.{Value}
use Rattle.lam_value.specs.declared.values.Value.TheVariants.{Obj, Arr}
use Rattle.lam_asks.specs.declared.fault.Fault.{Fault}
use Rattle.lam_bytecode.specs.Codes.{CodeTree}
use Rattle.lam_bytecode.specs.declared.unit.CodeUnit.{CodeUnit}
use Rattle.lam_bytecode.specs.declared.unit.UnitKind.{UnitKind}
use Rattle.lam_bytecode.specs.declared.unit.UnitKind.TheVariants.{Function, Region}
use Rattle.thread_steps.specs.Threads.{Frame, Inside, Phase, Bottom, Body, Catch, Context, Thread}
use Rattle.thread_steps.specs.Ops.{may_read, may_write}
use Rattle.thread_steps.specs.Next.{frame_at, outermost}
use Rattle.guarded_code.specs.Rounds.{Found, Holds, Broke}
use Rattle.guarded_code.specs.declared.known.Access.{Access}
use Rattle.guarded_code.specs.declared.known.Access.TheVariants.{Reading, Writing}
use Rattle.guarded_code.specs.declared.known.Known.{Known}
use Rattle.guarded_code.specs.declared.known.Operand.{Operand}
use Rattle.guarded_code.specs.Descriptions.{Description, is_tested}
use Rattle.guarded_code.specs.Changes.{descriptions}
use Rattle.guarded_code.specs.Says.{Pairwise}

-- ---- values

-- the rule of an access from an acting label to a thing's own label
abbrev pub rule_of : Access → Label → Label → Option Denied
rule_of Reading p own = may_read p own
rule_of Writing p own = may_write p own

-- a reference, not null, to a thing that the rule allows
abbrev pub Allows : Label → Access → Value → Type 0
Allows p access (Obj n) = rule_of access p n.own ≡ None
Allows p access (Arr n len) = rule_of access p n.own ≡ None
Allows p access v = ⊥

-- a value that was tested is a reference whose rule holds
abbrev pub FactsHold : Label → Known → Value → Type 0
FactsHold p k v = (access : Access) → IsTrue (is_tested access k) → Allows p access v

-- a copy of a local is equal to it
abbrev pub CopyHolds : List Value → Option ℕ → Value → Type 0
CopyHolds locals None v = Unit {0}
CopyHolds locals (Some n) v = slice_get locals n ≡ Some v

abbrev pub OperandHolds : Label → List Value → Operand → Value → Type 0
OperandHolds p locals o v = FactsHold p o.known v × CopyHolds locals o.copies v

-- a description holds of locals and operands: as many as it says, and each as it says
pub record Agrees (p : Label) (d : Description) (locals stack : List Value) : Type 0 where
  pub operands : Pairwise (OperandHolds p locals) d.stack stack
  pub values : Pairwise (FactsHold p) d.locals locals

-- ---- frames

abbrev pub found_at : ℕ → Found Description → Option Description
found_at at (Holds table) = unwrap_or (slice_get table at) None
found_at at (Broke a) = None

abbrev pub known_in : CodeTree → ℕ → Option CodeUnit → Option Description
known_in code at None = None
known_in code at (Some u) = found_at at (descriptions code u)

-- what is known at an address of a unit, where something is
unfoldable pub description_at : CodeTree → ℕ → ℕ → Option Description
description_at code unit at = known_in code at (slice_get code.units unit)

-- a frame agrees with the description at its address
pub record FrameAgrees (code : CodeTree) (p : Label) (f : Frame) : Type 0 where
  pub known : Description
  pub it : description_at code f.unit f.at ≡ Some known
  pub agrees : Agrees p known f.locals f.stack

abbrev pub with_operand : Frame → Value → Frame
with_operand f v = frame_at f f.at f.locals (v ∷ f.stack)

-- a frame that waits for a result agrees once it has it, whatever it is
abbrev pub Awaits : CodeTree → Label → Frame → Type 0
Awaits code p f = (v : Value) → FrameAgrees code p (with_operand f v)

-- ---- contexts

-- an acting frame; after a fault nobody looks at it any more
abbrev pub ActingAgrees : CodeTree → Label → Option Fault → Frame → Type 0
ActingAgrees code p None f = FrameAgrees code p f
ActingAgrees code p (Some fault) f = Unit {0}

abbrev pub catch_of : UnitKind → Option ℕ
catch_of (Function name takes gives_int) = None
catch_of (Region region captures catch_at) = Some catch_at

-- a frame of a region's unit with that catch place, with as many locals as the unit has
pub record IsBody (code : CodeTree) (catch_at : ℕ) (f : Frame) : Type 0 where
  pub unit : CodeUnit
  pub it : slice_get code.units f.unit ≡ Some unit
  pub place : catch_of unit.kind ≡ Some catch_at
  pub locals : length f.locals ≡ unit.locals

-- where a fault is caught, the outermost frame is one of the region that catches it
abbrev pub MayCatch : CodeTree → Phase → Frame → Type 0
MayCatch code Bottom f = Unit {0}
MayCatch code (Body catch_at) f = IsBody code catch_at f
MayCatch code Catch f = Unit {0}

pub record IsDescribedInside (code : CodeTree) (p : Label) (ph : Phase) (i : Inside) : Type 0 where
  pub acting : ActingAgrees code p i.fault i.frame
  pub waiting : AllByRecursion (Awaits code p) i.callers
  pub body : MayCatch code ph (outermost i.frame i.callers)

abbrev pub IsDescribedContext : CodeTree → Context → Type 0
IsDescribedContext code c = IsDescribedInside code c.label c.phase c.inside

-- each context of a thread agrees, the ones below the acting one as they stand when they go on
abbrev pub IsDescribed : CodeTree → Thread → Type 0
IsDescribed code th = AllByRecursion (IsDescribedContext code) th.contexts
