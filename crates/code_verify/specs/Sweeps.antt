-- Sweeps of a unit in which a description goes from address to address. What jumps bring to an address further on stands
-- in a table until it is taken there; what they bring back, and the starts, are kept.
use Rattle.std.specs.Prelude.{◌≡◌, ℕ, ◌<◌, ◌≤◌, Bool, true, false, if◌then◌else◌, List, Option, Some, None, option_map, slice_get}
use Rattle.lam_bytecode.specs.Codes.{CodeTree}
use Rattle.lam_bytecode.specs.declared.op.Op.{Op}
use Rattle.lam_bytecode.specs.declared.op.Op.TheVariants.{Jump, JumpIfFalse, Return, Throw, LeaveRegion}
use Rattle.guarded_code.specs.Rounds.{Table, Sent, Holds, into, AllSettled, Above}
use Rattle.guarded_code.specs.Descriptions.{Description, meet}
use Rattle.guarded_code.specs.Changes.{change, changed, passes}
use Rattle.guarded_code.specs.Says.{Says}
use Rattle.code_verify.specs.Redundant.{redundant}

-- whether the next address may come next
abbrev pub falls : Op → Bool
falls (Jump to) = false
falls Return = false
falls Throw = false
falls LeaveRegion = false
falls op = true

-- the address that an operation jumps to
abbrev pub jumps : Op → Option ℕ
jumps (Jump to) = Some to
jumps (JumpIfFalse to) = Some to
jumps op = None

-- what stands at an address: what falls to it from the one before meets what jumps bring, if they may
abbrev pub arrived : Option Description → Option Description → Option (Option Description)
arrived None o = Some o
arrived (Some r) None = Some (Some r)
arrived (Some r) (Some s) = option_map (λ m. Some m) (meet r s)

-- what its operation leaves, unless it finds too few operands
abbrev pub acted : CodeTree → Op → Option Description → Option (Option Description)
acted code op None = Some None
acted code op (Some d) = option_map (λ e. Some e) (changed (change code op) d)

-- what falls to the next address
abbrev pub onward : Op → Option Description → Option Description
onward op None = None
onward op (Some e) = if falls op then Some e else None

-- at the address a, e goes to the address b: it comes to what lies ahead (h), where b is further on, and else to what is
-- kept (k)
abbrev pub Lands : (ℕ → Description → Option (Sent Description)) → ℕ → ℕ → Description → (k h k' h' : Table Description) → Type 0
Lands passes a b e k h k' h' =
    (a < b → (into Description meet passes (slice_get h b) h b e ≡ Holds h') × (k' ≡ k))
    × (b ≤ a → (into Description meet passes (slice_get k b) k b e ≡ Holds k') × (h' ≡ h))

-- and what is left of an operation goes to the address that it jumps to, where it does
abbrev pub Brought : (ℕ → Description → Option (Sent Description)) → ℕ → Option Description → Option ℕ → (k h k' h' : Table Description) → Type 0
Brought passes a None o k h k' h' = (k' ≡ k) × (h' ≡ h)
Brought passes a (Some e) None k h k' h' = (k' ≡ k) × (h' ≡ h)
Brought passes a (Some e) (Some b) k h k' h' = Lands passes a b e k h k' h'

abbrev pub MeetsAll : CodeTree → List Op → Table Description → Type 0
MeetsAll code ops t = AllSettled Description (passes code ops) Says t

abbrev pub SaysMore : Table Description → Table Description → Type 0
SaysMore s t = Above Description Says s t

-- a sweep brings only what says less, and no less than a table that meets the rules
pub record Lowers (code : CodeTree) (ops : List Op) (s s' : Table Description) : Type 0 where
  pub below : SaysMore s s'
  pub keeps : (t : Table Description) → MeetsAll code ops t → SaysMore s t → SaysMore s' t

-- w is below s and meets the rules, and says the most of all such tables
pub record Rests (code : CodeTree) (ops : List Op) (s w : Table Description) : Type 0 where
  pub below : SaysMore s w
  pub meets : MeetsAll code ops w
  pub most : (t : Table Description) → MeetsAll code ops t → SaysMore s t → SaysMore w t

-- a sweep that brings nothing anew ends the sweeps, and has flagged the redundant barriers
abbrev pub Ends : CodeTree → List Op → Table Description → List Bool → Type 0
Ends code ops s flags = (w : Table Description) × Rests code ops s w × (flags ≡ redundant ops w)
