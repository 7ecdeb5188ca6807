-- Breaks and faults of the code, and what a fault tells of the first break.
use Rattle.std.specs.Prelude.{◌≡◌, ℕ, Bool, true, false, Option, Some, None}
use Rattle.guarded_code.specs.Breaks as breaks
use Rattle.code_verify.specs.declared.fault.Rule.{Rule}
use Rattle.code_verify.specs.declared.fault.Rule.TheVariants as rule
use Rattle.code_verify.specs.declared.fault.CodeBreak.{CodeBreak}
use Rattle.code_verify.specs.declared.fault.VerifyFault.{VerifyFault}
use Rattle.code_verify.specs.declared.fault.VerifyFault.TheVariants.{BadTarget, Depth, Kind, Unguarded, NoMemory}

abbrev pub rule_seen : Rule → breaks.Rule
rule_seen rule.BadTarget = breaks.BadTarget
rule_seen rule.Depth = breaks.Depth
rule_seen rule.Kind = breaks.Kind
rule_seen rule.Unguarded = breaks.Unguarded

abbrev pub break_seen : CodeBreak → breaks.CodeBreak
break_seen b = record { rule = rule_seen b.rule; unit = b.unit; at = b.at }

abbrev pub fault_by : Rule → ℕ → ℕ → VerifyFault
fault_by rule.BadTarget n a = BadTarget n a
fault_by rule.Depth n a = Depth n a
fault_by rule.Kind n a = Kind n a
fault_by rule.Unguarded n a = Unguarded n a

abbrev pub fault_of : CodeBreak → VerifyFault
fault_of b = fault_by b.rule b.unit b.at

-- the first break is this one
abbrev pub Names : breaks.Rule → ℕ → ℕ → Option breaks.CodeBreak → Type 0
Names r n a first = first ≡ Some (record { rule = r; unit = n; at = a })

-- a fault is the first break; want of memory tells nothing
abbrev pub Tells : VerifyFault → Option breaks.CodeBreak → Type 0
Tells (BadTarget n a) first = Names breaks.BadTarget n a first
Tells (Depth n a) first = Names breaks.Depth n a first
Tells (Kind n a) first = Names breaks.Kind n a first
Tells (Unguarded n a) first = Names breaks.Unguarded n a first
Tells NoMemory first = Unit {0}

-- whether there is no first break, or an access without its barrier is the first
abbrev pub is_describable : Option breaks.CodeBreak → Bool
is_describable None = true
is_describable (Some b) = elim b.rule [ breaks.BadTarget ↦ false | breaks.Depth ↦ false | breaks.Kind ↦ false | breaks.Unguarded ↦ true ]

-- a fault is the first break, and of another rule than that accesses are guarded
abbrev pub TellsOf : VerifyFault → Option breaks.CodeBreak → Type 0
TellsOf (Unguarded n a) first = ⊥
TellsOf f first = Tells f first
