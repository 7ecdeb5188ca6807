-- How the code meets the definitions.
use Rattle.std.specs.Prelude.{List, Option, Some, None, Result}
use Rattle.lam_operators.specs.Words.{Word}
use Rattle.lam_types_kinds.specs.MeetsVerdicts.{LeavesBy, MakesBy, IsFirstBy, HasNoBreakBy}
use Rattle.lam_types_kinds.specs.Breaks.{Break, Verdict}
use Rattle.lam_builtins.specs.Builtins.{Signature}
use Rattle.lam_types_kinds.specs.Tables.{Names}
use Rattle.lam_types_kinds.specs.Values.{IsFault, Table, class_entries, function_entries}
use Rattle.lam_types_kinds.specs.declared.types.TypeRef.{TypeRef}
use Rattle.lam_types_kinds.specs.declared.tables.Callable.{Callable}
use Rattle.lam_types_kinds.specs.declared.fault.TypeFault.{TypeFault}
use Rattle.lam_types_kinds.specs.declared.fault.TypeFault.TheVariants.{NoMemory}

-- a step on a table, which shows the new one
abbrev pub Leaves : {A : Type 0} → Result (Unit {0}) TypeFault → A → Verdict A → Type 0
Leaves r new v = LeavesBy IsFault NoMemory r new v

-- a value that is made, as `see` shows it
abbrev pub Makes : {X A : Type 0} → (X → A) → Result X TypeFault → Verdict A → Type 0
Makes see r v = MakesBy IsFault NoMemory see r v

-- the refusal is the first break; where there is none, only memory may have run out
abbrev pub IsFirst : TypeFault → Option Break → Type 0
IsFirst f o = IsFirstBy IsFault NoMemory f o

-- no break; only memory may have run out
abbrev pub HasNoBreak : {A : Type 0} → Result A TypeFault → Type 0
HasNoBreak r = HasNoBreakBy NoMemory r

abbrev pub see_classes : Table (Table TypeRef) → List (Word × Names)
see_classes m = class_entries m.entries

abbrev pub see_functions : Table Callable → List (Word × Signature)
see_functions m = function_entries m.entries

abbrev pub or_else : {A : Type 0} → Option A → Option A → Option A
or_else (Some a) o = Some a
or_else None o = o
