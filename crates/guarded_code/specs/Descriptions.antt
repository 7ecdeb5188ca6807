-- What is known at an address of a unit's code: of each operand and local the kind of its value and the rules that it was
-- tested by, and of each operand the local that it is a copy of.
use Rattle.std.specs.Prelude.{ℕ, zero, suc, Bool, true, false, ◌&&◌, nat_eq, if◌then◌else◌, List, [], ◌∷◌, replicate, Option, Some, None}
use Rattle.thread_steps.specs.Codes.{given}
use Rattle.thread_steps.specs.CodeUnit.{CodeUnit}
use Rattle.thread_steps.specs.UnitKind.{UnitKind}
use Rattle.thread_steps.specs.UnitKind.TheVariants.{Function, Region}
pub use Rattle.guarded_code.specs.declared.known.ValueKind.{ValueKind}
pub use Rattle.guarded_code.specs.declared.known.ValueKind.TheVariants.{Number, Truth, Other, Unknown}
pub use Rattle.guarded_code.specs.declared.known.Access.{Access}
pub use Rattle.guarded_code.specs.declared.known.Access.TheVariants.{Reading, Writing}
pub use Rattle.guarded_code.specs.declared.known.Known.{Known}
pub use Rattle.guarded_code.specs.declared.known.Operand.{Operand}
use Rattle.guarded_code.specs.Rounds.{Sent}

-- the operands, the top one first, and the locals by number
pub record Description : Type 0 where
  pub stack : List Operand
  pub locals : List Known

-- ---- facts

-- a value of that kind, not tested
abbrev pub untested : ValueKind → Known
untested kind = record { kind = kind; read = false; write = false }

abbrev pub is_tested : Access → Known → Bool
is_tested Reading k = k.read
is_tested Writing k = k.write

-- the same value once it is tested
abbrev pub tested : Access → Known → Known
tested Reading k = record { kind = k.kind; read = true; write = k.write }
tested Writing k = record { kind = k.kind; read = k.read; write = true }

-- a value that is a copy of no local
abbrev pub fresh : ValueKind → Operand
fresh kind = record { known = untested kind; copies = None }

-- ---- where paths meet: differing kinds become unknown, and what both know stays

abbrev pub met_kind : ValueKind → ValueKind → ValueKind
met_kind Number Number = Number
met_kind Truth Truth = Truth
met_kind Other Other = Other
met_kind _ _ = Unknown

abbrev pub met_known : Known → Known → Known
met_known k l = record { kind = met_kind k.kind l.kind; read = k.read && l.read; write = k.write && l.write }

abbrev pub met_copies : Option ℕ → Option ℕ → Option ℕ
met_copies None o = None
met_copies (Some n) None = None
met_copies (Some n) (Some m) = if nat_eq n m then Some n else None

abbrev pub met_operand : Operand → Operand → Operand
met_operand o p = record { known = met_known o.known p.known; copies = met_copies o.copies p.copies }

abbrev pub put_before : {A : Type 0} → A → Option (List A) → Option (List A)
put_before x None = None
put_before x (Some xs) = Some (x ∷ xs)

-- two lists of the same length, element by element
abbrev pub met_lists : {A : Type 0} → (A → A → A) → List A → List A → Option (List A)
met_lists f [] [] = Some []
met_lists f [] (y ∷ ys) = None
met_lists f (x ∷ xs) [] = None
met_lists f (x ∷ xs) (y ∷ ys) = put_before (f x y) (met_lists f xs ys)

abbrev pub described : Option (List Operand) → Option (List Known) → Option Description
described None ks = None
described (Some os) None = None
described (Some os) (Some ks) = Some (record { stack = os; locals = ks })

-- paths that bring differing numbers of operands may not meet
abbrev pub meet : Description → Description → Option Description
meet d e = described (met_lists met_operand d.stack e.stack) (met_lists met_known d.locals e.locals)

-- ---- where a unit is entered

-- of so many locals: those that are given are unknown, and the others null
abbrev pub entry_locals : ℕ → ℕ → List Known
entry_locals given zero = []
entry_locals zero (suc n) = untested Other ∷ entry_locals zero n
entry_locals (suc given) (suc n) = untested Unknown ∷ entry_locals given n

abbrev pub entry : CodeUnit → Description
entry u = record { stack = []; locals = entry_locals (given u.kind) u.locals }

-- at a catch place the fault's number stands
abbrev pub catching : ℕ → Description
catching locals = record { stack = fresh Number ∷ []; locals = replicate locals (untested Unknown) }

abbrev pub catch_starts : ℕ → UnitKind → Sent Description
catch_starts locals (Function name takes gives_int) = []
catch_starts locals (Region region captures catch_at) = (catch_at, catching locals) ∷ []

-- the entry, and the catch place where there is one
abbrev pub starts : CodeUnit → Sent Description
starts u = (0, entry u) ∷ catch_starts u.locals u.kind
