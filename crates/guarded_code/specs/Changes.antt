-- What an operation takes and gives, and what is known after it.
use Rattle.std.specs.Prelude.{ℕ, zero, suc, ◌+◌, ◌*◌, nat_le, Bool, true, false, nat_eq, if◌then◌else◌, List, [], ◌∷◌, ◌++◌, map, reverse, drop, length, replicate, slice_get, slice_set, Option, Some, None, unwrap_or, option_map}
use Rattle.lam_builtins.specs.Types.{TypeBy, int, bool, PlaceBy, exactly}
use Rattle.lam_builtins.specs.Builtins.{AnswerBy, answers, row}
use Rattle.thread_steps.specs.Value.{Value}
use Rattle.thread_steps.specs.Value.TheVariants.{Int, Bool as TruthValue}
use Rattle.thread_steps.specs.Codes.{CodeTree}
use Rattle.thread_steps.specs.CodeUnit.{CodeUnit}
use Rattle.thread_steps.specs.UnitKind.{UnitKind}
use Rattle.thread_steps.specs.UnitKind.TheVariants.{Function, Region}
use Rattle.thread_steps.specs.Op.{Op}
use Rattle.thread_steps.specs.Op.TheVariants.{Const, Load, Store, Pop, Add, Sub, Mul, Div, Rem, Neg, Not, Eq, Ne, Lt, Le, Gt, Ge, Jump, JumpIfFalse, Call, Return, Throw, ReadBarrier, WriteBarrier, GetField, PutField, GetElement, PutElement, NewObject, NewArray, MakeLabel, NoCaps, WithPlus, WithMinus, System, EnterMonitor, LeaveMonitor, EnterRegion, LeaveRegion, Spawn}
use Rattle.thread_steps.specs.Ops.{function_takes, region_takes, region_in}
use Rattle.guarded_code.specs.Rounds.{Sent, Table, Found, after}
use Rattle.guarded_code.specs.Descriptions.{ValueKind, Number, Truth, Other, Unknown, Access, Reading, Writing, Known, Operand, Description, untested, tested, fresh, meet, starts}

-- what an operation wants of an operand
pub data Place : Type 0 where
  Any : Place
  Only : (kind : ValueKind) → Place

pub data Change : Type 0 where
  -- a copy of a local is put on top
  Loads : (local : ℕ) → Change
  -- the top goes into a local
  Stores : (local : ℕ) → Change
  -- the reference so far below the top is tested
  Tests : (access : Access) (depth : ℕ) → Change
  -- operands are taken, the top one first, and a value of that kind is put there, or none
  Trades : (takes : List Place) (gives : Option ValueKind) → Change

-- ---- kinds of values, of built-in calls, and of what calls give

abbrev pub kind_of_value : Value → ValueKind
kind_of_value (Int n) = Number
kind_of_value (TruthValue b) = Truth
kind_of_value v = Other

abbrev pub kind_of_type : {C : Type 0} → TypeBy C → ValueKind
kind_of_type int = Number
kind_of_type bool = Truth
kind_of_type t = Other

abbrev pub kind_of_place : {C : Type 0} → PlaceBy C → ValueKind
kind_of_place (exactly t) = kind_of_type t
kind_of_place p = Other

-- a call without a result gives null, and a copy is of a reference
abbrev pub kind_of_answer : {C : Type 0} → AnswerBy C → ValueKind
kind_of_answer (answers t) = kind_of_type t
kind_of_answer a = Other

abbrev pub kind_of_result : UnitKind → ValueKind
kind_of_result (Function name takes gives_int) = if gives_int then Number else Unknown
kind_of_result (Region region captures catch_at) = Unknown

abbrev pub constant_kind : Option Value → ValueKind
constant_kind None = Unknown
constant_kind (Some v) = kind_of_value v

abbrev pub result_kind : Option CodeUnit → ValueKind
result_kind None = Unknown
result_kind (Some u) = kind_of_result u.kind

abbrev pub places_of : {C : Type 0} → List (PlaceBy C) → List Place
places_of [] = []
places_of (p ∷ ps) = Only (kind_of_place p) ∷ places_of ps

-- so many operands of every kind
abbrev pub anything : Option ℕ → List Place
anything count = replicate (unwrap_or count 0) Any

-- ---- the table: what stands at the end of the left list is the deepest operand

abbrev pub change : CodeTree → Op → Change
change code (Const k) = Trades [] (Some (constant_kind (slice_get code.constants k)))
change code (Load n) = Loads n
change code (Store n) = Stores n
change code Pop = Trades (Any ∷ []) None
change code Add = Trades (Only Number ∷ Only Number ∷ []) (Some Number)
change code Sub = Trades (Only Number ∷ Only Number ∷ []) (Some Number)
change code Mul = Trades (Only Number ∷ Only Number ∷ []) (Some Number)
change code Div = Trades (Only Number ∷ Only Number ∷ []) (Some Number)
change code Rem = Trades (Only Number ∷ Only Number ∷ []) (Some Number)
change code Neg = Trades (Only Number ∷ []) (Some Number)
change code Not = Trades (Only Truth ∷ []) (Some Truth)
change code Eq = Trades (Any ∷ Any ∷ []) (Some Truth)
change code Ne = Trades (Any ∷ Any ∷ []) (Some Truth)
change code Lt = Trades (Only Number ∷ Only Number ∷ []) (Some Truth)
change code Le = Trades (Only Number ∷ Only Number ∷ []) (Some Truth)
change code Gt = Trades (Only Number ∷ Only Number ∷ []) (Some Truth)
change code Ge = Trades (Only Number ∷ Only Number ∷ []) (Some Truth)
change code (Jump to) = Trades [] None
change code (JumpIfFalse to) = Trades (Only Truth ∷ []) None
change code (Call u) = Trades (anything (function_takes (slice_get code.units u))) (Some (result_kind (slice_get code.units u)))
change code Return = Trades (Any ∷ []) None
change code Throw = Trades (Only Number ∷ []) None
change code (ReadBarrier depth) = Tests Reading depth
change code (WriteBarrier depth) = Tests Writing depth
change code (GetField f) = Trades (Only Other ∷ []) (Some Unknown)
change code (PutField f) = Trades (Any ∷ Only Other ∷ []) None
change code GetElement = Trades (Only Number ∷ Only Other ∷ []) (Some Unknown)
change code PutElement = Trades (Any ∷ Only Number ∷ Only Other ∷ []) None
change code (NewObject c) = Trades [] (Some Other)
change code (NewArray k) = Trades (Only Number ∷ []) (Some Other)
change code (MakeLabel secrecy integrity) = Trades (replicate (secrecy + integrity) (Only Other)) (Some Other)
change code NoCaps = Trades [] (Some Other)
change code WithPlus = Trades (Only Other ∷ Only Other ∷ []) (Some Other)
change code WithMinus = Trades (Only Other ∷ Only Other ∷ []) (Some Other)
change code (System b) =
    Trades (reverse (places_of (row b).signature.takes)) (Some (kind_of_answer (row b).signature.answer))
change code EnterMonitor = Trades (Only Other ∷ []) None
change code LeaveMonitor = Trades (Only Other ∷ []) None
change code (EnterRegion r) = Trades (anything (region_takes (region_in r code.units)) ++ Only Other ∷ Only Other ∷ []) None
change code LeaveRegion = Trades [] None
change code (Spawn u) = Trades (anything (function_takes (slice_get code.units u)) ++ Only Other ∷ []) (Some Other)

-- the operands that it finds, and what it wants of them
abbrev pub wanted : Change → List Place
wanted (Loads n) = []
wanted (Stores n) = Any ∷ []
wanted (Tests access depth) = replicate depth Any ++ Only Other ∷ []
wanted (Trades takes gives) = takes

-- ---- what is known after it

abbrev pub known_at : List Known → ℕ → Known
known_at locals n = unwrap_or (slice_get locals n) (untested Unknown)

abbrev pub is_copy : ℕ → Option ℕ → Bool
is_copy n None = false
is_copy n (Some m) = nat_eq m n

abbrev pub loaded : ℕ → Description → Description
loaded n d = record { stack = record { known = known_at d.locals n; copies = Some n } ∷ d.stack; locals = d.locals }

-- no operand is a copy of the local any more
abbrev pub forgotten : ℕ → Operand → Operand
forgotten n o = record { known = o.known; copies = if is_copy n o.copies then None else o.copies }

abbrev pub stored_from : ℕ → List Operand → List Known → Description
stored_from n [] locals = record { stack = []; locals = locals }
stored_from n (o ∷ os) locals = record { stack = map (forgotten n) os; locals = slice_set locals n o.known }

abbrev pub stored : ℕ → Description → Description
stored n d = stored_from n d.stack d.locals

abbrev pub at_place : {A : Type 0} → (A → A) → ℕ → List A → List A
at_place f i [] = []
at_place f zero (x ∷ xs) = f x ∷ xs
at_place f (suc i) (x ∷ xs) = x ∷ at_place f i xs

abbrev pub tested_operand : Access → Operand → Operand
tested_operand access o = record { known = tested access o.known; copies = o.copies }

-- an operand that is a copy of that local, where there is one, is tested with it
abbrev pub tested_copy : Access → Option ℕ → Operand → Operand
tested_copy access None o = o
tested_copy access (Some n) o = if is_copy n o.copies then tested_operand access o else o

abbrev pub tested_local : Access → Option ℕ → List Known → List Known
tested_local access None locals = locals
tested_local access (Some n) locals = at_place (tested access) n locals

abbrev pub copied_at : Option Operand → Option ℕ
copied_at None = None
copied_at (Some o) = o.copies

-- an operand is tested, with the local that it copies and all copies of that local
abbrev pub barred : Access → ℕ → Option ℕ → Description → Description
barred access depth copies d =
    record { stack = at_place (tested_operand access) depth (map (tested_copy access copies) d.stack); locals = tested_local access copies d.locals }

abbrev pub put : Option ValueKind → List Operand → List Operand
put None os = os
put (Some kind) os = fresh kind ∷ os

abbrev pub traded : ℕ → Option ValueKind → Description → Description
traded taken gives d = record { stack = put gives (drop taken d.stack); locals = d.locals }

abbrev pub left : Change → Description → Description
left (Loads n) d = loaded n d
left (Stores n) d = stored n d
left (Tests access depth) d = barred access depth (copied_at (slice_get d.stack depth)) d
left (Trades takes gives) d = traded (length takes) gives d

-- what is left, unless there are too few operands
abbrev pub changed : Change → Description → Option Description
changed c d = if nat_le (length (wanted c)) (length d.stack) then Some (left c d) else None

-- ---- where it goes on

-- the addresses that may come next
abbrev pub goes : ℕ → Op → List ℕ
goes a (Jump to) = to ∷ []
goes a (JumpIfFalse to) = (a + 1) ∷ to ∷ []
goes a Return = []
goes a Throw = []
goes a LeaveRegion = []
goes a op = (a + 1) ∷ []

abbrev pub sent : List ℕ → Description → Sent Description
sent bs d = map (λ (b : ℕ). (b, d)) bs

abbrev pub passed : CodeTree → Option Op → ℕ → Description → Option (Sent Description)
passed code None a d = None
passed code (Some op) a d = option_map (sent (goes a op)) (changed (change code op) d)

-- what the address a sends on
abbrev pub passes : CodeTree → List Op → ℕ → Description → Option (Sent Description)
passes code ops a d = passed code (slice_get ops a) a d

-- ---- the descriptions of a unit

-- more rounds than there is to lose: a description of h operands and locals can lose 4 * h, and one that comes has none
-- higher than the locals and the operations together
abbrev pub enough : CodeUnit → ℕ
enough u = length u.ops * (4 * (u.locals + length u.ops) + 1) + 1

abbrev pub descriptions : CodeTree → CodeUnit → Found Description
descriptions code u = after Description meet (passes code u.ops) (enough u) (length u.ops) (starts u)
