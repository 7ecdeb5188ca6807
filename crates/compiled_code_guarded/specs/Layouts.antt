-- A static layout of a unit: what stands at each address, whichever way it is reached.
use Rattle.std.specs.Prelude.{◌≡◌, ℕ, nat_eq, if◌then◌else◌, IsTrue, List, [], ◌∷◌, drop, length, Option, Some, None, slice_get}
use Rattle.lam_bytecode.specs.Codes.{CodeTree}
use Rattle.lam_bytecode.specs.declared.unit.CodeUnit.{CodeUnit}
use Rattle.lam_bytecode.specs.declared.op.Op.{Op}
use Rattle.lam_bytecode.specs.declared.op.Op.TheVariants.{Eq, Ne, GetField, PutField, GetElement, PutElement}
use Rattle.guarded_code.specs.Rounds.{Sent}
use Rattle.guarded_code.specs.declared.known.ValueKind.{ValueKind}
use Rattle.guarded_code.specs.declared.known.ValueKind.TheVariants.{Unknown}
use Rattle.guarded_code.specs.declared.known.Access.{Access}
use Rattle.guarded_code.specs.declared.known.Access.TheVariants.{Reading, Writing}
use Rattle.guarded_code.specs.declared.known.Operand.{Operand}
use Rattle.guarded_code.specs.Descriptions.{Description, starts}
use Rattle.guarded_code.specs.Changes.{Place, Any, Only, Change, Loads, Stores, Tests, Trades, change, wanted, goes, known_at}
use Rattle.guarded_code.specs.Breaks.{names_something, may_agree, is_tested_at}
use Rattle.guarded_code.specs.Says.{Pairwise, KindSays}
use Rattle.guarded_code.specs.Facts.{IsUnitGuarded}

-- ---- shapes

-- the reference so far below the top was tested by the operation before
pub record Fact : Type 0 where
  pub access : Access
  pub depth : ℕ

-- the kinds that the operands, the top one first, and the locals by number have as far as they are known; a local of kind
-- `Unknown` may hold any value
pub record Shape : Type 0 where
  pub stack : List ValueKind
  pub slots : ℕ → ValueKind
  pub fact : Option Fact

abbrev pub fact_of : Access → ℕ → Option Fact
fact_of access depth = Some (record { access = access; depth = depth })

-- ---- a description fits a shape

abbrev pub IsOfKind : ValueKind → ValueKind → Type 0
IsOfKind kind wanted = IsTrue (may_agree kind wanted)

abbrev pub OperandFits : Operand → ValueKind → Type 0
OperandFits o kind = IsOfKind o.known.kind kind

abbrev pub HasFact : Option Fact → List Operand → Type 0
HasFact None os = Unit {0}
HasFact (Some m) os = IsTrue (is_tested_at m.access (slice_get os m.depth))

-- with so many locals
pub record Fits (locals : ℕ) (d : Description) (s : Shape) : Type 0 where
  pub stack : Pairwise OperandFits d.stack s.stack
  pub slots : (n : ℕ) → IsOfKind (known_at d.locals n).kind (s.slots n)
  pub size : length d.locals ≡ locals
  pub fact : HasFact s.fact d.stack

-- ---- what an operation needs

abbrev pub TakesKind : Place → ValueKind → Type 0
TakesKind Any kind = Unit {0}
TakesKind (Only want) kind = want ≡ kind

-- the operands that are taken stand on top
abbrev pub TakesKinds : List Place → List ValueKind → Type 0
TakesKinds [] ks = Unit {0}
TakesKinds (p ∷ ps) [] = ⊥
TakesKinds (p ∷ ps) (k ∷ ks) = TakesKind p k × TakesKinds ps ks

abbrev pub IsKnown : ValueKind → Type 0
IsKnown Unknown = ⊥
IsKnown k = Unit {0}

-- two operands of one kind, which is known
abbrev pub TwoAgree : List ValueKind → Type 0
TwoAgree (k ∷ m ∷ ks) = (k ≡ m) × IsKnown k
TwoAgree ks = Unit {0}

abbrev pub Compares : Op → List ValueKind → Type 0
Compares Eq ks = TwoAgree ks
Compares Ne ks = TwoAgree ks
Compares op ks = Unit {0}

-- an access stands behind the barrier of its reference
abbrev pub IsBehind : Op → Option Fact → Type 0
IsBehind (GetField f) m = m ≡ fact_of Reading 0
IsBehind (PutField f) m = m ≡ fact_of Writing 1
IsBehind GetElement m = m ≡ fact_of Reading 1
IsBehind PutElement m = m ≡ fact_of Writing 2
IsBehind op m = Unit {0}

pub record Finds (code : CodeTree) (locals : ℕ) (op : Op) (s : Shape) : Type 0 where
  pub names : IsTrue (names_something code locals op)
  pub takes : TakesKinds (wanted (change code op)) s.stack
  pub compares : Compares op s.stack
  pub behind : IsBehind op s.fact

-- ---- what follows

abbrev pub SlotsSay : (ℕ → ValueKind) → (ℕ → ValueKind) → Type 0
SlotsSay f g = (n : ℕ) → KindSays (f n) (g n)

abbrev pub FactSays : Option Fact → Option Fact → Type 0
FactSays m None = Unit {0}
FactSays m (Some n) = m ≡ Some n

-- a value of the kind that is given is put on the others, or none. Where the kind is not known, it may be any
abbrev pub IsPut : Option ValueKind → List ValueKind → List ValueKind → Type 0
IsPut None rest stack = stack ≡ rest
IsPut (Some kind) rest stack = (k : ValueKind) × (stack ≡ k ∷ rest) × IsOfKind kind k

abbrev pub with_slot : (ℕ → ValueKind) → ℕ → ValueKind → ℕ → ValueKind
with_slot slots n kind m = if nat_eq m n then kind else slots m

-- t says no more than what is left of s after a change
abbrev pub Follows : Change → Shape → Shape → Type 0
Follows (Loads n) s t = (t.stack ≡ s.slots n ∷ s.stack) × SlotsSay s.slots t.slots × FactSays None t.fact
Follows (Stores n) s t = (k : ValueKind) × (s.stack ≡ k ∷ t.stack) × SlotsSay (with_slot s.slots n k) t.slots × FactSays None t.fact
Follows (Tests access depth) s t = (t.stack ≡ s.stack) × SlotsSay s.slots t.slots × FactSays (fact_of access depth) t.fact
Follows (Trades takes gives) s t = IsPut gives (drop (length takes) s.stack) t.stack × SlotsSay s.slots t.slots × FactSays None t.fact

-- ---- layouts

abbrev pub Leads : List Shape → Change → Shape → ℕ → Type 0
Leads ss c s b = (t : Shape) × (slice_get ss b ≡ Some t) × Follows c s t

abbrev pub AllLead : List Shape → Change → Shape → List ℕ → Type 0
AllLead ss c s [] = Unit {0}
AllLead ss c s (b ∷ bs) = Leads ss c s b × AllLead ss c s bs

-- what comes to an address at the starts fits the shape there
abbrev pub StartsFit : ℕ → List Shape → Sent Description → Type 0
StartsFit locals ss [] = Unit {0}
StartsFit locals ss (p ∷ ps) = ((s : Shape) × (slice_get ss p.0 ≡ Some s) × Fits locals p.1 s) × StartsFit locals ss ps

-- each operation finds what it needs, and each address that may come next has a shape that follows
pub record IsLegal (code : CodeTree) (u : CodeUnit) (ss : List Shape) (a : ℕ) (op : Op) (s : Shape) : Type 0 where
  pub finds : Finds code u.locals op s
  pub leads : AllLead ss (change code op) s (goes a op)

pub record IsLayout (code : CodeTree) (u : CodeUnit) (ss : List Shape) : Type 0 where
  pub size : length ss ≡ length u.ops
  pub started : StartsFit u.locals ss (starts u)
  pub legal : (a : ℕ) (op : Op) (s : Shape) → slice_get u.ops a ≡ Some op → slice_get ss a ≡ Some s → IsLegal code u ss a op s

abbrev pub LaidOutIsGuarded : Type 0
LaidOutIsGuarded = (code : CodeTree) (u : CodeUnit) (ss : List Shape) → IsLayout code u ss → IsUnitGuarded code u
