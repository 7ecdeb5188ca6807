-- How much a description says, and when a table of descriptions meets the rules.
use Rattle.std.specs.Prelude.{◌≡◌, ℕ, List, [], ◌∷◌, IsTrue, Option, Some, None, length, slice_get}
use Rattle.thread_steps.specs.Codes.{CodeTree}
use Rattle.thread_steps.specs.CodeUnit.{CodeUnit}
use Rattle.thread_steps.specs.Op.{Op}
use Rattle.guarded_code.specs.Rounds.{Table, AllStand, AllSettled}
use Rattle.guarded_code.specs.Descriptions.{ValueKind, Number, Truth, Other, Unknown, Access, Known, Operand, Description, is_tested, starts}
use Rattle.guarded_code.specs.Changes.{passes}
use Rattle.guarded_code.specs.Breaks.{takes_kinds, is_guarded}

-- R of two lists of the same length, element by element
abbrev pub Pairwise : {A B : Type 0} → (A → B → Type 0) → List A → List B → Type 0
Pairwise R [] [] = Unit {0}
Pairwise R [] (y ∷ ys) = ⊥
Pairwise R (x ∷ xs) [] = ⊥
Pairwise R (x ∷ xs) (y ∷ ys) = R x y × Pairwise R xs ys

-- the first is known to be of the second kind, unless that is unknown
abbrev pub KindSays : ValueKind → ValueKind → Type 0
KindSays k Unknown = Unit {0}
KindSays k Number = k ≡ Number
KindSays k Truth = k ≡ Truth
KindSays k Other = k ≡ Other

pub record KnownSays (k l : Known) : Type 0 where
  pub kind : KindSays k.kind l.kind
  pub tests : (access : Access) → IsTrue (is_tested access l) → IsTrue (is_tested access k)

abbrev pub CopySays : Option ℕ → Option ℕ → Type 0
CopySays c None = Unit {0}
CopySays c (Some n) = c ≡ Some n

abbrev pub OperandSays : Operand → Operand → Type 0
OperandSays o p = KnownSays o.known p.known × CopySays o.copies p.copies

-- d says at least as much as e
pub record Says (d e : Description) : Type 0 where
  pub stack : Pairwise OperandSays d.stack e.stack
  pub locals : Pairwise KnownSays d.locals e.locals

-- a table meets the rules on descriptions: what comes to an address, at the starts or from another, stands there
pub record Describes (code : CodeTree) (u : CodeUnit) (t : Table Description) : Type 0 where
  pub size : length t ≡ length u.ops
  pub started : AllStand Description Says t (starts u)
  pub settled : AllSettled Description (passes code u.ops) Says t

-- at each address with a description its operation passes a test
abbrev pub AllPass : (Op → Description → Type 0) → List Op → Table Description → Type 0
AllPass P ops t = (a : ℕ) (op : Op) (d : Description) → slice_get ops a ≡ Some op → slice_get t a ≡ Some (Some d) → P op d

-- no operation finds an operand of a known kind that it does not take
abbrev pub AllTaken : CodeTree → List Op → Table Description → Type 0
AllTaken code ops t = AllPass (λ op d. IsTrue (takes_kinds code op d)) ops t

-- each access finds its reference tested by its rule
abbrev pub AllGuarded : List Op → Table Description → Type 0
AllGuarded ops t = AllPass (λ op d. IsTrue (is_guarded op d)) ops t
