-- Code whose branches are nested and whose constants stand by value, and how it is laid out flat.
use Rattle.std.specs.Prelude.{ℕ, suc, ◌+◌, Bool, true, false, if◌then◌else◌, List, [], ◌∷◌, ◌++◌}
use Rattle.thread_steps.specs.Value.{Value}
use Rattle.thread_steps.specs.Op.{Op}
use Rattle.thread_steps.specs.Op.TheVariants.{Const, Jump, JumpIfFalse}
use Rattle.lam_meaning.specs.Equal.{same_values}

mutual
  pub data Piece : Type 0 where
    -- an operation that goes on at the next address
    does : (op : Op) → Piece
    -- a constant
    puts : (v : Value) → Piece
    -- where the top operand is true
    when : (first_part : Pieces) → Piece
    -- the one where it is true, and else the other
    either : (first_part other_part : Pieces) → Piece
    -- as long as the test leaves true
    loops : (test body : Pieces) → Piece

  pub data Pieces : Type 0 where
    no_pieces : Pieces
    pieces : (first : Piece) (rest : Pieces) → Pieces

abbrev pub joined : Pieces → Pieces → Pieces
joined no_pieces qs = qs
joined (pieces p ps) qs = pieces p (joined ps qs)

abbrev pub one : Piece → Pieces
one p = pieces p no_pieces

abbrev pub op : Op → Pieces
op o = one (does o)

-- ---- how many operations they take

abbrev mutual
  pub size_of : Piece → ℕ
  size_of (does o) = 1
  size_of (puts v) = 1
  size_of (when first_part) = 1 + size first_part
  size_of (either first_part other_part) = 1 + size first_part + 1 + size other_part
  size_of (loops test body) = size test + 1 + size body + 1

  pub size : Pieces → ℕ
  size no_pieces = 0
  size (pieces p ps) = size_of p + size ps

-- ---- with addresses

-- an operation, or a constant by value
pub data Flat : Type 0 where
  an_op : (op : Op) → Flat
  a_constant : (v : Value) → Flat

abbrev mutual
  -- from an address on
  pub flat_of : ℕ → Piece → List Flat
  flat_of at (does o) = an_op o ∷ []
  flat_of at (puts v) = a_constant v ∷ []
  flat_of at (when first_part) = an_op (JumpIfFalse (at + 1 + size first_part)) ∷ flat (at + 1) first_part
  flat_of at (either first_part other_part) =
      an_op (JumpIfFalse (at + 1 + size first_part + 1)) ∷ flat (at + 1) first_part ++ an_op (Jump (at + 1 + size first_part + 1 + size other_part)) ∷ flat (at + 1 + size first_part + 1) other_part
  flat_of at (loops test body) =
      flat at test ++ an_op (JumpIfFalse (at + size test + 1 + size body + 1)) ∷ flat (at + size test + 1) body ++ an_op (Jump at) ∷ []

  pub flat : ℕ → Pieces → List Flat
  flat at no_pieces = []
  flat at (pieces p ps) = flat_of at p ++ flat (at + size_of p) ps

-- ---- constants, each once, in order of first use

abbrev pub is_in : Value → List Value → Bool
is_in v [] = false
is_in v (w ∷ ws) = if same_values v w then true else is_in v ws

abbrev pub with_constant : List Value → Value → List Value
with_constant vs v = if is_in v vs then vs else vs ++ v ∷ []

abbrev pub constants_in : List Value → List Flat → List Value
constants_in vs [] = vs
constants_in vs (an_op o ∷ fs) = constants_in vs fs
constants_in vs (a_constant v ∷ fs) = constants_in (with_constant vs v) fs

-- the place of a constant
abbrev pub place_of : List Value → Value → ℕ
place_of [] v = 0
place_of (w ∷ ws) v = if same_values v w then 0 else suc (place_of ws v)

abbrev pub numbered : List Value → List Flat → List Op
numbered vs [] = []
numbered vs (an_op o ∷ fs) = o ∷ numbered vs fs
numbered vs (a_constant v ∷ fs) = Const (place_of vs v) ∷ numbered vs fs
