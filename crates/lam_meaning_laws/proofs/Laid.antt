-- The layout of pieces: how long it is, and what stands at each address.
use Rattle.std.proofs.Common.{◌≡◌, ℕ, true, suc, ◌+◌, ◌<◌, List, [], ◌∷◌, ◌++◌, length, Option, Some, refl, sym, ap, ◌∙◌, subst, arith, append_assoc, length-append}
use Rattle.std.proofs.lemmas.Option.{slice_get-get_or}
use Rattle.std.proofs.Math.Seq.{get_or-append_seam}
use Rattle.std.specs.Prelude.{slice_get}
use Rattle.lam_value.specs.declared.values.Value.{Value}
use Rattle.lam_bytecode.specs.Codes.{CodeTree, IsConstant}
use Rattle.lam_bytecode.specs.declared.op.Op.{Op}
use Rattle.lam_bytecode.specs.declared.op.Op.TheVariants.{Const, Jump, JumpIfFalse}
use Rattle.lam_meaning_typed.specs.Pieces as laid
use Rattle.lam_meaning_typed.specs.Pieces.{Piece, Pieces, no_pieces, pieces, joined, size_of, size, Flat, an_op, a_constant, flat_of, flat, is_in, place_of, numbered}
use Rattle.lam_meaning_typed.specs.Nested.{Nested, does, puts, both, when, either, loops, pieces_of}
use Rattle.lam_meaning_laws.proofs.Stands.{width, op_here}
use Rattle.lam_meaning_laws.proofs.Constants.{AllIn}

-- ---- lengths

pub size_joined : (ps qs : Pieces) → size (joined ps qs) ≡ size ps + size qs
size_joined no_pieces qs = omega arith
size_joined (pieces p ps) qs = omega (arith, size_joined ps qs)

mutual
  length_of : (at : ℕ) (p : Piece) → length (flat_of at p) ≡ size_of p
  length_of at (laid.does o) = refl
  length_of at (laid.puts v) = refl
  length_of at (laid.when a) = omega (arith, flat_length (at + 1) a)
  length_of at (laid.either a b) =
      let x = flat (at + 1) a in
      let y = flat (at + 1 + size a + 1) b in
      omega (arith, length-append x (an_op (Jump (at + 1 + size a + 1 + size b)) ∷ y), flat_length (at + 1) a, flat_length (at + 1 + size a + 1) b)
  length_of at (laid.loops t b) =
      let x = flat at t in
      let y = flat (at + size t + 1) b in
      let j = an_op (JumpIfFalse (at + size t + 1 + size b + 1)) in
      omega (arith, length-append (x ++ (j ∷ y)) (an_op (Jump at) ∷ []), length-append x (j ∷ y), flat_length at t, flat_length (at + size t + 1) b)

  pub flat_length : (at : ℕ) (ps : Pieces) → length (flat at ps) ≡ size ps
  flat_length at no_pieces = refl
  flat_length at (pieces p ps) = omega (arith, length-append (flat_of at p) (flat (at + size_of p) ps), length_of at p, flat_length (at + size_of p) ps)

pub flat_joined : (at : ℕ) (ps qs : Pieces) → flat at (joined ps qs) ≡ flat at ps ++ flat (at + size ps) qs
flat_joined at no_pieces qs = let e : at ≡ at + 0 = omega arith in ap (λ k. flat k qs) e
flat_joined at (pieces p ps) qs =
    let e : at + size_of p + size ps ≡ at + (size_of p + size ps) = omega arith in
    ap (λ l. flat_of at p ++ l) (flat_joined (at + size_of p) ps qs ∙ ap (λ k. flat (at + size_of p) ps ++ flat k qs) e) ∙
    sym (append_assoc (flat_of at p) (flat (at + size_of p) ps) (flat (at + (size_of p + size ps)) qs))

pub width_size : (c : Nested) → size (pieces_of c) ≡ width c
width_size (both a b) = omega (arith, size_joined (pieces_of a) (pieces_of b), width_size a, width_size b)
width_size (when a) = omega (arith, width_size a)
width_size (either a b) = omega (arith, width_size a, width_size b)
width_size (loops t b) = omega (arith, width_size t, width_size b)
width_size c = refl

pub numbered_length : (vs : List Value) (fs : List Flat) → length (numbered vs fs) ≡ length fs
numbered_length vs [] = refl
numbered_length vs (an_op o ∷ fs) = ap suc (numbered_length vs fs)
numbered_length vs (a_constant v ∷ fs) = ap suc (numbered_length vs fs)

-- ---- what stands at each address

-- the list stands at a place of f
abbrev AllAt : {A : Type 0} → (ℕ → Option A) → ℕ → List A → Type 0
AllAt f i [] = Unit {0}
AllAt f i (x ∷ xs) = (f i ≡ Some x) × AllAt f (i + 1) xs

all_at : {A : Type 0} (is pre : List A) → AllAt (slice_get (pre ++ is)) (length pre) is
all_at [] pre = tt
all_at (i ∷ is) pre =
    let within : length pre < length (pre ++ i ∷ is) = omega (arith, length-append pre (i ∷ is)) in
    let here = slice_get-get_or (pre ++ i ∷ is) (length pre) i within ∙ ap Some (get_or-append_seam pre i is i) in
    let n : length (pre ++ i ∷ []) ≡ length pre + 1 = omega (arith, length-append pre (i ∷ [])) in
    let rest = all_at is (pre ++ i ∷ []) in
    let rest' = subst (λ l. AllAt (slice_get l) (length (pre ++ i ∷ [])) is) (append_assoc pre (i ∷ []) is) rest in
    (here, subst (λ m. AllAt (slice_get (pre ++ i ∷ is)) m is) n rest')

module _ (code : CodeTree) (u : ℕ) where
  abbrev pub FlatAt : ℕ → Flat → Type 0
  FlatAt i (an_op o) = op_here code u i ≡ Some o
  FlatAt i (a_constant v) = (op_here code u i ≡ Some (Const (place_of code.constants v))) × (IsConstant v → is_in v code.constants ≡ true)

  abbrev pub AllFlat : ℕ → List Flat → Type 0
  AllFlat i [] = Unit {0}
  AllFlat i (f ∷ fs) = FlatAt i f × AllFlat (i + 1) fs

  numbered_at : (i : ℕ) (fs : List Flat) → AllAt (op_here code u) i (numbered code.constants fs) → AllIn code.constants fs → AllFlat i fs
  numbered_at i [] h k = tt
  numbered_at i (an_op o ∷ fs) h k = (h.0, numbered_at (i + 1) fs h.1 k)
  numbered_at i (a_constant v ∷ fs) h k = ((h.0, k.0), numbered_at (i + 1) fs h.1 k.1)

  -- the operations of a unit
  pub unit_at : (ops : List Op) (fs : List Flat) → ((i : ℕ) → op_here code u i ≡ slice_get ops i) → ops ≡ numbered code.constants fs → AllIn code.constants fs → AllFlat 0 fs
  unit_at ops fs same e k = numbered_at 0 fs (subst (λ (ops : List Op). AllAt (op_here code u) 0 ops) e (moved ops 0 (all_at ops []))) k
    where
      moved : (xs : List Op) (i : ℕ) → AllAt (slice_get ops) i xs → AllAt (op_here code u) i xs
      moved [] i h = tt
      moved (x ∷ xs) i h = (same i ∙ h.0, moved xs (i + 1) h.1)

  pub flat_front : (i : ℕ) (a b : List Flat) → AllFlat i (a ++ b) → AllFlat i a
  flat_front i [] b h = tt
  flat_front i (x ∷ a) b h = (h.0, flat_front (i + 1) a b h.1)

  pub flat_back : (i j : ℕ) (a b : List Flat) → i + length a ≡ j → AllFlat i (a ++ b) → AllFlat j b
  flat_back i j [] b e h = let e' : i ≡ j = omega (arith, e) in subst (λ n. AllFlat n b) e' h
  flat_back i j (x ∷ a) b e h = flat_back (i + 1) j a b (omega (arith, e)) h.1

  -- both pieces of two that are joined
  pub joined_at : (pc m : ℕ) (ps qs : Pieces) → size ps ≡ m → AllFlat pc (flat pc (joined ps qs)) → AllFlat pc (flat pc ps) × AllFlat (pc + m) (flat (pc + m) qs)
  joined_at pc m ps qs e h =
      let k = subst (AllFlat pc) (flat_joined pc ps qs) h in
      let l : pc + length (flat pc ps) ≡ pc + m = omega (arith, flat_length pc ps, e) in
      (flat_front pc (flat pc ps) (flat (pc + size ps) qs) k, subst (λ n. AllFlat (pc + m) (flat (pc + n) qs)) e (flat_back pc (pc + m) (flat pc ps) (flat (pc + size ps) qs) l k))
