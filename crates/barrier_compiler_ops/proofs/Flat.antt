-- How many operations pieces take, and how joined pieces are laid out.
use Rattle.std.proofs.Common.{◌≡◌, ℕ, ◌+◌, ◌&&◌, [], ◌∷◌, ◌++◌, length, refl, sym, ap, ◌∙◌, arith, append_assoc, length-append, zero-add}
use Rattle.std.proofs.Math.Bool.{and_assoc}
use Rattle.lam_bytecode.specs.declared.op.Op.TheVariants.{Jump, JumpIfFalse}
use Rattle.lam_meaning.specs.Pieces.{Piece, does, puts, when, either, loops, Pieces, no_pieces, pieces, joined, size_of, size, an_op, flat_of, flat}
use Rattle.barrier_compiler_ops.specs.Emits.{is_narrow, are_narrow}

mutual
  length-flat_of : (at : ℕ) (p : Piece) → length (flat_of at p) ≡ size_of p
  length-flat_of at (does o) = refl
  length-flat_of at (puts v) = refl
  length-flat_of at (when ps) = omega (arith, length-flat (at + 1) ps)
  length-flat_of at (either ps qs) =
      let j = an_op (Jump (at + 1 + size ps + 1 + size qs)) in
      omega (arith, length-append (flat (at + 1) ps) (j ∷ flat (at + 1 + size ps + 1) qs), length-flat (at + 1) ps, length-flat (at + 1 + size ps + 1) qs)
  length-flat_of at (loops test body) =
      let i = an_op (JumpIfFalse (at + size test + 1 + size body + 1)) in
      let fb = flat (at + size test + 1) body in
      let e : flat_of at (loops test body) ≡ (flat at test ++ i ∷ fb) ++ an_op (Jump at) ∷ [] = refl in
      omega (arith, ap length e, length-append (flat at test ++ i ∷ fb) (an_op (Jump at) ∷ []), length-append (flat at test) (i ∷ fb), length-flat at test, length-flat (at + size test + 1) body)

  pub length-flat : (at : ℕ) (ps : Pieces) → length (flat at ps) ≡ size ps
  length-flat at no_pieces = refl
  length-flat at (pieces p ps) =
      omega (arith, length-append (flat_of at p) (flat (at + size_of p) ps), length-flat_of at p, length-flat (at + size_of p) ps)

pub size-joined : (ps qs : Pieces) → size (joined ps qs) ≡ size ps + size qs
size-joined no_pieces qs = sym (zero-add (size qs))
size-joined (pieces p ps) qs = omega (arith, size-joined ps qs)

pub flat-joined : (at : ℕ) (ps qs : Pieces) → flat at (joined ps qs) ≡ flat at ps ++ flat (at + size ps) qs
flat-joined at no_pieces qs = let e : at ≡ at + 0 = omega arith in ap (λ n. flat n qs) e
flat-joined at (pieces p ps) qs =
    let e : at + size_of p + size ps ≡ at + (size_of p + size ps) = omega arith in
    ap (λ l. flat_of at p ++ l) (flat-joined (at + size_of p) ps qs)
    ∙ sym (append_assoc (flat_of at p) (flat (at + size_of p) ps) (flat (at + size_of p + size ps) qs))
    ∙ ap (λ n. (flat_of at p ++ flat (at + size_of p) ps) ++ flat n qs) e

pub narrow-joined : (ps qs : Pieces) → are_narrow (joined ps qs) ≡ (are_narrow ps && are_narrow qs)
narrow-joined no_pieces qs = refl
narrow-joined (pieces p ps) qs = ap (λ b. is_narrow p && b) (narrow-joined ps qs) ∙ sym (and_assoc (is_narrow p) (are_narrow ps) (are_narrow qs))
