-- Calls one after another add their pieces one behind another.
use Rattle.std.proofs.Common.{◌≡◌, ℕ, ◌+◌, ◌^◌, ◌≤◌, Bool, true, false, ◌&&◌, nat_lt, List, ◌++◌, length, Ok, Err, refl, sym, ap, ◌∙◌, subst, arith, append_assoc, append-nil, length-append}
use Rattle.std.proofs.Math.Bool.{and-false, and-true}
use Rattle.lam_bytecode.specs.declared.op.Op.{Op}
use Rattle.lam_meaning.specs.Pieces.{Pieces, no_pieces, pieces, joined, op, size, Flat, flat}
use Rattle.barrier_compiler_ops.specs.declared.buffer.Stop.{Stop}
use Rattle.barrier_compiler_ops.specs.declared.buffer.Stop.TheVariants.{TooLong, Wide, NoMemory}
use Rattle.barrier_compiler_ops.specs.Emits.{State, named_by, are_narrow, EmitsBy, Emits, Goes, IsOperandBy, IsOperand}
use Rattle.barrier_compiler_ops.proofs.Flat.{length-flat, size-joined, flat-joined, narrow-joined}

-- what was given up stays so
pub stays : (f : Stop) (b c : State) (ps : Pieces) → b ≡ Err f → EmitsBy b c ps → c ≡ Err f
stays f b c ps e h = let g : EmitsBy (Err f) c ps = subst (λ (s : State). EmitsBy s c ps) e h in g

narrow_first : (ps qs : Pieces) → are_narrow ps ≡ false → are_narrow (joined ps qs) ≡ false
narrow_first ps qs e = narrow-joined ps qs ∙ ap (λ b. b && are_narrow qs) e

narrow_second : (ps qs : Pieces) → are_narrow qs ≡ false → are_narrow (joined ps qs) ≡ false
narrow_second ps qs e = narrow-joined ps qs ∙ ap (λ b. are_narrow ps && b) e ∙ and-false (are_narrow ps)

laid : (x y z : List Flat) (ps qs : Pieces) → y ≡ x ++ flat (length x) ps → z ≡ y ++ flat (length y) qs → z ≡ x ++ flat (length x) (joined ps qs)
laid x y z ps qs e g =
    let n : length y ≡ length x + size ps = omega (arith, ap length e, length-append x (flat (length x) ps), length-flat (length x) ps) in
    g ∙ ap (λ l. l ++ flat (length y) qs) e
    ∙ ap (λ n. (x ++ flat (length x) ps) ++ flat n qs) n
    ∙ append_assoc x (flat (length x) ps) (flat (length x + size ps) qs)
    ∙ ap (λ l. x ++ l) (sym (flat-joined (length x) ps qs))

-- where the first part stops, so do both
given_up : (x : List Flat) (f : Stop) (ps qs : Pieces) → EmitsBy (Ok x) (Err f) ps → EmitsBy (Ok x) (Err f) (joined ps qs)
given_up x TooLong ps qs e = omega (arith, e, size-joined ps qs)
given_up x Wide ps qs e = narrow_first ps qs e
given_up x NoMemory ps qs e = tt

joins_by : (a b c : State) (ps qs : Pieces) → EmitsBy a b ps → EmitsBy b c qs → EmitsBy a c (joined ps qs)
joins_by (Err f) b c ps qs e g = stays f b c qs e g
joins_by (Ok x) (Ok y) (Ok z) ps qs e g = laid x y z ps qs e g
joins_by (Ok x) (Ok y) (Err TooLong) ps qs e g =
    omega (arith, ap length e, g, length-append x (flat (length x) ps), length-flat (length x) ps, size-joined ps qs)
joins_by (Ok x) (Ok y) (Err Wide) ps qs e g = narrow_second ps qs g
joins_by (Ok x) (Ok y) (Err NoMemory) ps qs e g = tt
joins_by (Ok x) (Err f) c ps qs e g = subst (λ (s : State). EmitsBy (Ok x) s (joined ps qs)) (sym g) (given_up x f ps qs e)

pub joins : {a b c : State} {ps qs : Pieces} → Emits a b ps → Emits b c qs → Emits a c (joined ps qs)
joins {a = a} {b = b} {c = c} {ps = ps} {qs = qs} e g = record { by = joins_by a b c ps qs e.by g.by }

adds_none : (a : State) → EmitsBy a a no_pieces
adds_none (Err f) = refl
adds_none (Ok x) = sym (append-nil x)

pub nothing_emits : {a : State} → Emits a a no_pieces
nothing_emits {a = a} = record { by = adds_none a }

pub joined-assoc : (ps qs rs : Pieces) → joined (joined ps qs) rs ≡ joined ps (joined qs rs)
joined-assoc no_pieces qs rs = refl
joined-assoc (pieces p ps) qs rs = ap (pieces p) (joined-assoc ps qs rs)

-- the same pieces, said otherwise
pub as_pieces : {a b : State} {ps qs : Pieces} → ps ≡ qs → Emits a b ps → Emits a b qs
as_pieces {a = a} {b = b} e h = subst (λ (ps : Pieces). Emits a b ps) e h

-- ---- things of a list

pub starts : (a : State) (ps : Pieces) → Goes a a ps ps
starts a ps = record { by = λ new h. h }

pub goes_on : {a b c : State} {all rest qs ps : Pieces} → Goes a b all rest → rest ≡ joined ps qs → Emits b c ps → Goes a c all qs
goes_on {b = b} g e h = record { by = λ new r. g.by new (subst (λ (x : Pieces). Emits b new x) (sym e) (joins h r)) }

pub all_done : {a b : State} {all rest : Pieces} → Goes a b all rest → rest ≡ no_pieces → Emits a b all
all_done {b = b} g e = g.by b (subst (λ (x : Pieces). Emits b b x) (sym e) nothing_emits)

-- ---- operations that name by a number

module _ (k : ℕ → Op) (names : (n : ℕ) → named_by (k n) ≡ n) where
  wide_by : (n : ℕ) → 2 ^ 32 ≤ n → are_narrow (op (k n)) ≡ false
  wide_by n h = ap (λ (b : Bool). b && true) (ap (λ m. nat_lt m (2 ^ 32)) (names n)) ∙ and-true (nat_lt n (2 ^ 32)) ∙ grind (arith, h)

  named_op : (a b c : State) (n number : ℕ) → IsOperandBy a b n number → EmitsBy b c (op (k n)) → EmitsBy a c (op (k number))
  named_op (Err f) b c n number e g = stays f b c (op (k n)) e g
  named_op (Ok x) (Ok y) c n number e g =
      subst (λ m. EmitsBy (Ok x) c (op (k m))) e.1 (subst (λ (l : List Flat). EmitsBy (Ok l) c (op (k n))) e.0 g)
  named_op (Ok x) (Err f) c n number e g =
      subst (λ (s : State). EmitsBy (Ok x) s (op (k number))) (sym (g ∙ ap (λ (w : Stop). Err w) e.0)) (wide_by number e.1)

  pub names_by : {a b c : State} {n number : ℕ} → IsOperand a b n number → Emits b c (op (k n)) → Emits a c (op (k number))
  names_by {a = a} {b = b} {c = c} {n = n} {number = number} e g = record { by = named_op a b c n number e.by g.by }
