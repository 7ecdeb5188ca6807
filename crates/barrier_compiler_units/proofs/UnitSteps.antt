-- The code of a unit is its draft's.
use Rattle.std.proofs.Common.{◌≡◌, ℕ, ◌+◌, ◌^◌, ◌≤◌, false, ◌&&◌, nat_lt, List, [], ◌∷◌, ◌++◌, length, reverse, Ok, Err, refl, sym, ap, ◌∙◌, subst, arith, length-append}
use Rattle.std.proofs.Math.Bool.{and-false, and-true, and_assoc}
use Rattle.lam_resolve_tree.specs.declared.ValueType.{ValueType}
use Rattle.lam_resolve_tree.specs.Tree.{ResolvedType, Block, ResolvedFunction, types_tree}
use Rattle.lam_value.specs.declared.values.Value.TheVariants.{Nothing}
use Rattle.lam_bytecode.specs.declared.op.Op.TheVariants.{Return, LeaveRegion, Store, Jump, JumpIfFalse}
use Rattle.lam_bytecode.specs.declared.unit.UnitKind.{UnitKind}
use Rattle.lam_bytecode.specs.declared.unit.UnitKind.TheVariants.{Region}
use Rattle.lam_meaning.specs.Pieces.{Piece, does, puts, when, either, loops, Pieces, no_pieces, pieces, joined, one, op, size, size_of, Flat, an_op, flat, flat_of}
use Rattle.lam_meaning.specs.Scheme.{Draft, block, function_draft, region_draft}
use Rattle.barrier_compiler_ops.specs.declared.buffer.Stop.{Stop}
use Rattle.barrier_compiler_ops.specs.declared.buffer.Stop.TheVariants.{TooLong, Wide, NoMemory}
use Rattle.barrier_compiler_ops.specs.Emits.{State, named_by, is_narrow, are_narrow, EmitsBy, Emits, IsAt, IsOperandBy, IsOperand}
use Rattle.barrier_compiler_ops.proofs.Flat.{length-flat, size-joined}
use Rattle.barrier_compiler_ops.proofs.Joins.{joins, joined-assoc}
use Rattle.barrier_compiler_units.specs.Adds.{flat_narrow, code_narrow, kind_narrow, draft_narrow, IsDraftBy, IsDraft}

pub length-types : (ts : List ValueType) → length (types_tree ts) ≡ length ts
length-types [] = refl
length-types (t ∷ ts) = omega (arith, length-types ts)

pub at_start : {a b : State} (xs : List ℕ) (body : Block) → xs ≡ [] → Emits a b (block (reverse xs) body) → Emits a b (block [] body)
at_start {a = a} {b = b} xs body e h = subst (λ (l : List ℕ). Emits a b (block (reverse l) body)) e h

-- ---- numbers of flat code are those of its pieces

narrow-append : (fs gs : List Flat) → code_narrow (fs ++ gs) ≡ (code_narrow fs && code_narrow gs)
narrow-append [] gs = refl
narrow-append (f ∷ fs) gs = ap (λ b. flat_narrow f && b) (narrow-append fs gs) ∙ sym (and_assoc (flat_narrow f) (code_narrow fs) (code_narrow gs))

mutual
  narrow-flat_of : (at : ℕ) (p : Piece) → code_narrow (flat_of at p) ≡ is_narrow p
  narrow-flat_of at (does o) = and-true (nat_lt (named_by o) (2 ^ 32))
  narrow-flat_of at (puts v) = refl
  narrow-flat_of at (when ps) = narrow-flat (at + 1) ps
  narrow-flat_of at (either ps qs) =
      let j = an_op (Jump (at + 1 + size ps + 1 + size qs)) in
      narrow-append (flat (at + 1) ps) (j ∷ flat (at + 1 + size ps + 1) qs) ∙ ap (λ b. b && code_narrow (flat (at + 1 + size ps + 1) qs)) (narrow-flat (at + 1) ps) ∙ ap (λ b. are_narrow ps && b) (narrow-flat (at + 1 + size ps + 1) qs)
  narrow-flat_of at (loops test body) =
      let i = an_op (JumpIfFalse (at + size test + 1 + size body + 1)) in
      let fb = flat (at + size test + 1) body in
      narrow-append (flat at test ++ i ∷ fb) (an_op (Jump at) ∷ []) ∙ and-true (code_narrow (flat at test ++ i ∷ fb)) ∙ narrow-append (flat at test) (i ∷ fb)
      ∙ ap (λ b. b && code_narrow fb) (narrow-flat at test) ∙ ap (λ b. are_narrow test && b) (narrow-flat (at + size test + 1) body)

  pub narrow-flat : (at : ℕ) (ps : Pieces) → code_narrow (flat at ps) ≡ are_narrow ps
  narrow-flat at no_pieces = refl
  narrow-flat at (pieces p ps) =
      narrow-append (flat_of at p) (flat (at + size_of p) ps) ∙ ap (λ b. b && code_narrow (flat (at + size_of p) ps)) (narrow-flat_of at p) ∙ ap (λ b. is_narrow p && b) (narrow-flat (at + size_of p) ps)

wide : (n : ℕ) → 2 ^ 32 ≤ n → nat_lt n (2 ^ 32) ≡ false
wide n h = grind (arith, h)

wide_locals : (d : Draft) → 2 ^ 32 ≤ d.locals → draft_narrow d ≡ false
wide_locals d h = ap (λ b. b && (kind_narrow d.kind && code_narrow d.code)) (wide d.locals h)

wide_kind : (d : Draft) → kind_narrow d.kind ≡ false → draft_narrow d ≡ false
wide_kind d h = ap (λ b. nat_lt d.locals (2 ^ 32) && (b && code_narrow d.code)) h ∙ and-false (nat_lt d.locals (2 ^ 32))

wide_code : (d : Draft) (ps : Pieces) → d.code ≡ flat 0 ps → are_narrow ps ≡ false → draft_narrow d ≡ false
wide_code d ps e h =
    ap (λ b. nat_lt d.locals (2 ^ 32) && (kind_narrow d.kind && b)) (ap code_narrow e ∙ narrow-flat 0 ps ∙ h) ∙ ap (λ b. nat_lt d.locals (2 ^ 32) && b) (and-false (kind_narrow d.kind)) ∙ and-false (nat_lt d.locals (2 ^ 32))

-- ---- before any code

-- no code yet, or a number of the draft was too wide
abbrev ReadyBy : State → Draft → Type 0
ReadyBy (Ok code) d = code ≡ []
ReadyBy (Err f) d = (f ≡ Wide) × (draft_narrow d ≡ false)

ready_next : (a b : State) (n number : ℕ) (d : Draft) → ReadyBy a d → IsOperandBy a b n number → (2 ^ 32 ≤ number → draft_narrow d ≡ false) → ReadyBy b d
ready_next (Err f) b n number d r e k = subst (λ (s : State). ReadyBy s d) (sym e) r
ready_next (Ok x) (Ok y) n number d r e k = e.0 ∙ r
ready_next (Ok x) (Err f) n number d r e k = (e.0, k e.1)

-- where it is given up
ready_stops : (a : State) (f : Stop) (d : Draft) (kind : UnitKind) (n : ℕ) (ps : Pieces) → ReadyBy a d → EmitsBy a (Err f) ps → d.code ≡ flat 0 ps → IsDraftBy (Err f) kind n d
ready_stops (Err g) f d kind n ps r e c =
    let w : Err f ≡ Err Wide = e ∙ ap (λ (x : Stop). Err x) r.0 in subst (λ (s : State). IsDraftBy s kind n d) (sym w) r.1
ready_stops (Ok x) TooLong d kind n ps r e c = omega (arith, e, ap length r, ap length c, length-flat 0 ps)
ready_stops (Ok x) Wide d kind n ps r e c = wide_code d ps c e
ready_stops (Ok x) NoMemory d kind n ps r e c = tt

ready_code : (x code : List Flat) (ps : Pieces) → x ≡ [] → code ≡ x ++ flat (length x) ps → code ≡ flat 0 ps
ready_code x code ps r e = e ∙ ap (λ l. l ++ flat (length l) ps) r

-- ---- functions

drafted : (a b s : State) (n : ℕ) (kind : UnitKind) (d : Draft) (ps : Pieces) → a ≡ Ok [] → IsOperandBy a b n d.locals → EmitsBy b s ps → d.code ≡ flat 0 ps → kind ≡ d.kind → IsDraftBy s kind n d
drafted (Err f) b s n kind d ps z o e c k = let no : ⊥ = cc in absurd no
drafted (Ok x) b (Err f) n kind d ps z o e c k =
    let r : x ≡ [] = cc in
    ready_stops b f d kind n ps (ready_next (Ok x) b n d.locals d r o (wide_locals d)) e c
drafted (Ok x) (Err f) (Ok code) n kind d ps z o e c k = let no : ⊥ = cc in absurd no
drafted (Ok x) (Ok y) (Ok code) n kind d ps z o e c k =
    let r : x ≡ [] = cc in (k, o.1, ready_code y code ps (o.0 ∙ r) e ∙ sym c)

pub function_unit : {a b s1 s2 s : State} {n number : ℕ} (f : ResolvedFunction) (kind : UnitKind) → a ≡ Ok [] → IsOperand a b n number → number ≡ length f.slots → Emits b s1 (block [] f.body) → Emits s1 s2 (one (puts Nothing)) → Emits s2 s (op Return) → kind ≡ (function_draft f).kind →
    IsDraft s kind n (function_draft f)
function_unit {a = a} {b = b} {s = s} {n = n} f kind z o l e1 e2 e3 k =
    let ps = joined (block [] f.body) (joined (one (puts Nothing)) (op Return)) in
    record { by = drafted a b s n kind (function_draft f) ps z (subst (λ m. IsOperandBy a b n m) l o.by) (joins e1 (joins e2 e3)).by refl k }

-- ---- regions

module _ (d : Draft) (l r k place number captures : ℕ) (ps qs : Pieces) where
  -- where it has code, so had it after each number
  region_of : (a b c e m : State) (code : List Flat) → a ≡ Ok [] → IsOperandBy a b l d.locals → IsOperandBy b c r number → IsOperandBy c e k captures → EmitsBy e m ps → IsAt m place → EmitsBy m (Ok code) qs → EmitsBy e (Ok code) (joined ps qs) →
      d.kind ≡ Region number captures (size ps) → d.code ≡ flat 0 (joined ps qs) → IsDraftBy (Ok code) (Region r k place) l d
  region_of (Ok x) (Ok y) (Ok u) (Ok v) (Ok t) code z o1 o2 o3 g at h w dk dc =
      let i : x ≡ [] = cc in
      let empty : v ≡ [] = o3.0 ∙ o2.0 ∙ o1.0 ∙ i in
      let end : place ≡ size ps = omega (arith, at.by, ap length g, length-append v (flat (length v) ps), length-flat (length v) ps, ap length empty) in
      (ap (λ n. Region n k place) o2.1 ∙ ap (λ n. Region number n place) o3.1 ∙ ap (Region number captures) end ∙ sym dk, o1.1, ready_code v code (joined ps qs) empty w ∙ sym dc)
  region_of (Err f) b c e m code z o1 o2 o3 g at h w dk dc = let no : ⊥ = cc in absurd no
  region_of (Ok x) (Err f) (Ok u) e m code z o1 o2 o3 g at h w dk dc = let no : ⊥ = cc in absurd no
  region_of (Ok x) b (Err f) (Ok v) m code z o1 o2 o3 g at h w dk dc = let no : ⊥ = cc in absurd no
  region_of (Ok x) b c (Err f) m code z o1 o2 o3 g at h w dk dc = let no : ⊥ = cc in absurd no
  region_of (Ok x) b c e (Err f) code z o1 o2 o3 g at h w dk dc = let no : ⊥ = cc in absurd no

  region_by : (a b c e m s : State) → a ≡ Ok [] → IsOperandBy a b l d.locals → IsOperandBy b c r number → IsOperandBy c e k captures → EmitsBy e m ps → IsAt m place → EmitsBy m s qs → EmitsBy e s (joined ps qs) →
      d.kind ≡ Region number captures (size ps) → d.code ≡ flat 0 (joined ps qs) → IsDraftBy s (Region r k place) l d
  region_by a b c e m (Ok code) z o1 o2 o3 g at h w dk dc = region_of a b c e m code z o1 o2 o3 g at h w dk dc
  region_by a b c e m (Err f) z o1 o2 o3 g at h w dk dc =
      let first : ReadyBy a d = subst (λ (s : State). ReadyBy s d) (sym z) refl in
      let narrow_kind : kind_narrow d.kind ≡ (nat_lt number (2 ^ 32) && nat_lt captures (2 ^ 32)) = ap kind_narrow dk in
      let ready1 = ready_next a b l d.locals d first o1 (wide_locals d) in
      let ready2 = ready_next b c r number d ready1 o2 (λ h. wide_kind d (narrow_kind ∙ ap (λ x. x && nat_lt captures (2 ^ 32)) (wide number h))) in
      let ready3 = ready_next c e k captures d ready2 o3 (λ h. wide_kind d (narrow_kind ∙ ap (λ x. nat_lt number (2 ^ 32) && x) (wide captures h) ∙ and-false (nat_lt number (2 ^ 32)))) in
      ready_stops e f d (Region r k place) l (joined ps qs) ready3 w dc

pub region_unit : {a b c e s1 s2 s3 s4 s : State} {l r k place locals count : ℕ} (number : ℕ) (from : List ℕ) (slots : List ResolvedType) (body : Block) (slot : ℕ) (handler : Block) → a ≡ Ok [] → IsOperand a b l locals → locals ≡ length slots → IsOperand b c r number → IsOperand c e k count → count ≡ length from →
    Emits e s1 (block [] body) → Emits s1 s2 (op LeaveRegion) → IsAt s2 place → Emits s2 s3 (op (Store slot)) → Emits s3 s4 (block [] handler) → Emits s4 s (op LeaveRegion) → IsDraft s (Region r k place) l (region_draft number from slots body slot handler)
region_unit {a = a} {b = b} {c = c} {e = e} {s2 = s2} {s = s} {l = l} {r = r} {k = k} {place = place} number from slots body slot handler z o1 n1 o2 o3 n3 e1 e2 at e3 e4 e5 =
    let ps = joined (block [] body) (op LeaveRegion) in
    let qs = joined (op (Store slot)) (joined (block [] handler) (op LeaveRegion)) in
    let d = region_draft number from slots body slot handler in
    let first = joins e1 e2 in
    let second = joins e3 (joins e4 e5) in
    let n : size (block [] body) + 1 ≡ size ps = sym (size-joined (block [] body) (op LeaveRegion)) in
    record {
      by = region_by d l r k place number (length from) ps qs a b c e s2 s z (subst (λ m. IsOperandBy a b l m) n1 o1.by) o2.by (subst (λ m. IsOperandBy c e k m) n3 o3.by) first.by at second.by (joins first second).by
          (ap (Region number (length from)) n) (ap (flat 0) (sym (joined-assoc (block [] body) (op LeaveRegion) qs)));
    }
