-- Jumps whose targets are set when they are known.
use Rattle.std.proofs.Common.{◌≡◌, ℕ, ◌+◌, ◌&&◌, List, [], ◌∷◌, ◌++◌, length, Ok, Err, sym, ap, ◌∙◌, subst, arith, append_assoc, append-nil, length-append}
use Rattle.std.specs.Prelude.{slice_set}
use Rattle.std.proofs.Math.Bool.{and-true}
use Rattle.std.proofs.Math.Seq.{set-append_seam}
use Rattle.lam_bytecode.specs.declared.op.Op.TheVariants.{Jump, JumpIfFalse}
use Rattle.lam_meaning.specs.Pieces.{Pieces, pieces, joined, one, op, does, when, either, loops, size, Flat, an_op, flat}
use Rattle.barrier_compiler_ops.specs.declared.buffer.Stop.TheVariants.{TooLong, Wide, NoMemory}
use Rattle.barrier_compiler_ops.specs.Emits.{State, are_narrow, EmitsBy, Emits, IsAt, pointed}
use Rattle.barrier_compiler_ops.proofs.Flat.{length-flat, size-joined, flat-joined, narrow-joined}
use Rattle.barrier_compiler_ops.proofs.Joins.{stays, joins}

-- where a part of what was added ends
ends_at : (x y : List Flat) (b : State) (n : ℕ) (ps qs : Pieces) → EmitsBy (Ok x) b ps → EmitsBy b (Ok y) qs → IsAt b n → n ≡ length x + size ps
ends_at x y (Ok z) n ps qs e g h =
    omega (arith, h.by, ap length e, length-append x (flat (length x) ps), length-flat (length x) ps)
ends_at x y (Err f) n ps qs e g h = cc

-- ---- `when`

when_by : (a d : State) (test end : ℕ) (ps : Pieces) → IsAt a test → EmitsBy a d (pieces (does (JumpIfFalse 0)) ps) → IsAt d end → EmitsBy a (pointed d test (JumpIfFalse end)) (one (when ps))
when_by (Err f) d test end ps t e h = ap (λ (s : State). pointed s test (JumpIfFalse end)) e
when_by (Ok x) (Err TooLong) test end ps t e h = omega (arith, e)
when_by (Ok x) (Err Wide) test end ps t e h = and-true (are_narrow ps) ∙ e
when_by (Ok x) (Err NoMemory) test end ps t e h = tt
when_by (Ok x) (Ok y) test end ps t e h =
    let at = length x in
    let fp = flat (at + 1) ps in
    let n : end ≡ at + 1 + size ps = omega (arith, h.by, ap length e, length-append x (an_op (JumpIfFalse 0) ∷ fp), length-flat (at + 1) ps) in
    ap (λ l. slice_set l test (an_op (JumpIfFalse end))) e
    ∙ ap (λ n. slice_set (x ++ an_op (JumpIfFalse 0) ∷ fp) n (an_op (JumpIfFalse end))) t.by
    ∙ set-append_seam x (an_op (JumpIfFalse 0)) fp (an_op (JumpIfFalse end))
    ∙ ap (λ n. x ++ an_op (JumpIfFalse n) ∷ fp) n
    ∙ ap (λ l. x ++ l) (sym (append-nil (an_op (JumpIfFalse (at + 1 + size ps)) ∷ fp)))

pub when_emits : {a b c d : State} {test end : ℕ} {ps : Pieces} → IsAt a test → Emits a b (op (JumpIfFalse 0)) → Emits b c ps → IsAt c end → d ≡ pointed c test (JumpIfFalse end) → Emits a d (one (when ps))
when_emits {a = a} {c = c} {test = test} {end = end} {ps = ps} t e g h p =
    subst (λ (s : State). Emits a s (one (when ps))) (sym p) (record { by = when_by a c test end ps t (joins e g).by h })

-- ---- `either`

two_writes : (c a b : List Flat) (x y i j : Flat) → slice_set (slice_set (c ++ x ∷ (a ++ y ∷ b)) (length c) i) (length (c ++ i ∷ a)) j ≡ c ++ i ∷ (a ++ j ∷ b)
two_writes c a b x y i j =
    ap (λ l. slice_set l (length (c ++ i ∷ a)) j) (set-append_seam c x (a ++ y ∷ b) i ∙ sym (append_assoc c (i ∷ a) (y ∷ b)))
    ∙ set-append_seam (c ++ i ∷ a) y b j
    ∙ append_assoc c (i ∷ a) (j ∷ b)

abbrev both_parts : Pieces → Pieces → Pieces
both_parts ps qs = pieces (does (JumpIfFalse 0)) (joined ps (pieces (does (Jump 0)) qs))

size-both : (ps qs : Pieces) → size (both_parts ps qs) ≡ size (one (either ps qs))
size-both ps qs = omega (arith, size-joined ps (pieces (does (Jump 0)) qs))

either_laid : (x y : List Flat) (n1 n2 t1 t2 : ℕ) (ps qs : Pieces) → y ≡ x ++ flat (length x) (both_parts ps qs) → n1 ≡ length x → n2 ≡ length x + 1 + size ps → t1 ≡ length x + 1 + size ps + 1 → t2 ≡ length y →
    slice_set (slice_set y n1 (an_op (JumpIfFalse t1))) n2 (an_op (Jump t2)) ≡ x ++ flat (length x) (one (either ps qs))
either_laid x y n1 n2 t1 t2 ps qs e m1 m2 g1 g2 =
    let at = length x in
    let fa = flat (at + 1) ps in
    let fb = flat (at + 1 + size ps + 1) qs in
    let i = an_op (JumpIfFalse t1) in
    let j = an_op (Jump t2) in
    let u = an_op (JumpIfFalse 0) in
    let v = an_op (Jump 0) in
    let lined : y ≡ x ++ u ∷ (fa ++ v ∷ fb) = e ∙ ap (λ l. x ++ u ∷ l) (flat-joined (at + 1) ps (pieces (does (Jump 0)) qs)) in
    let at2 : n2 ≡ length (x ++ i ∷ fa) = omega (arith, m2, length-append x (i ∷ fa), length-flat (at + 1) ps) in
    let d2 : t2 ≡ at + 1 + size ps + 1 + size qs = omega (arith, g2, ap length lined, length-append x (u ∷ (fa ++ v ∷ fb)), length-append fa (v ∷ fb), length-flat (at + 1) ps, length-flat (at + 1 + size ps + 1) qs) in
    ap (λ l. slice_set (slice_set l n1 i) n2 j) lined
    ∙ ap (λ n. slice_set (slice_set (x ++ u ∷ (fa ++ v ∷ fb)) n i) n2 j) m1
    ∙ ap (λ n. slice_set (slice_set (x ++ u ∷ (fa ++ v ∷ fb)) (length x) i) n j) at2
    ∙ two_writes x fa fb u v i j
    ∙ ap (λ n. x ++ an_op (JumpIfFalse n) ∷ (fa ++ j ∷ fb)) g1
    ∙ ap (λ n. x ++ an_op (JumpIfFalse (at + 1 + size ps + 1)) ∷ (fa ++ an_op (Jump n) ∷ fb)) d2
    ∙ ap (λ l. x ++ l) (sym (append-nil (an_op (JumpIfFalse (at + 1 + size ps + 1)) ∷ (fa ++ an_op (Jump (at + 1 + size ps + 1 + size qs)) ∷ fb))))

either_by : (a c d f : State) (test skip second end : ℕ) (ps qs : Pieces) → IsAt a test → EmitsBy a c (pieces (does (JumpIfFalse 0)) ps) → IsAt c skip → EmitsBy c d (op (Jump 0)) → IsAt d second → EmitsBy d f qs → EmitsBy a f (both_parts ps qs) → IsAt f end →
    EmitsBy a (pointed (pointed f test (JumpIfFalse second)) skip (Jump end)) (one (either ps qs))
either_by (Err w) c d f test skip second end ps qs t e1 k e2 m e3 e h =
    ap (λ (s : State). pointed (pointed s test (JumpIfFalse second)) skip (Jump end)) e
either_by (Ok x) c d (Err TooLong) test skip second end ps qs t e1 k e2 m e3 e h = omega (arith, e, size-both ps qs)
either_by (Ok x) c d (Err Wide) test skip second end ps qs t e1 k e2 m e3 e h =
    and-true (are_narrow ps && are_narrow qs) ∙ sym (narrow-joined ps (pieces (does (Jump 0)) qs)) ∙ e
either_by (Ok x) c d (Err NoMemory) test skip second end ps qs t e1 k e2 m e3 e h = tt
either_by (Ok x) (Ok z) (Ok w) (Ok y) test skip second end ps qs t e1 k e2 m e3 e h =
    let n2 : skip ≡ length x + 1 + size ps = omega (arith, k.by, ap length e1, length-append x (an_op (JumpIfFalse 0) ∷ flat (length x + 1) ps), length-flat (length x + 1) ps) in
    let t1 : second ≡ length x + 1 + size ps + 1 = omega (arith, m.by, n2, k.by, ap length e2, length-append z (an_op (Jump 0) ∷ [])) in
    either_laid x y test skip second end ps qs e t.by n2 t1 h.by
either_by (Ok x) (Err w) d (Ok y) test skip second end ps qs t e1 k e2 m e3 e h = let g = stays w d (Ok y) qs e2 e3 in cc
either_by (Ok x) (Ok z) (Err w) (Ok y) test skip second end ps qs t e1 k e2 m e3 e h = cc

pub either_emits : {a b c d f g i : State} {test skip second end : ℕ} {ps qs : Pieces} → IsAt a test → Emits a b (op (JumpIfFalse 0)) → Emits b c ps → IsAt c skip → Emits c d (op (Jump 0)) → IsAt d second → Emits d f qs → IsAt f end →
    g ≡ pointed f test (JumpIfFalse second) → i ≡ pointed g skip (Jump end) → Emits a i (one (either ps qs))
either_emits {a = a} {c = c} {d = d} {f = f} {test = test} {skip = skip} {second = second} {end = end} {ps = ps} {qs = qs} t e1 e2 k e3 m e4 h p q =
    subst (λ (s : State). Emits a s (one (either ps qs))) (sym (q ∙ ap (λ (s : State). pointed s skip (Jump end)) p))
    (record { by = either_by a c d f test skip second end ps qs t (joins e1 e2).by k e3.by m e4.by (joins e1 (joins e2 (joins e3 e4))).by h })

-- ---- `loops`

abbrev whole_loop : ℕ → Pieces → Pieces → Pieces
whole_loop start test body = joined test (pieces (does (JumpIfFalse 0)) (joined body (op (Jump start))))

size-loop : (n : ℕ) (test body : Pieces) → size (whole_loop n test body) ≡ size (one (loops test body))
size-loop n test body =
    omega (arith, size-joined test (pieces (does (JumpIfFalse 0)) (joined body (op (Jump n)))), size-joined body (op (Jump n)))

narrow-loop : (n : ℕ) (test body : Pieces) → are_narrow (whole_loop n test body) ≡ are_narrow (one (loops test body))
narrow-loop n test body =
    narrow-joined test (pieces (does (JumpIfFalse 0)) (joined body (op (Jump n))))
    ∙ ap (λ b. are_narrow test && b) (narrow-joined body (op (Jump n)) ∙ and-true (are_narrow body))
    ∙ sym (and-true (are_narrow test && are_narrow body))

loop_laid : (x y : List Flat) (start out end : ℕ) (test body : Pieces) → y ≡ x ++ flat (length x) (whole_loop start test body) → start ≡ length x → out ≡ length x + size test → end ≡ length y →
    slice_set y out (an_op (JumpIfFalse end)) ≡ x ++ flat (length x) (one (loops test body))
loop_laid x y start out end test body e s o n =
    let at = length x in
    let ft = flat at test in
    let fb = flat (at + size test + 1) body in
    let u = an_op (JumpIfFalse 0) in
    let i = an_op (JumpIfFalse end) in
    let lined : y ≡ x ++ (ft ++ u ∷ (fb ++ an_op (Jump start) ∷ [])) =
    e ∙ ap (λ l. x ++ l) (flat-joined at test (pieces (does (JumpIfFalse 0)) (joined body (op (Jump start)))) ∙ ap (λ l. ft ++ u ∷ l) (flat-joined (at + size test + 1) body (op (Jump start)))) in
    let grouped : x ++ (ft ++ u ∷ (fb ++ an_op (Jump start) ∷ [])) ≡ (x ++ ft) ++ u ∷ (fb ++ an_op (Jump start) ∷ []) = sym (append_assoc x ft (u ∷ (fb ++ an_op (Jump start) ∷ []))) in
    let place : out ≡ length (x ++ ft) = omega (arith, o, length-append x ft, length-flat at test) in
    let target : end ≡ at + size test + 1 + size body + 1 =
    omega (arith, n, ap length lined, length-append x (ft ++ u ∷ (fb ++ an_op (Jump start) ∷ [])), length-append ft (u ∷ (fb ++ an_op (Jump start) ∷ [])), length-append fb (an_op (Jump start) ∷ []), length-flat at test, length-flat (at + size test + 1) body) in
    ap (λ l. slice_set l out i) (lined ∙ grouped)
    ∙ ap (λ n. slice_set ((x ++ ft) ++ u ∷ (fb ++ an_op (Jump start) ∷ [])) n i) place
    ∙ set-append_seam (x ++ ft) u (fb ++ an_op (Jump start) ∷ []) i
    ∙ append_assoc x ft (i ∷ (fb ++ an_op (Jump start) ∷ []))
    ∙ ap (λ n. x ++ (ft ++ an_op (JumpIfFalse n) ∷ (fb ++ an_op (Jump start) ∷ []))) target
    ∙ ap (λ n. x ++ (ft ++ an_op (JumpIfFalse (at + size test + 1 + size body + 1)) ∷ (fb ++ an_op (Jump n) ∷ []))) s
    ∙ ap (λ l. x ++ l) (sym (append_assoc ft (an_op (JumpIfFalse (at + size test + 1 + size body + 1)) ∷ fb) (an_op (Jump at) ∷ [])))
    ∙ ap (λ l. x ++ l) (sym (append-nil ((ft ++ an_op (JumpIfFalse (at + size test + 1 + size body + 1)) ∷ fb) ++ an_op (Jump at) ∷ [])))

loop_by : (a b e : State) (start out end : ℕ) (test body : Pieces) → IsAt a start → EmitsBy a b test → IsAt b out → EmitsBy b e (pieces (does (JumpIfFalse 0)) (joined body (op (Jump start)))) → EmitsBy a e (whole_loop start test body) → IsAt e end →
    EmitsBy a (pointed e out (JumpIfFalse end)) (one (loops test body))
loop_by (Err w) b e start out end test body s e1 o e2 all h = ap (λ (s : State). pointed s out (JumpIfFalse end)) all
loop_by (Ok x) b (Err TooLong) start out end test body s e1 o e2 all h = omega (arith, all, size-loop start test body)
loop_by (Ok x) b (Err Wide) start out end test body s e1 o e2 all h = sym (narrow-loop start test body) ∙ all
loop_by (Ok x) b (Err NoMemory) start out end test body s e1 o e2 all h = tt
loop_by (Ok x) b (Ok y) start out end test body s e1 o e2 all h =
    loop_laid x y start out end test body all s.by (ends_at x y b out test (pieces (does (JumpIfFalse 0)) (joined body (op (Jump start)))) e1 e2 o) h.by

pub loop_emits : {a b c d e f : State} {start out end : ℕ} {test body : Pieces} → IsAt a start → Emits a b test → IsAt b out → Emits b c (op (JumpIfFalse 0)) → Emits c d body → Emits d e (op (Jump start)) → IsAt e end → f ≡ pointed e out (JumpIfFalse end) →
    Emits a f (one (loops test body))
loop_emits {a = a} {b = b} {e = e} {start = start} {out = out} {end = end} {test = test} {body = body} s e1 o e2 e3 e4 h p =
    subst (λ (s : State). Emits a s (one (loops test body))) (sym p)
    (record { by = loop_by a b e start out end test body s e1.by o (joins e2 (joins e3 e4)).by (joins e1 (joins e2 (joins e3 e4))).by h })
