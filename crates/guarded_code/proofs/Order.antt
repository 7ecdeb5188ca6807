-- How much descriptions say, and what is left of two that meet.
use Rattle.std.proofs.Common.{IsTrue, ◌≡◌, ℕ, ◌+◌, ◌*◌, ◌<◌, ◌≤◌, ◌⊎◌, List, [], ◌∷◌, Bool, true, false, if◌then◌else◌, nat_eq, Option, Some, None, length, refl, sym, ap, ap₂, ◌∙◌, subst, arith, inl, inr, ⊎_elim}
use Rattle.std.specs.Prelude.{◌&&◌}
use Rattle.std.proofs.lemmas.Bool.{and_parts, and_from, eqb-true, eq-eqb}
use Rattle.guarded_code.specs.Descriptions.{ValueKind, Number, Truth, Other, Unknown, Access, Reading, Writing, Known, Operand, Description, is_tested, met_kind, met_known, met_copies, met_operand, met_lists, described, meet}
use Rattle.guarded_code.specs.Says.{KindSays, KnownSays, CopySays, OperandSays, Says}
use Rattle.guarded_code.proofs.Tables.{none_some, some_inj}
use Rattle.guarded_code.proofs.Lists.{each_same, each_trans, each_first, each_second, each_best, each_less, each_long, pair_less, total}

-- ---- kinds
pub kind_same : (k : ValueKind) → KindSays k k
kind_same Unknown = tt
kind_same k = refl

kind_trans : (k m z : ValueKind) → KindSays k m → KindSays m z → KindSays k z
kind_trans k m Unknown a b = tt
kind_trans k m z a b = subst (KindSays k) b a

kind_first : (k m : ValueKind) → KindSays k (met_kind k m)
kind_first Number Number = refl
kind_first Truth Truth = refl
kind_first Other Other = refl
kind_first k m = tt

kind_second : (k m : ValueKind) → KindSays m (met_kind k m)
kind_second Number Number = refl
kind_second Truth Truth = refl
kind_second Other Other = refl
kind_second k m = tt

kind_best : (k m z : ValueKind) → KindSays k z → KindSays m z → KindSays (met_kind k m) z
kind_best k m Unknown a b = tt
kind_best k m z a b = ap₂ met_kind a b

abbrev pub kind_weight : ValueKind → ℕ
kind_weight Unknown = 0
kind_weight _ = 1

kind_low : (k : ValueKind) → kind_weight k ≤ 1
kind_low Number = omega arith
kind_low k = omega arith

kind_less : (k m : ValueKind) → (met_kind k m ≡ k) ⊎ (kind_weight (met_kind k m) < kind_weight k)
kind_less Number Number = inl refl
kind_less Truth Truth = inl refl
kind_less Other Other = inl refl
kind_less Unknown Number = inl refl
kind_less Unknown Truth = inl refl
kind_less Unknown Other = inl refl
kind_less Unknown Unknown = inl refl
kind_less k m = inr (omega arith)

-- ---- facts
abbrev TestsSay : Known → Known → Type 0
TestsSay k l = (access : Access) → IsTrue (is_tested access l) → IsTrue (is_tested access k)

tests_first : (k l : Known) → TestsSay k (met_known k l)
tests_first k l Reading h = (and_parts k.read l.read h).0
tests_first k l Writing h = (and_parts k.write l.write h).0

tests_second : (k l : Known) → TestsSay l (met_known k l)
tests_second k l Reading h = (and_parts k.read l.read h).1
tests_second k l Writing h = (and_parts k.write l.write h).1

tests_best : (k l z : Known) → TestsSay k z → TestsSay l z → TestsSay (met_known k l) z
tests_best k l z a b Reading h = and_from k.read l.read (a Reading h) (b Reading h)
tests_best k l z a b Writing h = and_from k.write l.write (a Writing h) (b Writing h)

pub known_same : (k : Known) → KnownSays k k
known_same k = record { kind = kind_same k.kind; tests = λ access h. h }

pub known_trans : (k l z : Known) → KnownSays k l → KnownSays l z → KnownSays k z
known_trans k l z a b =
    record { kind = kind_trans k.kind l.kind z.kind a.kind b.kind; tests = λ access h. a.tests access (b.tests access h) }

known_first : (k l : Known) → KnownSays k (met_known k l)
known_first k l = record { kind = kind_first k.kind l.kind; tests = tests_first k l }

known_second : (k l : Known) → KnownSays l (met_known k l)
known_second k l = record { kind = kind_second k.kind l.kind; tests = tests_second k l }

known_best : (k l z : Known) → KnownSays k z → KnownSays l z → KnownSays (met_known k l) z
known_best k l z a b = record { kind = kind_best k.kind l.kind z.kind a.kind b.kind; tests = tests_best k l z a.tests b.tests }

abbrev bit : Bool → ℕ
bit true = 1
bit false = 0

bit_less : (a b : Bool) → ((a && b) ≡ a) ⊎ (bit (a && b) < bit a)
bit_less true false = inr (omega arith)
bit_less a b = inl refl

bit_low : (b : Bool) → bit b ≤ 1
bit_low true = omega arith
bit_low false = omega arith

abbrev two_bits : Bool × Bool → ℕ
two_bits p = bit p.0 + bit p.1

abbrev pub known_weight : Known → ℕ
known_weight k = kind_weight k.kind + (bit k.read + bit k.write)

abbrev known_of : ValueKind → Bool → Bool → Known
known_of kind read write = record { kind = kind; read = read; write = write }

both_bits : (k l : Known) → (((k.read && l.read) ≡ k.read) × ((k.write && l.write) ≡ k.write)) ⊎ (bit (k.read && l.read) + bit (k.write && l.write) < bit k.read + bit k.write)
both_bits k l = pair_less bit bit k.read (k.read && l.read) k.write (k.write && l.write) (bit_less k.read l.read) (bit_less k.write l.write)

known_less : (k l : Known) → (met_known k l ≡ k) ⊎ (known_weight (met_known k l) < known_weight k)
known_less k l =
    ⊎_elim
    (λ both. inl (ap₂ (λ kind (p : Bool × Bool). known_of kind p.0 p.1) both.0 both.1))
    (λ lt. inr lt)
    (pair_less kind_weight two_bits k.kind (met_kind k.kind l.kind) (k.read, k.write) (k.read && l.read, k.write && l.write) (kind_less k.kind l.kind) (⊎_elim (λ b. inl (ap₂ (λ (x y : Bool). let p : Bool × Bool = (x, y) in p) b.0 b.1)) (λ lt. inr lt) (both_bits k l)))

-- ---- copies
copy_same : (c : Option ℕ) → CopySays c c
copy_same None = tt
copy_same (Some n) = refl

copy_trans : (c k z : Option ℕ) → CopySays c k → CopySays k z → CopySays c z
copy_trans c k None h i = tt
copy_trans c None (Some n) h i = none_some i
copy_trans c (Some m) (Some n) h i = h ∙ i

if_first : (n : ℕ) (b : Bool) → CopySays (Some n) (if b then Some n else None)
if_first n true = refl
if_first n false = tt

if_second : (n m : ℕ) (b : Bool) → nat_eq n m ≡ b → CopySays (Some m) (if b then Some n else None)
if_second n m true e = ap (λ x. Some x) (sym (eqb-true n m e))
if_second n m false e = tt

copy_first : (c k : Option ℕ) → CopySays c (met_copies c k)
copy_first (Some n) (Some m) = if_first n (nat_eq n m)
copy_first c k = tt

copy_second : (c k : Option ℕ) → CopySays k (met_copies c k)
copy_second (Some n) (Some m) = if_second n m (nat_eq n m) refl
copy_second c k = tt

copy_best : (c k z : Option ℕ) → CopySays c z → CopySays k z → CopySays (met_copies c k) z
copy_best c k None h i = tt
copy_best c k (Some n) h i =
    ap₂ met_copies h i ∙ ap (λ b. if b then Some n else None) (eq-eqb n n refl)

abbrev copy_weight : Option ℕ → ℕ
copy_weight None = 0
copy_weight (Some n) = 1

copy_low : (c : Option ℕ) → copy_weight c ≤ 1
copy_low None = omega arith
copy_low (Some n) = omega arith

if_less : (n : ℕ) (b : Bool) → ((if b then Some n else None) ≡ Some n) ⊎ (copy_weight (if b then Some n else None) < 1)
if_less n true = inl refl
if_less n false = inr (omega arith)

copy_less : (c k : Option ℕ) → (met_copies c k ≡ c) ⊎ (copy_weight (met_copies c k) < copy_weight c)
copy_less None k = inl refl
copy_less (Some n) None = inr (omega arith)
copy_less (Some n) (Some m) = if_less n (nat_eq n m)

-- ---- operands
pub operand_same : (o : Operand) → OperandSays o o
operand_same o = (known_same o.known, copy_same o.copies)

operand_trans : (o p q : Operand) → OperandSays o p → OperandSays p q → OperandSays o q
operand_trans o p q a b =
    (known_trans o.known p.known q.known a.0 b.0, copy_trans o.copies p.copies q.copies a.1 b.1)

operand_best : (o p q : Operand) → OperandSays o q → OperandSays p q → OperandSays (met_operand o p) q
operand_best o p q a b = (known_best o.known p.known q.known a.0 b.0, copy_best o.copies p.copies q.copies a.1 b.1)

abbrev operand_weight : Operand → ℕ
operand_weight o = known_weight o.known + copy_weight o.copies

abbrev operand_of : Known → Option ℕ → Operand
operand_of k c = record { known = k; copies = c }

operand_less : (o p : Operand) → (met_operand o p ≡ o) ⊎ (operand_weight (met_operand o p) < operand_weight o)
operand_less o p =
    ⊎_elim (λ both. inl (ap₂ operand_of both.0 both.1)) (λ lt. inr lt)
    (pair_less known_weight copy_weight o.known (met_known o.known p.known) o.copies (met_copies o.copies p.copies) (known_less o.known p.known) (copy_less o.copies p.copies))

-- ---- descriptions
abbrev pub weight : Description → ℕ
weight d = total operand_weight d.stack + total known_weight d.locals

abbrev pub height : Description → ℕ
height d = length d.stack + length d.locals

pub met_parts : (o : Option (List Operand)) (p : Option (List Known)) (m : Description) → described o p ≡ Some m → (o ≡ Some m.stack) × (p ≡ Some m.locals)
met_parts (Some os) (Some ks) m e = (ap (λ (d : Description). Some d.stack) (some_inj e), ap (λ (d : Description). Some d.locals) (some_inj e))
met_parts o p m e = none_some e

pub says_same : (d : Description) → Says d d
says_same d = record { stack = each_same OperandSays operand_same d.stack; locals = each_same KnownSays known_same d.locals }

pub says_trans : (d e f : Description) → Says d e → Says e f → Says d f
says_trans d e f a b =
    record { stack = each_trans OperandSays OperandSays OperandSays operand_trans d.stack e.stack f.stack a.stack b.stack; locals = each_trans KnownSays KnownSays KnownSays known_trans d.locals e.locals f.locals a.locals b.locals }

pub meet_first : (d e m : Description) → meet d e ≡ Some m → Says d m
meet_first d e m h =
    let parts = met_parts (met_lists met_operand d.stack e.stack) (met_lists met_known d.locals e.locals) m h in
    record {
      stack = each_first OperandSays met_operand (λ o p. (known_first o.known p.known, copy_first o.copies p.copies)) d.stack e.stack m.stack parts.0;
      locals = each_first KnownSays met_known known_first d.locals e.locals m.locals parts.1;
    }

pub meet_second : (d e m : Description) → meet d e ≡ Some m → Says e m
meet_second d e m h =
    let parts = met_parts (met_lists met_operand d.stack e.stack) (met_lists met_known d.locals e.locals) m h in
    record {
      stack = each_second OperandSays met_operand (λ o p. (known_second o.known p.known, copy_second o.copies p.copies)) d.stack e.stack m.stack parts.0;
      locals = each_second KnownSays met_known known_second d.locals e.locals m.locals parts.1;
    }

pub meet_best : (d e x : Description) → Says d x → Says e x → (m : Description) × (meet d e ≡ Some m) × Says m x
meet_best d e x a b =
    let os = each_best OperandSays met_operand operand_best d.stack e.stack x.stack a.stack b.stack in
    let ks = each_best KnownSays met_known known_best d.locals e.locals x.locals a.locals b.locals in
    (record { stack = os.0; locals = ks.0 }, ap₂ described os.1 ks.1, record { stack = os.2; locals = ks.2 })

abbrev description_of : List Operand → List Known → Description
description_of os ks = record { stack = os; locals = ks }

pub meet_less : (d e m : Description) → meet d e ≡ Some m → (m ≡ d) ⊎ (weight m < weight d)
meet_less d e m h =
    let parts = met_parts (met_lists met_operand d.stack e.stack) (met_lists met_known d.locals e.locals) m h in
    ⊎_elim (λ both. inl (ap₂ description_of both.0 both.1)) (λ lt. inr lt)
    (pair_less (total operand_weight) (total known_weight) d.stack m.stack d.locals m.locals (each_less operand_weight met_operand operand_less d.stack e.stack m.stack parts.0) (each_less known_weight met_known known_less d.locals e.locals m.locals parts.1))

pub meet_height : (d e m : Description) → meet d e ≡ Some m → height m ≡ height d
meet_height d e m h =
    let parts = met_parts (met_lists met_operand d.stack e.stack) (met_lists met_known d.locals e.locals) m h in
    ap₂ (λ a b. a + b) (each_long met_operand d.stack e.stack m.stack parts.0) (each_long met_known d.locals e.locals m.locals parts.1)

light_stack : (os : List Operand) → total operand_weight os ≤ 4 * length os
light_stack [] = omega arith
light_stack (o ∷ os) =
    omega (arith, light_stack os, kind_low o.known.kind, bit_low o.known.read, bit_low o.known.write, copy_low o.copies)

light_locals : (ks : List Known) → total known_weight ks ≤ 4 * length ks
light_locals [] = omega arith
light_locals (k ∷ ks) = omega (arith, light_locals ks, kind_low k.kind, bit_low k.read, bit_low k.write)

pub light : (d : Description) → weight d ≤ 4 * height d
light d = omega (arith, light_stack d.stack, light_locals d.locals)
