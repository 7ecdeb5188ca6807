-- Between two numerals that are read as one float every numeral is. So the digits of a shortest one are the same but for the last.
use Rattle.std.proofs.Common.{◌≡◌, ◌⊎◌, inl, inr, ◌≤◌, ◌<◌, ℕ, zero, suc, ℤ, pos, negsuc, ◌+◌, ◌*◌, ◌/◌, ◌%◌, ◌^◌, Bool, true, false, T, List, length, refl, sym, ap, ◌∙◌, subst, arith, le_of_eq, le_trans, mul-le-mul_right, mul-le-mul_left, mul-one, mul_assoc, mul_comm, mul_left_comm, pow-suc, suc-add, add-suc}
use Rattle.std.specs.Float.{Float, binary64, nan, inf, fin, ◌<ᶠ◌, ◌≤ᶠ◌}
use Rattle.std.specs.Float.Ieee.{round, neg, lt}
use Rattle.std.proofs.lemmas.Nat.{pow-add}
use Rattle.std.proofs.lemmas.Float.{lt_irrefl, lt_of_le_of_lt, lt_of_lt_of_le}
use Rattle.std.proofs.lemmas.Float as order
use lib.Ieee.Order.{round_mono}
use Rattle.shortest_numerals.specs.Shortest.{up, down, read_as, laid_out, IsShortest, IsShortestText, positive, negative, nothing, minus_nothing, LengthsAreOne, ShortestAreOne}

-- ---- powers of ten

ten_pos : (k : ℕ) → 0 < 10 ^ k
ten_pos zero = omega arith
ten_pos (suc k) = let p = ten_pos k in omega (arith, pow-suc 10 k)

-- digits of which the last stands higher, in units of a lower place: a multiple of ten
higher : (digits u d a k : ℕ) → u + d ≡ a + suc k → digits * 10 ^ u * 10 ^ d ≡ digits * 10 ^ k * 10 * 10 ^ a
higher digits u d a k e =
    mul_assoc digits (10 ^ u) (10 ^ d)
    ∙ ap (λ n. digits * n) (sym (pow-add 10 u d) ∙ ap (λ n. 10 ^ n) e ∙ pow-add 10 a (suc k) ∙ ap (λ n. 10 ^ a * n) (pow-suc 10 k))
    ∙ simp (mul_assoc, mul_comm, mul_left_comm)

-- ---- the order of what is read

mono : (a u d b v e : ℕ) → a * 10 ^ u * 10 ^ e ≤ b * 10 ^ v * 10 ^ d → read_as a u d ≤ᶠ read_as b v e
mono a u d b v e h = round_mono binary64 (a * 10 ^ u) (10 ^ d) (b * 10 ^ v) (10 ^ e) (ten_pos d) (ten_pos e) h

module _ (x : Float) (long : ℕ) (s : IsShortest x long) where
  abbrev front : ℕ
  front = s.digits / 10

  not_below : (digits u d : ℕ) → x ≤ᶠ read_as digits u d → digits * 10 ^ u * 10 ^ (down s.exponent) ≤ front * 10 * 10 ^ (up s.exponent) * 10 ^ d → ⊥
  not_below digits u d r h = lt_irrefl x (lt_of_le_of_lt x (read_as (front * 10) (up s.exponent) (down s.exponent)) x (order.le_trans x (read_as digits u d) (read_as (front * 10) (up s.exponent) (down s.exponent)) r (mono digits u d (front * 10) (up s.exponent) (down s.exponent) h)) s.less)

  not_above : (digits u d : ℕ) → read_as digits u d ≤ᶠ x → (front * 10 + 10) * 10 ^ (up s.exponent) * 10 ^ d ≤ digits * 10 ^ u * 10 ^ (down s.exponent) → ⊥
  not_above digits u d r h = lt_irrefl x (lt_of_lt_of_le x (read_as (front * 10 + 10) (up s.exponent) (down s.exponent)) x s.more (order.le_trans (read_as (front * 10 + 10) (up s.exponent) (down s.exponent)) (read_as digits u d) x (mono (front * 10 + 10) (up s.exponent) (down s.exponent) digits u d h) r))

  -- no multiple of ten is read so
  not_multiple : (digits u d m : ℕ) → (read_as digits u d ≤ᶠ x) × (x ≤ᶠ read_as digits u d) → digits * 10 ^ u * 10 ^ (down s.exponent) ≡ m * 10 * 10 ^ ((up s.exponent) + d) → ⊥
  not_multiple digits u d m r e = by (m ≤ front) (front < m) (order_of m front) (λ le. not_below digits u d r.1 (le_trans (le_of_eq is) (le_trans (mul-le-mul_right unit (tens m front le)) (le_of_eq (sym (mul_assoc (front * 10) (10 ^ (up s.exponent)) (10 ^ d)))))))
      (λ lt. not_above digits u d r.0 (le_trans (le_of_eq (mul_assoc (front * 10 + 10) (10 ^ (up s.exponent)) (10 ^ d))) (le_trans (mul-le-mul_right unit (next m front lt)) (le_of_eq (sym is)))))
    where
      unit : ℕ
      unit = 10 ^ (up s.exponent) * 10 ^ d

      is : digits * 10 ^ u * 10 ^ (down s.exponent) ≡ m * 10 * unit
      is = e ∙ ap (λ n. m * 10 * n) (pow-add 10 (up s.exponent) d)

      order_of : (a b : ℕ) → (a ≤ b) ⊎ (b < a)
      order_of zero b = inl (omega arith)
      order_of (suc a) zero = inr (omega arith)
      order_of (suc a) (suc b) = by_less (order_of a b)
        where
          by_less : (a ≤ b) ⊎ (b < a) → (suc a ≤ suc b) ⊎ (suc b < suc a)
          by_less (inl h) = inl (omega arith)
          by_less (inr h) = inr (omega arith)

      tens : (a b : ℕ) → a ≤ b → a * 10 ≤ b * 10
      tens a b h = omega arith

      next : (a b : ℕ) → b < a → b * 10 + 10 ≤ a * 10
      next a b h = omega arith

      by : (P Q : Type 0) → P ⊎ Q → (P → ⊥) → (Q → ⊥) → ⊥
      by P Q (inl p) f g = f p
      by P Q (inr q) f g = g q

-- ---- two numbers, one of them greater or neither

abbrev Apart : ℕ → ℕ → Type 0
Apart a b = (a ≡ b) ⊎ (((k : ℕ) × (b ≡ a + suc k)) ⊎ ((k : ℕ) × (a ≡ b + suc k)))

apart : (a b : ℕ) → Apart a b
apart zero zero = inl refl
apart zero (suc b) = inr (inl (b, omega arith))
apart (suc a) zero = inr (inr (a, omega arith))
apart (suc a) (suc b) = next (apart a b)
  where
    next : Apart a b → Apart (suc a) (suc b)
    next (inl e) = inl (ap suc e)
    next (inr (inl h)) = let e = h.1 in inr (inl (h.0, omega (arith, e)))
    next (inr (inr h)) = let e = h.1 in inr (inr (h.0, omega (arith, e)))

one_way : (z : ℤ) → (up z ≡ 0) ⊎ (down z ≡ 0)
one_way (pos e) = inr refl
one_way (negsuc e) = inl refl

ways : (u d v e : ℕ) → (u ≡ 0) ⊎ (d ≡ 0) → (v ≡ 0) ⊎ (e ≡ 0) → u + e ≡ v + d → (u ≡ v) × (d ≡ e)
ways u d v e (inl p) (inl q) h = (omega arith, omega arith)
ways u d v e (inl p) (inr q) h = (omega arith, omega arith)
ways u d v e (inr p) (inl q) h = (omega arith, omega arith)
ways u d v e (inr p) (inr q) h = (omega arith, omega arith)

scaled : (a b u v d e : ℕ) → u ≡ v → d ≡ e → a ≤ b → a * 10 ^ u * 10 ^ e ≤ b * 10 ^ v * 10 ^ d
scaled a b u v d e p q h = le_trans (mul-le-mul_right (10 ^ e) (mul-le-mul_right (10 ^ u) h)) (le_of_eq (λ i. b * 10 ^ (p i) * 10 ^ (sym q i)))

-- ---- the number of digits

fewer : (a b m k : ℕ) → a / 10 ≡ b / 10 → 0 < a % 10 → a < 10 ^ m → 10 ^ (m + suc k) ≤ b * 10 → ⊥
fewer a b zero k f l lt le = omega arith
fewer a b (suc i) k f l lt le =
    let grown : 10 ^ suc i ≤ 10 ^ (suc i + k) = le_trans (le_of_eq (sym (mul-one (10 ^ suc i)))) (le_trans (mul-le-mul_left (10 ^ suc i) (ten_pos k)) (le_of_eq (sym (pow-add 10 (suc i) k)))) in
    let tens : 10 ^ (suc i + k) ≡ 10 ^ (i + k) * 10 = ap (λ n. 10 ^ n) (suc-add i k) ∙ pow-suc 10 (i + k) in
    let more : 10 ^ (suc i + suc k) ≡ 10 ^ (suc i + k) * 10 = ap (λ n. 10 ^ n) (add-suc (suc i) k) ∙ pow-suc 10 (suc i + k) in
    let kept : 10 ^ (suc i + k) * 10 ≤ b * 10 = subst (λ n. n ≤ b * 10) more le in
    by a b (10 ^ suc i) (10 ^ (suc i + k)) (10 ^ (i + k)) f lt grown tens kept
  where
    by : (a b p q r : ℕ) → a / 10 ≡ b / 10 → a < p → p ≤ q → q ≡ r * 10 → q * 10 ≤ b * 10 → ⊥
    by a b p q r f lt grown tens kept = omega arith

counts : (a b m n : ℕ) → a / 10 ≡ b / 10 → 0 < a % 10 → 0 < b % 10 → 10 ^ m ≤ a * 10 → a < 10 ^ m → 10 ^ n ≤ b * 10 → b < 10 ^ n → m ≡ n
counts a b m n f last other from below from_other below_other = by (apart m n)
  where
    by : Apart m n → m ≡ n
    by (inl e) = e
    by (inr (inl h)) = absurd (fewer a b m h.0 f last below (subst (λ z. 10 ^ z ≤ b * 10) h.1 from_other))
    by (inr (inr h)) = absurd (fewer b a n h.0 (sym f) other below_other (subst (λ z. 10 ^ z ≤ a * 10) h.1 from))

-- ---- two shortest numerals of a float

module _ (x : Float) (long other : ℕ) (s : IsShortest x long) (t : IsShortest x other) where
  same_place : (up s.exponent) + (down t.exponent) ≡ (up t.exponent) + (down s.exponent)
  same_place = by (apart ((up s.exponent) + (down t.exponent)) ((up t.exponent) + (down s.exponent)))
    where
      by : Apart ((up s.exponent) + (down t.exponent)) ((up t.exponent) + (down s.exponent)) → (up s.exponent) + (down t.exponent) ≡ (up t.exponent) + (down s.exponent)
      by (inl e) = e
      by (inr (inl h)) = absurd (not_multiple x long s t.digits (up t.exponent) (down t.exponent) (t.digits * 10 ^ h.0) t.reads (higher t.digits (up t.exponent) (down s.exponent) ((up s.exponent) + (down t.exponent)) h.0 h.1))
      by (inr (inr h)) = absurd (not_multiple x other t s.digits (up s.exponent) (down s.exponent) (s.digits * 10 ^ h.0) s.reads (higher s.digits (up s.exponent) (down t.exponent) ((up t.exponent) + (down s.exponent)) h.0 h.1))

  same_ways : ((up s.exponent) ≡ (up t.exponent)) × ((down s.exponent) ≡ (down t.exponent))
  same_ways = ways (up s.exponent) (down s.exponent) (up t.exponent) (down t.exponent) (one_way s.exponent) (one_way t.exponent) same_place

  same_front : s.digits / 10 ≡ t.digits / 10
  same_front = by (apart (s.digits / 10) (t.digits / 10))
    where
      before : (a b k : ℕ) → b / 10 ≡ a / 10 + suc k → a ≤ b / 10 * 10
      before a b k e = omega (arith, e)

      by : Apart (s.digits / 10) (t.digits / 10) → s.digits / 10 ≡ t.digits / 10
      by (inl e) = e
      by (inr (inl h)) = absurd (not_below x other t s.digits (up s.exponent) (down s.exponent) s.reads.1 (scaled s.digits (t.digits / 10 * 10) (up s.exponent) (up t.exponent) (down s.exponent) (down t.exponent) same_ways.0 same_ways.1 (before s.digits t.digits h.0 h.1)))
      by (inr (inr h)) = absurd (not_below x long s t.digits (up t.exponent) (down t.exponent) t.reads.1 (scaled t.digits (s.digits / 10 * 10) (up t.exponent) (up s.exponent) (down t.exponent) (down s.exponent) (sym same_ways.0) (sym same_ways.1) (before t.digits s.digits h.0 h.1)))

  same_count : s.count ≡ t.count
  same_count = counts s.digits t.digits s.count t.count same_front s.last t.last s.from s.below t.from t.below

  same_length : long ≡ other
  same_length = s.long_is ∙ (λ i. laid_out (same_count i) (same_ways.0 i) (same_ways.1 i)) ∙ sym t.long_is

pub lengths_are_one : LengthsAreOne
lengths_are_one = same_length

-- ---- signs

abbrev nil : Bool → Float
nil sign = fin sign 0 (pos 0)

nil_read : read_as 0 0 0 ≡ nil false
unfolding round
nil_read = refl

above_nil : (x : Float) (long : ℕ) → IsShortest x long → nil false <ᶠ x
above_nil x long s =
    lt_of_le_of_lt (nil false) (read_as (s.digits / 10 * 10) (up s.exponent) (down s.exponent)) x
    (subst (λ z. z ≤ᶠ read_as (s.digits / 10 * 10) (up s.exponent) (down s.exponent)) nil_read (mono 0 0 0 (s.digits / 10 * 10) (up s.exponent) (down s.exponent) (omega arith))) s.less

pub twice : (x : Float) → neg (neg x) ≡ x
unfolding neg
twice nan = refl
twice (inf true) = refl
twice (inf false) = refl
twice (fin true m e) = refl
twice (fin false m e) = refl

no_minus : (x : Float) → nil false <ᶠ x → nil false <ᶠ neg x → ⊥
unfolding neg lt
no_minus nan h k = h
no_minus (inf true) h k = h
no_minus (inf false) h k = k
no_minus (fin true m e) h k = h
no_minus (fin false m e) h k = k

not_nil : (sign : Bool) → nil false <ᶠ nil sign → ⊥
unfolding lt
not_nil true h = h
not_nil false h = h

minus_nil : (sign : Bool) (size : Float) → neg size ≡ nil sign → nil false <ᶠ size → ⊥
unfolding neg
minus_nil true size e h = not_nil false (subst (λ z. nil false <ᶠ z) (sym (twice size) ∙ ap neg e) h)
minus_nil false size e h = not_nil true (subst (λ z. nil false <ᶠ z) (sym (twice size) ∙ ap neg e) h)

two_signs : nil false ≡ nil true → ⊥
two_signs e = cc

module _ (x : Float) where
  crossed : (long : ℕ) (size : Float) (other : ℕ) → IsShortest x long → x ≡ neg size → IsShortest size other → ⊥
  crossed long size other s e t = no_minus size (above_nil size other t) (subst (λ z. nil false <ᶠ z) e (above_nil x long s))

  no_nil : (long : ℕ) (sign : Bool) → IsShortest x long → x ≡ nil sign → ⊥
  no_nil long sign s e = not_nil sign (subst (λ z. nil false <ᶠ z) e (above_nil x long s))

  no_minus_nil : (size : Float) (other : ℕ) (sign : Bool) → x ≡ neg size → IsShortest size other → x ≡ nil sign → ⊥
  no_minus_nil size other sign e t n = minus_nil sign size (sym e ∙ n) (above_nil size other t)

  shortest_one : (text other : List ℕ) → IsShortestText x text → IsShortestText x other → length text ≡ length other
  shortest_one text other (positive s) (positive t) = same_length x (length text) (length other) s t
  shortest_one text other (positive s) (negative size long e t l) = absurd (crossed (length text) size long s e t)
  shortest_one text other (positive s) (nothing e l) = absurd (no_nil (length text) false s e)
  shortest_one text other (positive s) (minus_nothing e l) = absurd (no_nil (length text) true s e)
  shortest_one text other (negative size long e s l) (positive t) = absurd (crossed (length other) size long t e s)
  shortest_one text other (negative size long e s l) (negative size2 long2 f t k) =
      let same : size ≡ size2 = sym (twice size) ∙ ap neg (sym e ∙ f) ∙ twice size2 in
      l ∙ ap suc (same_length size2 long long2 (subst (λ z. IsShortest z long) same s) t) ∙ sym k
  shortest_one text other (negative size long e s l) (nothing f k) = absurd (no_minus_nil size long false e s f)
  shortest_one text other (negative size long e s l) (minus_nothing f k) = absurd (no_minus_nil size long true e s f)
  shortest_one text other (nothing e l) (positive t) = absurd (no_nil (length other) false t e)
  shortest_one text other (nothing e l) (negative size long f t k) = absurd (no_minus_nil size long false f t e)
  shortest_one text other (nothing e l) (nothing f k) = ap length (l ∙ sym k)
  shortest_one text other (nothing e l) (minus_nothing f k) = absurd (two_signs (sym e ∙ f))
  shortest_one text other (minus_nothing e l) (positive t) = absurd (no_nil (length other) true t e)
  shortest_one text other (minus_nothing e l) (negative size long f t k) = absurd (no_minus_nil size long true f t e)
  shortest_one text other (minus_nothing e l) (nothing f k) = absurd (two_signs (sym f ∙ e))
  shortest_one text other (minus_nothing e l) (minus_nothing f k) = ap length (l ∙ sym k)

pub shortest_are_one : ShortestAreOne
shortest_are_one = shortest_one
