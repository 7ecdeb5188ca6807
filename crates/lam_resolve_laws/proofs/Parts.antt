-- Lists that stand in longer ones, and states that grow.
use Rattle.std.proofs.Common.{◌≡◌, ℕ, zero, suc, ◌+◌, List, [], ◌∷◌, ◌++◌, length, Some, refl, sym, ap, ◌∙◌, subst, arith, append_assoc, length-append}
use Rattle.std.specs.Prelude.{slice_get}
use Rattle.std.proofs.lemmas.List.{append-nil}
use Rattle.lam_operators.specs.Words.{Word}
use Rattle.lam_resolve_tree.specs.Tree.{ResolvedType}
use Rattle.lam_resolve_tree.specs.Regions.{count_up}
use Rattle.lam_resolve_laws.specs.Resolved.{State, next_slot}

-- a list stands in another from a place on
pub record IsPart {A : Type 0} (xs : List A) (n : ℕ) (part : List A) : Type 0 where
  pub at : (k : ℕ) (a : A) → slice_get part k ≡ Some a → slice_get xs (n + k) ≡ Some a

pub record Starts {A : Type 0} (part xs : List A) : Type 0 where
  pub at : (k : ℕ) (a : A) → slice_get part k ≡ Some a → slice_get xs k ≡ Some a

pub get_left : {A : Type 0} (xs ys : List A) (k : ℕ) (a : A) → slice_get xs k ≡ Some a → slice_get (xs ++ ys) k ≡ Some a
get_left [] ys k a e = absurd cc
get_left (x ∷ xs) ys zero a e = e
get_left (x ∷ xs) ys (suc k) a e = get_left xs ys k a e

pub get_right : {A : Type 0} (xs ys : List A) (k : ℕ) (a : A) → slice_get ys k ≡ Some a → slice_get (xs ++ ys) (length xs + k) ≡ Some a
get_right [] ys k a e = let i : 0 + k ≡ k = omega arith in ap (slice_get ys) i ∙ e
get_right (x ∷ xs) ys k a e = let i : suc (length xs) + k ≡ suc (length xs + k) = omega arith in ap (slice_get (x ∷ (xs ++ ys))) i ∙ get_right xs ys k a e

pub part_left : {A : Type 0} (xs : List A) (n : ℕ) (a b : List A) → IsPart xs n (a ++ b) → IsPart xs n a
part_left xs n a b h = record { at = λ k x e. h.at k x (get_left a b k x e) }

pub part_right : {A : Type 0} (xs : List A) (n : ℕ) (a b : List A) → IsPart xs n (a ++ b) → IsPart xs (n + length a) b
part_right xs n a b h = record { at = λ k x e. ap (slice_get xs) (omega arith) ∙ h.at (length a + k) x (get_right a b k x e) }

pub part_head : {A : Type 0} (xs : List A) (n : ℕ) (x : A) (a : List A) → IsPart xs n (x ∷ a) → slice_get xs n ≡ Some x
part_head xs n x a h = ap (slice_get xs) (omega arith) ∙ h.at 0 x refl

pub part_tail : {A : Type 0} (xs : List A) (n : ℕ) (x : A) (a : List A) → IsPart xs n (x ∷ a) → IsPart xs (n + 1) a
part_tail xs n x a h = record { at = λ k y e. ap (slice_get xs) (omega arith) ∙ h.at (suc k) y e }

pub part_at : {A : Type 0} (xs : List A) (n m : ℕ) (a : List A) → n ≡ m → IsPart xs n a → IsPart xs m a
part_at xs n m a e h = subst (λ (n : ℕ). IsPart xs n a) e h

pub part_whole : {A : Type 0} (xs : List A) → IsPart xs 0 xs
part_whole xs = record { at = λ k a e. ap (slice_get xs) (omega arith) ∙ e }

pub starts_whole : {A : Type 0} (xs : List A) → Starts xs xs
starts_whole xs = record { at = λ k a e. e }

pub starts_left : {A : Type 0} (a b xs : List A) → Starts (a ++ b) xs → Starts a xs
starts_left a b xs h = record { at = λ k x e. h.at k x (get_left a b k x e) }

-- the slots of a unit, and the regions, after a piece that has so many of its own
pub record Grows (old new : State) (slots : List Word) (regions : List (List Word)) : Type 0 where
  pub more : List ResolvedType
  pub slots_are : new.slots ≡ old.slots ++ more
  pub count : length more ≡ length slots
  pub regions_are : new.regions ≡ old.regions + length regions

pub grows_none : (st : State) → Grows st st [] []
grows_none st = record { more = []; slots_are = sym (append-nil st.slots); count = refl; regions_are = omega arith }

pub grows_then : (a b c : State) (ws vs : List Word) (rs qs : List (List Word)) → Grows a b ws rs → Grows b c vs qs → Grows a c (ws ++ vs) (rs ++ qs)
grows_then a b c ws vs rs qs h k =
    let hc = h.count in
    let kc = k.count in
    let hr = h.regions_are in
    let kr = k.regions_are in
    record {
      more = h.more ++ k.more;
      slots_are = k.slots_are ∙ ap (λ (l : List ResolvedType). l ++ k.more) h.slots_are ∙ append_assoc a.slots h.more k.more;
      count = omega (arith, length-append h.more k.more, length-append ws vs, hc, kc);
      regions_are = omega (arith, length-append rs qs, hr, kr);
    }

-- a slot, and then a piece
pub grows_slot : (a b : State) (t : ResolvedType) (x : Word) (ws : List Word) (rs : List (List Word)) → Grows (next_slot a t) b ws rs → Grows a b (x ∷ ws) rs
grows_slot a b t x ws rs h =
    let hc = h.count in
    record { more = t ∷ h.more; slots_are = h.slots_are ∙ append_assoc a.slots (t ∷ []) h.more; count = ap suc hc; regions_are = h.regions_are }

pub length_grows : (a b : State) (ws : List Word) (rs : List (List Word)) → Grows a b ws rs → length b.slots ≡ length a.slots + length ws
length_grows a b ws rs h = let hc = h.count in ap length h.slots_are ∙ omega (arith, length-append a.slots h.more, hc)

pub starts_before : (a b : State) (ws : List Word) (rs : List (List Word)) (whole : List ResolvedType) → Grows a b ws rs → Starts b.slots whole → Starts a.slots whole
starts_before a b ws rs whole h s = starts_left a.slots h.more whole (subst (λ (l : List ResolvedType). Starts l whole) h.slots_are s)

pub length_more : {A : Type 0} (xs : List A) (x : A) → length (xs ++ x ∷ []) ≡ length xs + 1
length_more xs x = omega (arith, length-append xs (x ∷ []))

-- the slot that was taken last
pub slot_taken : (st : State) (t : ResolvedType) (whole : List ResolvedType) → Starts (next_slot st t).slots whole → slice_get whole (length st.slots) ≡ Some t
slot_taken st t whole h = h.at (length st.slots) t (ap (slice_get (st.slots ++ t ∷ [])) (omega arith) ∙ get_right st.slots (t ∷ []) 0 t refl)

pub count_up_both : (n k l : ℕ) → count_up n (k + l) ≡ count_up n k ++ count_up (n + k) l
count_up_both n zero l = let i : 0 + l ≡ l = omega arith in let j : n ≡ n + 0 = omega arith in ap (count_up n) i ∙ ap (λ m. count_up m l) j
count_up_both n (suc k) l =
    let i : suc k + l ≡ suc (k + l) = omega arith in
    let j : suc n + k ≡ n + suc k = omega arith in
    ap (count_up n) i ∙ ap (λ ns. n ∷ ns) (count_up_both (suc n) k l ∙ ap (λ m. count_up (suc n) k ++ count_up m l) j)

pub length-count_up : (n k : ℕ) → length (count_up n k) ≡ k
length-count_up n zero = refl
length-count_up n (suc k) = ap suc (length-count_up (suc n) k)

-- the numbers of two pieces are those of both
pub numbers_both : (n m : ℕ) (rs qs : List (List Word)) (a b : List ℕ) → a ≡ count_up n (length rs) → b ≡ count_up m (length qs) → m ≡ n + length rs → a ++ b ≡ count_up n (length (rs ++ qs))
numbers_both n m rs qs a b e f k =
    ap (λ (l : List ℕ). l ++ b) e ∙ ap (λ (l : List ℕ). count_up n (length rs) ++ l) (f ∙ ap (λ i. count_up i (length qs)) k) ∙ sym (count_up_both n (length rs) (length qs)) ∙ ap (count_up n) (sym (length-append rs qs))
