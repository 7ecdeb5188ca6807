-- What stands where in a list of which some elements are left out.
use Rattle.std.proofs.Common.{◌≡◌, ℕ, zero, suc, ◌+◌, ◌<◌, ◌≤◌, List, [], ◌∷◌, Bool, true, false, Some, length, slice_get, refl, ap, ◌∙◌, arith}
use Rattle.std.proofs.lemmas.Bool.{false≢true, true≢false}
use Rattle.thinned_code.specs.Thinned.{moved, sifted}
use Rattle.guarded_code.proofs.Tables.{none_some, some_inj}

pub moved_zero : (ks : List Bool) → moved ks 0 ≡ 0
moved_zero [] = refl
moved_zero (k ∷ ks) = refl

pub moved_kept : (ks : List Bool) (a : ℕ) → slice_get ks a ≡ Some true → moved ks (suc a) ≡ suc (moved ks a)
moved_kept [] a e = none_some e
moved_kept (true ∷ ks) zero e = ap suc (moved_zero ks)
moved_kept (false ∷ ks) zero e = absurd (false≢true (some_inj e))
moved_kept (true ∷ ks) (suc a) e = ap suc (moved_kept ks a e)
moved_kept (false ∷ ks) (suc a) e = moved_kept ks a e

pub moved_dropped : (ks : List Bool) (a : ℕ) → slice_get ks a ≡ Some false → moved ks (suc a) ≡ moved ks a
moved_dropped [] a e = none_some e
moved_dropped (true ∷ ks) zero e = absurd (true≢false (some_inj e))
moved_dropped (false ∷ ks) zero e = moved_zero ks
moved_dropped (true ∷ ks) (suc a) e = ap suc (moved_dropped ks a e)
moved_dropped (false ∷ ks) (suc a) e = moved_dropped ks a e

-- with the next address as it is written
pub next_kept : (ks : List Bool) (a : ℕ) → slice_get ks a ≡ Some true → moved ks (a + 1) ≡ moved ks a + 1
next_kept ks a e =
    let one : a + 1 ≡ suc a = omega arith in
    let two : suc (moved ks a) ≡ moved ks a + 1 = omega arith in
    ap (moved ks) one ∙ moved_kept ks a e ∙ two

pub next_dropped : (ks : List Bool) (a : ℕ) → slice_get ks a ≡ Some false → moved ks (a + 1) ≡ moved ks a
next_dropped ks a e = let one : a + 1 ≡ suc a = omega arith in ap (moved ks) one ∙ moved_dropped ks a e

pub sift_get : {A : Type 0} (ks : List Bool) (xs : List A) (a : ℕ) → slice_get ks a ≡ Some true → slice_get (sifted ks xs) (moved ks a) ≡ slice_get xs a
sift_get [] xs a e = none_some e
sift_get (true ∷ ks) [] a e = refl
sift_get (false ∷ ks) [] a e = refl
sift_get (true ∷ ks) (x ∷ xs) zero e = refl
sift_get (false ∷ ks) (x ∷ xs) zero e = absurd (false≢true (some_inj e))
sift_get (true ∷ ks) (x ∷ xs) (suc a) e = sift_get ks xs a e
sift_get (false ∷ ks) (x ∷ xs) (suc a) e = sift_get ks xs a e

-- where what stands in a sifted list stood before
pub record Origin {A : Type 0} (ks : List Bool) (xs : List A) (b : ℕ) (x : A) : Type 0 where
  pub place : ℕ
  pub kept : slice_get ks place ≡ Some true
  pub same : moved ks place ≡ b
  pub at : slice_get xs place ≡ Some x

pub origin : {A : Type 0} (ks : List Bool) (xs : List A) (b : ℕ) (x : A) → slice_get (sifted ks xs) b ≡ Some x → Origin ks xs b x
origin (true ∷ ks) (y ∷ xs) zero x e = record { place = 0; kept = refl; same = refl; at = e }
origin (true ∷ ks) (y ∷ xs) (suc b) x e =
    let o = origin ks xs b x e in record { place = suc o.place; kept = o.kept; same = ap suc o.same; at = o.at }
origin (false ∷ ks) (y ∷ xs) b x e =
    let o = origin ks xs b x e in record { place = suc o.place; kept = o.kept; same = o.same; at = o.at }
origin ks xs b x e = none_some e

-- how many stay
abbrev pub stay_count : List Bool → ℕ
stay_count [] = 0
stay_count (true ∷ ks) = suc (stay_count ks)
stay_count (false ∷ ks) = stay_count ks

pub sifted_count : {A : Type 0} (ks : List Bool) (xs : List A) → length xs ≡ length ks → length (sifted ks xs) ≡ stay_count ks
sifted_count [] xs e = refl
sifted_count (k ∷ ks) [] e = absurd (omega (arith, e))
sifted_count (true ∷ ks) (x ∷ xs) e = ap suc (sifted_count ks xs (omega (arith, e)))
sifted_count (false ∷ ks) (x ∷ xs) e = sifted_count ks xs (omega (arith, e))

pub sifted_fewer : {A : Type 0} (ks : List Bool) (xs : List A) → length (sifted ks xs) ≤ length xs
sifted_fewer (true ∷ ks) (x ∷ xs) = omega (arith, sifted_fewer ks xs)
sifted_fewer (false ∷ ks) (x ∷ xs) = omega (arith, sifted_fewer ks xs)
sifted_fewer ks xs = omega arith

-- an address that moves to one inside is one inside
pub moved_inside : (ks : List Bool) (a : ℕ) → moved ks a < stay_count ks → a < length ks
moved_inside [] a lt = absurd (omega (arith, lt))
moved_inside (k ∷ ks) zero lt = omega arith
moved_inside (true ∷ ks) (suc a) lt = let ih = moved_inside ks a (omega (arith, lt)) in omega (arith, ih)
moved_inside (false ∷ ks) (suc a) lt = let ih = moved_inside ks a lt in omega (arith, ih)

-- what stays moves to an address inside
pub kept_inside : (ks : List Bool) (a : ℕ) → slice_get ks a ≡ Some true → moved ks a < stay_count ks
kept_inside [] a e = none_some e
kept_inside (true ∷ ks) zero e = omega arith
kept_inside (false ∷ ks) zero e = absurd (false≢true (some_inj e))
kept_inside (true ∷ ks) (suc a) e = let ih = kept_inside ks a e in omega (arith, ih)
kept_inside (false ∷ ks) (suc a) e = kept_inside ks a e

-- where all stay nothing changes
abbrev pub AllStay : List Bool → Type 0
AllStay [] = Unit {0}
AllStay (k ∷ ks) = (k ≡ true) × AllStay ks

pub sifted_all : {A : Type 0} (ks : List Bool) (xs : List A) → AllStay ks → length xs ≡ length ks → sifted ks xs ≡ xs
sifted_all [] [] h e = refl
sifted_all [] (x ∷ xs) h e = absurd (omega (arith, e))
sifted_all (k ∷ ks) [] h e = refl
sifted_all (true ∷ ks) (x ∷ xs) h e = ap (λ ys. x ∷ ys) (sifted_all ks xs h.1 (omega (arith, e)))
sifted_all (false ∷ ks) (x ∷ xs) h e = absurd (false≢true h.0)

pub moved_all : (ks : List Bool) (a : ℕ) → AllStay ks → a ≤ length ks → moved ks a ≡ a
moved_all [] zero h le = refl
moved_all [] (suc a) h le = absurd (omega (arith, le))
moved_all (k ∷ ks) zero h le = refl
moved_all (true ∷ ks) (suc a) h le = ap suc (moved_all ks a h.1 (omega (arith, le)))
moved_all (false ∷ ks) (suc a) h le = absurd (false≢true h.0)
