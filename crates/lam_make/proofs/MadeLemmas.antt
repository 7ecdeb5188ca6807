-- Lists grow by one text, and states by one step.
use Rattle.std.proofs.Common.{◌≡◌, ℕ, zero, suc, ◌+◌, false, if◌then◌else◌, nat_eq, [], ◌++◌, codes, refl, sym, ap, ◌∙◌, append_assoc, append-nil, add-one, arith}
use Rattle.std.proofs.lemmas.Bool.Decides.{nat_tests}
use Rattle.std.specs.List.{flat_map, range_with_len}
use Rattle.lam_make.specs.Made.{Text, next, state, number_in, number_of, listed}

-- ---- lists

flat_more : (f : ℕ → Text) (a n : ℕ) → flat_map f (range_with_len a (suc n)) ≡ flat_map f (range_with_len a n) ++ f (a + n)
flat_more f a zero = append-nil (f a) ∙ ap f (let same : a ≡ a + 0 = omega arith in same)
flat_more f a (suc n) =
    let next_at : (a + 1) + n ≡ a + suc n = omega arith in
    ap (λ (t : Text). f a ++ t) (flat_more f (a + 1) n ∙ ap (λ m. flat_map f (range_with_len (a + 1) n) ++ f m) next_at)
    ∙ sym (append_assoc (f a) (flat_map f (range_with_len (a + 1) n)) (f (a + suc n)))

comma : ℕ → Text
comma k = if nat_eq k 0 then [] else codes ","

no_comma : [] ≡ comma 0
unfolding comma
no_comma = refl

some_comma : (k : ℕ) → codes "," ≡ comma (suc k)
unfolding comma
some_comma k = let later : nat_eq (suc k) 0 ≡ false = grind (arith, nat_tests) in rw later refl

after_first : (f : ℕ → Text) (k : ℕ) → f 0 ++ flat_map (λ y. codes "," ++ f y) (range_with_len 1 (suc k)) ≡ ((f 0 ++ flat_map (λ y. codes "," ++ f y) (range_with_len 1 k)) ++ codes ",") ++ f (suc k)
after_first f k =
    let g : ℕ → Text = λ y. codes "," ++ f y in
    let at : 1 + k ≡ suc k = omega arith in
    ap (λ (t : Text). f 0 ++ t) (flat_more g 1 k ∙ ap (λ m. flat_map g (range_with_len 1 k) ++ g m) at)
    ∙ sym (append_assoc (f 0) (flat_map g (range_with_len 1 k)) (g (suc k)))
    ∙ sym (append_assoc (f 0 ++ flat_map g (range_with_len 1 k)) (codes ",") (f (suc k)))

-- a list with one text more: a comma before it, but not before the first
listed_more : (f : ℕ → Text) (k : ℕ) → listed f (suc k) ≡ (listed f k ++ comma k) ++ f k
unfolding listed
listed_more f zero = append-nil (f 0) ∙ ap (λ (t : Text). t ++ f 0) no_comma
listed_more f (suc k) = after_first f k ∙ ap (λ (t : Text). (listed f (suc k) ++ t) ++ f (suc k)) (some_comma k)

pub none_listed : (f : ℕ → Text) (start : Text) → start ≡ start ++ listed f 0
unfolding listed
none_listed f start = sym (append-nil start)

-- the text after one more
pub one_more : (f : ℕ → Text) (k : ℕ) (start before parted after : Text) → before ≡ start ++ listed f k → parted ≡ before ++ (if nat_eq k 0 then [] else codes ",") → after ≡ parted ++ f k → after ≡ start ++ listed f (k + 1)
unfolding comma
one_more f k start before parted after so_far comma_is last =
    rw add-one (
    last ∙ ap (λ (t : Text). t ++ f k) (comma_is ∙ ap (λ (t : Text). t ++ comma k) so_far ∙ append_assoc start (listed f k) (comma k))
    ∙ append_assoc start (listed f k ++ comma k) (f k)
    ∙ ap (λ (t : Text). start ++ t) (sym (listed_more f k)))

-- ---- five parts, written one after another
regrouped : (s a b c d e : Text) → ((((s ++ a) ++ b) ++ c) ++ d) ++ e ≡ s ++ ((((a ++ b) ++ c) ++ d) ++ e)
regrouped s a b c d e = simp append_assoc

pub five_parts : (s s1 s2 s3 s4 s5 a b c d e : Text) → s1 ≡ s ++ a → s2 ≡ s1 ++ b → s3 ≡ s2 ++ c → s4 ≡ s3 ++ d → s5 ≡ s4 ++ e → s5 ≡ s ++ ((((a ++ b) ++ c) ++ d) ++ e)
five_parts s s1 s2 s3 s4 s5 a b c d e e1 e2 e3 e4 e5 =
    let two : s2 ≡ (s ++ a) ++ b = e2 ∙ ap (λ (t : Text). t ++ b) e1 in
    let three : s3 ≡ ((s ++ a) ++ b) ++ c = e3 ∙ ap (λ (t : Text). t ++ c) two in
    let four : s4 ≡ (((s ++ a) ++ b) ++ c) ++ d = e4 ∙ ap (λ (t : Text). t ++ d) three in
    e5 ∙ ap (λ (t : Text). t ++ e) four ∙ regrouped s a b c d e

-- ---- draws

pub first_state : (seed : ℕ) → seed ≡ state seed 0
unfolding state
first_state seed = refl

pub state_more : (seed k x : ℕ) → x ≡ state seed k → next x ≡ state seed (k + 1)
unfolding state
state_more seed k x so_far = rw add-one (ap next so_far)

pub number_more : (seed k x : ℕ) → x ≡ state seed k → number_in (next x) ≡ number_of seed k
unfolding number_of
number_more seed k x so_far = ap number_in (state_more seed k x so_far)
