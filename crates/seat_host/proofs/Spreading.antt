-- Places and the turns that they hold.
use Rattle.std.proofs.Common.{◌≡◌, ℕ, zero, suc, ◌+◌, ◌==◌, List, [], ◌∷◌, ◌++◌, length, Some, None, Option, Bool, true, false, cond, refl, sym, ap, ◌∙◌, arith, eq-eqb, ne_eqb}
use Rattle.seat_host.specs.Places.{turns_in, later, if_holds, last_from, last_of, spread}

length-cond : (b : Bool) (xs ys : List (Option ℕ)) (n : ℕ) → length xs ≡ n → length ys ≡ n → length (cond b xs ys) ≡ n
length-cond true xs ys n e f = e
length-cond false xs ys n e f = f

pub length-spread : (k n : ℕ) (held turns : List ℕ) → length (spread k n held turns) ≡ n
length-spread k zero held turns = refl
length-spread k (suc n) [] turns = ap (λ m. suc m) (length-spread (k + 1) n [] turns)
length-spread k (suc n) (p ∷ ps) [] = ap (λ m. suc m) (length-spread (k + 1) n (p ∷ ps) [])
length-spread k (suc n) (p ∷ ps) (t ∷ ts) =
    length-cond (p == k) (Some t ∷ spread (k + 1) n ps ts) (None ∷ spread (k + 1) n (p ∷ ps) (t ∷ ts)) (suc n)
    (ap (λ m. suc m) (length-spread (k + 1) n ps ts)) (ap (λ m. suc m) (length-spread (k + 1) n (p ∷ ps) (t ∷ ts)))

-- what a place more comes to, by whether this one holds the first turn
grown : (b : Bool) (t : ℕ) (ts : List ℕ) (xs ys xs' ys' : List (Option ℕ)) (x : Option ℕ) → turns_in (cond b (Some t ∷ xs) (None ∷ ys)) ≡ t ∷ ts
    → (turns_in xs ≡ ts → xs' ≡ xs ++ x ∷ []) → (turns_in ys ≡ t ∷ ts → ys' ≡ ys ++ x ∷ []) → cond b (Some t ∷ xs') (None ∷ ys') ≡ cond b (Some t ∷ xs) (None ∷ ys) ++ x ∷ []
grown true t ts xs ys xs' ys' x e f g = ap (λ l. Some t ∷ l) (f (cc e))
grown false t ts xs ys xs' ys' x e f g = ap (λ l. None ∷ l) (g e)

-- a place more holds nothing
pub spread-none : (k n : ℕ) (held turns : List ℕ) → length held ≡ length turns → turns_in (spread k n held turns) ≡ turns → spread k (suc n) held turns ≡ spread k n held turns ++ None ∷ []
spread-none k zero [] [] same all = refl
spread-none k zero [] (t ∷ ts) same all = absurd (omega arith)
spread-none k zero (p ∷ ps) [] same all = absurd (omega arith)
spread-none k zero (p ∷ ps) (t ∷ ts) same all = absurd (cc all)
spread-none k (suc n) [] [] same all = ap (λ l. None ∷ l) (spread-none (k + 1) n [] [] same all)
spread-none k (suc n) [] (t ∷ ts) same all = absurd (omega arith)
spread-none k (suc n) (p ∷ ps) [] same all = absurd (omega arith)
spread-none k (suc n) (p ∷ ps) (t ∷ ts) same all =
    grown (p == k) t ts (spread (k + 1) n ps ts) (spread (k + 1) n (p ∷ ps) (t ∷ ts)) (spread (k + 1) (suc n) ps ts) (spread (k + 1) (suc n) (p ∷ ps) (t ∷ ts)) None all
    (λ e. spread-none (k + 1) n ps ts (omega arith) e) (λ e. spread-none (k + 1) n (p ∷ ps) (t ∷ ts) same e)

-- a place more holds a turn more
pub spread-turn : (k n c u : ℕ) (held turns : List ℕ) → c ≡ k + n → length held ≡ length turns → turns_in (spread k n held turns) ≡ turns
    → spread k (suc n) (held ++ c ∷ []) (turns ++ u ∷ []) ≡ spread k n held turns ++ Some u ∷ []
spread-turn k zero c u [] [] at same all = ap (λ b. cond b (Some u ∷ []) (None ∷ [])) (eq-eqb c k (omega arith))
spread-turn k zero c u [] (t ∷ ts) at same all = absurd (omega arith)
spread-turn k zero c u (p ∷ ps) [] at same all = absurd (omega arith)
spread-turn k zero c u (p ∷ ps) (t ∷ ts) at same all = absurd (cc all)
spread-turn k (suc n) c u [] [] at same all =
    ap (λ b. cond b (Some u ∷ spread (k + 1) (suc n) [] []) (None ∷ spread (k + 1) (suc n) (c ∷ []) (u ∷ []))) (ne_eqb c k (λ e. omega arith))
    ∙ ap (λ l. None ∷ l) (spread-turn (k + 1) n c u [] [] (omega arith) same all)
spread-turn k (suc n) c u [] (t ∷ ts) at same all = absurd (omega arith)
spread-turn k (suc n) c u (p ∷ ps) [] at same all = absurd (omega arith)
spread-turn k (suc n) c u (p ∷ ps) (t ∷ ts) at same all =
    grown (p == k) t ts (spread (k + 1) n ps ts) (spread (k + 1) n (p ∷ ps) (t ∷ ts)) (spread (k + 1) (suc n) (ps ++ c ∷ []) (ts ++ u ∷ [])) (spread (k + 1) (suc n) (p ∷ (ps ++ c ∷ [])) (t ∷ (ts ++ u ∷ []))) (Some u) all
    (λ e. spread-turn (k + 1) n c u ps ts (omega arith) (omega arith) e) (λ e. spread-turn (k + 1) n c u (p ∷ ps) (t ∷ ts) (omega arith) same e)

pub turns-none : (xs : List (Option ℕ)) → turns_in (xs ++ None ∷ []) ≡ turns_in xs
turns-none [] = refl
turns-none (Some x ∷ xs) = ap (λ l. x ∷ l) (turns-none xs)
turns-none (None ∷ xs) = turns-none xs

pub turns-more : (xs : List (Option ℕ)) (t : ℕ) → turns_in (xs ++ Some t ∷ []) ≡ turns_in xs ++ t ∷ []
turns-more [] t = refl
turns-more (Some x ∷ xs) t = ap (λ l. x ∷ l) (turns-more xs t)
turns-more (None ∷ xs) t = turns-more xs t

later-none : (x : Option ℕ) → later x None ≡ x
later-none None = refl
later-none (Some p) = refl

later-apart : (x y z : Option ℕ) → later (later x y) z ≡ later x (later y z)
later-apart None y z = refl
later-apart (Some p) y z = refl

last_from-more : (t k : ℕ) (xs : List (Option ℕ)) (x : Option ℕ) → last_from t k (xs ++ x ∷ []) ≡ later (if_holds t (k + length xs) x) (last_from t k xs)
last_from-more t k [] x = let e : k ≡ k + 0 = omega arith in ap (λ n. if_holds t n x) e ∙ sym (later-none (if_holds t (k + 0) x))
last_from-more t k (y ∷ ys) x =
    let e : (k + 1) + length ys ≡ k + length (y ∷ ys) = omega arith in
    ap (λ o. later o (if_holds t k y)) (last_from-more t (k + 1) ys x) ∙ later-apart (if_holds t ((k + 1) + length ys) x) (last_from t (k + 1) ys) (if_holds t k y)
    ∙ ap (λ n. later (if_holds t n x) (later (last_from t (k + 1) ys) (if_holds t k y))) e

-- a place more that holds nothing is nobody's last
pub last-none : (t : ℕ) (xs : List (Option ℕ)) → last_of t (xs ++ None ∷ []) ≡ last_of t xs
last-none t xs = last_from-more t 0 xs None

later-cond : (b : Bool) (k : ℕ) (x : Option ℕ) → later (cond b (Some k) None) x ≡ cond b (Some k) x
later-cond true k x = refl
later-cond false k x = refl

-- a place more is the last of the thread that it holds
pub last-more : (t u c : ℕ) (xs : List (Option ℕ)) → length xs ≡ c → last_of t (xs ++ Some u ∷ []) ≡ cond (u == t) (Some c) (last_of t xs)
last-more t u c xs e =
    let here : 0 + length xs ≡ c = omega arith in
    last_from-more t 0 xs (Some u) ∙ ap (λ n. later (cond (u == t) (Some n) None) (last_of t xs)) here ∙ later-cond (u == t) c (last_of t xs)
