-- What an answer does to the acting context, which is the last of the code's vector.
use Rattle.std.proofs.Common.{◌≡◌, ℕ, ◌+◌, ◌-◌, ◌<◌, List, [], ◌∷◌, ◌++◌, length, take, drop, get_or, set, reverse, sym, ap, ◌∙◌, arith}
use Rattle.std.proofs.lemmas.List.{reverse-append, length-reverse, length-drop, length-take-le, take_all, take_more, get_or-take, get_or_append_left, set-append_left}
use Rattle.thread_core.proofs.Tops.{top_set, top_is}

is_top : {A : Type 0} (xs : List A) (i : ℕ) (x : A) → i + 1 ≡ length xs → x ≡ get_or xs i x → reverse xs ≡ x ∷ drop 1 (reverse xs)
is_top xs i x e g = top_is xs i x e ∙ ap (λ y. y ∷ drop 1 (reverse xs)) (sym g)

pub top_before : {A : Type 0} (xs : List A) (i : ℕ) (x y : A) (f : List A → List A) → i + 1 ≡ length xs → x ≡ get_or xs i x → ((rest : List A) → f (y ∷ rest) ≡ x ∷ rest)
    → f (reverse (set xs i y)) ≡ reverse xs
top_before xs i x y f e g h = ap f (top_set xs i y e) ∙ (h (drop 1 (reverse xs)) ∙ sym (is_top xs i x e g))

first_of : {A : Type 0} (x c : A) (xs rest : List A) → x ∷ xs ≡ c ∷ rest → x ≡ c
first_of x c xs rest e = cc

rest_of : {A : Type 0} (x c : A) (xs rest : List A) → x ∷ xs ≡ c ∷ rest → xs ≡ rest
rest_of x c xs rest e = cc

pub top_after : {A : Type 0} (xs : List A) (i : ℕ) (x y c : A) (rest z : List A) (f : List A → List A) → i + 1 ≡ length xs → x ≡ get_or xs i x → reverse xs ≡ c ∷ rest
    → (x ≡ c → f (y ∷ rest) ≡ z) → f (reverse (set xs i y)) ≡ z
top_after xs i x y c rest z f e g r h =
    let s : x ∷ drop 1 (reverse xs) ≡ c ∷ rest = sym (is_top xs i x e g) ∙ r in
    ap f (top_set xs i y e ∙ ap (λ l. y ∷ l) (rest_of x c (drop 1 (reverse xs)) rest s)) ∙ h (first_of x c (drop 1 (reverse xs)) rest s)

-- the last one is the first that is seen
pub top_same : {A : Type 0} (xs : List A) (i : ℕ) (x c : A) (rest : List A) → i + 1 ≡ length xs → x ≡ get_or xs i x → reverse xs ≡ c ∷ rest → x ≡ c
top_same xs i x c rest e g r = first_of x c (drop 1 (reverse xs)) rest (sym (is_top xs i x e g) ∙ r)

-- the last one changed
pub done_top : {A : Type 0} (xs : List A) (i : ℕ) (x y : A) (f : List A → List A) → i + 1 ≡ length xs → x ≡ get_or xs i x → ((rest : List A) → y ∷ rest ≡ f (x ∷ rest))
    → reverse (set xs i y) ≡ f (reverse xs)
done_top xs i x y f e g h = top_set xs i y e ∙ (h (drop 1 (reverse xs)) ∙ ap f (sym (is_top xs i x e g)))

-- the one below the last changed
pub done_second : {A : Type 0} (xs : List A) (i : ℕ) (x y : A) (f : List A → List A) → i + 2 ≡ length xs → x ≡ get_or xs i x → ((r : A) (rest : List A) → r ∷ (y ∷ rest) ≡ f (r ∷ (x ∷ rest)))
    → reverse (set xs i y) ≡ f (reverse xs)
done_second xs i x y f e g h =
    let r = get_or xs (i + 1) x in
    let ys = take (i + 1) xs in
    let l : length ys ≡ i + 1 = length-take-le (i + 1) xs (omega arith) in
    let w : xs ≡ ys ++ r ∷ [] = sym (take_all (i + 1 + 1) xs (omega arith)) ∙ take_more xs (i + 1) x (omega arith) in
    let k : x ≡ get_or ys i x = g ∙ sym (get_or-take (i + 1) xs i x (omega arith)) in
    let s : set xs i y ≡ set ys i y ++ r ∷ [] = ap (λ l. set l i y) w ∙ set-append_left ys (r ∷ []) i y (omega arith) in
    let t : reverse (set ys i y) ≡ y ∷ drop 1 (reverse ys) = top_set ys i y (sym l) in
    let u : reverse ys ≡ x ∷ drop 1 (reverse ys) = is_top ys i x (sym l) k in
    ap reverse s
    ∙ (reverse-append (set ys i y) (r ∷ [])
    ∙ (ap (λ m. r ∷ m) t
    ∙ (h r (drop 1 (reverse ys))
    ∙ ap f (ap (λ m. r ∷ m) (sym u) ∙ (sym (reverse-append ys (r ∷ [])) ∙ ap reverse (sym w))))))

-- ---- where another one was put above the last

above_set : {A : Type 0} (xs ys : List A) (i : ℕ) (r y : A) → ys ≡ xs ++ r ∷ [] → i + 1 ≡ length xs → reverse (set ys i y) ≡ r ∷ (y ∷ drop 1 (reverse xs))
above_set xs ys i r y w e =
    ap reverse (ap (λ l. set l i y) w ∙ set-append_left xs (r ∷ []) i y (omega arith)) ∙ (reverse-append (set xs i y) (r ∷ []) ∙ ap (λ m. r ∷ m) (top_set xs i y e))

-- the last one of a list that has another above it
below_get : {A : Type 0} (xs ys : List A) (i : ℕ) (r x : A) → ys ≡ xs ++ r ∷ [] → i + 1 ≡ length xs → x ≡ get_or ys i x → x ≡ get_or xs i x
below_get xs ys i r x w e g = g ∙ (ap (λ l. get_or l i x) w ∙ get_or_append_left xs (r ∷ []) x i (omega arith))

pub above_before : {A : Type 0} (xs ys : List A) (i : ℕ) (r x y : A) (f : List A → List A) → ys ≡ xs ++ r ∷ [] → i + 1 ≡ length xs → x ≡ get_or ys i x → ((rest : List A) → f (r ∷ (y ∷ rest)) ≡ x ∷ rest)
    → f (reverse (set ys i y)) ≡ reverse xs
above_before xs ys i r x y f w e g h = ap f (above_set xs ys i r y w e) ∙ (h (drop 1 (reverse xs)) ∙ sym (is_top xs i x e (below_get xs ys i r x w e g)))

pub above_after : {A : Type 0} (xs ys : List A) (i : ℕ) (r x y c : A) (rest z : List A) (f : List A → List A) → ys ≡ xs ++ r ∷ [] → i + 1 ≡ length xs → x ≡ get_or ys i x → reverse xs ≡ c ∷ rest
    → (x ≡ c → f (r ∷ (y ∷ rest)) ≡ z) → f (reverse (set ys i y)) ≡ z
above_after xs ys i r x y c rest z f w e g q h =
    let s : x ∷ drop 1 (reverse xs) ≡ c ∷ rest = sym (is_top xs i x e (below_get xs ys i r x w e g)) ∙ q in
    ap f (above_set xs ys i r y w e ∙ ap (λ l. r ∷ (y ∷ l)) (rest_of x c (drop 1 (reverse xs)) rest s)) ∙ h (first_of x c (drop 1 (reverse xs)) rest s)

-- ---- where the one above was taken off

pub below_top : {A : Type 0} (xs ys : List A) (i : ℕ) (x y : A) (f : List A → List A) → 1 < length xs → reverse ys ≡ drop 1 (reverse xs) → i ≡ length ys - 1 → x ≡ get_or ys i x
    → ((r : A) (rest : List A) → y ∷ rest ≡ f (r ∷ (x ∷ rest))) → reverse (set ys i y) ≡ f (reverse xs)
below_top xs ys i x y f m d e g h =
    let l : length ys ≡ length xs - 1 = sym (length-reverse ys) ∙ (ap length d ∙ (length-drop 1 (reverse xs) ∙ ap (λ n. n - 1) (length-reverse xs))) in
    let r = get_or xs (length xs - 1) x in
    let t : reverse ys ≡ x ∷ drop 1 (reverse ys) = is_top ys i x (omega arith) g in
    let u : reverse xs ≡ r ∷ (x ∷ drop 1 (reverse ys)) = top_is xs (length xs - 1) x (omega arith) ∙ ap (λ m. r ∷ m) (sym d ∙ t) in
    top_set ys i y (omega arith) ∙ (h r (drop 1 (reverse ys)) ∙ ap f (sym u))
