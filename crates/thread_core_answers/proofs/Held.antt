-- Monitors that were taken, from the last one on, which in code is the last of a vector.
use Rattle.std.proofs.Common.{◌≡◌, ℕ, suc, ◌+◌, ◌-◌, ◌<◌, ◌≤◌, Bool, true, false, cond, List, [], ◌∷◌, ◌++◌, length, take, drop, get_or, reverse, sym, ap, ◌∙◌, arith, append_assoc, append-nil, drop-cons}
use Rattle.std.specs.List.{remove}
use Rattle.std.proofs.lemmas.List.{reverse-append, reverse-reverse, length-reverse, take_all, take_more, drop_all, get_or-reverse}
use Rattle.lam_value.specs.declared.names.Name.{Name}
use Rattle.thread_steps.specs.Equal.{same_names}
use Rattle.thread_steps.specs.Next.{without}
use Rattle.thread_core_state.proofs.Ends.{cut_reversed, end_reversed}

-- ---- a place counted from the end

pub removed_reversed : {A : Type 0} (xs : List A) (i k : ℕ) → k < length xs → i ≡ length xs - 1 - k → reverse (remove xs i) ≡ remove (reverse xs) k
removed_reversed xs i k h e =
    let a : suc i ≡ length xs - k = omega arith in
    let b : i ≡ length xs - suc k = omega arith in
    let l : drop (suc i) xs ≡ reverse (take k (reverse xs)) = ap (λ n. drop n xs) a ∙ end_reversed k xs (omega arith) in
    let r : reverse (take i xs) ≡ drop (suc k) (reverse xs) = ap (λ n. reverse (take n xs)) b ∙ cut_reversed (suc k) xs in
    reverse-append (take i xs) (drop (suc i) xs)
    ∙ (ap (λ m. reverse m ++ reverse (take i xs)) l
    ∙ (ap (λ m. m ++ reverse (take i xs)) (reverse-reverse (take k (reverse xs))) ∙ ap (λ m. take k (reverse xs) ++ m) r))

pub removed_none : {A : Type 0} (xs : List A) (k : ℕ) → length xs ≤ k → reverse xs ≡ remove (reverse xs) k
removed_none xs k h =
    let t : take k (reverse xs) ≡ reverse xs = take_all k (reverse xs) (omega (arith, length-reverse xs)) in
    let d : drop (suc k) (reverse xs) ≡ [] = drop_all (suc k) (reverse xs) (omega (arith, length-reverse xs)) in
    sym (ap (λ m. m ++ drop (suc k) (reverse xs)) t ∙ (ap (λ m. reverse xs ++ m) d ∙ append-nil (reverse xs)))

-- ---- the first listing of a name

at_place : (x : Name) (xs : List Name) (k : ℕ) → k < length xs → x ≡ get_or xs (length xs - 1 - k) x → drop k (reverse xs) ≡ x ∷ drop (suc k) (reverse xs)
at_place x xs k h g =
    drop-cons (reverse xs) k x (omega (arith, length-reverse xs))
    ∙ ap (λ y. y ∷ drop (suc k) (reverse xs)) (get_or-reverse xs k x h ∙ sym g)

without_by : (b : Bool) (n x : Name) (ns : List Name) → same_names n x ≡ b → without n (x ∷ ns) ≡ cond b ns (x ∷ without n ns)
without_by b n x ns e = ap (λ d. cond d ns (x ∷ without n ns)) e

pub place_found : (n x : Name) (xs : List Name) (k : ℕ) → k < length xs → x ≡ get_or xs (length xs - 1 - k) x
    → without n (reverse xs) ≡ take k (reverse xs) ++ without n (drop k (reverse xs)) → same_names n x ≡ true → remove (reverse xs) k ≡ without n (reverse xs)
place_found n x xs k h g w s =
    sym (w ∙ ap (λ m. take k (reverse xs) ++ m) (ap (without n) (at_place x xs k h g) ∙ without_by true n x (drop (suc k) (reverse xs)) s))

pub place_passed : (n x : Name) (xs : List Name) (k : ℕ) → k < length xs → x ≡ get_or xs (length xs - 1 - k) x
    → without n (reverse xs) ≡ take k (reverse xs) ++ without n (drop k (reverse xs)) → same_names n x ≡ false
    → without n (reverse xs) ≡ take (k + 1) (reverse xs) ++ without n (drop (k + 1) (reverse xs))
place_passed n x xs k h g w s =
    let j : k + 1 ≡ suc k = omega arith in
    let m : drop (k + 1) (reverse xs) ≡ drop (suc k) (reverse xs) = ap (λ n. drop n (reverse xs)) j in
    let p : without n (drop k (reverse xs)) ≡ x ∷ without n (drop (k + 1) (reverse xs)) =
    ap (without n) (at_place x xs k h g) ∙ (without_by false n x (drop (suc k) (reverse xs)) s ∙ ap (λ l. x ∷ without n l) (sym m)) in
    let t : take (k + 1) (reverse xs) ≡ take k (reverse xs) ++ x ∷ [] =
    take_more (reverse xs) k x (omega (arith, length-reverse xs)) ∙ ap (λ y. take k (reverse xs) ++ y ∷ []) (get_or-reverse xs k x h ∙ sym g) in
    w
    ∙ (ap (λ l. take k (reverse xs) ++ l) p
    ∙ (sym (append_assoc (take k (reverse xs)) (x ∷ []) (without n (drop (k + 1) (reverse xs))))
    ∙ ap (λ l. l ++ without n (drop (k + 1) (reverse xs))) (sym t)))

pub place_none : (n : Name) (xs : List Name) (k : ℕ) → length xs ≤ k → without n (reverse xs) ≡ take k (reverse xs) ++ without n (drop k (reverse xs))
    → reverse xs ≡ without n (reverse xs)
place_none n xs k h w =
    let t : take k (reverse xs) ≡ reverse xs = take_all k (reverse xs) (omega (arith, length-reverse xs)) in
    let d : drop k (reverse xs) ≡ [] = drop_all k (reverse xs) (omega (arith, length-reverse xs)) in
    sym (w ∙ (ap (λ l. l ++ without n (drop k (reverse xs))) t ∙ (ap (λ l. reverse xs ++ without n l) d ∙ append-nil (reverse xs))))
