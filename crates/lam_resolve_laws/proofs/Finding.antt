-- Look-ups by name, with the number of what is found.
use Rattle.std.proofs.Common.{◌≡◌, ℕ, zero, suc, ◌+◌, ◌<◌, Bool, true, false, cond, List, [], ◌∷◌, length, map, Option, Some, refl, sym, ap, ◌∙◌, subst, arith}
use Rattle.std.specs.Prelude.{slice_get, unwrap_or}
use Rattle.std.specs.Str.{bytes_eq}
use Rattle.std.proofs.lemmas.Slice.Eq.{bytes_eq-Decides}
use Rattle.lam_operators.specs.Words.{Word}
use Rattle.lam_builtins.specs.declared.Builtin.{Builtin}
use Rattle.lam_builtins.specs.Builtins.{row, builtins, named_in, builtin_named}
use Rattle.lam_types_kinds.specs.Tables.{find}
use Rattle.lam_resolve_laws.specs.Resolved.{then_some, Found, found_from, found, Local, Locals, local_named}
use Rattle.lam_resolve_laws.specs.Names.{word_at, words_at}
use Rattle.lam_resolve_laws.proofs.Has.{Has, done, some_is}

pub same_word : (x y : Word) → bytes_eq x y ≡ true → x ≡ y
same_word x y e = (bytes_eq-Decides x y).0 e

-- ---- places in lists

pub get_map : {A B : Type 0} (f : A → B) (xs : List A) (n : ℕ) (a : A) → slice_get xs n ≡ Some a → slice_get (map f xs) n ≡ Some (f a)
get_map f [] n a e = absurd cc
get_map f (x ∷ xs) zero a e = ap (λ y. Some (f y)) (some_is x a e)
get_map f (x ∷ xs) (suc n) a e = get_map f xs n a e

pub get_below : {A : Type 0} (xs : List A) (n : ℕ) (a : A) → slice_get xs n ≡ Some a → n < length xs
get_below [] n a e = absurd cc
get_below (x ∷ xs) zero a e = omega arith
get_below (x ∷ xs) (suc n) a e = let h = get_below xs n a e in omega (arith, h)

pub word_is : (ws : List Word) (n : ℕ) (x : Word) → slice_get ws n ≡ Some x → word_at ws n ≡ x
word_is ws n x e = ap (λ (o : Option Word). unwrap_or o []) e

pub words_are : (wss : List (List Word)) (n : ℕ) (ws : List Word) → slice_get wss n ≡ Some ws → words_at wss n ≡ ws
words_are wss n ws e = ap (λ (o : Option (List Word)). unwrap_or o []) e

-- ---- what is found by name is found by number

record FoundAt {A : Type 0} (n : ℕ) (x : Word) (es : List (Word × A)) (f : Found A) : Type 0 where
  at : ℕ
  number : f.number ≡ n + at
  entry : slice_get es at ≡ Some (x, f.it)

found_at_from : {A : Type 0} (n : ℕ) (x : Word) (es : List (Word × A)) (f : Found A) → found_from n x es ≡ Some f → FoundAt n x es f
found_at_from n x [] f e = absurd cc
found_at_from n x (k ∷ es) f e = by (bytes_eq x k.0) refl e (λ e. found_at_from (n + 1) x es f e)
  where
    by : (b : Bool) → bytes_eq x k.0 ≡ b → cond b (Some (record { number = n; it = k.1 })) (found_from (n + 1) x es) ≡ Some f → (found_from (n + 1) x es ≡ Some f → FoundAt (n + 1) x es f) → FoundAt n x (k ∷ es) f
    by true b e again =
        let same : record { number = n; it = k.1 } ≡ f = some_is _ f e in
        record { at = 0; number = sym (ap (λ (f : Found _). f.number) same) ∙ omega arith; entry = ap (λ a. Some (k.0, a)) (ap (λ (f : Found _). f.it) same) ∙ ap (λ (y : Word). Some (y, f.it)) (sym (same_word x k.0 b)) }
    by false b e again = let h = again e in record { at = suc h.at; number = (let s = h.number in omega (arith, s)); entry = h.entry }

pub found_at : {A : Type 0} (x : Word) (es : List (Word × A)) (f : Found A) → found x es ≡ Some f → slice_get es f.number ≡ Some (x, f.it)
found_at x es f e =
    let h = found_at_from 0 x es f e in
    let n : f.number ≡ h.at = (let s = h.number in omega (arith, s)) in
    ap (slice_get es) n ∙ h.entry

-- where `find` finds, so does `found`
pub found_is : {A : Type 0} (n : ℕ) (x : Word) (es : List (Word × A)) (a : A) → find x es ≡ Some a → Has (found_from n x es) (λ f. f.it ≡ a)
found_is n x [] a e = absurd cc
found_is n x (k ∷ es) a e = by (bytes_eq x k.0) e (λ e. found_is (n + 1) x es a e)
  where
    by : (b : Bool) → cond b (Some k.1) (find x es) ≡ Some a → (find x es ≡ Some a → Has (found_from (n + 1) x es) (λ f. f.it ≡ a)) → Has (cond b (Some (record { number = n; it = k.1 })) (found_from (n + 1) x es)) (λ f. f.it ≡ a)
    by true e again = done _ (some_is k.1 a e)
    by false e again = again e

-- a local that `find` finds
found_local : (n : ℕ) (ls : Locals) (x : Word) → then_some (found_from n x ls) (λ l. Some l.it) ≡ find x ls
unfolding then_some
found_local n [] x = refl
found_local n (k ∷ ls) x = by (bytes_eq x k.0) (found_local (n + 1) ls x)
  where
    by : (b : Bool) → then_some (found_from (n + 1) x ls) (λ l. Some l.it) ≡ find x ls → then_some (cond b (Some (record { number = n; it = k.1 })) (found_from (n + 1) x ls)) (λ l. Some l.it) ≡ cond b (Some k.1) (find x ls)
    by true e = refl
    by false e = e

pub local_has : {P : Local → Type 0} (ls : Locals) (x : Word) → Has (find x ls) P → Has (local_named ls x) P
local_has {P} ls x h = subst (λ (o : Option Local). Has o P) (sym (found_local 0 ls x)) h

-- ---- the built-in call of a name has that name

named_back : (x : Word) (bs : List Builtin) (b : Builtin) → named_in x bs ≡ Some b → (row b).name ≡ x
named_back x [] b e = absurd cc
named_back x (c ∷ bs) b e = by (bytes_eq x (row c).name) refl e (λ e. named_back x bs b e)
  where
    by : (q : Bool) → bytes_eq x (row c).name ≡ q → cond q (Some c) (named_in x bs) ≡ Some b → (named_in x bs ≡ Some b → (row b).name ≡ x) → (row b).name ≡ x
    by true q e again = ap (λ b. (row b).name) (sym (some_is c b e)) ∙ sym (same_word x (row c).name q)
    by false q e again = again e

pub builtin_name : (x : Word) (b : Builtin) → builtin_named x ≡ Some b → (row b).name ≡ x
unfolding builtin_named
builtin_name x b e = named_back x builtins b e
