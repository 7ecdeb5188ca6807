-- Operands above other operands, locals, and monitors.
use Rattle.std.proofs.Common.{◌≡◌, ℕ, zero, suc, ◌<◌, true, false, List, [], ◌∷◌, ◌++◌, length, take, drop, Some, refl, sym, ap, ◌∙◌, arith, append_assoc, length-append}
use Rattle.std.proofs.lemmas.Bool.Decides.{nat_tests}
use Rattle.std.proofs.lemmas.List.{reverse-reverse, length-reverse, take-append-le, drop-append-le, take_all, drop_all}
use Rattle.std.proofs.lemmas.Grind.{reverse_onto}
use Rattle.std.specs.Prelude.{if◌then◌else◌, ◌||◌, reverse, nat_le, nat_eq, slice_get, slice_set}
use Rattle.std.specs.Ordering.{is_eq}
use Rattle.std.proofs.lemmas.Cmp.{tied_itself}
use Rattle.std.specs.List.{list_any}
use Rattle.lam_value.specs.declared.names.Name.{Name}
use Rattle.lam_value.proofs.Keys.{name_total}
use Rattle.lam_value.specs.declared.values.Value.{Value}
use Rattle.thread_steps.specs.Equal.{same_names}
use Rattle.thread_steps.specs.Ops.{Did, breaks, on_many, is_held}
use Rattle.thread_steps.specs.Next.{held_by, without}
use Rattle.lam_meaning_typed.proofs.Locals.{at_slot, set_apart}

-- ---- operands

-- values above the operands, the last one on top
abbrev pub push_all : List Value → List Value → List Value
push_all s [] = s
push_all s (v ∷ vs) = push_all (v ∷ s) vs

push_is : (s vs : List Value) → push_all s vs ≡ reverse vs ++ s
push_is s [] = refl
push_is s (v ∷ vs) = push_is (v ∷ s) vs ∙ sym (ap (λ l. l ++ s) (reverse_onto vs v []) ∙ append_assoc (reverse vs) (v ∷ []) s)

take_front : (rs s : List Value) (n : ℕ) → length rs ≡ n → take n (rs ++ s) ≡ rs
take_front rs s n e = take-append-le n rs s (omega (arith, e)) ∙ take_all n rs (omega (arith, e))

drop_front : (rs s : List Value) (n : ℕ) → length rs ≡ n → drop n (rs ++ s) ≡ s
drop_front rs s n e = drop-append-le n rs s (omega (arith, e)) ∙ ap (λ l. l ++ s) (drop_all n rs (omega (arith, e)))

enough : (rs s : List Value) (n : ℕ) → length rs ≡ n → nat_le n (length (rs ++ s)) ≡ true
enough rs s n e = let l = length-append rs s in grind (arith, nat_tests, l, e)

on_front : (rs s : List Value) (n : ℕ) (go : List Value → List Value → Did) → length rs ≡ n → on_many n (rs ++ s) go ≡ go (reverse rs) s
on_front rs s n go e =
    ap (λ b. if b then go (reverse (take n (rs ++ s))) (drop n (rs ++ s)) else breaks) (enough rs s n e) ∙ ap (λ l. go (reverse l) (drop n (rs ++ s))) (take_front rs s n e) ∙ ap (λ l. go (reverse rs) l) (drop_front rs s n e)

-- so many operands, in the order in which they were put there
pub many_same : (vs s : List Value) (n : ℕ) (go : List Value → List Value → Did) → length vs ≡ n → on_many n (push_all s vs) go ≡ go vs s
many_same vs s n go e = ap (λ l. on_many n l go) (push_is s vs) ∙ on_front (reverse vs) s n go (length-reverse vs ∙ e) ∙ ap (λ l. go l s) (reverse-reverse vs)

-- ---- locals

pub slot_there : (ls : List Value) (x : ℕ) → x < length ls → slice_get ls x ≡ Some (at_slot ls x)
slot_there [] x h = absurd (omega (arith, h))
slot_there (a ∷ ls) zero h = refl
slot_there (a ∷ ls) (suc x) h = slot_there ls x (omega (arith, h))

-- ---- monitors

-- those that are held with the one of a value, where it has one
abbrev pub listed : Value → List Name → List Name
listed v ns = held_by v (λ n. n ∷ ns) ns

-- with those of the open `sync`s, the inmost first
abbrev pub monitors : List ℕ → List Name → List Value → List Name
monitors [] base ls = base
monitors (x ∷ os) base ls = listed (at_slot ls x) (monitors os base ls)

abbrev pub AllApart : ℕ → List ℕ → Type 0
AllApart x [] = Unit {0}
AllApart x (y ∷ os) = (nat_eq y x ≡ false) × AllApart x os

pub monitors_set : (os : List ℕ) (base : List Name) (ls : List Value) (x : ℕ) (v : Value) → AllApart x os → monitors os base (slice_set ls x v) ≡ monitors os base ls
monitors_set [] base ls x v h = refl
monitors_set (y ∷ os) base ls x v h = ap (λ w. listed w (monitors os base (slice_set ls x v))) (set_apart ls x y v h.0) ∙ ap (λ ns. listed (at_slot ls y) ns) (monitors_set os base ls x v h.1)

pub same_as_self : (n : Name) → same_names n n ≡ true
same_as_self n = ap is_eq (tied_itself name_total n)

-- the last monitor that was taken is held, and is the first to be given back
pub first_held : (n : Name) (ns : List Name) → is_held n (n ∷ ns) ≡ true
first_held n ns = ap (λ b. b || list_any (λ m. same_names n m) ns) (same_as_self n)

pub first_back : (n : Name) (ns : List Name) → without n (n ∷ ns) ≡ ns
first_back n ns = ap (λ b. if b then ns else n ∷ without n ns) (same_as_self n)
