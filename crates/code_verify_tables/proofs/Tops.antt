-- The top of a stack.
use Rattle.std.proofs.Common.{◌≡◌, ℕ, zero, suc, ◌+◌, List, [], ◌∷◌, map, false, Option, None, length, drop, refl, sym, ap, ◌∙◌, arith}
use Rattle.guarded_code.specs.declared.known.Access.{Access}
use Rattle.guarded_code.specs.declared.known.Known.{Known}
use Rattle.guarded_code.specs.declared.known.Operand.{Operand}
use Rattle.guarded_code.specs.Descriptions.{Description}
use Rattle.guarded_code.specs.Changes.{Stores, changed, tested_copy}
use Rattle.code_verify_tables.specs.Leaves.{Leaves}

none_left : {A : Type 0} (xs : List A) → xs ≡ drop 1 xs → xs ≡ []
none_left [] same = refl
none_left (x ∷ xs) same = let long = ap length same in absurd (omega (arith, long))

one_more : {A : Type 0} (xs : List A) (i : ℕ) → drop 1 (drop i xs) ≡ drop (suc i) xs
one_more [] zero = refl
one_more [] (suc i) = refl
one_more (x ∷ xs) zero = refl
one_more (x ∷ xs) (suc i) = one_more xs i

pub drop_next : {A : Type 0} (xs ys zs : List A) (i : ℕ) → ys ≡ drop i xs → zs ≡ drop 1 ys → zs ≡ drop (i + 1) xs
drop_next xs ys zs i e f = let one : suc i ≡ i + 1 = omega arith in f ∙ ap (drop 1) e ∙ one_more xs i ∙ ap (λ n. drop n xs) one

all_same : (access : Access) (os : List Operand) → os ≡ map (tested_copy access None) os
all_same access [] = refl
all_same access (o ∷ os) = ap (λ r. o ∷ r) (all_same access os)

pub none_tested : (access : Access) (c : Option ℕ) (os : List Operand) → c ≡ None → os ≡ map (tested_copy access c) os
none_tested access c os e = all_same access os ∙ ap (λ x. map (tested_copy access x) os) (sym e)

abbrev description_of : List Operand → List Known → Description
description_of os ks = record { stack = os; locals = ks }

pub stored_none : (n : ℕ) (old new : List Operand) (ls ls' : List Known) → old ≡ new → new ≡ drop 1 old → Leaves false (Stores n) (record { stack = old; locals = ls }) (record { stack = new; locals = ls' })
stored_none n old new ls ls' e f = ap (λ os. changed (Stores n) (description_of os ls)) (none_left old (e ∙ f))
