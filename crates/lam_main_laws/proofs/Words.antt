-- The number of threads that words of `make` ask is from 1 to 64.
use Rattle.std.proofs.Common.{◌≡◌, ℕ, ◌≤◌, ◌&&◌, true, false, Bool, if◌then◌else◌, nat_le, List, Option, Some, None, Result, Ok, Err, unwrap_or, refl, subst, arith, leb-true}
use Rattle.std.proofs.lemmas.Bool.{and_parts}
use Rattle.decimal_text.specs.Decimal.{number_of}
use Rattle.lam_main_words.specs.Forms.{asks_by}
use Rattle.lam_main_words.specs.Words.{Text, Request, make, in_range, word, kinds, forms, requested, request_of}
use Rattle.lam_main_words.proofs.FormLemmas.{of_form}

abbrev IsBetween : ℕ → ℕ → ℕ → Type 0
IsBetween least most n = (least ≤ n) × (n ≤ most)

kept : (least most n : ℕ) (b : Bool) → (nat_le least n && nat_le n most) ≡ b → least ≤ most → IsBetween least most (unwrap_or (if b then Some n else None) least)
kept least most n true e h = let both = and_parts (nat_le least n) (nat_le n most) e in (leb-true least n both.0, leb-true n most both.1)
kept least most n false e h = (omega arith, h)

between : (least most : ℕ) (o : Option ℕ) → least ≤ most → IsBetween least most (unwrap_or (in_range least most o) least)
between least most None h = (omega arith, h)
between least most (Some n) h = kept least most n (nat_le least n && nat_le n most) refl h

-- the threads of `make`, and 1 of any other request
abbrev threads_asked : Result Request ℕ → ℕ
threads_asked (Ok (make seed threads out)) = threads
threads_asked (Ok request) = 1
threads_asked (Err at) = 1

one : IsBetween 1 64 1
one = (omega arith, omega arith)

asked_between : (ws : List Text) → IsBetween 1 64 (threads_asked (request_of ws))
asked_between ws =
    of_form kinds forms ws (λ form. IsBetween 1 64 (threads_asked (asks_by (requested ws) form))) one
    (λ e. one, (λ e. one, (λ e. one, (λ e. one, (λ e. one, (λ e. one, (λ e. one, (λ e. one, (λ e. one, (λ e. one, (λ e. between 1 64 (number_of (word ws 2)) (omega arith), (λ e. one, (λ e. one, (λ e. one, (λ e. one, tt)))))))))))))))

pub threads_between : (ws : List Text) (seed threads : ℕ) (out : Text) → request_of ws ≡ Ok (make seed threads out) → (1 ≤ threads) × (threads ≤ 64)
threads_between ws seed threads out e = subst (λ (it : Result Request ℕ). IsBetween 1 64 (threads_asked it)) e (asked_between ws)
