-- Two agendas meet in one way.
use Rattle.std.proofs.Common.{◌≡◌, ◌<◌, ◌≤◌, ℕ, Bool, true, false, List, Option, Some, None, length, take, get_or, refl, sym, ap, ◌∙◌, subst, inl, inr, arith}
use Rattle.std.specs.Prelude.{◌⊎◌, ◌||◌, min, slice_get}
use Rattle.std.proofs.lemmas.Bool.{cases_lt}
use Rattle.std.proofs.lemmas.List.{get_or-take}
use Rattle.std.proofs.lemmas.Option.{get_or_from_slice_get, slice_get_within}
use Rattle.std.proofs.Math.Bool.{true≢false}
use Rattle.lam_machine_terms.specs.Views.{Item}
use Rattle.pair_check_terms.specs.declared.answer.PairAnswer.{PairAnswer}
use Rattle.pair_check_terms.specs.declared.answer.PairAnswer.TheVariants.{WorldsDiffer, TurnsDiffer, ReleaseDiffers, Agree}
use Rattle.pair_check_terms.specs.Pairs.{is_turn, DifferAt, GoTogether, IsMet}

-- entries within equal beginnings are equal
equal_within : (xs ys : List Item) (m n : ℕ) (x y : Item) → take m xs ≡ take m ys → n < m → slice_get xs n ≡ Some x → slice_get ys n ≡ Some y → x ≡ y
equal_within xs ys m n x y same lt e e' =
    sym (get_or_from_slice_get xs n x x e) ∙ sym (get_or-take m xs n x lt) ∙ ap (λ (l : List Item). get_or l n x) same ∙ get_or-take m ys n x lt
    ∙ get_or_from_slice_get ys n y x e'

one_there : (xs : List Item) (n : ℕ) (x y : Item) → slice_get xs n ≡ Some x → slice_get xs n ≡ Some y → x ≡ y
one_there xs n x y e e' = let both : Some x ≡ Some y = sym e ∙ e' in cc

-- no earlier place differs
not_before : (xs ys : List Item) (m n : ℕ) (b : Bool) → take m xs ≡ take m ys → DifferAt b n xs ys → n < m → ⊥
not_before xs ys m n b same d lt = d.differ (equal_within xs ys m n d.left d.right same lt d.left_at d.right_at)

same_place : (xs ys : List Item) (m n : ℕ) (a b : Bool) → DifferAt a m xs ys → DifferAt b n xs ys → m ≡ n
same_place xs ys m n a b d e = below (cases_lt m n)
  where
    above : n ≤ m → (n < m) ⊎ (m ≤ n) → m ≡ n
    above le (inl lt) = absurd (not_before xs ys m n b d.same e lt)
    above le (inr ge) = omega arith

    below : (m < n) ⊎ (n ≤ m) → m ≡ n
    below (inl lt) = absurd (not_before xs ys n m a e.same d lt)
    below (inr le) = above le (cases_lt n m)

same_kind : (xs ys : List Item) (n : ℕ) (a b : Bool) → DifferAt a n xs ys → DifferAt b n xs ys → a ≡ b
same_kind xs ys n a b d e =
    sym d.kind
    ∙ ap (λ x. is_turn x || is_turn d.right) (one_there xs n d.left e.left d.left_at e.left_at)
    ∙ ap (λ y. is_turn e.left || is_turn y) (one_there ys n d.right e.right d.right_at e.right_at)
    ∙ e.kind

turn_or_release : (xs ys : List Item) (m n : ℕ) {X : Type 0} → DifferAt true m xs ys → DifferAt false n xs ys → X
turn_or_release xs ys m n d e =
    absurd (true≢false (same_kind xs ys n true false (subst (λ k. DifferAt true k xs ys) (same_place xs ys m n true false d e) d) e))

-- where they go together to the end of one, they differ nowhere
not_together : (xs ys : List Item) (m n : ℕ) (b : Bool) {X : Type 0} → GoTogether m xs ys → DifferAt b n xs ys → X
not_together xs ys m n b t d =
    let left : n < length xs = slice_get_within xs n d.left d.left_at in
    let right : n < length ys = slice_get_within ys n d.right d.right_at in
    let whole : m ≡ min (length xs) (length ys) = t.whole in
    let lt : n < m = omega arith in
    absurd (not_before xs ys m n b t.same d lt)

pub one_meeting : (xs ys : List Item) (a b : PairAnswer) → IsMet xs ys a → IsMet xs ys b → a ≡ b
one_meeting xs ys (WorldsDiffer p) b h k = absurd h
one_meeting xs ys (TurnsDiffer m) (WorldsDiffer q) h k = absurd k
one_meeting xs ys (TurnsDiffer m) (TurnsDiffer n) h k = ap TurnsDiffer (same_place xs ys m n true true h k)
one_meeting xs ys (TurnsDiffer m) (ReleaseDiffers n) h k = turn_or_release xs ys m n h k
one_meeting xs ys (TurnsDiffer m) (Agree n) h k = not_together xs ys n m true k h
one_meeting xs ys (ReleaseDiffers m) (WorldsDiffer q) h k = absurd k
one_meeting xs ys (ReleaseDiffers m) (TurnsDiffer n) h k = turn_or_release xs ys n m k h
one_meeting xs ys (ReleaseDiffers m) (ReleaseDiffers n) h k = ap ReleaseDiffers (same_place xs ys m n false false h k)
one_meeting xs ys (ReleaseDiffers m) (Agree n) h k = not_together xs ys n m false k h
one_meeting xs ys (Agree m) (WorldsDiffer q) h k = absurd k
one_meeting xs ys (Agree m) (TurnsDiffer n) h k = not_together xs ys m n true h k
one_meeting xs ys (Agree m) (ReleaseDiffers n) h k = not_together xs ys m n false h k
one_meeting xs ys (Agree m) (Agree n) h k = ap Agree (h.whole ∙ sym k.whole)
