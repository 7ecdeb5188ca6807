-- the words of a line, counted
use Rattle.std.proofs.Common.{◌≡◌, ℕ, ◌<◌, ◌≤◌, List, [], ◌∷◌, length, slice_index_or, refl, sym, ap, ◌∙◌, arith, Bor, Option, Some, None}
use Rattle.flow_labels.specs.Names.{place_of}
use Rattle.play_script.specs.Pieces.{Word, texts}
use Rattle.decimal_text.specs.Decimal.{int_of}
use Rattle.play_script.specs.declared.Step.TheVariants.{Read, Write, Copy}
use Rattle.play_script.specs.Script.{Play, after_tag, after_actor, after_cell, then_some, step_of, read_of, write_of, copy_of}

pub no_tag : (p : Play) (ws : List (Bor Word)) → length ws < 1 → after_tag p (texts ws) ≡ None
no_tag p [] few = refl
no_tag p (a ∷ ws) few = absurd (omega arith)

pub no_actor : (p : Play) (ws : List (Bor Word)) → length ws < 2 → after_actor p (texts ws) ≡ None
no_actor p (a ∷ b ∷ ws) few = absurd (omega arith)
no_actor p ws few = refl

pub short_cell : (p : Play) (ws : List (Bor Word)) → length ws < 3 → after_cell p (texts ws) ≡ None
short_cell p (a ∷ b ∷ c ∷ ws) few = absurd (omega arith)
short_cell p ws few = refl

pub long_cell : (p : Play) (ws : List (Bor Word)) → 4 ≤ length ws → after_cell p (texts ws) ≡ None
long_cell p (a ∷ b ∷ c ∷ d ∷ ws) many = refl
long_cell p ws many = absurd (omega arith)

one_word : (ws : List (Bor Word)) (d : Bor Word) → 1 ≤ length ws → length ws < 2 → texts ws ≡ (slice_index_or ws 0 d).now ∷ []
one_word (a ∷ []) d low high = refl
one_word ws d low high = absurd (omega arith)

two_words : (ws : List (Bor Word)) (d : Bor Word) → 2 ≤ length ws → length ws < 3 → texts ws ≡ (slice_index_or ws 0 d).now ∷ (slice_index_or ws 1 d).now ∷ []
two_words (a ∷ b ∷ []) d low high = refl
two_words ws d low high = absurd (omega arith)

pub read_found : (cells : List Word) (actor : ℕ) (ws : List (Bor Word)) (d : Bor Word) (cell : Option ℕ) → 1 ≤ length ws → length ws < 2 → cell ≡ place_of cells (slice_index_or ws 0 d).now → then_some cell (λ x. Some (Read actor x)) ≡ read_of cells actor (texts ws)
read_found cells actor ws d cell low high e = ap (λ o. then_some o (λ x. Some (Read actor x))) e ∙ sym (ap (read_of cells actor) (one_word ws d low high))

pub write_found : (cells : List Word) (actor : ℕ) (ws : List (Bor Word)) (d : Bor Word) (cell : Option ℕ) → 2 ≤ length ws → length ws < 3 → cell ≡ place_of cells (slice_index_or ws 0 d).now → then_some cell (λ x. then_some (int_of (slice_index_or ws 1 d).now) (λ v. Some (Write actor x v))) ≡ write_of cells actor (texts ws)
write_found cells actor ws d cell low high e = ap (λ o. then_some o (λ x. then_some (int_of (slice_index_or ws 1 d).now) (λ v. Some (Write actor x v)))) e ∙ sym (ap (write_of cells actor) (two_words ws d low high))

pub copy_found : (cells : List Word) (actor : ℕ) (ws : List (Bor Word)) (d : Bor Word) (from : Option ℕ) → 2 ≤ length ws → length ws < 3 → from ≡ place_of cells (slice_index_or ws 0 d).now → then_some from (λ x. then_some (place_of cells (slice_index_or ws 1 d).now) (λ y. Some (Copy actor x y))) ≡ copy_of cells actor (texts ws)
copy_found cells actor ws d from low high e = ap (λ o. then_some o (λ x. then_some (place_of cells (slice_index_or ws 1 d).now) (λ y. Some (Copy actor x y)))) e ∙ sym (ap (copy_of cells actor) (two_words ws d low high))

pub no_step : (p : Play) (ws : List (Bor Word)) → length ws < 2 → None ≡ step_of p (texts ws)
no_step p (a ∷ b ∷ ws) few = absurd (omega arith)
no_step p ws few = refl

pub short_write : (cells : List Word) (actor : ℕ) (ws : List (Bor Word)) → length ws < 2 → None ≡ write_of cells actor (texts ws)
short_write cells actor (a ∷ b ∷ ws) few = absurd (omega arith)
short_write cells actor ws few = refl

pub long_write : (cells : List Word) (actor : ℕ) (ws : List (Bor Word)) → 3 ≤ length ws → None ≡ write_of cells actor (texts ws)
long_write cells actor (a ∷ b ∷ c ∷ ws) many = refl
long_write cells actor ws many = absurd (omega arith)
