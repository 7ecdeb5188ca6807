-- One address of a table.
use Rattle.std.proofs.Common.{◌≡◌, ℕ, ◌<◌, Option, Some, None, length, get_or, set, slice_get, sym, ap, ◌∙◌, arith, set-set}
use Rattle.std.proofs.lemmas.Option.{slice_get-get_or}
use Rattle.guarded_code.specs.Rounds.{Sent, Table, Holds, Broke, into, placed}
use Rattle.guarded_code.specs.Descriptions.{Description, meet}
use Rattle.guarded_code.proofs.Tables.{set_same}

abbrev pub Passing : Type 0
Passing = ℕ → Description → Option (Sent Description)

-- what was read there
there : (t : Table Description) (b n : ℕ) (x r o : Option Description) → b < n → n ≡ length t → x ≡ get_or t b x → r ≡ x → r ≡ o → slice_get t b ≡ Some o
there t b n x r o lt en ex er eo =
    slice_get-get_or t b x (omega (arith, lt, en)) ∙ ap (λ y. Some y) (sym ex ∙ sym er ∙ eo)

pub into_none : (t : Table Description) (b n : ℕ) (x r dest : Option Description) (e m : Description) → b < n → n ≡ length t → x ≡ get_or t b x → r ≡ x → r ≡ None → m ≡ e → (passes : Passing) → into Description meet passes (slice_get t b) t b e ≡ Holds (set (set t b dest) b (Some m))
into_none t b n x r dest e m lt en ex er eo em passes =
    ap (λ o. into Description meet passes o t b e) (there t b n x r None lt en ex er eo) ∙ ap (λ y. Holds y) (ap (λ y. set t b (Some y)) (sym em) ∙ sym (set-set t b dest (Some m)))

pub into_some : (t : Table Description) (b n : ℕ) (x r dest : Option Description) (d e m : Description) → b < n → n ≡ length t → x ≡ get_or t b x → r ≡ x → r ≡ Some d → meet d e ≡ Some m → (passes : Passing) → into Description meet passes (slice_get t b) t b e ≡ Holds (set (set t b dest) b (Some m))
into_some t b n x r dest d e m lt en ex er eo em passes =
    ap (λ o. into Description meet passes o t b e) (there t b n x r (Some d) lt en ex er eo) ∙ ap (placed Description meet passes t b) em ∙ ap (λ y. Holds y) (sym (set-set t b dest (Some m)))

pub into_breaks : (t : Table Description) (b n : ℕ) (x r : Option Description) (d e : Description) → b < n → n ≡ length t → x ≡ get_or t b x → r ≡ x → r ≡ Some d → meet d e ≡ None → (passes : Passing) → into Description meet passes (slice_get t b) t b e ≡ Broke b
into_breaks t b n x r d e lt en ex er eo em passes =
    ap (λ o. into Description meet passes o t b e) (there t b n x r (Some d) lt en ex er eo) ∙ ap (placed Description meet passes t b) em

pub into_same : (t : Table Description) (b n : ℕ) (x r dest : Option Description) (d m : Description) → b < n → n ≡ length t → x ≡ get_or t b x → r ≡ x → r ≡ Some d → m ≡ d → set (set t b dest) b (Some m) ≡ t
into_same t b n x r dest d m lt en ex er eo em =
    set-set t b dest (Some m) ∙ ap (λ y. set t b (Some y)) em ∙ set_same t b (Some d) (there t b n x r (Some d) lt en ex er eo)
