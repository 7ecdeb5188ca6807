use Rattle.std.proofs.Common.{◌∙◌, List, ℕ, slice_get, sym, ap}
use Rattle.lam_lexer.proofs.Letters.{found_by_letter, none_empty}
use Rattle.lam_lexer.proofs.words.reserved.Goals as goal

pub returns-in-Some : goal.returns-in-Some
returns-in-Some c =
    c.by_letter.ensures ∙ found_by_letter c.args.name.now c.in-Some.first (ap (λ (bs : List ℕ). slice_get bs 0) (sym c.as_bytes.ensures.value) ∙ sym c.first.ensures.value ∙ sym c.copied.ensures ∙ c.in-Some.is)

pub returns-in-None : goal.returns-in-None
returns-in-None c =
    none_empty c.args.name.now (ap (λ (bs : List ℕ). slice_get bs 0) (sym c.as_bytes.ensures.value) ∙ sym c.first.ensures.value ∙ sym c.copied.ensures ∙ c.in-None.is)
