-- What the writing of a text and of an indent keeps.
use Rattle.std.proofs.Common.{◌≡◌, ℕ, suc, ◌+◌, ◌-◌, ◌<◌, ◌≤◌, List, [], ◌∷◌, ◌++◌, length, drop, get_or, sym, ap, ◌∙◌, arith, append_assoc, drop-cons}
use Rattle.std.proofs.Math.ListN.{drop_of_length-le}
use Rattle.lam_print.specs.Pieces.{line, written, indent, spell_byte, spell_text}
use Rattle.lam_print.specs.Printing.{Puts}
use Rattle.lam_print.proofs.Steps.{said}

-- what is written, with what is left to write, is the whole
pub record TextSoFar (now bs : List ℕ) (i : ℕ) (whole : List ℕ) : Type 0 where
  pub same : now ++ spell_text (drop i bs) ≡ whole

pub text_more : (now next bs : List ℕ) (i : ℕ) (whole : List ℕ) → TextSoFar now bs i whole → i < length bs → next ≡ now ++ spell_byte (get_or bs i 0) → TextSoFar next bs (i + 1) whole
text_more now next bs i whole w h e =
    let d : drop i bs ≡ get_or bs i 0 ∷ drop (suc i) bs = drop-cons bs i 0 h in
    let s : suc i ≡ i + 1 = omega arith in
    let rest = spell_text (drop (i + 1) bs) in
    let x : spell_text (drop i bs) ≡ spell_byte (get_or bs i 0) ++ rest = ap spell_text d ∙ ap (λ (j : ℕ). spell_byte (get_or bs i 0) ++ spell_text (drop j bs)) s in
    record { same = ap (λ (xs : List ℕ). xs ++ rest) e ∙ (append_assoc now (spell_byte (get_or bs i 0)) rest ∙ (ap (λ (xs : List ℕ). now ++ xs) (sym x) ∙ w.same)) }

pub text_last : (now bs : List ℕ) (i : ℕ) (whole : List ℕ) → TextSoFar now bs i whole → length bs ≤ i → now ++ 34 ∷ [] ≡ whole
text_last now bs i whole w h = ap (λ (xs : List ℕ). now ++ spell_text xs) (sym (drop_of_length-le bs h)) ∙ w.same

-- some steps of an indent are written, the others are left
pub record IndentSoFar (depth : ℕ) (old now : List ℕ) (i : ℕ) : Type 0 where
  pub gives : (rest : List ℕ) → old ++ indent depth rest ≡ now ++ indent (depth - i) rest

pub indent_first : (depth : ℕ) (now : List ℕ) → IndentSoFar depth now now 0
indent_first depth now = record { gives = λ rest. ap (λ (n : ℕ). now ++ indent n rest) (omega arith) }

pub indent_more : (depth : ℕ) {old now next : List ℕ} (i : ℕ) → i < depth → next ≡ now ++ 32 ∷ 32 ∷ [] → IndentSoFar depth old now i → IndentSoFar depth old next (i + 1)
indent_more depth {old} {now} {next} i h e g =
    let d : depth - i ≡ suc (depth - (i + 1)) = omega arith in
    record { gives = λ rest. g.gives rest ∙ ap (λ (n : ℕ). now ++ indent n rest) d ∙ said _ _ e (indent (depth - (i + 1)) rest) }

pub indent_last : (depth : ℕ) {before old now : List ℕ} (i : ℕ) → depth ≤ i → old ≡ before ++ 10 ∷ [] → IndentSoFar depth old now i → Puts before now (λ ps. line depth ∷ ps)
indent_last depth {before} {old} {now} i h e g =
    let z : depth - i ≡ 0 = omega arith in
    record { gives = λ ps. said _ _ e (indent depth (written ps)) ∙ g.gives (written ps) ∙ ap (λ (n : ℕ). now ++ indent n (written ps)) z }
