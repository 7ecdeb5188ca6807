-- Cutting a text at a mark.
use Rattle.std.proofs.Common.{◌≡◌, ℕ, ◌+◌, ◌≤◌, true, false, cond, eqb, List, [], ◌∷◌, ◌++◌, length, take, drop, Option, Some, None, refl, sym, ap, subst, ◌∙◌, arith, append_assoc, append-nil, suc}
use Rattle.std.specs.Prelude.{position}
use Rattle.std.specs.List.{position_from}
use Rattle.std.proofs.lemmas.Iterator.Adapters.{position_from-zero}
use Rattle.std.proofs.lemmas.Bool.{eqb-true}
use Rattle.turn_book.specs.Book.{Text}
use Rattle.turn_book.specs.Reading.{cut, onto, ◌>>=◌, stretch_of, with_stretch, at_end, turns_from}

-- ---- by the place of the mark
none_at : (mark j : ℕ) (text : Text) → position_from (λ b. eqb b mark) j text ≡ None → cut mark text ≡ None
none_at mark j [] e = refl
none_at mark j (b ∷ bs) e =
    elim (eqb b mark) as (λ t. cond t (Some j) (position_from (λ c. eqb c mark) (j + 1) bs) ≡ None → cond t (Some ([], bs)) (onto b (cut mark bs)) ≡ None) [
      | true ↦ λ is. absurd cc
      | false ↦ λ is. ap (onto b) (none_at mark (j + 1) bs is)
    ] e

abbrev CutAt : ℕ → Text → ℕ → ℕ → Type 0
CutAt mark text j k = (i : ℕ) × (k ≡ j + i) × (cut mark text ≡ Some (take i text, drop (suc i) text))

some_at : (mark j k : ℕ) (text : Text) → position_from (λ b. eqb b mark) j text ≡ Some k → CutAt mark text j k
some_at mark j k [] e = absurd cc
some_at mark j k (b ∷ bs) e =
    elim (eqb b mark) as (λ t. eqb b mark ≡ t → cond t (Some j) (position_from (λ c. eqb c mark) (j + 1) bs) ≡ Some k → CutAt mark (b ∷ bs) j k) [
      | true ↦ λ was is. let same : j ≡ k = cc in (0, omega arith, rw was refl)
      | false ↦ λ was is.
          let later : CutAt mark bs (j + 1) k = some_at mark (j + 1) k bs is in
          let place : k ≡ j + 1 + later.0 = later.1 in
          (suc later.0, omega arith, rw was (ap (onto b) later.2))
    ] refl e

pub no_mark : (mark : ℕ) (text : Text) (r : Option ℕ) → r ≡ position (λ b. eqb b mark) text → r ≡ None → None ≡ cut mark text
no_mark mark text r is e = sym (none_at mark 0 text (sym (position_from-zero (λ b. eqb b mark) text) ∙ sym is ∙ e))

pub at_mark : (mark i : ℕ) (text : Text) (r : Option ℕ) → r ≡ position (λ b. eqb b mark) text → r ≡ Some i → Some (take i text, drop (i + 1) text) ≡ cut mark text
at_mark mark i text r is e =
    let found : CutAt mark text 0 i = some_at mark 0 i text (sym (position_from-zero (λ b. eqb b mark) text) ∙ sym is ∙ e) in
    let place : i ≡ 0 + found.0 = found.1 in
    let same : found.0 ≡ i = omega arith in
    let more : suc i ≡ i + 1 = omega arith in
    sym (found.2 ∙ (λ k. Some (take (same k) text, drop (suc (same k)) text)) ∙ ap (λ n. Some (take i text, drop n text)) more)

-- ---- what a cut says
pub record IsCut (mark : ℕ) (text front rest : Text) : Type 0 where
  pub text_is : text ≡ front ++ mark ∷ rest
  pub shorter : length rest + 1 ≤ length text

pub onto_some : (b : ℕ) (o : Option (Text × Text)) (p : Text × Text) → onto b o ≡ Some p → (q : Text × Text) × (o ≡ Some q) × ((b ∷ q.0, q.1) ≡ p)
onto_some b None p e = absurd cc
onto_some b (Some q) p e = (q, refl, cc)

-- a line and the rest
pub line_read : (ts : List ℕ) (acc text : Text) (p : Text × Text) (k : ℕ) → cut 10 text ≡ Some p → turns_from ts acc text k ≡ (with_stretch ts k (stretch_of (acc ++ p.0)) >>= λ more. turns_from more [] p.1 (k + 1))
line_read ts acc [] p k e = absurd cc
line_read ts acc (b ∷ bs) p k e =
    elim (eqb b 10) as (λ t. cond t (Some ([], bs)) (onto b (cut 10 bs)) ≡ Some p → cond t (with_stretch ts k (stretch_of acc) >>= λ more. turns_from more [] bs (k + 1)) (turns_from ts (acc ++ b ∷ []) bs k) ≡ (with_stretch ts k (stretch_of (acc ++ p.0)) >>= λ more. turns_from more [] p.1 (k + 1))) [
      | true ↦ λ is. let same : ([], bs) ≡ p = cc in
          ap (λ w. with_stretch ts k (stretch_of w) >>= λ more. turns_from more [] bs (k + 1)) (sym (append-nil acc)) ∙ ap (λ (q : Text × Text). with_stretch ts k (stretch_of (acc ++ q.0)) >>= λ more. turns_from more [] q.1 (k + 1)) same
      | false ↦ λ is. let part = onto_some b (cut 10 bs) p is in
          line_read ts (acc ++ b ∷ []) bs part.0 k part.1
          ∙ ap (λ w. with_stretch ts k (stretch_of w) >>= λ more. turns_from more [] part.0.1 (k + 1)) (append_assoc acc (b ∷ []) part.0.0)
          ∙ ap (λ (q : Text × Text). with_stretch ts k (stretch_of (acc ++ q.0)) >>= λ more. turns_from more [] q.1 (k + 1)) part.2
    ] e

pub no_line_read : (ts : List ℕ) (acc text : Text) (k : ℕ) → cut 10 text ≡ None → turns_from ts acc text k ≡ at_end ts (acc ++ text) k
no_line_read ts acc [] k e = ap (λ w. at_end ts w k) (sym (append-nil acc))
no_line_read ts acc (b ∷ bs) k e =
    elim (eqb b 10) as (λ t. cond t (Some ([], bs)) (onto b (cut 10 bs)) ≡ None → cond t (with_stretch ts k (stretch_of acc) >>= λ more. turns_from more [] bs (k + 1)) (turns_from ts (acc ++ b ∷ []) bs k) ≡ at_end ts (acc ++ b ∷ bs) k) [
      | true ↦ λ is. absurd cc
      | false ↦ λ is. no_line_read ts (acc ++ b ∷ []) bs k (none_of b (cut 10 bs) is) ∙ ap (λ w. at_end ts w k) (append_assoc acc (b ∷ []) bs)
    ] e
  where
    none_of : (b : ℕ) (o : Option (Text × Text)) → onto b o ≡ None → o ≡ None
    none_of b None e = refl
    none_of b (Some q) e = absurd cc

pub cut_is : (mark : ℕ) (text : Text) (p : Text × Text) → cut mark text ≡ Some p → IsCut mark text p.0 p.1
cut_is mark [] p e = absurd cc
cut_is mark (b ∷ bs) p e =
    elim (eqb b mark) as (λ t. eqb b mark ≡ t → cond t (Some ([], bs)) (onto b (cut mark bs)) ≡ Some p → IsCut mark (b ∷ bs) p.0 p.1) [
      | true ↦ λ was is. let same : ([], bs) ≡ p = cc in
          subst (λ (q : Text × Text). IsCut mark (b ∷ bs) q.0 q.1) same (record { text_is = ap (λ c. c ∷ bs) (eqb-true b mark was); shorter = omega arith })
      | false ↦ λ was is.
          let part = onto_some b (cut mark bs) p is in
          let h : IsCut mark bs part.0.0 part.0.1 = cut_is mark bs part.0 part.1 in
          subst (λ (q : Text × Text). IsCut mark (b ∷ bs) q.0 q.1) part.2 (record { text_is = ap (λ t. b ∷ t) h.text_is; shorter = let s : length part.0.1 + 1 ≤ length bs = h.shorter in omega arith })
    ] refl e
