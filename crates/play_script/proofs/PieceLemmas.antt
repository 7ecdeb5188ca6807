-- laws of the pieces of a text
use Rattle.std.proofs.Common.{◌≡◌, ℕ, suc, ◌+◌, ◌<◌, ◌≤◌, Bool, true, false, not, cond, eqb, List, [], ◌∷◌, ◌++◌, length, take, drop, refl, sym, ap, ◌∙◌, subst, arith, ◌-◌, Option, Some, None, length-drop, append_assoc, get_or}
use Rattle.std.specs.List.{prefix_len}
use Rattle.std.specs.Option.{MatchOption, IfSome}
use Rattle.std.specs.Str.{IsUtf8}
use Rattle.std.proofs.lemmas.Str.{IsUtf8-drop, IsCharBoundary-after_ascii}
use Rattle.std.proofs.lemmas.Bool.Decides.{nat_tests}
use Rattle.std.specs.Borrow.{Bor}
use Rattle.std.proofs.lemmas.List.{take_all}
use Rattle.play_script.specs.Pieces.{Word, pieces, onto_first, texts}

abbrev other : ℕ → ℕ → Bool
other mark b = not (eqb b mark)

pub no_mark : (mark : ℕ) (text : Word) → length text ≤ prefix_len (λ b. not (eqb b mark)) text → pieces mark text ≡ text ∷ []
no_mark mark [] = λ e. refl
no_mark mark (b ∷ bs) =
    elim (eqb b mark) as (λ t. suc (length bs) ≤ cond (not t) (1 + prefix_len (λ b. not (eqb b mark)) bs) 0 → cond t ([] ∷ pieces mark bs) (onto_first b (pieces mark bs)) ≡ (b ∷ bs) ∷ []) [
      | true ↦ λ e. absurd (omega arith)
      | false ↦ λ e. ap (onto_first b) (no_mark mark bs (omega arith))
    ]

pub first_mark : (mark : ℕ) (text : Word) → prefix_len (λ b. not (eqb b mark)) text < length text →
    pieces mark text ≡ take (prefix_len (λ b. not (eqb b mark)) text) text ∷ pieces mark (drop (prefix_len (λ b. not (eqb b mark)) text + 1) text)
first_mark mark [] = λ e. absurd (omega arith)
first_mark mark (b ∷ bs) =
    elim (eqb b mark) as (λ t. cond (not t) (1 + prefix_len (λ b. not (eqb b mark)) bs) 0 < suc (length bs) → cond t ([] ∷ pieces mark bs) (onto_first b (pieces mark bs)) ≡ take (cond (not t) (1 + prefix_len (λ b. not (eqb b mark)) bs) 0) (b ∷ bs) ∷ pieces mark (drop (cond (not t) (1 + prefix_len (λ b. not (eqb b mark)) bs) 0 + 1) (b ∷ bs))) [
      | true ↦ λ e. refl
      | false ↦ λ e. later (prefix_len (λ b. not (eqb b mark)) bs) (first_mark mark bs (omega arith))
    ]
  where
    later : (k : ℕ) → pieces mark bs ≡ take k bs ∷ pieces mark (drop (k + 1) bs) → onto_first b (pieces mark bs) ≡ take (1 + k) (b ∷ bs) ∷ pieces mark (drop (1 + k + 1) (b ∷ bs))
    later k e =
        let one : 1 + k ≡ suc k = omega arith in
        let two : suc k + 1 ≡ suc (k + 1) = omega arith in
        rw (one, two) (ap (onto_first b) e)

pub line_cut : (text : Word) (k : ℕ) → k ≡ prefix_len (λ b. not (eqb b 10)) text → k < length text →
    (pieces 10 text ≡ take k text ∷ pieces 10 (take (length text - (k + 1)) (drop (k + 1) text))) × (length (take (length text - (k + 1)) (drop (k + 1) text)) < length text)
line_cut text k e less =
    let all : take (length text - (k + 1)) (drop (k + 1) text) ≡ drop (k + 1) text = take_all (length text - (k + 1)) (drop (k + 1) text) (omega (arith, length-drop (k + 1) text)) in (
      subst (λ (n : ℕ). pieces 10 text ≡ take n text ∷ pieces 10 (drop (n + 1) text)) (sym e) (first_mark 10 text (subst (λ (n : ℕ). n < length text) e less)) ∙ ap (λ (r : Word). take k text ∷ pieces 10 r) (sym all),
      subst (λ (r : Word). length r < length text) (sym all) (omega (arith, length-drop (k + 1) text)),
    )

pub line_uncut : (text : Word) (k : ℕ) → k ≡ prefix_len (λ b. not (eqb b 10)) text → length text ≤ k → pieces 10 text ≡ text ∷ []
line_uncut text k e more = no_mark 10 text (subst (λ (n : ℕ). length text ≤ n) e more)

pub word_cut : (text : Word) (r : Option (Bor Word × Bor Word)) →
    MatchOption r (prefix_len (λ b. not (eqb b 32)) text ≡ length text) (λ x. (x.0.now ≡ take (prefix_len (λ b. not (eqb b 32)) text) text) × (x.1.now ≡ drop (prefix_len (λ b. not (eqb b 32)) text + 1) text) × (prefix_len (λ b. not (eqb b 32)) text < length text)) →
    MatchOption r (pieces 32 text ≡ text ∷ []) (λ p. (pieces 32 text ≡ p.0.now ∷ pieces 32 p.1.now) × (length p.1.now < length text))
word_cut text None h = no_mark 32 text (omega arith)
word_cut text (Some x) h = (
  first_mark 32 text h.2 ∙ ap (λ (w : Word). w ∷ pieces 32 (drop (prefix_len (λ b. not (eqb b 32)) text + 1) text)) (sym h.0) ∙ ap (λ (w : Word). x.0.now ∷ pieces 32 w) (sym h.1),
  subst (λ (w : Word). length w < length text) (sym h.1) (omega (arith, h.2, length-drop (prefix_len (λ b. not (eqb b 32)) text + 1) text)),
)

pub texts_push : (ks : List (Bor Word)) (k : Bor Word) → texts (ks ++ k ∷ []) ≡ texts ks ++ k.now ∷ []
texts_push [] k = refl
texts_push (x ∷ ks) k = ap (λ l. x.now ∷ l) (texts_push ks k)

-- one more word of a line
pub word_more : (ks new : List (Bor Word)) (k : Bor Word) (rest after all : Word) → texts ks ++ pieces 32 rest ≡ pieces 32 all → pieces 32 rest ≡ k.now ∷ pieces 32 after → new ≡ ks ++ k ∷ [] → texts new ++ pieces 32 after ≡ pieces 32 all
word_more ks new k rest after all e cut made =
    ap (λ l. texts l ++ pieces 32 after) made ∙ ap (λ l. l ++ pieces 32 after) (texts_push ks k) ∙ append_assoc (texts ks) (k.now ∷ []) (pieces 32 after) ∙ ap (λ l. texts ks ++ l) (sym cut) ∙ e

pub word_last : (ks new : List (Bor Word)) (k : Bor Word) (all : Word) → texts ks ++ pieces 32 k.now ≡ pieces 32 all → pieces 32 k.now ≡ k.now ∷ [] → new ≡ ks ++ k ∷ [] → texts new ≡ pieces 32 all
word_last ks new k all e cut made = ap texts made ∙ texts_push ks k ∙ ap (λ l. texts ks ++ l) (sym cut) ∙ e

mark_there : (mark : ℕ) (text : Word) → prefix_len (λ b. not (eqb b mark)) text < length text → get_or text (prefix_len (λ b. not (eqb b mark)) text) 0 ≡ mark
mark_there mark [] = λ e. absurd (omega arith)
mark_there mark (b ∷ bs) = there (eqb b mark) refl (λ e. mark_there mark bs e)
  where
    there : (t : Bool) → eqb b mark ≡ t → (prefix_len (λ b. not (eqb b mark)) bs < length bs → get_or bs (prefix_len (λ b. not (eqb b mark)) bs) 0 ≡ mark) → cond (not t) (1 + prefix_len (λ b. not (eqb b mark)) bs) 0 < suc (length bs) → get_or (b ∷ bs) (cond (not t) (1 + prefix_len (λ b. not (eqb b mark)) bs) 0) 0 ≡ mark
    there true same further e = grind (arith, nat_tests)
    there false differs further e =
        let one : 1 + prefix_len (λ b. not (eqb b mark)) bs ≡ suc (prefix_len (λ b. not (eqb b mark)) bs) = omega arith in
        ap (λ n. get_or (b ∷ bs) n 0) one ∙ further (omega arith)

-- what follows a space is text
pub word_text : (text : Word) (r : Option (Bor Word × Bor Word)) → IsUtf8 text →
    MatchOption r (prefix_len (λ b. not (eqb b 32)) text ≡ length text) (λ x. (x.0.now ≡ take (prefix_len (λ b. not (eqb b 32)) text) text) × (x.1.now ≡ drop (prefix_len (λ b. not (eqb b 32)) text + 1) text) × (prefix_len (λ b. not (eqb b 32)) text < length text)) →
    IfSome r (λ p. IsUtf8 p.1.now)
word_text text None u h = tt
word_text text (Some x) u h =
    let space : get_or text (prefix_len (λ b. not (eqb b 32)) text) 0 ≡ 32 = mark_there 32 text h.2 in
    subst IsUtf8 (sym h.1) (IsUtf8-drop text (prefix_len (λ b. not (eqb b 32)) text + 1) u (IsCharBoundary-after_ascii text (prefix_len (λ b. not (eqb b 32)) text) u h.2 (omega arith)))
