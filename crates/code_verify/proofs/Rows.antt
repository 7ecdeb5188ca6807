-- Rows of a table, address by address.
use Rattle.std.proofs.Common.{◌≡◌, ℕ, ◌+◌, ◌<◌, ◌≤◌, Bool, true, false, List, [], ◌∷◌, Option, Some, None, length, get_or, drop, slice_get, refl, sym, ap, ap₂, ◌∙◌, cond}
use Rattle.std.proofs.lemmas.List.{drop_more, drop_all}
use Rattle.std.proofs.lemmas.Option.{slice_get_within, get_or_from_slice_get}
use Rattle.lam_bytecode.specs.declared.op.Op.{Op}
use Rattle.guarded_code.specs.Rounds.{Table}
use Rattle.guarded_code.specs.Descriptions.{Description}
use Rattle.guarded_code.specs.Breaks.{passes_where, first_failing}

opened : (test : Op → Description → Bool) (ops : List Op) (t : Table Description) (i : ℕ) (op : Op) (o : Option Description) (b : Bool) → op ≡ get_or ops i op → i < length ops → slice_get t i ≡ Some o → passes_where test op o ≡ b → first_failing test i (drop i ops) (drop i t) ≡ cond b (first_failing test (i + 1) (drop (i + 1) ops) (drop (i + 1) t)) (Some i)
opened test ops t i op o b e lt et h =
    let d : drop i ops ≡ op ∷ drop (i + 1) ops = drop_more ops i op lt ∙ ap (λ x. x ∷ drop (i + 1) ops) (sym e) in
    let r : drop i t ≡ o ∷ drop (i + 1) t = drop_more t i o (slice_get_within t i o et) ∙ ap (λ x. x ∷ drop (i + 1) t) (get_or_from_slice_get t i o o et) in
    ap₂ (first_failing test i) d r ∙ ap (λ x. cond x (first_failing test (i + 1) (drop (i + 1) ops) (drop (i + 1) t)) (Some i)) h

pub row_passes : (test : Op → Description → Bool) (ops : List Op) (t : Table Description) (i : ℕ) (op : Op) (o : Option Description) → op ≡ get_or ops i op → i < length ops → slice_get t i ≡ Some o → passes_where test op o ≡ true → first_failing test i (drop i ops) (drop i t) ≡ first_failing test (i + 1) (drop (i + 1) ops) (drop (i + 1) t)
row_passes test ops t i op o e lt et h = opened test ops t i op o true e lt et h

pub row_fails : (test : Op → Description → Bool) (ops : List Op) (t : Table Description) (i : ℕ) (op : Op) (o : Option Description) → op ≡ get_or ops i op → i < length ops → slice_get t i ≡ Some o → passes_where test op o ≡ false → first_failing test i (drop i ops) (drop i t) ≡ Some i
row_fails test ops t i op o e lt et h = opened test ops t i op o false e lt et h

-- the same of the operation that is read there
pub row_next : (test : Op → Description → Bool) (ops : List Op) (t : Table Description) (i : ℕ) (d : Op) (o : Option Description) → i < length ops → slice_get t i ≡ Some o → passes_where test (get_or ops i d) o ≡ true → first_failing test i (drop i ops) (drop i t) ≡ first_failing test (i + 1) (drop (i + 1) ops) (drop (i + 1) t)
row_next test ops t i d o lt et h =
    let r : drop i t ≡ o ∷ drop (i + 1) t = drop_more t i o (slice_get_within t i o et) ∙ ap (λ x. x ∷ drop (i + 1) t) (get_or_from_slice_get t i o o et) in
    ap₂ (first_failing test i) (drop_more ops i d lt) r ∙ ap (λ x. cond x (first_failing test (i + 1) (drop (i + 1) ops) (drop (i + 1) t)) (Some i)) h

none_left : (test : Op → Description → Bool) (a : ℕ) (ops : List Op) → first_failing test a ops [] ≡ None
none_left test a [] = refl
none_left test a (op ∷ ops) = refl

pub rows_end : (test : Op → Description → Bool) (ops : List Op) (t : Table Description) (i : ℕ) → length t ≤ i → first_failing test i (drop i ops) (drop i t) ≡ None
rows_end test ops t i le = ap (first_failing test i (drop i ops)) (drop_all i t le) ∙ none_left test i (drop i ops)

pub ops_end : (test : Op → Description → Bool) (ops : List Op) (t : Table Description) (i : ℕ) → length ops ≤ i → first_failing test i (drop i ops) (drop i t) ≡ None
ops_end test ops t i le = ap (λ x. first_failing test i x (drop i t)) (drop_all i ops le)
