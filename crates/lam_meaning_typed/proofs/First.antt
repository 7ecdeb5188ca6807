-- What a list of answers makes of a tree and of a cut of it.
use Rattle.std.proofs.Common.{◌≡◌, ◌≢◌, Bool, true, false, List, [], ◌∷◌, ◌++◌, refl, sym, ap, subst}
use Rattle.std.specs.Prelude.{if◌then◌else◌}
use Rattle.std.proofs.lemmas.List.{append-nil}
use Rattle.lam_asks.specs.declared.answer.Answer.{Answer}
use Rattle.lam_asks.specs.Suits.{fits}
use Rattle.lam_resolve_tree.specs.Tree.{ResolvedTree}
use Rattle.lam_meaning.specs.Trees.{Asked, Tree, ends, spent, broken, asks}
use Rattle.lam_meaning.specs.Means.{means}
use Rattle.lam_meaning.specs.Plays.{waits, is_spent, asks_of, how_of}
use Rattle.lam_meaning_typed.specs.Fewer.{IsCutOff, FewerUnits}
use Rattle.lam_meaning_typed.proofs.Cut.{Cut, with_left}
use Rattle.lam_meaning_typed.proofs.Meanings.{means_cut}

same_cut : {A : Type 0} (t t' : Tree A) (xs : List Answer) → asks_of t' xs ≡ asks_of t xs → how_of t' xs ≡ how_of t xs → IsCutOff t t' xs
same_cut t t' xs e h = record { rest = []; first = subst (λ l. asks_of t' xs ≡ l) (sym (append-nil (asks_of t xs))) e; same = λ n. (e, h) }

-- one more ask before both
more_cut : {A : Type 0} (q : Asked) (k j : Answer → Tree A) (x : Answer) (xs : List Answer) → IsCutOff (k x) (j x) xs → IsCutOff (asks q k) (asks q j) (x ∷ xs)
more_cut q k j x xs h = record { rest = rest (fits q.want x); first = first (fits q.want x); same = same (fits q.want x) }
  where
    rest : Bool → List Asked
    rest true = h.rest
    rest false = []

    first : (b : Bool) → (if b then q ∷ asks_of (j x) xs else q ∷ []) ≡ (if b then q ∷ asks_of (k x) xs else q ∷ []) ++ rest b
    first true = ap (λ l. q ∷ l) h.first
    first false = refl

    same : (b : Bool) → (if b then how_of (k x) xs else waits) ≢ is_spent → ((if b then q ∷ asks_of (j x) xs else q ∷ []) ≡ (if b then q ∷ asks_of (k x) xs else q ∷ [])) × ((if b then how_of (j x) xs else waits) ≡ (if b then how_of (k x) xs else waits))
    same true n = let s = h.same n in (ap (λ l. q ∷ l) s.0, s.1)
    same false n = (refl, refl)

cut_first : {A : Type 0} (t t' : Tree A) (xs : List Answer) → Cut t t' → IsCutOff t t' xs
cut_first (ends e) t' xs (m, le, same) = subst (λ t. IsCutOff (ends e) t xs) (sym same) (same_cut (ends e) (ends (with_left e m)) xs refl refl)
cut_first spent t' xs c = record { rest = asks_of t' xs; first = refl; same = λ n. absurd (n refl) }
cut_first broken t' xs c = subst (λ t. IsCutOff broken t xs) (sym c) (same_cut broken broken xs refl refl)
cut_first (asks q k) t' [] (j, same, c) = subst (λ t. IsCutOff (asks q k) t []) (sym same) (same_cut (asks q k) (asks q j) [] refl refl)
cut_first (asks q k) t' (x ∷ xs) (j, same, c) = subst (λ t. IsCutOff (asks q k) t (x ∷ xs)) (sym same) (more_cut q k j x xs (cut_first (k x) (j x) xs (c x)))

pub fewer_units : (r : ResolvedTree) → FewerUnits r
fewer_units r n m f vs k xs le = cut_first (means r n f vs k) (means r m f vs k) xs (means_cut r n m f vs k le)
