-- A table of names is the set of its texts.
use Rattle.std.proofs.Common.{◌≡◌, ℕ, suc, Bool, true, false, cond, ◌||◌, ◌+◌, ◌<◌, List, [], ◌∷◌, ◌++◌, length, take, drop, get_or, if◌then◌else◌, refl, sym, ap, ◌∙◌, subst, Bor, add-one}
use Rattle.std.proofs.Math.Seq.{drop-cons}
use Rattle.std.specs.List.{list_any}
use Rattle.std.specs.Str.{bytes_eq}
use Rattle.std.specs.declared.hash.FoldHasher.{FoldHasher}
use Rattle.std.specs.declared.hash.BuildHasherDefault.{BuildHasherDefault}
use Rattle.indexmap.specs.IndexSet.{IndexSet, contains_by}
use Rattle.lam_syntax.specs.declared.Id.{Id}
use Rattle.lam_syntax.specs.declared.CapItem.{CapItem}
use Rattle.lam_syntax.specs.Tree.{ids_tree, id_tree, caps_tree, cap_tree}
use Rattle.lam_operators.specs.Words.{Word}
use Rattle.lam_types_kinds.specs.Verdicts.{Fine, then_on}
use Rattle.region_check.specs.Breaks.{Verdict, has, with_name, read_checked, caps_checked, capture_checked, captures_checked}
use Rattle.region_check.specs.Values.{texts, Breaks, Extends}
use Rattle.region_check.specs.declared.RegionFault.{RegionFault}
use Rattle.region_check.proofs.Steps.{stops}

pub has_texts : (x : Word) (ks : List (Bor Word)) → list_any (λ (k : Bor Word). bytes_eq x k.now) ks ≡ has (texts ks) x
has_texts x [] = refl
has_texts x (k ∷ ks) = ap (λ b. bytes_eq x k.now || b) (has_texts x ks)

pub texts_push : (ks : List (Bor Word)) (k : Bor Word) → texts (ks ++ k ∷ []) ≡ texts ks ++ k.now ∷ []
texts_push [] k = refl
texts_push (x ∷ ks) k = ap (λ l. x.now ∷ l) (texts_push ks k)

cond_texts : (b : Bool) (ks : List (Bor Word)) (k : Bor Word) → texts (cond b ks (ks ++ k ∷ [])) ≡ cond b (texts ks) (texts ks ++ k.now ∷ [])
cond_texts true ks k = refl
cond_texts false ks k = texts_push ks k

-- an inserted name
pub texts_insert : (ks : List (Bor Word)) (k : Bor Word) → texts (if list_any (λ (q : Bor Word). bytes_eq k.now q.now) ks then ks else ks ++ k ∷ []) ≡ with_name (texts ks) k.now
texts_insert ks k =
    cond_texts (list_any (λ (q : Bor Word). bytes_eq k.now q.now) ks) ks k ∙ ap (λ b. cond b (texts ks) (texts ks ++ k.now ∷ [])) (has_texts k.now ks)

take_all : {A : Type 0} (xs ys : List A) → take (length xs) (xs ++ ys) ≡ xs
take_all [] ys = refl
take_all (x ∷ xs) ys = ap (λ l. x ∷ l) (take_all xs ys)

no_more : {A : Type 0} (xs : List A) → xs ++ [] ≡ xs
no_more [] = refl
no_more (x ∷ xs) = ap (λ l. x ∷ l) (no_more xs)

pub extends_insert : (b : Bool) (ks : List (Bor Word)) (k : Bor Word) → Extends ks (cond b ks (ks ++ k ∷ []))
extends_insert true ks k = ap (take (length ks)) (sym (no_more ks)) ∙ take_all ks []
extends_insert false ks k = take_all ks (k ∷ [])

one_more : {A : Type 0} (xs : List A) (i : ℕ) (x : A) → i < length xs → x ≡ get_or xs i x → drop i xs ≡ x ∷ drop (i + 1) xs
one_more xs i x lt is = drop-cons xs i x lt ∙ ap (λ w. w ∷ drop (suc i) xs) (sym is) ∙ ap (λ k. x ∷ drop k xs) (sym (add-one i))

-- the break of one item in `caps`
pub cap_stop : (f : RegionFault) (inside : Bool) (own : List Word) (xs : List CapItem) (i : ℕ) (x : CapItem) (w : Word) (v : Verdict (Unit {0})) → i < length xs → x ≡ get_or xs i x →
    v ≡ caps_checked inside own (caps_tree (drop i xs)) → w ≡ (cap_tree x).name.word → Breaks f (read_checked inside own x.name.at w) → Breaks f v
cap_stop f inside own xs i x w v lt q is e b =
    subst (λ (v : Verdict (Unit {0})). Breaks f v) (sym (is ∙ ap (λ (l : List CapItem). caps_checked inside own (caps_tree l)) (one_more xs i x lt q)))
    (stops f (read_checked inside own x.name.at (cap_tree x).name.word) (λ _. caps_checked inside own (caps_tree (drop (i + 1) xs))) (subst (λ (w : Word). Breaks f (read_checked inside own x.name.at w)) e b))

pub cap_next : (inside : Bool) (own : List Word) (xs : List CapItem) (i : ℕ) (x : CapItem) (w : Word) (v : Verdict (Unit {0})) → i < length xs → x ≡ get_or xs i x →
    v ≡ caps_checked inside own (caps_tree (drop i xs)) → w ≡ (cap_tree x).name.word → read_checked inside own x.name.at w ≡ Fine tt → v ≡ caps_checked inside own (caps_tree (drop (i + 1) xs))
cap_next inside own xs i x w v lt q is e b =
    is ∙ ap (λ (l : List CapItem). caps_checked inside own (caps_tree l)) (one_more xs i x lt q) ∙
    ap (λ (u : Verdict (Unit {0})). then_on u (λ _. caps_checked inside own (caps_tree (drop (i + 1) xs)))) (subst (λ (w : Word). read_checked inside own x.name.at w ≡ Fine tt) e b)

-- the break of one captured name
pub capture_stop : (f : RegionFault) (inside : Bool) (own seen : List Word) (xs : List Id) (i : ℕ) (x : Id) (v : Verdict (List Word)) → i < length xs → x ≡ get_or xs i x →
    v ≡ captures_checked inside own seen (ids_tree (drop i xs)) → Breaks f (capture_checked inside own seen (id_tree x)) → Breaks f v
capture_stop f inside own seen xs i x v lt q is b =
    subst (λ (v : Verdict (List Word)). Breaks f v) (sym (is ∙ ap (λ (l : List Id). captures_checked inside own seen (ids_tree l)) (one_more xs i x lt q)))
    (stops f (capture_checked inside own seen (id_tree x)) (λ _. captures_checked inside own (seen ++ (id_tree x).word ∷ []) (ids_tree (drop (i + 1) xs))) b)

new_name : (own : List Word) (x : Word) → has own x ≡ false → with_name own x ≡ own ++ x ∷ []
new_name own x e = ap (λ b. cond b own (own ++ x ∷ [])) e

pub capture_next : (inside : Bool) (own seen new : List Word) (xs : List Id) (i : ℕ) (x : Id) (w : Word) (v : Verdict (List Word)) → i < length xs → x ≡ get_or xs i x →
    v ≡ captures_checked inside own seen (ids_tree (drop i xs)) → capture_checked inside own seen (id_tree x) ≡ Fine tt → has seen (id_tree x).word ≡ false → w ≡ (id_tree x).word → new ≡ with_name seen w →
    v ≡ captures_checked inside own new (ids_tree (drop (i + 1) xs))
capture_next inside own seen new xs i x w v lt q is b n e m =
    is ∙ ap (λ (l : List Id). captures_checked inside own seen (ids_tree l)) (one_more xs i x lt q) ∙
    ap (λ (u : Verdict (Unit {0})). then_on u (λ _. captures_checked inside own (seen ++ (id_tree x).word ∷ []) (ids_tree (drop (i + 1) xs)))) b ∙
    ap (λ (l : List Word). captures_checked inside own l (ids_tree (drop (i + 1) xs))) (sym (new_name seen (id_tree x).word n) ∙ ap (with_name seen) (sym e) ∙ sym m)

pub contains_texts : (x : Word) (s : IndexSet (Bor Word) (BuildHasherDefault FoldHasher)) → contains_by (λ (k : Bor Word). bytes_eq x k.now) s ≡ has (texts s.keys) x
contains_texts x s = has_texts x s.keys
