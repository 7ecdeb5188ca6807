-- A name is found where its first entry stands.
use Rattle.std.proofs.Common.{◌≡◌, ℕ, zero, suc, ◌+◌, ◌-◌, ◌<◌, ◌≤◌, Bool, true, false, cond, List, [], ◌∷◌, ◌++◌, length, get_or, take, Option, Some, None, is_some, ◌≢◌, refl, sym, ap, ◌∙◌, arith, Bor, take_all}
use Rattle.std.proofs.Math.Seq.{take-append_seam}
use Rattle.std.proofs.lemmas.List.{length-map, length-append, take-map}
use Rattle.std.specs.Str.{bytes_eq}
use Rattle.std.specs.Map.{lookup}
use Rattle.std.specs.Option.{option_map}
use Rattle.std.proofs.lemmas.Slice.Eq.{bytes_eq-Decides}
use Rattle.lam_operators.specs.Words.{Word}
use Rattle.lam_types_kinds.specs.Tables.{find}
use Rattle.lam_types_kinds.specs.Values.{keyed}
use Rattle.lam_types_kinds.proofs.TableLemmas.{key_is, find_see, see_push, find_both}
use Rattle.lam_types_kinds.specs.Meets.{or_else}
use Rattle.lam_resolve_laws.specs.Resolved.{Found, found_from}
use Rattle.lam_resolve_tables.specs.Named.{words, with_first, firsts_from, firsts}

-- the place of a name's first entry
abbrev pub place_from : ℕ → Word → List Word → Option ℕ
place_from n x [] = None
place_from n x (k ∷ ks) = cond (bytes_eq x k) (Some n) (place_from (n + 1) x ks)

or_none : {A : Type 0} (o : Option A) → or_else o None ≡ o
or_none None = refl
or_none (Some a) = refl

or_assoc : {A : Type 0} (o p q : Option A) → or_else (or_else o p) q ≡ or_else o (or_else p q)
or_assoc None p q = refl
or_assoc (Some a) p q = refl

or_there : {A : Type 0} (o p : Option A) → is_some o ≡ true → o ≡ or_else o p
or_there None p e = absurd cc
or_there (Some a) p e = refl

or_cond : {A : Type 0} (b : Bool) (a : A) (p : Option A) → or_else (cond b (Some a) None) p ≡ cond b (Some a) p
or_cond true a p = refl
or_cond false a p = refl

there : (x k : Word) (n : ℕ) (ns : List (Word × ℕ)) (b : Bool) → bytes_eq x k ≡ b → is_some (find k ns) ≡ true → find x ns ≡ or_else (find x ns) (cond b (Some n) None)
there x k n ns true e h = or_there (find x ns) (Some n) (ap (λ w. is_some (find w ns)) ((bytes_eq-Decides x k).0 e) ∙ h)
there x k n ns false e h = sym (or_none (find x ns))

pick : (x k : Word) (n : ℕ) (ns : List (Word × ℕ)) (b : Bool) → is_some (find k ns) ≡ b → find x (cond b ns (ns ++ (k, n) ∷ [])) ≡ or_else (find x ns) (cond (bytes_eq x k) (Some n) None)
pick x k n ns true e = there x k n ns (bytes_eq x k) refl e
pick x k n ns false e = find_both x ns ((k, n) ∷ [])

pub find_first : (x k : Word) (n : ℕ) (ns : List (Word × ℕ)) → find x (with_first ns k n) ≡ or_else (find x ns) (cond (bytes_eq x k) (Some n) None)
find_first x k n ns = pick x k n ns (is_some (find k ns)) refl

pub firsts_find : (x : Word) (ns : List (Word × ℕ)) (n : ℕ) (ks : List Word) → find x (firsts_from ns n ks) ≡ or_else (find x ns) (place_from n x ks)
firsts_find x ns n [] = sym (or_none (find x ns))
firsts_find x ns n (k ∷ ks) =
    firsts_find x (with_first ns k n) (n + 1) ks ∙ ap (λ o. or_else o (place_from (n + 1) x ks)) (find_first x k n ns) ∙
    or_assoc (find x ns) (cond (bytes_eq x k) (Some n) None) (place_from (n + 1) x ks) ∙ ap (or_else (find x ns)) (or_cond (bytes_eq x k) n (place_from (n + 1) x ks))

pub firsts_push : (ns : List (Word × ℕ)) (n : ℕ) (ks : List Word) (k : Word) → firsts_from ns n (ks ++ k ∷ []) ≡ with_first (firsts_from ns n ks) k (n + length ks)
firsts_push ns n [] k = ap (with_first ns k) (omega arith)
firsts_push ns n (j ∷ ks) k = firsts_push (with_first ns j n) (n + 1) ks k ∙ ap (with_first (firsts_from (with_first ns j n) (n + 1) ks) k) (omega arith)

below_by : (n : ℕ) (x : Word) (ks : List Word) (i : ℕ) (b : Bool) → cond b (Some n) (place_from (n + 1) x ks) ≡ Some i → (place_from (n + 1) x ks ≡ Some i → (n + 1 ≤ i) × (i < n + 1 + length ks)) → (n ≤ i) × (i < n + suc (length ks))
below_by n x ks i true e more = let h : n ≡ i = cc in (omega arith, omega arith)
below_by n x ks i false e more = let h = more e in (omega (arith, h.0), omega (arith, h.1))

pub place_below : (n : ℕ) (x : Word) (ks : List Word) (i : ℕ) → place_from n x ks ≡ Some i → (n ≤ i) × (i < n + length ks)
place_below n x [] i e = absurd cc
place_below n x (k ∷ ks) i e = below_by n x ks i (bytes_eq x k) e (place_below (n + 1) x ks i)

module _ {X : Type 0} (d : Bor Word × X) where
  here_by : (n : ℕ) (x : Word) (e : Bor Word × X) (es : List (Bor Word × X)) (i j : ℕ) (b : Bool) → cond b (Some n) (place_from (n + 1) x (words es)) ≡ Some i → i ≡ n + j →
      ((j : ℕ) → place_from (n + 1) x (words es) ≡ Some i → i ≡ n + 1 + j → found_from (n + 1) x (keyed es) ≡ Some (record { number = i; it = (get_or es j d).1 })) →
      cond b (Some (record { number = n; it = e.1 })) (found_from (n + 1) x (keyed es)) ≡ Some (record { number = i; it = (get_or (e ∷ es) j d).1 })
  here_by n x e es i zero true p q more = let h : n ≡ i = cc in ap (λ (m : ℕ). Some (record { number = m; it = e.1 })) h
  here_by n x e es i (suc j) true p q more = let h : n ≡ i = cc in absurd (omega arith)
  here_by n x e es i zero false p q more = let h = place_below (n + 1) x (words es) i p in absurd (omega (arith, h.0))
  here_by n x e es i (suc j) false p q more = more j p (omega arith)

  pub found_there : (es : List (Bor Word × X)) (n : ℕ) (x : Word) (i j : ℕ) → place_from n x (words es) ≡ Some i → i ≡ n + j → found_from n x (keyed es) ≡ Some (record { number = i; it = (get_or es j d).1 })
  found_there [] n x i j p q = absurd cc
  found_there (e ∷ es) n x i j p q = here_by n x e es i j (bytes_eq x e.0.now) p q (λ j. found_there es (n + 1) x i j)

none_by : {X : Type 0} (n : ℕ) (x : Word) (v : X) (es : List (Bor Word × X)) (b : Bool) → cond b (Some n) (place_from (n + 1) x (words es)) ≡ None → (place_from (n + 1) x (words es) ≡ None → found_from (n + 1) x (keyed es) ≡ None) →
    cond b (Some (record { number = n; it = v })) (found_from (n + 1) x (keyed es)) ≡ None
none_by n x v es true p more = absurd cc
none_by n x v es false p more = more p

pub found_not : {X : Type 0} (es : List (Bor Word × X)) (n : ℕ) (x : Word) → place_from n x (words es) ≡ None → found_from n x (keyed es) ≡ None
found_not [] n x p = refl
found_not (e ∷ es) n x p = none_by n x e.1 es (bytes_eq x e.0.now) p (found_not es (n + 1) x)

-- ---- an index of the names

firsts_pushed : (ks : List Word) (k : Word) → firsts (ks ++ k ∷ []) ≡ with_first (firsts ks) k (length ks)
firsts_pushed ks k = firsts_push [] 0 ks k ∙ ap (with_first (firsts ks) k) (omega arith)

lookup_map : {X : Type 0} (o : Option X) → option_map (λ (v : X). v) o ≡ o
lookup_map None = refl
lookup_map (Some v) = refl

-- what the index has for a name is the place of its first entry
pub index_place : {X : Type 0} (index : List (Bor Word × ℕ)) (es : List (Bor Word × X)) (x : Word) → keyed index ≡ firsts (words es) → lookup (key_is x) index ≡ place_from 0 x (words es)
index_place index es x e =
    sym (lookup_map (lookup (key_is x) index)) ∙ sym (find_see (λ v. v) x index) ∙ ap (find x) e ∙ firsts_find x [] 0 (words es)

pub words_push : {X : Type 0} (es : List (Bor Word × X)) (k : Bor Word) (v : X) → words (es ++ (k, v) ∷ []) ≡ words es ++ k.now ∷ []
words_push [] k v = refl
words_push (e ∷ es) k v = ap (λ l. e.0.now ∷ l) (words_push es k v)

pub length_words : {X : Type 0} (es : List (Bor Word × X)) → length (words es) ≡ length es
length_words [] = refl
length_words (e ∷ es) = ap suc (length_words es)

-- one more entry
pub index_push : {X : Type 0} (old new : List (Bor Word × ℕ)) (es all : List (Bor Word × X)) (k : Bor Word) (v : X) → keyed old ≡ firsts (words es) → keyed new ≡ with_first (keyed old) k.now (length es) → all ≡ es ++ (k, v) ∷ [] →
    keyed new ≡ firsts (words all)
index_push {X = X} old new es all k v e f g =
    f ∙ ap (λ (ns : List (Word × ℕ)). with_first ns k.now (length es)) e ∙ ap (with_first (firsts (words es)) k.now) (sym (length_words es)) ∙ sym (firsts_pushed (words es) k.now) ∙
    ap firsts (sym (words_push es k v)) ∙ ap (λ (l : List (Bor Word × X)). firsts (words l)) (sym g)

-- ---- one more name, and the last entry leaves

none_is : {X : Type 0} (o : Option X) → is_some o ≡ false → o ≡ None
none_is None e = refl
none_is (Some a) e = absurd cc

found_self : (x : Word) (n : ℕ) → find x ((x, n) ∷ []) ≡ Some n
found_self x n = ap (λ b. cond b (Some n) None) ((bytes_eq-Decides x x).1 refl)

find_lookup : (x : Word) (es : List (Bor Word × ℕ)) → find x (keyed es) ≡ lookup (key_is x) es
find_lookup x es = find_see (λ v. v) x es ∙ lookup_map (lookup (key_is x) es)

pub number_known : (es : List (Bor Word × ℕ)) (x : Word) (n : ℕ) → is_some (lookup (key_is x) es) ≡ true → keyed es ≡ with_first (keyed es) x n
number_known es x n e = sym (ap (λ b. cond b (keyed es) (keyed es ++ (x, n) ∷ [])) (ap is_some (find_lookup x es) ∙ e))

pub number_new : (es new : List (Bor Word × ℕ)) (k : Bor Word) (n : ℕ) → lookup (key_is k.now) es ≡ None → new ≡ es ++ (k, n) ∷ [] → keyed new ≡ with_first (keyed es) k.now n
number_new es new k n e f =
    ap (λ (l : List (Bor Word × ℕ)). keyed l) f ∙ see_push (λ v. v) es k n ∙ sym (ap (λ b. cond b (keyed es) (keyed es ++ (k.now, n) ∷ [])) (ap is_some (find_lookup k.now es ∙ e)))

pub not_known : {X : Type 0} (o : Option X) → is_some o ≡ false → o ≡ None
not_known o e = none_is o e

keyed_front : (old : List (Bor Word × ℕ)) (ns : List (Word × ℕ)) (e : Word × ℕ) → keyed old ≡ ns ++ e ∷ [] → keyed (take (length old - 1) old) ≡ ns
keyed_front old ns e h =
    let n : length old - 1 ≡ length ns = omega (arith, length-map {B = Word × ℕ} old (λ e. (e.0.now, e.1)), ap length h, length-append ns (e ∷ [])) in
    sym (take-map (λ (e : Bor Word × ℕ). (e.0.now, e.1)) (length old - 1) old) ∙ ap (take (length old - 1)) h ∙ ap (λ m. take m (ns ++ e ∷ [])) n ∙ take-append_seam ns (e ∷ [])

forget_by : (old : List (Bor Word × ℕ)) (x : Word) (n : ℕ) (ns : List (Word × ℕ)) (b : Bool) → is_some (find x ns) ≡ b → keyed old ≡ cond b ns (ns ++ (x, n) ∷ []) → find x ns ≢ Some n → find x (keyed old) ≡ Some n → keyed (take (length old - 1) old) ≡ ns
forget_by old x n ns true s e h f = absurd (h (sym (ap (find x) e) ∙ f))
forget_by old x n ns false s e h f = keyed_front old ns (x, n) e

keep_by : (old : List (Bor Word × ℕ)) (x : Word) (n : ℕ) (ns : List (Word × ℕ)) (b : Bool) → is_some (find x ns) ≡ b → keyed old ≡ cond b ns (ns ++ (x, n) ∷ []) → find x (keyed old) ≢ Some n → keyed old ≡ ns
keep_by old x n ns true s e f = e
keep_by old x n ns false s e f = absurd (f (ap (find x) e ∙ find_both x ns ((x, n) ∷ []) ∙ ap (λ o. or_else o (find x ((x, n) ∷ []))) (none_is (find x ns) s) ∙ found_self x n))

not_last : (x : Word) (ks : List Word) → find x (firsts ks) ≢ Some (length ks)
not_last x ks e = let h = place_below 0 x ks (length ks) (sym (firsts_find x [] 0 ks) ∙ e) in absurd (omega (arith, h.1))

last_numbered : (old : List (Bor Word × ℕ)) (x : Word) (ks : List Word) → keyed old ≡ firsts (ks ++ x ∷ []) → keyed old ≡ with_first (firsts ks) x (length ks)
last_numbered old x ks e = e ∙ firsts_pushed ks x

pub forget : (old new : List (Bor Word × ℕ)) (x : Word) (n : ℕ) (ks : List Word) → keyed old ≡ firsts (ks ++ x ∷ []) → n ≡ length ks → lookup (key_is x) old ≡ Some n → new ≡ take (length old - 1) old → keyed new ≡ firsts ks
forget old new x n ks e m f g =
    ap (λ (l : List (Bor Word × ℕ)). keyed l) g ∙ forget_by old x (length ks) (firsts ks) (is_some (find x (firsts ks))) refl (last_numbered old x ks e) (not_last x ks) (find_lookup x old ∙ f ∙ ap Some m)

pub keep : (old : List (Bor Word × ℕ)) (x : Word) (n : ℕ) (ks : List Word) → keyed old ≡ firsts (ks ++ x ∷ []) → n ≡ length ks → lookup (key_is x) old ≢ Some n → keyed old ≡ firsts ks
keep old x n ks e m f =
    keep_by old x (length ks) (firsts ks) (is_some (find x (firsts ks))) refl (last_numbered old x ks e) (λ h. f (sym (find_lookup x old) ∙ h ∙ sym (ap Some m)))

pub unlike_none : {X : Type 0} (o : Option X) (a : X) → o ≡ None → o ≢ Some a
unlike_none o a e = λ h. absurd cc

pub unlike_some : (o : Option ℕ) (a b : ℕ) → o ≡ Some a → a ≢ b → o ≢ Some b
unlike_some o a b e n = λ h. n cc

pub same_it : {X : Type 0} (n : ℕ) {e d : Bor Word × X} → e ≡ d → ◌≡◌ {A = Option (Found X)} (Some (record { number = n; it = e.1 })) (Some (record { number = n; it = d.1 }))
same_it n p = ap (λ e. Some (record { number = n; it = e.1 })) p

pub cut_keyed : {X : Type 0} (old new : List (Bor Word × X)) (n : ℕ) → take n new ≡ take n old → length new ≤ n → keyed new ≡ take n (keyed old)
cut_keyed {X = X} old new n e h =
    ap (λ (l : List (Bor Word × X)). keyed l) (sym (take_all n new h) ∙ e) ∙ sym (take-map {Y = Word × X} (λ e. (e.0.now, e.1)) n old)
