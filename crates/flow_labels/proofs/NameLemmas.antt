-- laws of lists of names
use Rattle.std.proofs.lemmas.List.{take_more, length-map, get_or-map}
use Rattle.std.proofs.Common.{◌≡◌, ℕ, ◌+◌, ◌<◌, Bool, true, false, cond, ◌||◌, ◌&&◌, ltb, leb, lit<, List, [], ◌∷◌, ◌++◌, Some, None, map, refl, sym, ap, subst, ◌∙◌, length, take, get_or, zero, suc, arith}
use Rattle.std.specs.BTreeMap.{BTreeMap, get_by_text, is_at}
use Rattle.std.specs.Cmp.Lexicographic.{slice_cmp}
use Rattle.std.specs.Ordering.{nat_cmp}
use Rattle.std.specs.Map.{lookup, update}
use Rattle.std.specs.Str.{bytes_eq, IsUtf8}
use Rattle.std.specs.Prelude.{String, string_bytes}
use Rattle.std.specs.List.{list_all, list_any, position_from}
use Rattle.std.specs.Bool.{Decides}
use Rattle.std.proofs.lemmas.Iterator.Adapters.{position_from-zero}
use Rattle.std.proofs.lemmas.Slice.Eq.{bytes_eq-Decides}
use Rattle.std.proofs.lemmas.Bool.{and_parts, or_parts}
pub use Rattle.std.proofs.lemmas.Bool.{and_parts as and_both}
use Rattle.std.proofs.lemmas.Bool.Decides.{same_from_decides}
use Rattle.std.proofs.lemmas.Str.{IsUtf8-from_ascii}
use Rattle.std.proofs.lemmas.Bool.Decides.{nat_tests}
use Rattle.flow_labels.specs.Names.{is_letter, is_word, is_name, place_of, AreNames, AreKept}

bytes_eq_sym : (xs ys : List ℕ) → bytes_eq xs ys ≡ bytes_eq ys xs
bytes_eq_sym xs ys =
    let there : Decides (bytes_eq xs ys) (xs ≡ ys) = bytes_eq-Decides xs ys in
    let back : Decides (bytes_eq ys xs) (ys ≡ xs) = bytes_eq-Decides ys xs in
    same_from_decides {P = xs ≡ ys} (bytes_eq xs ys) (bytes_eq ys xs) there ((λ e. sym (back.0 e)), (λ e. back.1 (sym e)))

none_passes : (t : List ℕ → Bool) (i : ℕ) (xs : List (List ℕ)) → position_from t i xs ≡ None → list_any t xs ≡ false
none_passes t i [] = λ e. refl
none_passes t i (x ∷ xs) =
    elim (t x) as (λ b. cond b (Some i) (position_from t (i + 1) xs) ≡ None → (b || list_any t xs) ≡ false) [ true ↦ λ e. cc | false ↦ λ e. none_passes t (i + 1) xs e ]

none_after_push : (t : List ℕ → Bool) (xs : List (List ℕ)) (x : List ℕ) → list_any t xs ≡ false → t x ≡ false → list_any t (xs ++ x ∷ []) ≡ false
none_after_push t [] x = λ none no. rw no refl
none_after_push t (y ∷ xs) x =
    elim (t y) as (λ b. (b || list_any t xs) ≡ false → t x ≡ false → (b || list_any t (xs ++ x ∷ [])) ≡ false) [ true ↦ λ e no. cc | false ↦ λ e no. none_after_push t xs x e no ]

push : (ns : List (List ℕ)) (n : List ℕ) → AreNames ns → is_name n ≡ true → list_any (bytes_eq n) ns ≡ false → AreNames (ns ++ n ∷ [])
push [] n all is none = (is, refl, tt)
push (x ∷ ns) n all is none =
    let parts : (bytes_eq n x ≡ false) × (list_any (bytes_eq n) ns ≡ false) = or_parts _ _ none in
    (all.0, none_after_push (bytes_eq x) ns n all.1 (bytes_eq_sym x n ∙ parts.0), push ns n all.2 is parts.1)

pub no_name : (ns : List (List ℕ)) (n : List ℕ) → place_of ns n ≡ None → list_any (bytes_eq n) ns ≡ false
no_name ns n none = none_passes (bytes_eq n) 0 ns (sym (position_from-zero (bytes_eq n) ns) ∙ none)

-- a new name after names
pub AreNames_push : (ns new : List (List ℕ)) (n : List ℕ) → AreNames ns → is_name n ≡ true → place_of ns n ≡ None → new ≡ ns ++ n ∷ [] → AreNames new
AreNames_push ns new n all is none made = rw made (push ns n all is (no_name ns n none))

pub AreNames_same : (ms ns : List (List ℕ)) → ms ≡ ns → AreNames ms → AreNames ns
AreNames_same ms ns e all = subst AreNames e all

map-push : {S : Type 0} (f : S → List ℕ) (ks : List S) (k : S) → map f (ks ++ k ∷ []) ≡ map f ks ++ f k ∷ []
map-push f [] k = refl
map-push f (x ∷ ks) k = ap (λ ns. f x ∷ ns) (map-push f ks k)

-- a text put after others, seen as its bytes
pub texts_push : {S : Type 0} (f : S → List ℕ) (ks new : List S) (k : S) (ns : List (List ℕ)) (n : List ℕ) → map f ks ≡ ns → f k ≡ n → new ≡ ks ++ k ∷ [] → map f new ≡ ns ++ n ∷ []
texts_push f ks new k ns n e same is = ap (map f) is ∙ map-push f ks k ∙ (λ i. e i ++ same i ∷ [])

-- ---- the map of tags
found_last : (t : List ℕ → Bool) (i : ℕ) (ns : List (List ℕ)) (n : List ℕ) → list_any t ns ≡ false → t n ≡ true → position_from t i (ns ++ n ∷ []) ≡ Some (i + length ns)
found_last t i [] n none is = rw is (ap Some (omega arith))
found_last t i (x ∷ ns) n none is =
    let parts : (t x ≡ false) × (list_any t ns ≡ false) = or_parts (t x) (list_any t ns) none in
    rw parts.0 (found_last t (i + 1) ns n parts.1 is ∙ ap Some (omega arith))

found_before : (t : List ℕ → Bool) (i : ℕ) (ns : List (List ℕ)) (n : List ℕ) → t n ≡ false → position_from t i (ns ++ n ∷ []) ≡ position_from t i ns
found_before t i [] n other = rw other refl
found_before t i (x ∷ ns) n other =
    elim (t x) as (λ b. cond b (Some i) (position_from t (i + 1) (ns ++ n ∷ [])) ≡ cond b (Some i) (position_from t (i + 1) ns)) [ true ↦ refl | false ↦ found_before t (i + 1) ns n other ]

-- where texts stand once a new name stands after the others
place_push : (ns : List (List ℕ)) (n text : List ℕ) → place_of ns n ≡ None → cond (bytes_eq n text) (Some (length ns)) (place_of ns text) ≡ place_of (ns ++ n ∷ []) text
place_push ns n text none =
    elim (bytes_eq n text) as (λ b. bytes_eq n text ≡ b → cond b (Some (length ns)) (place_of ns text) ≡ place_of (ns ++ n ∷ []) text) [
      | true ↦ λ e.
          let absent : list_any (bytes_eq text) ns ≡ false = subst (λ (t : List ℕ). list_any (bytes_eq t) ns ≡ false) ((bytes_eq-Decides n text).0 e) (no_name ns n none) in
          ap Some (omega arith) ∙ sym (found_last (bytes_eq text) 0 ns n absent (bytes_eq_sym text n ∙ e)) ∙ sym (position_from-zero (bytes_eq text) (ns ++ n ∷ []))
      | false ↦ λ e.
          position_from-zero (bytes_eq text) ns ∙ sym (found_before (bytes_eq text) 0 ns n (bytes_eq_sym text n ∙ e)) ∙ sym (position_from-zero (bytes_eq text) (ns ++ n ∷ []))
    ] refl

module _ {A : Type 0} where
  -- no names, with a map that has nothing
  pub kept_none : (tags : BTreeMap (String A) ℕ) (ns : List (List ℕ)) → tags.entries ≡ [] → ns ≡ [] → AreKept tags ns
  kept_none tags ns empty none = record {
    named = AreNames_same [] ns (sym none) tt;
    found = λ text. ap (lookup (is_at (λ k. slice_cmp nat_cmp text (string_bytes k)))) empty ∙ ap (λ ms. place_of ms text) (sym none);
  }

  -- a new name, kept after the others
  pub kept_push : (old new : BTreeMap (String A) ℕ) (ns all : List (List ℕ)) (n : List ℕ) (tag : ℕ) → AreKept old ns → is_name n ≡ true → place_of ns n ≡ None → tag ≡ length ns → all ≡ ns ++ n ∷ [] → ((text : List ℕ) → get_by_text new text ≡ update bytes_eq (get_by_text old) n (Some tag) text) → AreKept new all
  kept_push old new ns all n tag kept is none last made put = record {
    named = AreNames_push ns all n kept.named is none made;
    found = λ text. put text ∙ (λ i. cond (bytes_eq n text) (Some (last i)) (kept.found text i)) ∙ place_push ns n text none ∙ ap (λ ms. place_of ms text) (sym made);
  }

  -- the same names, with a map that finds the same
  pub kept_same : (old new : BTreeMap (String A) ℕ) (ms ns : List (List ℕ)) → AreKept old ms → new.entries ≡ old.entries → ns ≡ ms → AreKept new ns
  kept_same old new ms ns kept same e = record {
    named = AreNames_same ms ns (sym e) kept.named;
    found = λ text. ap (lookup (is_at (λ k. slice_cmp nat_cmp text (string_bytes k)))) same ∙ kept.found text ∙ ap (λ ls. place_of ls text) (sym e);
  }

-- ---- copying
any_later : (t : List ℕ → Bool) (xs : List (List ℕ)) (i : ℕ) (d : List ℕ) → i < length xs → list_any t xs ≡ false → t (get_or xs i d) ≡ false
any_later t [] i d less none = absurd (omega arith)
any_later t (x ∷ xs) zero d less none = (or_parts (t x) (list_any t xs) none).0
any_later t (x ∷ xs) (suc i) d less none = any_later t xs i d (omega arith) (or_parts (t x) (list_any t xs) none).1

-- a name that stands later is not among those before it
not_before : (ns : List (List ℕ)) (i : ℕ) (d : List ℕ) → i < length ns → AreNames ns → list_any (bytes_eq (get_or ns i d)) (take i ns) ≡ false
not_before [] i d less all = absurd (omega arith)
not_before (n ∷ ns) zero d less all = refl
not_before (n ∷ ns) (suc i) d less all =
    let here : bytes_eq (get_or ns i d) n ≡ false = bytes_eq_sym (get_or ns i d) n ∙ any_later (bytes_eq n) ns i d (omega arith) all.1 in
    rw here (not_before ns i d (omega arith) all.2)

none_at : (t : List ℕ → Bool) (i : ℕ) (xs : List (List ℕ)) → list_any t xs ≡ false → position_from t i xs ≡ None
none_at t i [] none = refl
none_at t i (x ∷ xs) none =
    let parts : (t x ≡ false) × (list_any t xs ≡ false) = or_parts (t x) (list_any t xs) none in
    rw parts.0 (none_at t (i + 1) xs parts.1)

-- each of the names is one
pub named_at : (ns : List (List ℕ)) (i : ℕ) (d : List ℕ) → i < length ns → AreNames ns → is_name (get_or ns i d) ≡ true
named_at [] i d less all = absurd (omega arith)
named_at (n ∷ ns) zero d less all = all.0
named_at (n ∷ ns) (suc i) d less all = named_at ns i d (omega arith) all.2

-- and does not come before its place
pub new_at : (ns : List (List ℕ)) (i : ℕ) (d : List ℕ) → i < length ns → AreNames ns → place_of (take i ns) (get_or ns i d) ≡ None
new_at ns i d less all = position_from-zero (bytes_eq (get_or ns i d)) (take i ns) ∙ none_at (bytes_eq (get_or ns i d)) 0 (take i ns) (not_before ns i d less all)

-- ---- names are text
word_is_ascii : (b : ℕ) → is_word b ≡ true → b < 128
word_is_ascii b e = grind (arith, nat_tests)

words_are_ascii : (bs : List ℕ) → list_all is_word bs ≡ true → (i : ℕ) → get_or bs i 0 < 128
words_are_ascii [] e i = lit< tt
words_are_ascii (b ∷ bs) e zero = word_is_ascii b (and_parts (is_word b) (list_all is_word bs) e).0
words_are_ascii (b ∷ bs) e (suc i) = words_are_ascii bs (and_parts (is_word b) (list_all is_word bs) e).1 i

pub name_is_words : (n : List ℕ) → is_name n ≡ true → list_all is_word n ≡ true
name_is_words n e =
    let short = and_parts (ltb 0 (length n)) (leb (length n) 32 && (is_letter (get_or n 0 0) && list_all is_word n)) e in
    let letter = and_parts (leb (length n) 32) (is_letter (get_or n 0 0) && list_all is_word n) short.1 in
    (and_parts (is_letter (get_or n 0 0)) (list_all is_word n) letter.1).1

name_is_text : (n : List ℕ) → is_name n ≡ true → IsUtf8 n
name_is_text n e = IsUtf8-from_ascii n (words_are_ascii n (name_is_words n e))

none_of : (ns : List (List ℕ)) (n : List ℕ) → AreNames ns → ¬ IsUtf8 n → list_any (bytes_eq n) ns ≡ false
none_of [] n all plain = refl
none_of (m ∷ ns) n all plain =
    elim (bytes_eq n m) as (λ b. bytes_eq n m ≡ b → (b || list_any (bytes_eq n) ns) ≡ false) [
      | true ↦ λ e. absurd (plain (subst IsUtf8 (sym ((bytes_eq-Decides n m).0 e)) (name_is_text m all.0)))
      | false ↦ λ e. none_of ns n all.2 plain
    ] refl

-- what is no text is no name
pub no_text : (ns : List (List ℕ)) (n : List ℕ) → AreNames ns → ¬ IsUtf8 n → None ≡ place_of ns n
no_text ns n all plain = sym (position_from-zero (bytes_eq n) ns ∙ none_at (bytes_eq n) 0 ns (none_of ns n all plain))

-- ---- going over names one by one
abbrev pub IsNameAt : List (List ℕ) → ℕ → List ℕ → Type 0
IsNameAt ns i text = (i < length ns) × (text ≡ get_or ns i [])

pub name_at : {S : Type 0} (f : S → List ℕ) (ks : List S) (ns : List (List ℕ)) (k : S) (text : List ℕ) (i : ℕ) → map f ks ≡ ns → i < length ks → k ≡ get_or ks i k → text ≡ f k → IsNameAt ns i text
name_at f ks ns k text i e less is same = subst (λ (ms : List (List ℕ)). IsNameAt ms i text) e (rw (length-map ks f) less, same ∙ ap f is ∙ sym (get_or-map f ks i k [] less))

pub is_named : (ns : List (List ℕ)) (i : ℕ) (text : List ℕ) → AreNames ns → IsNameAt ns i text → is_name text ≡ true
is_named ns i text all at = rw at.1 (named_at ns i [] at.0 all)

pub is_new : (ns so_far : List (List ℕ)) (i : ℕ) (text : List ℕ) → AreNames ns → IsNameAt ns i text → so_far ≡ take i ns → place_of so_far text ≡ None
is_new ns so_far i text all at e = rw (e, at.1) (new_at ns i [] at.0 all)

pub one_copied : (ns so_far new : List (List ℕ)) (i : ℕ) (text : List ℕ) → IsNameAt ns i text → so_far ≡ take i ns → new ≡ so_far ++ text ∷ [] → new ≡ take (i + 1) ns
one_copied ns so_far new i text at e made = made ∙ (λ j. e j ++ at.1 j ∷ []) ∙ sym (take_more ns i [] at.0)

found_at : (ns : List (List ℕ)) (i j : ℕ) (d : List ℕ) → i < length ns → AreNames ns → position_from (bytes_eq (get_or ns i d)) j ns ≡ Some (j + i)
found_at [] i j d less all = absurd (omega arith)
found_at (n ∷ ns) zero j d less all = let same : bytes_eq n n ≡ true = (bytes_eq-Decides n n).1 refl in rw same (ap Some (omega arith))
found_at (n ∷ ns) (suc i) j d less all =
    let later : bytes_eq (get_or ns i d) n ≡ false = bytes_eq_sym (get_or ns i d) n ∙ any_later (bytes_eq n) ns i d (omega arith) all.1 in
    rw later (found_at ns i (j + 1) d (omega arith) all.2 ∙ ap Some (omega arith))

-- the name at a place stands at that place
pub place_at : (ns : List (List ℕ)) (i : ℕ) (d : List ℕ) → i < length ns → AreNames ns → place_of ns (get_or ns i d) ≡ Some i
place_at ns i d less all = position_from-zero (bytes_eq (get_or ns i d)) ns ∙ found_at ns i 0 d less all ∙ ap Some (omega arith)
