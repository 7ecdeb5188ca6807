-- Lists of values, gone through one by one.
use Rattle.std.proofs.Common.{◌≡◌, ℕ, ◌+◌, ◌<◌, true, List, [], ◌∷◌, ◌++◌, length, take, get_or, Option, Some, None, sym, ap, ◌∙◌, refl}
use Rattle.std.specs.Prelude.{◌||◌, is_some}
use Rattle.std.specs.List.{list_any, list_all}
use Rattle.std.proofs.lemmas.List.{take_more, append-nil}
use Rattle.lam_value.specs.declared.values.Value.{Value}
use Rattle.lam_value.specs.declared.values.Value.TheVariants.{Tag}
use Rattle.thread_core_state.specs.Operators.{is_null, some_null, tags_in, tag_before}
use Rattle.thread_core_effects.specs.Reading.{tag_in}
use Rattle.thread_core_effects.specs.Acting.{tag_list}

pub some_null_is : (vs : List Value) → list_any (λ v. is_null v) vs ≡ some_null vs
some_null_is [] = refl
some_null_is (v ∷ vs) = ap (λ b. is_null v || b) (some_null_is vs)

tagged : (t : ℕ) (ts : Option (List ℕ)) → is_some ts ≡ is_some (tag_before (Tag t) ts)
tagged t None = refl
tagged t (Some ts) = refl

pub all_tags_is : (vs : List Value) → list_all (λ v. is_some (tag_in v)) vs ≡ is_some (tags_in vs)
all_tags_is [] = refl
all_tags_is (Tag t ∷ vs) = all_tags_is vs ∙ tagged t (tags_in vs)
all_tags_is (v ∷ vs) = refl

pub tags_are : (vs : List Value) → is_some (tags_in vs) ≡ true → tags_in vs ≡ Some (tag_list vs)
tags_are [] e = refl
tags_are (Tag t ∷ vs) e = ap (tag_before (Tag t)) (tags_are vs (tagged t (tags_in vs) ∙ e))
tags_are (v ∷ vs) e = cc

tag_list_append : (xs ys : List Value) → tag_list (xs ++ ys) ≡ tag_list xs ++ tag_list ys
tag_list_append [] ys = refl
tag_list_append (Tag t ∷ xs) ys = ap (λ ts. t ∷ ts) (tag_list_append xs ys)
tag_list_append (v ∷ xs) ys = tag_list_append xs ys

-- one more value
pub tags_more : (vs : List Value) (i : ℕ) (v : Value) → i < length vs → v ≡ get_or vs i v → tag_list (take (i + 1) vs) ≡ tag_list (take i vs) ++ tag_list (v ∷ [])
tags_more vs i v h e =
    ap tag_list (take_more vs i v h) ∙ (tag_list_append (take i vs) (get_or vs i v ∷ []) ∙ ap (λ x. tag_list (take i vs) ++ tag_list (x ∷ [])) (sym e))

-- a value is a tag, or none
pub tag_or_none : (v : Value) (ts : List ℕ) → (tag_in v ≡ None → ts ++ tag_list (v ∷ []) ≡ ts) × ((t : ℕ) → tag_in v ≡ Some t → ts ++ tag_list (v ∷ []) ≡ ts ++ t ∷ [])
tag_or_none (Tag t) ts = (λ e. cc, λ u e. let f : t ≡ u = cc in ap (λ x. ts ++ x ∷ []) f)
tag_or_none v ts = (λ e. append-nil ts, λ u e. cc)
