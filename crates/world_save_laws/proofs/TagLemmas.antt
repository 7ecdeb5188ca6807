-- The tags of a saved world are read with the kinds that make public what is public.
use Rattle.std.proofs.Common.{◌≡◌, ◌<◌, ◌+◌, ℕ, suc, Bool, true, false, cond, List, [], ◌∷◌, ◌++◌, length, Option, Some, None, Ok, is_some, refl, sym, ap, subst, ◌∙◌, arith, append_assoc, append-nil, length-append, le-leb}
use Rattle.std.specs.Prelude.{not, ◌||◌, nat_eq, nat_le, get_or, codes, if◌then◌else◌}
use Rattle.std.specs.List.{AllByRecursion, list_any}
use Rattle.std.specs.FinSet.{contains-from_list_nat}
use Rattle.std.proofs.lemmas.Bool.Decides.{nat_tests}
use Rattle.std.proofs.Math.Seq.{take-append_seam}
use Rattle.serde_json.specs.Data.{Data, string, Members, no_members, member}
use Rattle.serde_json.specs.Find.{get_member}
use Rattle.serde_json.specs.Events.{items_len}
use Rattle.serde_json.specs.View.{items_of as data_list}
use Rattle.flow_labels.specs.Names.{AreNames, is_name, place_of}
use Rattle.flow_labels.specs.TwoLists.{Text}
use Rattle.flow_labels.proofs.NameLemmas.{named_at, new_at}
use Rattle.capabilities.specs.declared.Caps.{Caps}
use Rattle.capabilities.specs.declared.kinds.TagKind.{TagKind}
use Rattle.capabilities.specs.declared.kinds.TagKind.TheVariants.{Read, Export, Integrity}
use Rattle.capabilities.specs.Kinds.{adds_freely, drops_freely, places, public_of}
use Rattle.world_doc_terms.specs.declared.version.Version.TheVariants.{Three}
use Rattle.world_doc_terms.specs.Breaks.{Reading, ◌>>=◌, only_if, formed, present}
use Rattle.world_doc_terms.specs.Tags.{FirstTags, no_tags, with_tag, fresh_name, kind_in, with_tag_item, with_tags, few_items, tags_in}
use Rattle.world_save_terms.specs.Document.{kind_at, kind_word, tag_data, tags_from, list_data}
use Rattle.world_save_laws.specs.ListLaws.{tags_list, TagsAreRead}
use Rattle.world_save_laws.proofs.PlainLemmas.{IsFlat, flat_list}

-- ---- one tag

abbrev tag_members : Text → TagKind → Members
tag_members name kind = member (codes "kind") (string (kind_word kind)) (member (codes "name") (string name) no_members)

kind_read : (name : Text) (kind : TagKind) → kind_in (tag_members name kind) ≡ Ok kind
kind_read name Read = refl
kind_read name kind = refl

tag_read : (tags : FirstTags) (name : Text) (kind : TagKind) → is_name name ≡ true → place_of tags.names name ≡ None → with_tag_item Three tags (tag_data name kind) ≡ Ok (with_tag tags name kind)
tag_read tags name kind fine new =
    ap (λ b. formed (codes "name") (only_if b name) >>= λ name. fresh_name tags.names name >>= λ new. kind_in (tag_members name kind) >>= λ kind. Ok (with_tag tags new kind)) fine
    ∙ ap (λ (o : Option ℕ). formed (codes "tags") (only_if (not (is_some o)) name) >>= λ new. kind_in (tag_members name kind) >>= λ kind. Ok (with_tag tags new kind)) new
    ∙ ap (λ (r : Reading TagKind). r >>= λ kind. Ok (with_tag tags name kind)) (kind_read name kind)

-- ---- all tags

abbrev kinds_from : Caps → ℕ → List Text → List TagKind
kinds_from public t [] = []
kinds_from public t (name ∷ names) = kind_at public t ∷ kinds_from public (suc t) names

-- a name among names is one, and none before it is the same
middle : (done : List Text) (name : Text) (rest : List Text) → AreNames (done ++ name ∷ rest) → (is_name name ≡ true) × (place_of done name ≡ None)
middle done name rest h =
    let long : length done < length (done ++ name ∷ rest) = let e = length-append done (name ∷ rest) in omega arith in
    let this = at done in
    let front = take-append_seam done (name ∷ rest) in
    (ap is_name (sym this) ∙ named_at (done ++ name ∷ rest) (length done) name long h, (λ i. place_of (sym front i) (sym this i)) ∙ new_at (done ++ name ∷ rest) (length done) name long h)
  where
    at : (xs : List Text) → get_or (xs ++ name ∷ rest) (length xs) name ≡ name
    at [] = refl
    at (x ∷ xs) = at xs

one_more : (done : List Text) (name : Text) (rest : List Text) → AreNames (done ++ name ∷ rest) → AreNames ((done ++ name ∷ []) ++ rest)
one_more done name rest h = subst AreNames (sym (append_assoc done (name ∷ []) rest)) h

all_read : (public : Caps) (tags : FirstTags) (t : ℕ) (names : List Text) → AreNames (tags.names ++ names) → with_tags Three tags (data_list (tags_from public t names)) ≡ Ok (record { names = tags.names ++ names; kinds = tags.kinds ++ kinds_from public t names })
all_read public tags t [] h = (λ i. Ok (record { names = sym (append-nil tags.names) i; kinds = sym (append-nil tags.kinds) i }))
all_read public tags t (name ∷ names) h =
    let here = middle tags.names name names h in
    ap (λ (r : Reading FirstTags). r >>= λ more. with_tags Three more (data_list (tags_from public (suc t) names))) (tag_read tags name (kind_at public t) here.0 here.1)
    ∙ all_read public (with_tag tags name (kind_at public t)) (suc t) names (one_more tags.names name names h)
    ∙ (λ i. Ok (record { names = append_assoc tags.names (name ∷ []) names i; kinds = append_assoc tags.kinds (kind_at public t ∷ []) (kinds_from public (suc t) names) i }))

-- ---- kinds by what is public

none_later : (test : TagKind → Bool) (t at : ℕ) → t < at → (ks : List TagKind) → list_any (λ y. nat_eq y t) (places test at ks) ≡ false
none_later test t at less [] = refl
none_later test t at less (k ∷ ks) = by (test k) (none_later test t (at + 1) (omega arith) ks)
  where
    apart : nat_eq at t ≡ false
    apart = grind (arith, nat_tests)

    by : (b : Bool) → list_any (λ y. nat_eq y t) (places test (at + 1) ks) ≡ false → list_any (λ y. nat_eq y t) (if b then at ∷ places test (at + 1) ks else places test (at + 1) ks) ≡ false
    by true r = ap (λ c. c || list_any (λ y. nat_eq y t) (places test (at + 1) ks)) apart ∙ r
    by false r = r

has_place : (test : TagKind → Bool) (t at : ℕ) (done : List TagKind) (k : TagKind) (ks : List TagKind) → t ≡ at + length done → list_any (λ y. nat_eq y t) (places test at (done ++ k ∷ ks)) ≡ test k
has_place test t at [] k ks e = by (test k)
  where
    same : nat_eq at t ≡ true
    same = grind (arith, nat_tests)

    by : (b : Bool) → list_any (λ y. nat_eq y t) (if b then at ∷ places test (at + 1) ks else places test (at + 1) ks) ≡ b
    by true = ap (λ c. c || list_any (λ y. nat_eq y t) (places test (at + 1) ks)) same
    by false = none_later test t (at + 1) (omega arith) ks
has_place test t at (d ∷ done) k ks e = by (test d) (has_place test t (at + 1) done k ks (omega arith))
  where
    apart : nat_eq at t ≡ false
    apart = grind (arith, nat_tests)

    by : (b : Bool) → list_any (λ y. nat_eq y t) (places test (at + 1) (done ++ k ∷ ks)) ≡ test k → list_any (λ y. nat_eq y t) (if b then at ∷ places test (at + 1) (done ++ k ∷ ks) else places test (at + 1) (done ++ k ∷ ks)) ≡ test k
    by true r = ap (λ c. c || list_any (λ y. nat_eq y t) (places test (at + 1) (done ++ k ∷ ks))) apart ∙ r
    by false r = r

kind_by : (k : TagKind) → cond (adds_freely k) Export (cond (drops_freely k) Integrity Read) ≡ k
kind_by Read = refl
kind_by k = refl

kind_same : (done : List TagKind) (k : TagKind) (ks : List TagKind) (t : ℕ) → t ≡ length done → kind_at (public_of (done ++ k ∷ ks)) t ≡ k
unfolding public_of
kind_same done k ks t e =
    let adds = contains-from_list_nat (places adds_freely 0 (done ++ k ∷ ks)) t ∙ has_place adds_freely t 0 done k ks (omega arith) in
    let drops = contains-from_list_nat (places drops_freely 0 (done ++ k ∷ ks)) t ∙ has_place drops_freely t 0 done k ks (omega arith) in
    (λ i. cond (adds i) Export (cond (drops i) Integrity Read)) ∙ kind_by k

kinds_same : (done ks : List TagKind) (names : List Text) (t : ℕ) → length names ≡ length ks → t ≡ length done → kinds_from (public_of (done ++ ks)) t names ≡ ks
kinds_same done [] [] t e f = refl
kinds_same done [] (name ∷ names) t e f = absurd (omega arith)
kinds_same done (k ∷ ks) [] t e f = absurd (omega arith)
kinds_same done (k ∷ ks) (name ∷ names) t e f =
    let here = kind_same done k ks t f in
    let long : suc t ≡ length (done ++ k ∷ []) = let l = length-append done (k ∷ []) in omega arith in
    let rest = ap (λ (all : List TagKind). kinds_from (public_of all) (suc t) names) (sym (append_assoc done (k ∷ []) ks)) ∙ kinds_same (done ++ k ∷ []) ks names (suc t) (omega arith) long in
    λ i. here i ∷ rest i

-- ---- the list

as_many : (public : Caps) (t : ℕ) (names : List Text) → items_len (data_list (tags_from public t names)) ≡ length names
as_many public t [] = refl
as_many public t (name ∷ names) = ap suc (as_many public (suc t) names)

tags_flat : (public : Caps) (t : ℕ) (names : List Text) → AllByRecursion IsFlat (tags_from public t names)
tags_flat public t [] = tt
tags_flat public t (name ∷ names) = (record { reads = refl; numbers = (tt, (tt, tt)); flat = omega arith }, tags_flat public (suc t) names)

pub tags_read : TagsAreRead
tags_read tags h = (read, flat_list (tags_list tags) (tags_flat (public_of tags.kinds) 0 tags.names))
  where
    few : nat_le (items_len (data_list (tags_list tags))) 65536 ≡ true
    few = ap (λ n. nat_le n 65536) (as_many (public_of tags.kinds) 0 tags.names) ∙ le-leb (length tags.names) 65536 h.few

    read : (ms : Members) → get_member (codes "tags") ms ≡ Some (list_data (tags_list tags)) → tags_in Three ms ≡ Ok tags
    read ms e =
        ap (λ (o : Option Data). (present (codes "tags") o >>= λ d. formed (codes "tags") (few_items d)) >>= with_tags Three no_tags) e
        ∙ ap (λ b. formed (codes "tags") (only_if b (data_list (tags_list tags))) >>= with_tags Three no_tags) few
        ∙ all_read (public_of tags.kinds) no_tags 0 tags.names h.names
        ∙ ap (λ (ks : List TagKind). Ok (record { names = tags.names; kinds = ks })) (kinds_same [] tags.kinds tags.names 0 (sym h.each) (omega arith))
