-- The numbers of JSON that is read as a value are the value's numbers, in order.
use Rattle.std.proofs.Common.{◌≡◌, List, ◌∷◌, ◌++◌, map, Option, Some, None, option_map, option_and_then, refl, sym, ap, ap₂, ◌∙◌, ℕ, []}
use Rattle.std.proofs.lemmas.List.{map-append}
use Rattle.json.specs.Json as json
use Rattle.serde_json.specs.Data.{Num, Data, null, boolean, number, string, array, object, Items, no_items, item, Members, no_members, member}
use Rattle.serde_json.specs.Read.{number_of, of_json, of_items, of_members}
use Rattle.serde_json.specs.Written.{outline, items_outline, members_outline, blank, blank_items, blank_members}
use Rattle.world_save_files.proofs.MembersInOrder.{in_turn, read_in_turn}

-- the texts of the numbers
abbrev mutual
  pub numerals : json.Json → List (List ℕ)
  numerals json.null = []
  numerals (json.boolean b) = []
  numerals (json.number s) = s ∷ []
  numerals (json.string s) = []
  numerals (json.array js) = items_numerals js
  numerals (json.object ms) = members_numerals ms

  pub items_numerals : json.Items → List (List ℕ)
  items_numerals json.no_items = []
  items_numerals (json.item j js) = numerals j ++ items_numerals js

  pub members_numerals : json.Members → List (List ℕ)
  members_numerals json.no_members = []
  members_numerals (json.member k j ms) = numerals j ++ members_numerals ms

abbrev mutual
  pub numbers : Data → List Num
  numbers null = []
  numbers (boolean b) = []
  numbers (number n) = n ∷ []
  numbers (string s) = []
  numbers (array ds) = items_numbers ds
  numbers (object ms) = members_numbers ms

  pub items_numbers : Items → List Num
  items_numbers no_items = []
  items_numbers (item d ds) = numbers d ++ items_numbers ds

  pub members_numbers : Members → List Num
  members_numbers no_members = []
  members_numbers (member k d ms) = numbers d ++ members_numbers ms

-- ---- what is there is one

one_data : (d e : Data) → ◌≡◌ {A = Option Data} (Some d) (Some e) → d ≡ e
one_data d e is = cc

one_items : (ds es : Items) → ◌≡◌ {A = Option Items} (Some ds) (Some es) → ds ≡ es
one_items ds es is = cc

one_members : (ms ns : Members) → ◌≡◌ {A = Option Members} (Some ms) (Some ns) → ms ≡ ns
one_members ms ns is = cc

no_data : {X : Type 0} (d : Data) → ◌≡◌ {A = Option Data} None (Some d) → X
no_data d is = absurd cc

no_items_there : {X : Type 0} (ds : Items) → ◌≡◌ {A = Option Items} None (Some ds) → X
no_items_there ds is = absurd cc

no_members_there : {X : Type 0} (ms : Members) → ◌≡◌ {A = Option Members} None (Some ms) → X
no_members_there ms is = absurd cc

same_items : (js ks : json.Items) → json.array js ≡ json.array ks → js ≡ ks
same_items js ks e = cc

same_members : (ms ns : json.Members) → json.object ms ≡ json.object ns → ms ≡ ns
same_members ms ns e = cc

same_item : (j k : json.Json) (js ks : json.Items) → json.item j js ≡ json.item k ks → (j ≡ k) × (js ≡ ks)
same_item j k js ks e = (cc, cc)

same_member : (a b : List ℕ) (j k : json.Json) (ms ns : json.Members) → json.member a j ms ≡ json.member b k ns → (j ≡ k) × (ms ≡ ns)
same_member a b j k ms ns e = (cc, cc)

-- ---- the numbers are told

abbrev Told : List (List ℕ) → List Num → Type 0
Told ss ns = map number_of ss ≡ map Some ns

both_told : (ss ts : List (List ℕ)) (ns ms : List Num) → Told ss ns → Told ts ms → Told (ss ++ ts) (ns ++ ms)
both_told ss ts ns ms a b = map-append number_of ss ts ∙ ap₂ (λ (x y : List (Option Num)). x ++ y) a b ∙ sym (map-append Some ns ms)

none_told : (d e : Data) → numbers d ≡ [] → Some d ≡ Some e → Told [] (numbers e)
none_told d e none is = ap (map Some) (sym none ∙ ap numbers (one_data d e is))

number_told : (s : List ℕ) (d : Data) (o : Option Num) → number_of s ≡ o → option_map number o ≡ Some d → Told (s ∷ []) (numbers d)
number_told s d None e is = no_data d is
number_told s d (Some n) e is = ap (λ (x : Option Num). x ∷ []) e ∙ ap (λ x. map Some (numbers x)) (one_data (number n) d is)

module _ (js : json.Items) (more : (ds : Items) → of_items js ≡ Some ds → blank_items js ≡ items_outline ds → Told (items_numerals js) (items_numbers ds)) where
  array_told : (d : Data) (o : Option Items) → of_items js ≡ o → option_map array o ≡ Some d → json.array (blank_items js) ≡ outline d → Told (items_numerals js) (numbers d)
  array_told d None e is same = no_data d is
  array_told d (Some ds) e is same =
      let it = one_data (array ds) d is in
      more ds e (same_items (blank_items js) (items_outline ds) (same ∙ ap outline (sym it))) ∙ ap (λ x. map Some (numbers x)) it

  module _ (j : json.Json) (first : (d : Data) → of_json j ≡ Some d → blank j ≡ outline d → Told (numerals j) (numbers d)) where
    abbrev ItemTold : Items → Type 0
    ItemTold es = json.item (blank j) (blank_items js) ≡ items_outline es → Told (numerals j ++ items_numerals js) (items_numbers es)

    item_told : (es : Items) (o : Option Data) (p : Option Items) → of_json j ≡ o → of_items js ≡ p → option_and_then (λ d. option_map (item d) p) o ≡ Some es → ItemTold es
    item_told es None p e f is same = no_items_there es is
    item_told es (Some d) None e f is same = no_items_there es is
    item_told es (Some d) (Some ds) e f is same =
        let it = one_items (item d ds) es is in
        let parts = same_item (blank j) (outline d) (blank_items js) (items_outline ds) (same ∙ ap items_outline (sym it)) in
        both_told (numerals j) (items_numerals js) (numbers d) (items_numbers ds) (first d e parts.0) (more ds f parts.1) ∙ ap (λ x. map Some (items_numbers x)) it

module _ (ms : json.Members) (more : (ds : Members) → in_turn ms ≡ Some ds → blank_members ms ≡ members_outline ds → Told (members_numerals ms) (members_numbers ds)) where
  object_told : (d : Data) (o : Option Members) → of_members ms no_members ≡ o → option_map object o ≡ Some d → json.object (blank_members ms) ≡ outline d → Told (members_numerals ms) (numbers d)
  object_told d None e is same = no_data d is
  object_told d (Some ds) e is same =
      let it = one_data (object ds) d is in
      let parts = same_members (blank_members ms) (members_outline ds) (same ∙ ap outline (sym it)) in
      more ds (read_in_turn ms ds e parts) parts ∙ ap (λ x. map Some (numbers x)) it

  module _ (k : List ℕ) (j : json.Json) (first : (d : Data) → of_json j ≡ Some d → blank j ≡ outline d → Told (numerals j) (numbers d)) where
    abbrev MemberTold : Members → Type 0
    MemberTold es = json.member k (blank j) (blank_members ms) ≡ members_outline es → Told (numerals j ++ members_numerals ms) (members_numbers es)

    member_told : (es : Members) (o : Option Data) (p : Option Members) → of_json j ≡ o → in_turn ms ≡ p → option_and_then (λ d. option_map (member k d) p) o ≡ Some es → MemberTold es
    member_told es None p e f is same = no_members_there es is
    member_told es (Some d) None e f is same = no_members_there es is
    member_told es (Some d) (Some ds) e f is same =
        let it = one_members (member k d ds) es is in
        let parts = same_member k k (blank j) (outline d) (blank_members ms) (members_outline ds) (same ∙ ap members_outline (sym it)) in
        both_told (numerals j) (members_numerals ms) (numbers d) (members_numbers ds) (first d e parts.0) (more ds f parts.1) ∙ ap (λ x. map Some (members_numbers x)) it

mutual
  pub told : (j : json.Json) (d : Data) → of_json j ≡ Some d → blank j ≡ outline d → Told (numerals j) (numbers d)
  told json.null d is same = none_told null d refl is
  told (json.boolean b) d is same = none_told (boolean b) d refl is
  told (json.number s) d is same = number_told s d (number_of s) refl is
  told (json.string s) d is same = none_told (string s) d refl is
  told (json.array js) d is same = array_told js (λ ds. items_told js ds) d (of_items js) refl is same
  told (json.object ms) d is same = object_told ms (λ ds. members_told ms ds) d (of_members ms no_members) refl is same

  items_told : (js : json.Items) (ds : Items) → of_items js ≡ Some ds → blank_items js ≡ items_outline ds → Told (items_numerals js) (items_numbers ds)
  items_told json.no_items ds is same = ap (λ x. map Some (items_numbers x)) (one_items no_items ds is)
  items_told (json.item j js) ds is same = item_told js (λ es. items_told js es) j (λ d. told j d) ds (of_json j) (of_items js) refl refl is same

  members_told : (ms : json.Members) (ds : Members) → in_turn ms ≡ Some ds → blank_members ms ≡ members_outline ds → Told (members_numerals ms) (members_numbers ds)
  members_told json.no_members ds is same = ap (λ x. map Some (members_numbers x)) (one_members no_members ds is)
  members_told (json.member k j ms) ds is same = member_told ms (λ es. members_told ms es) k j (λ d. told j d) ds (of_json j) (in_turn ms) refl refl is same
