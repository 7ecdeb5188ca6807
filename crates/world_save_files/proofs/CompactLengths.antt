-- All texts of a value in the compact form have one length.
use Rattle.std.proofs.Common.{◌≡◌, ◌≤◌, ◌+◌, suc, max, Bool, true, false, cond, List, ◌∷◌, ◌++◌, map, length, Option, Some, None, option_map, option_and_then, unwrap_or, refl, sym, ap, ap₂, ◌∙◌, subst, arith, append_assoc, append-nil, ℕ, []}
use Rattle.std.specs.Prelude.{if◌then◌else◌}
use Rattle.std.specs.List.{All, AllByRecursion}
use Rattle.std.proofs.lemmas.List.{length-append}
use Rattle.std.proofs.lemmas.List.Elements.{recursion_from_All}
use Rattle.json.specs.Token.{Token}
use Rattle.json.specs.Token as token
use Rattle.json.specs.Lex.{tokens}
use Rattle.json.specs.Print.{print, print_from, token_text, separator, begins, ends, quoted}
use Rattle.json.specs.Json as json
use Rattle.json.specs.Json.{if_last}
use Rattle.json.specs.Tree as tree
use Rattle.json.specs.Tree.{json_tokens, items_tokens, members_tokens}
use Rattle.json.proofs.Printed.Trees.{value-json_tokens}
use Rattle.serde_json.specs.Data.{Num, unsigned, negative, float, Data, Items, no_items, item, Members, no_members, member, depth, items_depth, members_depth}
use Rattle.serde_json.specs.Data as data_of
use Rattle.serde_json.specs.Find.{is_float}
use Rattle.serde_json.specs.Read.{number_of, of_json, read, max_depth}
use Rattle.serde_json.specs.Written.{outline, items_outline, members_outline, blank, blank_items, blank_members, comma_if}
use Rattle.shortest_numerals.proofs.OneLength.{shortest_are_one}
use Rattle.world_save_terms.specs.Compact.{IsNumeralOf, IsLaidOut, IsCompact}
use Rattle.world_save_files.specs.Lengths.{CompactLengthsAreOne}
use Rattle.world_save_files.proofs.NumbersTold.{numerals, items_numerals, members_numerals, numbers, told}

-- ---- the length of a numeral that is read as a float

abbrev reads_float : Option Num → Bool
reads_float o = unwrap_or (option_map is_float o) false

abbrev float_bytes : List ℕ → ℕ
float_bytes s = cond (reads_float (number_of s)) (length s) 0

abbrev all_bytes : List (List ℕ) → ℕ
all_bytes [] = 0
all_bytes (s ∷ ss) = float_bytes s + all_bytes ss

bytes_append : (ss ts : List (List ℕ)) → all_bytes (ss ++ ts) ≡ all_bytes ss + all_bytes ts
bytes_append [] ts = omega arith
bytes_append (s ∷ ss) ts = let e = bytes_append ss ts in omega (arith, e)

parted : (s : List ℕ) (b : Bool) → length s ≡ length (if b then [] else s) + cond b (length s) 0
parted s true = omega arith
parted s false = omega arith

-- ---- one token

pub step : (later : Bool) (t : Token) (ts : List Token) → length (print_from later (t ∷ ts)) ≡ length (separator later t) + (length (token_text t) + length (print_from (ends t) ts))
unfolding print_from
step later t ts = length-append (separator later t) _ ∙ ap (λ n. length (separator later t) + n) (length-append (token_text t) _)

pub comma : (later : Bool) (t : Token) → begins t ≡ true → length (separator later t) ≡ length (comma_if later)
comma true t e = ap (λ (b : Bool). length {A = ℕ} (cond b (44 ∷ []) [])) e
comma false t e = refl

pub no_comma : (later : Bool) (t : Token) → begins t ≡ false → length (separator later t) ≡ 0
no_comma true t e = ap (λ (b : Bool). length {A = ℕ} (cond b (44 ∷ []) [])) e
no_comma false t e = refl

-- ---- the length of what is printed: that of the outline, and of the numerals that are read as floats

abbrev mutual
  size : json.Json → ℕ
  size json.null = 4
  size (json.boolean true) = 4
  size (json.boolean false) = 5
  size (json.number s) = length s
  size (json.string s) = length (quoted s)
  size (json.array js) = suc (items_size false js)
  size (json.object ms) = suc (members_size false ms)

  -- with the closing bracket
  items_size : Bool → json.Items → ℕ
  items_size later json.no_items = 1
  items_size later (json.item j js) = length (comma_if later) + (size j + items_size true js)

  members_size : Bool → json.Members → ℕ
  members_size later json.no_members = 1
  members_size later (json.member k j ms) = length (comma_if later) + (length (quoted k) + suc (size j + members_size true ms))

mutual
  value : (later : Bool) (j : json.Json) (ts : List Token) → length (print_from later (json_tokens j ++ ts)) ≡ length (comma_if later) + (size (blank j) + (all_bytes (numerals j) + length (print_from true ts)))
  value later json.null ts = let s = step later token.null ts in let c = comma later token.null refl in omega (arith, s, c)
  value later (json.boolean true) ts = let s = step later (token.boolean true) ts in let c = comma later (token.boolean true) refl in omega (arith, s, c)
  value later (json.boolean false) ts = let s = step later (token.boolean false) ts in let c = comma later (token.boolean false) refl in omega (arith, s, c)
  value later (json.number n) ts = let s = step later (token.number n) ts in let c = comma later (token.number n) refl in let p = parted n (reads_float (number_of n)) in omega (arith, s, c, p)
  value later (json.string t) ts = let s = step later (token.string t) ts in let c = comma later (token.string t) refl in omega (arith, s, c)
  value later (json.array js) ts = let s = step later token.begin_array (items_tokens js ++ ts) in let c = comma later token.begin_array refl in let m = items false js ts in omega (arith, s, c, m)
  value later (json.object ms) ts = let s = step later token.begin_object (members_tokens ms ++ ts) in let c = comma later token.begin_object refl in let m = members false ms ts in omega (arith, s, c, m)

  items : (later : Bool) (js : json.Items) (ts : List Token) → length (print_from later (items_tokens js ++ ts)) ≡ items_size later (blank_items js) + (all_bytes (items_numerals js) + length (print_from true ts))
  items later json.no_items ts = let s = step later token.end_array ts in let c = no_comma later token.end_array refl in omega (arith, s, c)
  items later (json.item j js) ts =
      let e = ap (λ x. length (print_from later x)) (append_assoc (json_tokens j) (items_tokens js) ts) in
      let v = value later j (items_tokens js ++ ts) in
      let r = items true js ts in
      let b = bytes_append (numerals j) (items_numerals js) in
      omega (arith, e, v, r, b)

  members : (later : Bool) (ms : json.Members) (ts : List Token) → length (print_from later (members_tokens ms ++ ts)) ≡ members_size later (blank_members ms) + (all_bytes (members_numerals ms) + length (print_from true ts))
  members later json.no_members ts = let s = step later token.end_object ts in let c = no_comma later token.end_object refl in omega (arith, s, c)
  members later (json.member k j ms) ts =
      let s = step later (token.key k) ((json_tokens j ++ members_tokens ms) ++ ts) in
      let c = comma later (token.key k) refl in
      let q = length-append (quoted k) (58 ∷ []) in
      let e = ap (λ x. length (print_from false x)) (append_assoc (json_tokens j) (members_tokens ms) ts) in
      let v = value false j (members_tokens ms ++ ts) in
      let r = members true ms ts in
      let b = bytes_append (numerals j) (members_numerals ms) in
      omega (arith, s, c, q, e, v, r, b)

-- ---- numerals of the same numbers

abbrev IsLaid : List ℕ → Type 0
IsLaid s = IsLaidOut (token.number s)

same_float : (s t : List ℕ) (o : Option Num) → number_of s ≡ o → number_of t ≡ o → IsLaid s → IsLaid t → cond (reads_float o) (length s) 0 ≡ cond (reads_float o) (length t) 0
unfolding IsNumeralOf
same_float s t None e f a b = refl
same_float s t (Some (unsigned n)) e f a b = refl
same_float s t (Some (negative z)) e f a b = refl
same_float s t (Some (float x)) e f a b = shortest_are_one x s t (a x e).2 (b x f).2

same_bytes : (s t : List ℕ) → number_of s ≡ number_of t → IsLaid s → IsLaid t → float_bytes s ≡ float_bytes t
same_bytes s t e a b = same_float s t (number_of s) refl (sym e) a b ∙ ap (λ o. cond (reads_float o) (length t) 0) e

first_is : (x y : Option Num) (xs ys : List (Option Num)) → x ∷ xs ≡ y ∷ ys → (x ≡ y) × (xs ≡ ys)
first_is x y xs ys e = (cc, cc)

all_same : (ss ts : List (List ℕ)) → map number_of ss ≡ map number_of ts → AllByRecursion IsLaid ss → AllByRecursion IsLaid ts → all_bytes ss ≡ all_bytes ts
all_same [] [] e a b = refl
all_same [] (t ∷ ts) e a b = absurd cc
all_same (s ∷ ss) [] e a b = absurd cc
all_same (s ∷ ss) (t ∷ ts) e a b =
    let parts = first_is (number_of s) (number_of t) (map number_of ss) (map number_of ts) e in
    ap₂ (λ (m n : ℕ). m + n) (same_bytes s t parts.0 a.0 b.0) (all_same ss ts parts.1 a.1 b.1)

-- ---- the numerals of a text are laid out

pub left : (ts us : List Token) → AllByRecursion IsLaidOut (ts ++ us) → AllByRecursion IsLaidOut ts
left [] us h = tt
left (t ∷ ts) us h = (h.0, left ts us h.1)

pub right : (ts us : List Token) → AllByRecursion IsLaidOut (ts ++ us) → AllByRecursion IsLaidOut us
right [] us h = h
right (t ∷ ts) us h = right ts us h.1

both : (ss ts : List (List ℕ)) → AllByRecursion IsLaid ss → AllByRecursion IsLaid ts → AllByRecursion IsLaid (ss ++ ts)
both [] ts a b = b
both (s ∷ ss) ts a b = (a.0, both ss ts a.1 b)

mutual
  laid : (j : json.Json) → AllByRecursion IsLaidOut (json_tokens j) → AllByRecursion IsLaid (numerals j)
  laid json.null h = tt
  laid (json.boolean b) h = tt
  laid (json.number s) h = h
  laid (json.string s) h = tt
  laid (json.array js) h = items_laid js h.1
  laid (json.object ms) h = members_laid ms h.1

  items_laid : (js : json.Items) → AllByRecursion IsLaidOut (items_tokens js) → AllByRecursion IsLaid (items_numerals js)
  items_laid json.no_items h = tt
  items_laid (json.item j js) h = both (numerals j) (items_numerals js) (laid j (left (json_tokens j) (items_tokens js) h)) (items_laid js (right (json_tokens j) (items_tokens js) h))

  members_laid : (ms : json.Members) → AllByRecursion IsLaidOut (members_tokens ms) → AllByRecursion IsLaid (members_numerals ms)
  members_laid json.no_members h = tt
  members_laid (json.member k j ms) h = both (numerals j) (members_numerals ms) (laid j (left (json_tokens j) (members_tokens ms) h.1)) (members_laid ms (right (json_tokens j) (members_tokens ms) h.1))

-- ---- a text's JSON nests as deep as its value

mutual
  pub blank_deep : (j : json.Json) → tree.depth (blank j) ≡ tree.depth j
  blank_deep json.null = refl
  blank_deep (json.boolean b) = refl
  blank_deep (json.number s) = refl
  blank_deep (json.string s) = refl
  blank_deep (json.array js) = let e = blank_items_deep js in omega arith
  blank_deep (json.object ms) = let e = blank_members_deep ms in omega arith

  blank_items_deep : (js : json.Items) → tree.items_depth (blank_items js) ≡ tree.items_depth js
  blank_items_deep json.no_items = refl
  blank_items_deep (json.item j js) = ap₂ max (blank_deep j) (blank_items_deep js)

  blank_members_deep : (ms : json.Members) → tree.members_depth (blank_members ms) ≡ tree.members_depth ms
  blank_members_deep json.no_members = refl
  blank_members_deep (json.member k j ms) = ap₂ max (blank_deep j) (blank_members_deep ms)

mutual
  pub outline_deep : (d : Data) → tree.depth (outline d) ≡ depth d
  outline_deep data_of.null = refl
  outline_deep (data_of.boolean b) = refl
  outline_deep (data_of.number n) = refl
  outline_deep (data_of.string s) = refl
  outline_deep (data_of.array ds) = let e = outline_items_deep ds in omega arith
  outline_deep (data_of.object ms) = let e = outline_members_deep ms in omega arith

  outline_items_deep : (ds : Items) → tree.items_depth (items_outline ds) ≡ items_depth ds
  outline_items_deep no_items = refl
  outline_items_deep (item d ds) = ap₂ max (outline_deep d) (outline_items_deep ds)

  outline_members_deep : (ms : Members) → tree.members_depth (members_outline ms) ≡ members_depth ms
  outline_members_deep no_members = refl
  outline_members_deep (member k d ms) = ap₂ max (outline_deep d) (outline_members_deep ms)

abbrev whole : Option (json.Json × List Token) → Option Data
whole o = option_and_then of_json (option_and_then (λ p. if_last p.0 p.1) o)

-- tokens of JSON are read as what the JSON is
pub json_whole : (text : List ℕ) (j : json.Json) → tokens text ≡ json_tokens j → tree.depth j ≤ max_depth → read text ≡ of_json j
json_whole text j same shallow = ap whole (ap (json.value max_depth) (same ∙ sym (append-nil (json_tokens j))) ∙ value-json_tokens j max_depth [] shallow)

-- ---- the law

module _ (d : Data) (shallow : depth d ≤ max_depth) (text : List ℕ) (c : IsCompact d text) where
  reads : of_json c.ordered.0 ≡ Some d
  reads =
      let o = c.ordered in
      let deep : tree.depth o.0 ≡ depth d = sym (blank_deep o.0) ∙ ap tree.depth o.2 ∙ outline_deep d in
      sym (json_whole text o.0 o.1 (omega arith)) ∙ c.reads_back shallow

  its_numbers : map number_of (numerals c.ordered.0) ≡ map Some (numbers d)
  its_numbers = told c.ordered.0 d reads c.ordered.2

  its_numerals : AllByRecursion IsLaid (numerals c.ordered.0)
  its_numerals = laid c.ordered.0 (recursion_from_All IsLaidOut (json_tokens c.ordered.0) (subst (λ ts. All IsLaidOut ts) c.ordered.1 c.laid_out))

  its_length : length text ≡ size (outline d) + all_bytes (numerals c.ordered.0)
  unfolding print_from
  its_length =
      let o = c.ordered in
      let v = value false o.0 [] in
      let e = ap length (c.compact ∙ ap print (o.1 ∙ sym (append-nil (json_tokens o.0)))) in
      let m = ap size o.2 in
      omega (arith, v, e, m)

pub lengths_are_one : CompactLengthsAreOne
lengths_are_one d text other shallow c k =
    let same = all_same (numerals c.ordered.0) (numerals k.ordered.0) (its_numbers d shallow text c ∙ sym (its_numbers d shallow other k)) (its_numerals d shallow text c) (its_numerals d shallow other k) in
    let a = its_length d shallow text c in
    let b = its_length d shallow other k in
    omega (arith, same, a, b)
