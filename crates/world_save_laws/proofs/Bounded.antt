-- A text of a value in the compact form has no more bytes than are counted of the value.
use Rattle.std.proofs.Common.{◌≡◌, ◌≤◌, ◌+◌, ℕ, max, Bool, true, false, List, [], ◌∷◌, ◌++◌, length, Option, Some, option_map, unwrap_or, refl, sym, ap, ◌∙◌, subst, arith, append_assoc, append-nil}
use Rattle.std.specs.Prelude.{if◌then◌else◌}
use Rattle.std.specs.List.{All, AllByRecursion}
use Rattle.std.proofs.lemmas.List.{length-append}
use Rattle.std.proofs.lemmas.List.Elements.{recursion_from_All}
use Rattle.json.specs.Token.{Token}
use Rattle.json.specs.Token as token
use Rattle.json.specs.Print.{print, print_from, quoted}
use Rattle.json.specs.Json as json
use Rattle.json.specs.Tree.{json_tokens, items_tokens, members_tokens}
use Rattle.serde_json.specs.Data.{Num, float}
use Rattle.serde_json.specs.Find.{is_float}
use Rattle.serde_json.specs.Read.{number_of}
use Rattle.serde_json.specs.Written.{blank, blank_items, blank_members, unless_float, comma_if}
use Rattle.world_save_terms.specs.Compact.{most_number, IsNumeralOf, IsLaidOut}
use Rattle.world_save_files.proofs.CompactLengths.{step, comma, no_comma, left, right}
use Rattle.world_save_files.proofs.DocumentLengths.{text_length}
use Rattle.world_save_laws.specs.Longest.{most_json, most_items, most_members, TextsAreBounded, SpelledTextsAreBounded}

-- ---- numbers

number_bound : (s : List ℕ) (o : Option Num) → number_of s ≡ o → IsLaidOut (token.number s) → length s ≤ max most_number (length (if unwrap_or (option_map is_float o) false then [] else s))
unfolding IsNumeralOf
number_bound s (Some (float x)) e laid = let short = (laid x e).1 in omega (arith, short)
number_bound s o e laid = omega arith

number_short : (s : List ℕ) → IsLaidOut (token.number s) → length s ≤ max most_number (length (unless_float s))
number_short s laid = number_bound s (number_of s) refl laid

-- ---- values

mutual
  value : (later : Bool) (j : json.Json) (ts : List Token) → AllByRecursion IsLaidOut (json_tokens j) → length (print_from later (json_tokens j ++ ts)) ≤ length (comma_if later) + (most_json (blank j) + length (print_from true ts))
  value later json.null ts l = let s = step later token.null ts in let c = comma later token.null refl in omega (arith, s, c)
  value later (json.boolean true) ts l = let s = step later (token.boolean true) ts in let c = comma later (token.boolean true) refl in omega (arith, s, c)
  value later (json.boolean false) ts l = let s = step later (token.boolean false) ts in let c = comma later (token.boolean false) refl in omega (arith, s, c)
  value later (json.number n) ts l = let s = step later (token.number n) ts in let c = comma later (token.number n) refl in let m = number_short n l.0 in omega (arith, s, c, m)
  value later (json.string t) ts l = let s = step later (token.string t) ts in let c = comma later (token.string t) refl in omega (arith, s, c)
  value later (json.array js) ts l = let s = step later token.begin_array (items_tokens js ++ ts) in let c = comma later token.begin_array refl in let m = items false js ts l.1 in omega (arith, s, c, m)
  value later (json.object ms) ts l = let s = step later token.begin_object (members_tokens ms ++ ts) in let c = comma later token.begin_object refl in let m = members false ms ts l.1 in omega (arith, s, c, m)

  items : (later : Bool) (js : json.Items) (ts : List Token) → AllByRecursion IsLaidOut (items_tokens js) → length (print_from later (items_tokens js ++ ts)) ≤ most_items later (blank_items js) + length (print_from true ts)
  items later json.no_items ts l = let s = step later token.end_array ts in let c = no_comma later token.end_array refl in omega (arith, s, c)
  items later (json.item j js) ts l =
      let e = ap (λ x. length (print_from later x)) (append_assoc (json_tokens j) (items_tokens js) ts) in
      let v = value later j (items_tokens js ++ ts) (left (json_tokens j) (items_tokens js) l) in
      let r = items true js ts (right (json_tokens j) (items_tokens js) l) in
      omega (arith, e, v, r)

  members : (later : Bool) (ms : json.Members) (ts : List Token) → AllByRecursion IsLaidOut (members_tokens ms) → length (print_from later (members_tokens ms ++ ts)) ≤ most_members later (blank_members ms) + length (print_from true ts)
  members later json.no_members ts l = let s = step later token.end_object ts in let c = no_comma later token.end_object refl in omega (arith, s, c)
  members later (json.member k j ms) ts l =
      let s = step later (token.key k) ((json_tokens j ++ members_tokens ms) ++ ts) in
      let c = comma later (token.key k) refl in
      let q = length-append (quoted k) (58 ∷ []) in
      let e = ap (λ x. length (print_from false x)) (append_assoc (json_tokens j) (members_tokens ms) ts) in
      let v = value false j (members_tokens ms ++ ts) (left (json_tokens j) (members_tokens ms) l.1) in
      let r = members true ms ts (right (json_tokens j) (members_tokens ms) l.1) in
      omega (arith, s, c, q, e, v, r)

pub texts_bounded : TextsAreBounded
unfolding print_from
texts_bounded d text c =
    let o = c.ordered in
    let laid = recursion_from_All IsLaidOut (json_tokens o.0) (subst (λ ts. All IsLaidOut ts) o.1 c.laid_out) in
    let v = value false o.0 [] laid in
    let e = ap length (c.compact ∙ ap print (o.1 ∙ sym (append-nil (json_tokens o.0)))) in
    let m = ap most_json o.2 in
    omega (arith, v, e, m)

-- ---- documents

pub spelled_bounded : SpelledTextsAreBounded
spelled_bounded p text s =
    let e = ap length s.text_is in
    let l = text_length p s.pipes s.threads in
    let a = texts_bounded p.pipes s.pipes s.pipes_are in
    let b = texts_bounded p.threads s.threads s.threads_are in
    omega (arith, e, l, a, b)
