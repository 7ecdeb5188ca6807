-- A text of a document is read as the document.
use Rattle.std.proofs.Common.{◌≡◌, ◌≤◌, suc, Bool, true, false, List, [], ◌∷◌, ◌++◌, max, Some, option_map, option_and_then, refl, sym, ap, ap₂, subst, ◌∙◌, arith, append_assoc, append-nil}
use Rattle.std.specs.Prelude.{codes, fold}
use Rattle.json.specs.Token.{Token}
use Rattle.json.specs.Lex.{tokens}
use Rattle.json.specs.Print.{print, print_from, quoted, ends, ArePrintableOrBad}
use Rattle.json.specs.Json as json
use Rattle.json.specs.Tree as tree
use Rattle.json.specs.Tree.{json_tokens, items_tokens, members_tokens, HasNumbers, ItemsHaveNumbers, MembersHaveNumbers}
use Rattle.json.proofs.Numbered.{ArePrintableOrBad-tokens}
use Rattle.json.proofs.Printed.Tokens.{tokens-print, print_from-append}
use Rattle.json.proofs.Printed.Trees.{ArePrintable-json_tokens}
use Rattle.json.proofs.Printed.Decimals.{IsNumber-decimal}
use Rattle.serde_json.specs.Data.{Data, number, Members, no_members, member, object, put, depth}
use Rattle.serde_json.specs.Read.{read, max_depth, of_json, of_members}
use Rattle.serde_json.specs.Written.{outline, compact_text}
use Rattle.serde_json.proofs.Numbers.{number_of-decimal}
use Rattle.serde_json.proofs.Texts.{print-outline}
use Rattle.flow_labels.specs.TwoLists.{Text}
use Rattle.world_save_terms.specs.Compact.{IsCompact}
use Rattle.world_save_terms.specs.Document.{Parts, document, list_data, version_data, member_text, text_of}
use Rattle.world_save_files.proofs.CompactLengths.{blank_deep, outline_deep, json_whole}
use Rattle.world_save_laws.specs.Plain.{IsPlain, SpelledDocumentsAreRead}

-- ---- what tokens of a text say of numbers

left_printable : (ts us : List Token) → ArePrintableOrBad (ts ++ us) → ArePrintableOrBad ts
left_printable [] us h = tt
left_printable (t ∷ ts) us h = (h.0, left_printable ts us h.1)

right_printable : (ts us : List Token) → ArePrintableOrBad (ts ++ us) → ArePrintableOrBad us
right_printable [] us h = h
right_printable (t ∷ ts) us h = right_printable ts us h.1

mutual
  numbers_of : (j : json.Json) → ArePrintableOrBad (json_tokens j) → HasNumbers j
  numbers_of (json.number s) h = h.0
  numbers_of (json.array js) h = items_numbers js h.1
  numbers_of (json.object ms) h = members_numbers ms h.1
  numbers_of j h = tt

  items_numbers : (js : json.Items) → ArePrintableOrBad (items_tokens js) → ItemsHaveNumbers js
  items_numbers json.no_items h = tt
  items_numbers (json.item j js) h = (numbers_of j (left_printable (json_tokens j) (items_tokens js) h), items_numbers js (right_printable (json_tokens j) (items_tokens js) h))

  members_numbers : (ms : json.Members) → ArePrintableOrBad (members_tokens ms) → MembersHaveNumbers ms
  members_numbers json.no_members h = tt
  members_numbers (json.member k j ms) h = (numbers_of j (left_printable (json_tokens j) (members_tokens ms) h.1), members_numbers ms (right_printable (json_tokens j) (members_tokens ms) h.1))

-- ---- a text that is printed for JSON

-- the text is that of JSON with numbers, which reads as the data
record IsPrinted (d : Data) (text : Text) : Type 0 where
  j : json.Json
  text_is : print (json_tokens j) ≡ text
  reads : of_json j ≡ Some d
  numbers : HasNumbers j
  deep : tree.depth j ≡ depth d

plain_printed : (d : Data) → IsPlain d → IsPrinted d (compact_text d)
plain_printed d p = record { j = outline d; text_is = print-outline d; reads = p.reads; numbers = p.numbers; deep = outline_deep d }

compact_printed : (d : Data) (text : Text) → IsCompact d text → depth d ≤ max_depth → IsPrinted d text
compact_printed d text c shallow =
    let o = c.ordered in
    let deep : tree.depth o.0 ≡ depth d = sym (blank_deep o.0) ∙ ap tree.depth o.2 ∙ outline_deep d in
    record {
      j = o.0;
      text_is = sym (c.compact ∙ ap print o.1);
      reads = sym (json_whole text o.0 o.1 (omega arith)) ∙ c.reads_back shallow;
      numbers = numbers_of o.0 (subst ArePrintableOrBad o.1 (ArePrintableOrBad-tokens text));
      deep = deep;
    }

-- ---- members

-- the tokens of a value leave a value just ended
mutual
  ended : (c : Bool) (j : json.Json) (ts : List Token) → fold (λ _ (u : Token). ends u) c (json_tokens j ++ ts) ≡ fold (λ _ (u : Token). ends u) true ts
  ended c (json.array js) ts = items_ended false js ts
  ended c (json.object ms) ts = members_ended false ms ts
  ended c j ts = refl

  items_ended : (c : Bool) (js : json.Items) (ts : List Token) → fold (λ _ (u : Token). ends u) c (items_tokens js ++ ts) ≡ fold (λ _ (u : Token). ends u) true ts
  items_ended c json.no_items ts = refl
  items_ended c (json.item j js) ts = ap (fold (λ _ (u : Token). ends u) c) (append_assoc (json_tokens j) (items_tokens js) ts) ∙ ended c j (items_tokens js ++ ts) ∙ items_ended true js ts

  members_ended : (c : Bool) (ms : json.Members) (ts : List Token) → fold (λ _ (u : Token). ends u) c (members_tokens ms ++ ts) ≡ fold (λ _ (u : Token). ends u) true ts
  members_ended c json.no_members ts = refl
  members_ended c (json.member k j ms) ts = ap (fold (λ _ (u : Token). ends u) false) (append_assoc (json_tokens j) (members_tokens ms) ts) ∙ ended false j (members_tokens ms ++ ts) ∙ members_ended true ms ts

value_printed : (j : json.Json) (ts : List Token) → print_from false (json_tokens j ++ ts) ≡ print (json_tokens j) ++ print_from true ts
value_printed j ts =
    let left : fold (λ _ (u : Token). ends u) false (json_tokens j) ≡ true = ap (fold (λ _ (u : Token). ends u) false) (sym (append-nil (json_tokens j))) ∙ ended false j [] in
    print_from-append false (json_tokens j) ts ∙ ap (λ b. print (json_tokens j) ++ print_from b ts) left

member_printed : (later : Bool) (k : Text) (j : json.Json) (ms : json.Members) (value rest : Text) → print (json_tokens j) ≡ value → print_from true (members_tokens ms) ≡ rest → print_from later (members_tokens (json.member k j ms)) ≡ member_text later k value rest
unfolding print_from
member_printed true k j ms value rest e f =
    ap (λ s. 44 ∷ ((quoted k ++ 58 ∷ []) ++ s)) (value_printed j (members_tokens ms) ∙ ap₂ (λ (a b : Text). a ++ b) e f) ∙ ap (λ s. 44 ∷ s) (append_assoc (quoted k) (58 ∷ []) (value ++ rest))
member_printed false k j ms value rest e f =
    ap (λ s. (quoted k ++ 58 ∷ []) ++ s) (value_printed j (members_tokens ms) ∙ ap₂ (λ (a b : Text). a ++ b) e f) ∙ append_assoc (quoted k) (58 ∷ []) (value ++ rest)

-- ---- the document

module _ (p : Parts) (pipes threads : Text) (c : IsPrinted (list_data p.counts) (compact_text (list_data p.counts))) (g : IsPrinted (list_data p.tags) (compact_text (list_data p.tags))) (t : IsPrinted (list_data p.tree) (compact_text (list_data p.tree))) (q : IsPrinted p.pipes pipes) (h : IsPrinted p.threads threads) where
  -- the members from each on
  abbrev from_version : json.Members
  from_version = json.member (codes "version") (outline version_data) json.no_members

  abbrev from_tree : json.Members
  from_tree = json.member (codes "tree") t.j from_version

  abbrev from_threads : json.Members
  from_threads = json.member (codes "threads") h.j from_tree

  abbrev from_tags : json.Members
  from_tags = json.member (codes "tags") g.j from_threads

  abbrev from_pipes : json.Members
  from_pipes = json.member (codes "pipes") q.j from_tags

  abbrev members : json.Members
  members = json.member (codes "counts") c.j from_pipes

  last_printed : print_from true (members_tokens json.no_members) ≡ 125 ∷ []
  unfolding print_from
  last_printed = refl

  -- the texts from each on
  abbrev version_on : Text
  version_on = member_text true (codes "version") (compact_text version_data) (125 ∷ [])

  abbrev tree_on : Text
  tree_on = member_text true (codes "tree") (compact_text (list_data p.tree)) version_on

  abbrev threads_on : Text
  threads_on = member_text true (codes "threads") threads tree_on

  abbrev tags_on : Text
  tags_on = member_text true (codes "tags") (compact_text (list_data p.tags)) threads_on

  abbrev pipes_on : Text
  pipes_on = member_text true (codes "pipes") pipes tags_on

  members_printed : print_from false (members_tokens members) ≡ member_text false (codes "counts") (compact_text (list_data p.counts)) pipes_on
  members_printed =
      member_printed false (codes "counts") c.j from_pipes (compact_text (list_data p.counts)) pipes_on c.text_is
      (member_printed true (codes "pipes") q.j from_tags pipes tags_on q.text_is
      (member_printed true (codes "tags") g.j from_threads (compact_text (list_data p.tags)) threads_on g.text_is
      (member_printed true (codes "threads") h.j from_tree threads tree_on h.text_is
      (member_printed true (codes "tree") t.j from_version (compact_text (list_data p.tree)) version_on t.text_is
      (member_printed true (codes "version") (outline version_data) json.no_members (compact_text version_data) (125 ∷ []) (print-outline version_data) last_printed)))))

  document_printed : print (json_tokens (json.object members)) ≡ text_of p pipes threads
  unfolding print_from
  document_printed = ap (λ s. 123 ∷ s) members_printed

  read_member : (k : Text) (j : json.Json) (d : Data) (ms : json.Members) (old : Members) → of_json j ≡ Some d → of_members (json.member k j ms) old ≡ of_members ms (put k d old)
  read_member k j d ms old e = ap (option_and_then (λ x. of_members ms (put k x old))) e

  version_read : of_json (outline version_data) ≡ Some version_data
  version_read = ap (option_map number) (number_of-decimal 3 (omega arith))

  -- the members up to each
  abbrev to_counts : Members
  to_counts = put (codes "counts") (list_data p.counts) no_members

  abbrev to_pipes : Members
  to_pipes = put (codes "pipes") p.pipes to_counts

  abbrev to_tags : Members
  to_tags = put (codes "tags") (list_data p.tags) to_pipes

  abbrev to_threads : Members
  to_threads = put (codes "threads") p.threads to_tags

  abbrev to_tree : Members
  to_tree = put (codes "tree") (list_data p.tree) to_threads

  members_read : of_json (json.object members) ≡ Some (document p)
  members_read =
      ap (option_map object)
      (read_member (codes "counts") c.j (list_data p.counts) from_pipes no_members c.reads
      ∙ read_member (codes "pipes") q.j p.pipes from_tags to_counts q.reads
      ∙ read_member (codes "tags") g.j (list_data p.tags) from_threads to_pipes g.reads
      ∙ read_member (codes "threads") h.j p.threads from_tree to_tags h.reads
      ∙ read_member (codes "tree") t.j (list_data p.tree) from_version to_threads t.reads
      ∙ read_member (codes "version") (outline version_data) version_data json.no_members to_tree version_read)

  members_numbered : HasNumbers (json.object members)
  members_numbered = (c.numbers, (q.numbers, (g.numbers, (h.numbers, (t.numbers, (IsNumber-decimal 3 (omega arith), tt))))))

  members_deep : tree.depth (json.object members) ≡ depth (document p)
  members_deep = ap suc (ap₂ max c.deep (ap₂ max q.deep (ap₂ max g.deep (ap₂ max h.deep (ap₂ max t.deep refl)))))

  document_read : depth (document p) ≤ max_depth → read (text_of p pipes threads) ≡ Some (document p)
  document_read shallow =
      let same : tokens (text_of p pipes threads) ≡ json_tokens (json.object members) = ap tokens (sym document_printed) ∙ tokens-print (json_tokens (json.object members)) (ArePrintable-json_tokens (json.object members) members_numbered) in
      let deep = members_deep in
      json_whole (text_of p pipes threads) (json.object members) same (omega arith) ∙ members_read

pub text_read : SpelledDocumentsAreRead
text_read p text s r =
    let shallow = r.shallow in
    let q = compact_printed p.pipes s.pipes s.pipes_are (omega arith) in
    let h = compact_printed p.threads s.threads s.threads_are (omega arith) in
    ap read s.text_is ∙ document_read p s.pipes s.threads (plain_printed (list_data p.counts) r.counts) (plain_printed (list_data p.tags) r.tags) (plain_printed (list_data p.tree) r.tree) q h r.shallow
