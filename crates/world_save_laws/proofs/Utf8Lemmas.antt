-- The text of a saved document is UTF-8.
use Rattle.std.proofs.Common.{◌≡◌, ℕ, zero, suc, ◌/◌, ◌%◌, ◌==◌, ◌<◌, Bool, true, false, cond, List, [], ◌∷◌, map, get_or, ◌+◌, Some, None, IsAscii, IsUtf8, decimal, refl, sym, ap, ◌∙◌, subst, arith}
use Rattle.std.specs.Prelude.{codes, not, nat_lt, IsPermutation}
use Rattle.std.specs.Fmt.{digits, digits_onto, digit_glyph}
use Rattle.std.specs.List.{AllByRecursion, list_all, position_from}
use Rattle.std.specs.Str.{is_utf8}
use Rattle.std.proofs.lemmas.Iterator.Adapters.{position_from-zero}
use Rattle.std.proofs.lemmas.List.Elements.{All-from_recursion, recursion_from_All}
use Rattle.std.proofs.lemmas.List.Sorted.{All-permutation}
use Rattle.std.proofs.lemmas.Option.{unwrap_or-slice_get}
use Rattle.std.proofs.lemmas.Str.{IsUtf8-append, IsUtf8-nil, IsUtf8-from_ascii, IsUtf8-from_is_utf8}
use Rattle.std.proofs.lemmas.Str.Ascii.{IsAscii-nil, IsAscii-cons}
use Rattle.std.proofs.lemmas.Bool.Decides.{nat_tests}
use Rattle.json.proofs.Printed.Utf8.{are_ascii, IsUtf8-are_ascii, IsUtf8-quoted, IsUtf8-boolean}
use Rattle.json.specs.Print.{quoted}
use Rattle.serde_json.specs.Data.{Data, null, boolean, number, string, array, object, Items, no_items, item, Members, no_members, member}
use Rattle.serde_json.specs.Written.{number_text, comma_if, compact_text, items_text, members_text}
use Rattle.hex.specs.Hex.{lower_digits}
use Rattle.hex.proofs.HexLemmas.{IsAscii-encode_with}
use Rattle.tag_sets.specs.Tags.{tags_of}
use Rattle.flow_labels.specs.Names.{is_word, AreNames}
use Rattle.flow_labels.specs.TwoLists.{Text, after_commas, joined, braced, tag_text}
use Rattle.flow_labels.specs.LabelText.{label_text}
use Rattle.flow_labels.specs.declared.Label.{Label}
use Rattle.flow_labels.proofs.NameLemmas.{and_both, name_is_words}
use Rattle.capabilities.specs.declared.Caps.{Caps}
use Rattle.capabilities.specs.declared.kinds.TagKind.{TagKind}
use Rattle.capabilities.specs.declared.kinds.TagKind.TheVariants.{Read}
use Rattle.lam_value.specs.declared.names.Name.{Name}
use Rattle.lam_value.specs.Homes.{Home}
use Rattle.labelled_files.specs.declared.directory.EntryKind.{EntryKind}
use Rattle.labelled_files.specs.declared.directory.EntryKind.TheVariants.{File, Dir}
use Rattle.labelled_files.specs.Trees.{Tree, bytes_at}
use Rattle.world_save_terms.specs.Items.{Item, items_of}
use Rattle.world_save_terms.specs.Rows.{Row, row_of}
use Rattle.world_save_terms.specs.Document.{kind_word, kind_at, tags_from, row_data, item_data, place_members, members_by, list_data, version_data, member_text, text_of, parts_of}
use Rattle.world_save_terms.specs.Refusals.{bad_path}

-- ---- pieces of text

put : (b : ℕ) (xs : Text) → b < 128 → IsUtf8 xs → IsUtf8 (b ∷ xs)
put b xs small u = IsUtf8-append (b ∷ []) xs (IsUtf8-from_ascii (b ∷ []) (IsAscii-cons b [] small IsAscii-nil)) u

ascii : (bs : Text) → are_ascii bs ≡ true → IsAscii bs
ascii [] e = IsAscii-nil
ascii (b ∷ bs) e = let p = and_both (nat_lt b 128) (are_ascii bs) e in IsAscii-cons b bs (grind (arith, nat_tests, p.0)) (ascii bs p.1)

either : (b : Bool) (xs ys : Text) → IsAscii xs → IsAscii ys → IsAscii (cond b xs ys)
either true xs ys h k = h
either false xs ys h k = k

glyph : (n : ℕ) → digit_glyph false (n % 10) < 128
glyph n = by (n % 10) (omega arith)
  where
    by : (d : ℕ) → d < 10 → digit_glyph false d < 128
    by d small = grind (arith, nat_tests)

onto : (k n : ℕ) (acc : Text) → IsAscii acc → IsAscii (digits_onto k 10 false n acc)
onto zero n acc h = h
onto (suc k) n acc h =
    let d = digit_glyph false (n % 10) in
    let more = IsAscii-cons d acc (glyph n) h in
    either (n / 10 == 0) (d ∷ acc) (digits_onto k 10 false (n / 10) (d ∷ acc)) more (onto k (n / 10) (d ∷ acc) more)

decimal_ascii : (n : ℕ) → IsAscii (decimal n)
unfolding digits
decimal_ascii n = onto 64 n [] IsAscii-nil

comma : (later : Bool) → IsUtf8 (comma_if later)
comma true = IsUtf8-are_ascii (44 ∷ []) refl
comma false = IsUtf8-nil

-- ---- names and labels

word_small : (b : ℕ) → is_word b ≡ true → b < 128
word_small b e = grind (arith, nat_tests)

words : (bs : Text) → AllByRecursion (λ b. is_word b ≡ true) bs → IsUtf8 bs
words [] h = IsUtf8-nil
words (b ∷ bs) h = put b bs (word_small b h.0) (words bs h.1)

names_utf8 : (names : List Text) → AreNames names → AllByRecursion IsUtf8 names
names_utf8 [] h = tt
names_utf8 (n ∷ names) h = (words n (each n (name_is_words n h.0)), names_utf8 names h.2)
  where
    each : (bs : Text) → list_all is_word bs ≡ true → AllByRecursion (λ b. is_word b ≡ true) bs
    each [] e = tt
    each (b ∷ bs) e = let p = and_both (is_word b) (list_all is_word bs) e in (p.0, each bs p.1)

name_at : (names : List Text) → AllByRecursion IsUtf8 names → (t : ℕ) (d : Text) → IsUtf8 d → IsUtf8 (get_or names t d)
name_at [] h t d u = u
name_at (n ∷ names) h zero d u = h.0
name_at (n ∷ names) h (suc t) d u = name_at names h.1 t d u

module _ (names : List Text) (are : AllByRecursion IsUtf8 names) where
  tag : (t : ℕ) → IsUtf8 (tag_text names t)
  tag t = subst IsUtf8 (sym (unwrap_or-slice_get names t (35 ∷ decimal t))) (name_at names are t (35 ∷ decimal t) (put 35 (decimal t) (omega arith) (IsUtf8-from_ascii (decimal t) (decimal_ascii t))))

  commas : (ts : List ℕ) → IsUtf8 (after_commas (map (tag_text names) ts))
  commas [] = IsUtf8-nil
  commas (t ∷ ts) = put 44 _ (omega arith) (IsUtf8-append (tag_text names t) _ (tag t) (commas ts))

  listed : (ts : List ℕ) → IsUtf8 (joined (map (tag_text names) ts))
  listed [] = IsUtf8-nil
  listed (t ∷ ts) = IsUtf8-append (tag_text names t) _ (tag t) (commas ts)

  within : (ts : List ℕ) (rest : Text) → IsUtf8 rest → IsUtf8 (braced (map (tag_text names) ts) rest)
  within ts rest u = put 123 _ (omega arith) (IsUtf8-append (joined (map (tag_text names) ts)) (125 ∷ rest) (listed ts) (put 125 rest (omega arith) u))

  label : (l : Label) → IsUtf8 (label_text names l)
  label l = within (tags_of l.s) _ (put 47 _ (omega arith) (within (tags_of l.i) [] IsUtf8-nil))

-- ---- values whose names and strings are UTF-8

abbrev mutual
  AreTexts : Data → Type 0
  AreTexts null = Unit {0}
  AreTexts (boolean b) = Unit {0}
  AreTexts (number n) = IsAscii (number_text n)
  AreTexts (string s) = IsUtf8 s
  AreTexts (array ds) = ItemsAreTexts ds
  AreTexts (object ms) = MembersAreTexts ms

  ItemsAreTexts : Items → Type 0
  ItemsAreTexts no_items = Unit {0}
  ItemsAreTexts (item d ds) = AreTexts d × ItemsAreTexts ds

  MembersAreTexts : Members → Type 0
  MembersAreTexts no_members = Unit {0}
  MembersAreTexts (member k d ms) = IsUtf8 k × (AreTexts d × MembersAreTexts ms)

mutual
  value : (d : Data) → AreTexts d → IsUtf8 (compact_text d)
  value null h = IsUtf8-are_ascii _ refl
  value (boolean b) h = IsUtf8-boolean b
  value (number n) h = IsUtf8-from_ascii (number_text n) h
  value (string s) h = IsUtf8-quoted s h
  value (array ds) h = put 91 _ (omega arith) (items false ds h)
  value (object ms) h = put 123 _ (omega arith) (members false ms h)

  items : (later : Bool) (ds : Items) → ItemsAreTexts ds → IsUtf8 (items_text later ds)
  items later no_items h = IsUtf8-are_ascii (93 ∷ []) refl
  items later (item d ds) h = IsUtf8-append (comma_if later) _ (comma later) (IsUtf8-append (compact_text d) _ (value d h.0) (items true ds h.1))

  members : (later : Bool) (ms : Members) → MembersAreTexts ms → IsUtf8 (members_text later ms)
  members later no_members h = IsUtf8-are_ascii (125 ∷ []) refl
  members later (member k d ms) h =
      IsUtf8-append (comma_if later) _ (comma later)
      (IsUtf8-append (quoted k) _ (IsUtf8-quoted k h.0) (put 58 _ (omega arith) (IsUtf8-append (compact_text d) _ (value d h.1.0) (members true ms h.1.1))))

list : (ds : List Data) → AllByRecursion AreTexts ds → AreTexts (list_data ds)
list [] h = tt
list (d ∷ ds) h = (h.0, list ds h.1)

list_utf8 : (ds : List Data) → AllByRecursion AreTexts ds → IsUtf8 (compact_text (list_data ds))
list_utf8 ds h = value (list_data ds) (list ds h)

member_utf8 : (later : Bool) (name value rest : Text) → IsUtf8 name → IsUtf8 value → IsUtf8 rest → IsUtf8 (member_text later name value rest)
member_utf8 later name value rest n v r =
    IsUtf8-append (comma_if later) _ (comma later) (IsUtf8-append (quoted name) _ (IsUtf8-quoted name n) (put 58 _ (omega arith) (IsUtf8-append value rest v r)))

-- ---- the lists of a document

kind_text : (k : TagKind) → IsUtf8 (kind_word k)
kind_text Read = IsUtf8-are_ascii _ refl
kind_text k = IsUtf8-are_ascii _ refl

tags_texts : (public : Caps) (t : ℕ) (names : List Text) → AllByRecursion IsUtf8 names → AllByRecursion AreTexts (tags_from public t names)
tags_texts public t [] h = tt
tags_texts public t (name ∷ names) h =
    ((IsUtf8-are_ascii _ refl, (kind_text (kind_at public t), (IsUtf8-are_ascii _ refl, (h.0, tt)))), tags_texts public (suc t) names h.1)

abbrev IsRowText : Row → Type 0
IsRowText r = IsUtf8 r.maker × IsUtf8 r.own

rows_texts : (rows : List Row) → AllByRecursion IsRowText rows → AllByRecursion AreTexts (map row_data rows)
rows_texts [] h = tt
rows_texts (r ∷ rows) h =
    ((IsUtf8-are_ascii _ refl, (h.0.0, (IsUtf8-are_ascii _ refl, (decimal_ascii r.next, (IsUtf8-are_ascii _ refl, (h.0.1, tt)))))), rows_texts rows h.1)

home_rows : (names : List Text) → AllByRecursion IsUtf8 names → (homes : List (Home × ℕ)) → AllByRecursion IsRowText (map (row_of names) homes)
home_rows names are [] = tt
home_rows names are (h ∷ homes) = ((label names are h.0.maker, label names are h.0.own), home_rows names are homes)

abbrev HasTextPath : Item → Type 0
HasTextPath i = is_utf8 i.path ≡ true

good_paths : (at : ℕ) (is : List Item) → position_from (λ (i : Item). not (is_utf8 i.path)) at is ≡ None → AllByRecursion HasTextPath is
good_paths at [] e = tt
good_paths at (i ∷ is) e = by (is_utf8 i.path) refl (good_paths (at + 1) is)
  where
    by : (b : Bool) → is_utf8 i.path ≡ b → (position_from (λ (j : Item). not (is_utf8 j.path)) (at + 1) is ≡ None → AllByRecursion HasTextPath is) → HasTextPath i × AllByRecursion HasTextPath is
    by true same more = (same, more (sym (ap (λ b. cond (not b) (Some at) (position_from (λ (j : Item). not (is_utf8 j.path)) (at + 1) is)) same) ∙ e))
    by false same more = let no = sym (ap (λ b. cond (not b) (Some at) (position_from (λ (j : Item). not (is_utf8 j.path)) (at + 1) is)) same) ∙ e in absurd cc

module _ (names : List Text) (are : AllByRecursion IsUtf8 names) (t : Tree) where
  place : (path : Text) (n : Name) → IsUtf8 path → MembersAreTexts (place_members names path n)
  place path n u =
      (IsUtf8-are_ascii _ refl, (label names are n.own, (IsUtf8-are_ascii _ refl, (label names are n.maker, (IsUtf8-are_ascii _ refl, (decimal_ascii n.n, (IsUtf8-are_ascii _ refl, (u, tt))))))))

  item_texts : (path : Text) (n : Name) (kind : EntryKind) → IsUtf8 path → MembersAreTexts (members_by names t path n kind)
  item_texts path n File u = (IsUtf8-are_ascii _ refl, (IsUtf8-from_ascii _ (IsAscii-encode_with lower_digits (bytes_at t n) (ascii lower_digits refl)), place path n u))
  item_texts path n Dir u = (IsUtf8-are_ascii _ refl, (tt, place path n u))

  items_texts : (is : List Item) → AllByRecursion HasTextPath is → AllByRecursion AreTexts (map (item_data names t) is)
  items_texts [] h = tt
  items_texts (i ∷ is) h = (item_texts i.path i.target.name i.target.kind (IsUtf8-from_is_utf8 i.path h.0), items_texts is h.1)

-- ---- the document

pub text_utf8 :
    (names : List Text) (public : Caps) (t : Tree) (homes : List (Home × ℕ)) (rows : List Row) (pipes threads : Data) (a b : Text) →
    AreNames names → IsPermutation (map (row_of names) homes) rows → bad_path t ≡ None → IsUtf8 a → IsUtf8 b → IsUtf8 (text_of (parts_of names public t rows pipes threads) a b)
text_utf8 names public t homes rows pipes threads a b named same good u v =
    let are = names_utf8 names named in
    let spelled = recursion_from_All IsRowText rows (All-permutation IsRowText (map (row_of names) homes) rows same (All-from_recursion IsRowText (map (row_of names) homes) (home_rows names are homes))) in
    let tree = list_utf8 (map (item_data names t) (items_of t)) (items_texts names are t (items_of t) (good_paths 0 (items_of t) (sym (position_from-zero (λ (i : Item). not (is_utf8 i.path)) (items_of t)) ∙ good))) in
    put 123 _ (omega arith)
    (member_utf8 false (codes "counts") _ _ (IsUtf8-are_ascii _ refl) (list_utf8 (map row_data rows) (rows_texts rows spelled))
    (member_utf8 true (codes "pipes") a _ (IsUtf8-are_ascii _ refl) u
    (member_utf8 true (codes "tags") _ _ (IsUtf8-are_ascii _ refl) (list_utf8 (tags_from public 0 names) (tags_texts public 0 names are))
    (member_utf8 true (codes "threads") b _ (IsUtf8-are_ascii _ refl) v
    (member_utf8 true (codes "tree") _ _ (IsUtf8-are_ascii _ refl) tree
    (member_utf8 true (codes "version") _ _ (IsUtf8-are_ascii _ refl) (value version_data (decimal_ascii 3)) (IsUtf8-are_ascii (125 ∷ []) refl)))))))
