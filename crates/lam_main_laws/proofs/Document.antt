-- The document of the made world: its text is that of a JSON value, which is read as the same one.
use Rattle.std.proofs.Common.{◌≡◌, ℕ, zero, suc, ◌+◌, ◌^◌, ◌<◌, ◌≤◌, true, false, List, [], ◌++◌, Some, option_and_then, codes, decimal, refl, sym, ap, ◌∙◌, arith, append_assoc, append-nil}
use Rattle.std.specs.Prelude.{IsUtf8}
use Rattle.std.specs.List.{flat_map, range_with_len}
use Rattle.std.specs.Fmt.{digits}
use Rattle.std.proofs.lemmas.Nat.{mod_below}
use Rattle.std.proofs.lemmas.Fmt.{IsAscii-decimal}
use Rattle.std.proofs.lemmas.Str.{IsUtf8-from_ascii, IsUtf8-append, is_utf8-from_IsUtf8}
use Rattle.json.specs.Json.{if_last, value}
use Rattle.json.specs.Token.{Token}
use Rattle.json.specs.Lex.{tokens}
use Rattle.json.specs.Tree as tree
use Rattle.json.specs.Print.{escape_byte, quoted}
use Rattle.json.proofs.Printed.Utf8.{are_ascii, IsUtf8-are_ascii}
use Rattle.json.proofs.Printed.Decimals.{IsNumber-decimal}
use Rattle.json.proofs.Printed.Tokens.{tokens-print}
use Rattle.json.proofs.Printed.Trees.{value-json_tokens, ArePrintable-json_tokens}
use Rattle.serde_json.specs.Data.{Data, number, string, array, object, unsigned, no_items, item, Members, no_members, member}
use Rattle.serde_json.specs.Read.{of_json, of_items, number_of, max_depth, read}
use Rattle.serde_json.specs.Written.{outline, items_outline, compact_text, items_text}
use Rattle.serde_json.proofs.Numbers.{number_of-decimal}
use Rattle.serde_json.proofs.Texts.{print-outline}
use Rattle.lam_make.specs.Made.{Text, number_in, number_of as drawn, listed, tag_word, args_text, caps_text, thread_text, nth_thread, world_text}
use Rattle.world_doc_terms.specs.Start.{data_of}
use Rattle.lam_main_laws.proofs.Lists.{tag_name, plain, items_of, list_text, list_data, list_depth, list_numbers}

-- ---- a thread

abbrev tag : ℕ → Data
tag k = string (tag_name k)

abbrev list_of_tag : ℕ → Data
list_of_tag k = array (item (tag k) no_items)

abbrev args : ℕ → ℕ → Data
args k n = array (item (object (member (codes "tag") (tag k) no_members)) (item (object (member (codes "int") (number (unsigned n)) no_members)) no_items))

-- with its members in the order of the text
abbrev written_thread : ℕ → ℕ → Data
written_thread k n =
    object (member (codes "run") (string (codes "work")) (member (codes "args") (args k n) (member (codes "caps") (object (member (codes "plus") (list_of_tag k) (member (codes "minus") (list_of_tag k) no_members))) no_members)))

-- and with its members in order
abbrev pub thread_members : ℕ → ℕ → Members
thread_members k n =
    member (codes "args") (args k n) (member (codes "caps") (object (member (codes "minus") (list_of_tag k) (member (codes "plus") (list_of_tag k) no_members))) (member (codes "run") (string (codes "work")) no_members))

abbrev pub made_thread : ℕ → ℕ → Data
made_thread k n = object (thread_members k n)

-- its text, of those of its tag and of its number
abbrev thread_around : ℕ → Text → Text
thread_around n w =
    let listed_tag : Text = codes "[" ++ (w ++ codes "]") in
    let tag_part : Text = codes "{\"tag\":" ++ (w ++ codes "}") in
    let int_part : Text = codes "{\"int\":" ++ (decimal n ++ codes "}") in
    let caps_part : Text = codes "{\"plus\":" ++ (listed_tag ++ (codes ",\"minus\":" ++ (listed_tag ++ codes "}"))) in
    codes "{\"run\":\"work\",\"args\":" ++ ((codes "[" ++ (tag_part ++ (codes "," ++ (int_part ++ codes "]")))) ++ (codes ",\"caps\":" ++ (caps_part ++ codes "}")))

compact_thread : (k n : ℕ) → compact_text (written_thread k n) ≡ thread_around n (quoted (tag_name k))
unfolding escape_byte
compact_thread k n = refl

module _ (w d a b c1 c2 c3 e1 e2 e3 f g1 g2 g3 h1 h2 z : Text) where
  regroup_thread :
      a ++ ((b ++ ((c1 ++ (w ++ c2)) ++ (c3 ++ ((e1 ++ (d ++ e2)) ++ e3)))) ++ (f ++ ((g1 ++ ((h1 ++ (w ++ h2)) ++ (g2 ++ ((h1 ++ (w ++ h2)) ++ g3)))) ++ z)))
      ≡ (((a ++ (((((b ++ c1) ++ w) ++ (c2 ++ (c3 ++ e1))) ++ d) ++ (e2 ++ e3))) ++ f) ++ (((((g1 ++ h1) ++ w) ++ (h2 ++ (g2 ++ h1))) ++ w) ++ (h2 ++ g3))) ++ z
  regroup_thread = simp append_assoc

thread_written : (k n : ℕ) → k < 64 → compact_text (written_thread k n) ≡ thread_text k n
thread_written k n h =
    compact_thread k n ∙ ap (thread_around n) (plain k h)
    ∙ regroup_thread (tag_word k) (decimal n) (codes "{\"run\":\"work\",\"args\":") (codes "[") (codes "{\"tag\":") (codes "}") (codes ",") (codes "{\"int\":") (codes "}") (codes "]") (codes ",\"caps\":") (codes "{\"plus\":") (codes ",\"minus\":") (codes "}") (codes "[") (codes "]") (codes "}")

thread_read : (k n : ℕ) → n < 2 ^ 64 → of_json (outline (written_thread k n)) ≡ Some (made_thread k n)
thread_read k n h = rw (number_of-decimal n h) refl

thread_depth : (k n : ℕ) → tree.depth (outline (written_thread k n)) ≤ 3
thread_depth k n = omega arith

thread_numbers : (k n : ℕ) → n < 2 ^ 64 → tree.HasNumbers (outline (written_thread k n))
thread_numbers k n h = (tt, (((tt, tt), ((IsNumber-decimal n h, tt), tt)), (((tt, tt), ((tt, tt), tt)), tt)))

-- ---- the numbers that are drawn

pub drawn_below : (seed k : ℕ) → drawn seed k < 1000
unfolding drawn number_in
drawn_below seed k = mod_below _ 1000 (omega arith)

-- ---- the world

abbrev nth_written : ℕ → ℕ → Data
nth_written seed k = written_thread k (drawn seed k)

abbrev pub nth_made : ℕ → ℕ → Data
nth_made seed k = made_thread k (drawn seed k)

abbrev written_world : ℕ → ℕ → Data
written_world seed n =
    object (member (codes "version") (number (unsigned 1)) (member (codes "tags") (array (items_of tag (range_with_len 0 n))) (member (codes "tree") (array no_items) (member (codes "pipes") (array no_items) (member (codes "threads") (array (items_of (nth_written seed) (range_with_len 0 n))) no_members)))))

abbrev pub made_members : ℕ → ℕ → Members
made_members seed n =
    member (codes "pipes") (array no_items) (member (codes "tags") (array (items_of tag (range_with_len 0 n))) (member (codes "threads") (array (items_of (nth_made seed) (range_with_len 0 n))) (member (codes "tree") (array no_items) (member (codes "version") (number (unsigned 1)) no_members))))

-- its text, of that of its version, its tags and its threads
abbrev world_around : Text → Text → Text → Text
world_around version tags threads =
    codes "{\"version\":" ++ (version ++ (codes ",\"tags\":" ++ ((codes "[" ++ tags) ++ (codes ",\"tree\":[],\"pipes\":[],\"threads\":" ++ ((codes "[" ++ threads) ++ codes "}")))))

compact_world : (seed n : ℕ) → compact_text (written_world seed n) ≡ world_around (decimal 1) (items_text false (items_of tag (range_with_len 0 n))) (items_text false (items_of (nth_written seed) (range_with_len 0 n)))
unfolding escape_byte
compact_world seed n = refl

one_is : decimal 1 ≡ codes "1"
unfolding digits
one_is = refl

module _ (l m a o b c d e z : Text) where
  regroup_world : a ++ (o ++ (b ++ ((c ++ (l ++ d)) ++ (e ++ ((c ++ (m ++ d)) ++ z))))) ≡ ((((a ++ (o ++ (b ++ c))) ++ l) ++ (d ++ (e ++ c))) ++ m) ++ (d ++ z)
  regroup_world = simp append_assoc

module _ (seed n : ℕ) (few : n ≤ 64) where
  tags_written : items_text false (items_of tag (range_with_len 0 n)) ≡ listed tag_word n ++ codes "]"
  tags_written = list_text tag tag_word 64 plain n few

  threads_written : items_text false (items_of (nth_written seed) (range_with_len 0 n)) ≡ listed (nth_thread seed) n ++ codes "]"
  threads_written = list_text (nth_written seed) (nth_thread seed) 64 (λ k h. thread_written k (drawn seed k) h) n few

  world_written : compact_text (written_world seed n) ≡ world_text seed n
  world_written =
      compact_world seed n
      ∙ ap (λ (t : Text). world_around t (items_text false (items_of tag (range_with_len 0 n))) (items_text false (items_of (nth_written seed) (range_with_len 0 n)))) one_is
      ∙ ap (λ (t : Text). world_around (codes "1") t (items_text false (items_of (nth_written seed) (range_with_len 0 n)))) tags_written
      ∙ ap (λ (t : Text). world_around (codes "1") (listed tag_word n ++ codes "]") t) threads_written
      ∙ regroup_world (listed tag_word n) (listed (nth_thread seed) n) (codes "{\"version\":") (codes "1") (codes ",\"tags\":") (codes "[") (codes "]") (codes ",\"tree\":[],\"pipes\":[],\"threads\":") (codes "}")

drawn_small : (seed k : ℕ) → drawn seed k < 2 ^ 64
drawn_small seed k = omega (arith, drawn_below seed k)

module _ (seed n : ℕ) where
  tags_read : of_items (items_outline (items_of tag (range_with_len 0 n))) ≡ Some (items_of tag (range_with_len 0 n))
  tags_read = list_data tag tag n (λ k h. refl) 0 n (omega arith)

  threads_read : of_items (items_outline (items_of (nth_written seed) (range_with_len 0 n))) ≡ Some (items_of (nth_made seed) (range_with_len 0 n))
  threads_read = list_data (nth_written seed) (nth_made seed) n (λ k h. thread_read k (drawn seed k) (drawn_small seed k)) 0 n (omega arith)

  one_read : number_of (decimal 1) ≡ Some (unsigned 1)
  one_read = number_of-decimal 1 (omega arith)

  world_read : of_json (outline (written_world seed n)) ≡ Some (object (made_members seed n))
  world_read = rw (one_read, tags_read, threads_read) refl

  world_numbers : tree.HasNumbers (outline (written_world seed n))
  world_numbers = (IsNumber-decimal 1 (omega arith), (list_numbers tag n (λ k h. tt) 0 n (omega arith), (tt, (tt, (list_numbers (nth_written seed) n (λ k h. thread_numbers k (drawn seed k) (drawn_small seed k)) 0 n (omega arith), tt)))))

  world_depth : tree.depth (outline (written_world seed n)) ≤ max_depth
  world_depth = omega (arith, list_depth tag 3 (λ k. omega arith) (range_with_len 0 n), list_depth (nth_written seed) 3 (λ k. thread_depth k (drawn seed k)) (range_with_len 0 n))

-- ---- what is written of data is read as it

module _ (d e : Data) where
  pub read_written : tree.HasNumbers (outline d) → tree.depth (outline d) ≤ max_depth → of_json (outline d) ≡ Some e → read (compact_text d) ≡ Some e
  read_written numbers shallow same =
      let its : List Token = tree.json_tokens (outline d) in
      ap (λ (ts : List Token). option_and_then of_json (option_and_then (λ p. if_last p.0 p.1) (value max_depth ts)))
      (ap tokens (sym (print-outline d)) ∙ tokens-print its (ArePrintable-json_tokens (outline d) numbers) ∙ sym (append-nil its))
      ∙ ap (λ o. option_and_then of_json (option_and_then (λ p. if_last p.0 p.1) o)) (value-json_tokens (outline d) max_depth [] shallow)
      ∙ same

-- ---- its bytes

module _ (g : ℕ → Text) (n : ℕ) (each : (k : ℕ) → k < n → IsUtf8 (g k)) where
  more_utf8 : (a m : ℕ) → a + m ≤ n → IsUtf8 (flat_map (λ k. codes "," ++ g k) (range_with_len a m))
  more_utf8 a zero h = IsUtf8-are_ascii [] refl
  more_utf8 a (suc m) h = IsUtf8-append (codes "," ++ g a) _ (IsUtf8-append (codes ",") (g a) (IsUtf8-are_ascii (codes ",") refl) (each a (omega arith))) (more_utf8 (a + 1) m (omega arith))

  listed_utf8 : (m : ℕ) → m ≤ n → IsUtf8 (listed g m)
  unfolding listed
  listed_utf8 zero h = IsUtf8-are_ascii [] refl
  listed_utf8 (suc m) h = IsUtf8-append (g 0) _ (each 0 (omega arith)) (more_utf8 1 m (omega arith))

decimal_utf8 : (n : ℕ) → n < 2 ^ 64 → IsUtf8 (decimal n)
decimal_utf8 n h = IsUtf8-from_ascii (decimal n) (IsAscii-decimal n h)

-- between literal texts
between : (a b c : Text) → are_ascii a ≡ true → IsUtf8 b → are_ascii c ≡ true → IsUtf8 ((a ++ b) ++ c)
between a b c h k l = IsUtf8-append (a ++ b) c (IsUtf8-append a b (IsUtf8-are_ascii a h) k) (IsUtf8-are_ascii c l)

and_then : (a b c : Text) → IsUtf8 a → IsUtf8 b → are_ascii c ≡ true → IsUtf8 ((a ++ b) ++ c)
and_then a b c h k l = IsUtf8-append (a ++ b) c (IsUtf8-append a b h k) (IsUtf8-are_ascii c l)

tag_utf8 : (k : ℕ) → k < 64 → IsUtf8 (tag_word k)
tag_utf8 k h = between (codes "\"t") (decimal k) (codes "\"") refl (decimal_utf8 k (omega arith)) refl

args_utf8 : (k n : ℕ) → k < 64 → n < 2 ^ 64 → IsUtf8 (args_text k n)
args_utf8 k n h l =
    and_then (codes "[{\"tag\":" ++ tag_word k ++ codes "},{\"int\":") (decimal n) (codes "}]")
    (between (codes "[{\"tag\":") (tag_word k) (codes "},{\"int\":") refl (tag_utf8 k h) refl) (decimal_utf8 n l) refl

caps_utf8 : (k : ℕ) → k < 64 → IsUtf8 (caps_text k)
caps_utf8 k h =
    and_then (codes "{\"plus\":[" ++ tag_word k ++ codes "],\"minus\":[") (tag_word k) (codes "]}")
    (between (codes "{\"plus\":[") (tag_word k) (codes "],\"minus\":[") refl (tag_utf8 k h) refl) (tag_utf8 k h) refl

thread_utf8 : (k n : ℕ) → k < 64 → n < 2 ^ 64 → IsUtf8 (thread_text k n)
thread_utf8 k n h l =
    and_then (codes "{\"run\":\"work\",\"args\":" ++ args_text k n ++ codes ",\"caps\":") (caps_text k) (codes "}")
    (between (codes "{\"run\":\"work\",\"args\":") (args_text k n) (codes ",\"caps\":") refl (args_utf8 k n h l) refl) (caps_utf8 k h) refl

world_utf8 : (seed n : ℕ) → n ≤ 64 → IsUtf8 (world_text seed n)
world_utf8 seed n few =
    and_then (codes "{\"version\":1,\"tags\":[" ++ listed tag_word n ++ codes "],\"tree\":[],\"pipes\":[],\"threads\":[") (listed (nth_thread seed) n) (codes "]}")
    (between (codes "{\"version\":1,\"tags\":[") (listed tag_word n) (codes "],\"tree\":[],\"pipes\":[],\"threads\":[") refl (listed_utf8 tag_word 64 (λ k h. tag_utf8 k h) n few) refl)
    (listed_utf8 (nth_thread seed) 64 (λ k h. thread_utf8 k (drawn seed k) h (drawn_small seed k)) n few) refl

-- ---- the data that the text is read as

pub data_is : (seed n : ℕ) → n ≤ 64 → data_of (world_text seed n) ≡ Some (object (made_members seed n))
data_is seed n few =
    rw (is_utf8-from_IsUtf8 (world_text seed n) (world_utf8 seed n few))
    (ap read (sym (world_written seed n few)) ∙ read_written (written_world seed n) (object (made_members seed n)) (world_numbers seed n) (world_depth seed n) (world_read seed n))
