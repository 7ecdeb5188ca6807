-- The made document has a start.
use Rattle.std.proofs.Common.{◌≡◌, ℕ, zero, suc, ◌+◌, ◌^◌, ◌<◌, ◌≤◌, ◌==◌, ◌&&◌, true, false, Bool, cond, nat_lt, nat_le, List, [], ◌∷◌, ◌++◌, length, map, Option, Some, None, Ok, codes, pos, refl, ap, subst, ◌∙◌, inl, inr, arith, lt-ltb, le-leb, ne_eqb, length-append}
use Rattle.std.specs.Prelude.{not, is_some}
use Rattle.std.specs.List.{position_or_len, range_with_len}
use Rattle.std.specs.Fmt.{digits}
use Rattle.std.specs.FinMap.{empty}
use Rattle.std.specs.FinSet.{from_list}
use Rattle.std.specs.Str.{bytes_eq}
use Rattle.std.proofs.lemmas.Bool.{cases_eq, eq-eqb, le-ltb, false_from_ne_true}
use Rattle.std.proofs.lemmas.Fmt.{decimal_injective}
use Rattle.std.proofs.lemmas.List.Folds.{position_or_len_push}
use Rattle.std.proofs.lemmas.Slice.Eq.{bytes_eq-Decides}
use Rattle.serde_json.specs.Data.{Data, number, string, object, unsigned, Items, no_items, item, Members, no_members, member}
use Rattle.serde_json.specs.Events.{items_len}
use Rattle.flow_labels.specs.TwoLists.{Text}
use Rattle.flow_labels.specs.Names.{is_name, place_of}
use Rattle.flow_labels.specs.Tags.{Tags}
use Rattle.capabilities.specs.declared.Caps.{Caps}
use Rattle.capabilities.specs.declared.kinds.TagKind.{TagKind}
use Rattle.capabilities.specs.declared.kinds.TagKind.TheVariants.{Read}
use Rattle.capabilities.specs.Kinds.{public_of}
use Rattle.lam_value.specs.declared.values.Value.{Value}
use Rattle.lam_value.specs.declared.values.Value.TheVariants.{Int, Tag}
use Rattle.lam_bytecode.specs.declared.unit.ArgKind.TheVariants as kind
use Rattle.lam_bytecode.specs.Codes.{CodeTree}
use Rattle.world_doc_terms.specs.Breaks.{Reading, ◌>>=◌, only_if, formed}
use Rattle.world_doc_terms.specs.declared.version.Version.TheVariants.{One}
use Rattle.world_doc_terms.specs.Tags.{FirstTags, no_tags, with_tag, named, fresh_name, with_tags, tags_in, known, tag_of, tags_of, caps_in}
use Rattle.world_doc_terms.specs.Entries.{Entry, entry_named, int_of, fitting, arguments, args_in, thread_in, threads_of, threads_in}
use Rattle.lam_make.specs.Made.{world_text, number_of as drawn}
use Rattle.labelled_heap.specs.Things.{no_things}
use Rattle.labelled_files.specs.Trees.{root_alone}
use Rattle.labelled_pipes.specs.Queues.{no_pipes}
use Rattle.thread_steps.specs.Threads.{Thread}
use Rattle.thread_steps.specs.Next.{started}
use Rattle.lam_machine_terms.specs.Worlds.{World}
use Rattle.world_doc_terms.specs.Stores.{tree_in, pipes_in}
use Rattle.world_doc_terms.specs.Start.{world_in, world_or, start_of}
use Rattle.lam_main_laws.proofs.Lists.{tag_name, all_below, below, items_of}
use Rattle.lam_main_laws.proofs.Document.{made_members, nth_made, thread_members, drawn_below, data_is}

-- ---- the names

all_names : all_below (λ k. is_name (tag_name k)) 64 ≡ true
unfolding digits
all_names = refl

is_its_name : (k : ℕ) → k < 64 → is_name (tag_name k) ≡ true
is_its_name k h = below (λ j. is_name (tag_name j)) 64 all_names k h

-- the names of the first n tags
abbrev pub names : ℕ → List Text
names zero = []
names (suc n) = names n ++ tag_name n ∷ []

names_length : (n : ℕ) → length (names n) ≡ n
names_length zero = refl
names_length (suc n) = length-append (names n) (tag_name n ∷ []) ∙ (let h = names_length n in omega (arith, h))

same_name : (k : ℕ) → bytes_eq (tag_name k) (tag_name k) ≡ true
same_name k = (bytes_eq-Decides (tag_name k) (tag_name k)).1 refl

tail_is : {x y : ℕ} {xs ys : Text} → x ∷ xs ≡ y ∷ ys → xs ≡ ys
tail_is e = cc

other_name : (j k : ℕ) → j < 64 → k < 64 → (j ≡ k → ⊥) → bytes_eq (tag_name j) (tag_name k) ≡ false
other_name j k g h differ =
    false_from_ne_true (bytes_eq (tag_name j) (tag_name k)) (λ e. differ (decimal_injective j k (omega arith) (omega arith) (tail_is ((bytes_eq-Decides (tag_name j) (tag_name k)).0 e))))

-- where the name of a tag stands first
abbrev place : ℕ → ℕ → ℕ
place k n = position_or_len (bytes_eq (tag_name k)) (names n)

place_more : (k n : ℕ) → place k (suc n) ≡ cond (place k n == length (names n)) (length (names n) + cond (bytes_eq (tag_name k) (tag_name n)) 0 1) (place k n)
place_more k n = position_or_len_push (bytes_eq (tag_name k)) (names n) (tag_name n)

-- it is not among those before it
not_yet : (k n : ℕ) → k < 64 → n ≤ k → place k n ≡ n
not_yet k zero h l = refl
not_yet k (suc n) h l =
    let at : place k n ≡ n = not_yet k n h (omega arith) in
    let other : bytes_eq (tag_name k) (tag_name n) ≡ false = other_name k n h (omega arith) (λ e. omega arith) in
    place_more k n ∙ rw (at, names_length n, eq-eqb n n refl, other) (let one : n + 1 ≡ suc n = omega arith in one)

-- and from there on it stands at its own place
there : (k n : ℕ) → k < n → n ≤ 64 → place k n ≡ k
there k zero h few = absurd (omega arith)
there k (suc n) h few = elim (cases_eq k n) [
  | inl same ↦
      let at : place k n ≡ n = not_yet k n (omega arith) (omega arith) in
      let own : bytes_eq (tag_name k) (tag_name n) ≡ true = subst (λ (m : ℕ). bytes_eq (tag_name k) (tag_name m) ≡ true) same (same_name k) in
      place_more k n ∙ rw (at, names_length n, eq-eqb n n refl, own) (let none : n + 0 ≡ k = omega arith in none)
  | inr other ↦
      let at : place k n ≡ k = there k n (omega arith) (omega arith) in
      place_more k n ∙ rw (at, names_length n, ne_eqb k n other) refl
]

by_place : (k n : ℕ) → place_of (names n) (tag_name k) ≡ cond (nat_lt (place k n) (length (names n))) (Some (place k n)) None
by_place k n = refl

no_place : (n : ℕ) → n < 64 → place_of (names n) (tag_name n) ≡ None
no_place n h = let at : place n n ≡ n = not_yet n n h (omega arith) in by_place n n ∙ rw (at, names_length n, le-ltb n n (omega arith)) refl

its_place : (k n : ℕ) → k < n → n ≤ 64 → place_of (names n) (tag_name k) ≡ Some k
its_place k n h few = by_place k n ∙ rw (there k n h few, names_length n, lt-ltb k n h) refl

-- ---- the tags

abbrev tag : ℕ → Data
tag k = string (tag_name k)

is_named : (k : ℕ) → k < 64 → named (tag k) ≡ Some (tag_name k)
is_named k h = ap (λ (b : Bool). only_if b (tag_name k)) (is_its_name k h)

-- each is of kind read
abbrev kinds : ℕ → List TagKind
kinds zero = []
kinds (suc n) = kinds n ++ Read ∷ []

abbrev tags : ℕ → FirstTags
tags n = record { names = names n; kinds = kinds n }

names_read : (a m : ℕ) → a + m ≤ 64 → with_tags One (tags a) (items_of tag (range_with_len a m)) ≡ Ok (tags (a + m))
names_read a zero h = ap (λ n. Ok (tags n)) (let same : a ≡ a + 0 = omega arith in same)
names_read a (suc m) h =
    let rest : Items = items_of tag (range_with_len (a + 1) m) in
    let more : a + 1 ≡ suc a = omega arith in
    let end : suc a + m ≡ a + suc m = omega arith in
    ap (λ o. (formed (codes "tags") o >>= λ name. fresh_name (names a) name >>= λ new. Ok (with_tag (tags a) new Read)) >>= λ it. with_tags One it rest) (is_named a (omega arith))
    ∙ ap (λ o. (formed (codes "tags") (only_if (not (is_some o)) (tag_name a)) >>= λ new. Ok (with_tag (tags a) new Read)) >>= λ it. with_tags One it rest) (no_place a (omega arith))
    ∙ ap (λ n. with_tags One (tags (suc a)) (items_of tag (range_with_len n m))) more
    ∙ names_read (suc a) m (omega arith)
    ∙ ap (λ n. Ok (tags n)) end

count : (f : ℕ → Data) (a m : ℕ) → items_len (items_of f (range_with_len a m)) ≡ m
count f a zero = refl
count f a (suc m) = let h = count f (a + 1) m in omega (arith, h)

tags_are : (seed n : ℕ) → n ≤ 64 → tags_in One (made_members seed n) ≡ Ok (tags n)
tags_are seed n few =
    let items : Items = items_of tag (range_with_len 0 n) in
    let same : 0 + n ≡ n = omega arith in
    let all : 0 + n ≤ 64 = omega arith in
    let short : nat_le (items_len items) 65536 ≡ true = rw (count tag 0 n) (le-leb n 65536 (omega arith)) in
    ap (λ b. formed (codes "tags") (only_if b items) >>= with_tags One no_tags) short
    ∙ names_read 0 n all
    ∙ ap (λ m. Ok (tags m)) same

-- ---- a thread

abbrev made_args : ℕ → ℕ → List Value
made_args k m = Tag k ∷ Int (pos m) ∷ []

abbrev one_tag : ℕ → Tags
one_tag k = from_list (k ∷ [])

abbrev caps : Tags → Tags → Caps
caps plus minus = record { plus = plus; minus = minus }

abbrev made_caps : ℕ → Caps
made_caps k = caps (one_tag k) (one_tag k)

-- at the entry of the function
abbrev entry : Entry
entry = record { unit = 0; takes = kind.Tag ∷ kind.Int ∷ [] }

module _ (n : ℕ) (few : n ≤ 64) where
  tag_is : (at : Text) (k : ℕ) → k < n → tag_of at (names n) (tag k) ≡ Ok k
  tag_is at k h = ap (λ o. formed at o >>= λ name. known name (place_of (names n) name)) (is_named k (omega arith)) ∙ ap (known (tag_name k)) (its_place k n h few)

  abbrev as_set : Reading (List ℕ) → Reading Tags
  as_set r = r >>= λ ts. Ok (from_list ts)

  set_is : (at : Text) (k : ℕ) → k < n → as_set (tags_of at (names n) (item (tag k) no_items)) ≡ Ok (one_tag k)
  set_is at k h = ap (λ (r : Reading ℕ). as_set (r >>= λ t. Ok (t ∷ []))) (tag_is at k h)

  -- what a thread gets, by its tag and its number
  module _ (k m : ℕ) (h : k < n) (small : m < 1000) where
    int_is : int_of (number (unsigned m)) ≡ Ok (Int (pos m))
    int_is = rw (lt-ltb m (2 ^ 63) (omega arith)) refl

    last_is : arguments (names n) [] (kind.Int ∷ []) (item (object (member (codes "int") (number (unsigned m)) no_members)) no_items) ≡ Ok (Int (pos m) ∷ [])
    last_is = ap (λ (r : Reading Value). r >>= λ v. fitting kind.Int v >>= λ same. Ok (same ∷ [])) int_is

    args_are : args_in (names n) [] entry.takes (thread_members k m) ≡ Ok (made_args k m)
    args_are =
        ap (λ (r : Reading ℕ). (r >>= λ t. Ok (Tag t)) >>= λ v. fitting kind.Tag v >>= λ same. arguments (names n) [] (kind.Int ∷ []) (item (object (member (codes "int") (number (unsigned m)) no_members)) no_items) >>= λ vs. Ok (same ∷ vs)) (tag_is (codes "tag") k h)
        ∙ ap (λ (r : Reading (List Value)). r >>= λ vs. Ok (Tag k ∷ vs)) last_is

    caps_are : caps_in (names n) (thread_members k m) ≡ Ok (made_caps k)
    caps_are =
        ap (λ (r : Reading Tags). r >>= λ plus. as_set (tags_of (codes "minus") (names n) (item (tag k) no_items)) >>= λ minus. Ok (caps plus minus)) (set_is (codes "plus") k h)
        ∙ ap (λ (r : Reading Tags). r >>= λ minus. Ok (caps (one_tag k) minus)) (set_is (codes "minus") k h)

-- ---- the threads, where a code has the function

abbrev pub made_threads : CodeTree → ℕ → ℕ → ℕ → List Thread
made_threads code seed a m = map (λ k. started code 0 (made_args k (drawn seed k)) (made_caps k)) (range_with_len a m)

module _ (code : CodeTree) (has : entry_named code (codes "work") ≡ Some entry) (seed n : ℕ) (few : n ≤ 64) where
  thread_is : (k m : ℕ) → k < n → m < 1000 → thread_in code (names n) [] (thread_members k m) ≡ Ok (started code 0 (made_args k m) (made_caps k))
  thread_is k m h small =
      let ms : Members = thread_members k m in
      ap (λ (o : Option Entry). formed (codes "run") o >>= λ it. args_in (names n) [] it.takes ms >>= λ args. caps_in (names n) ms >>= λ caps. Ok (started code it.unit args caps)) has
      ∙ ap (λ (r : Reading (List Value)). r >>= λ args. caps_in (names n) ms >>= λ caps. Ok (started code 0 args caps)) (args_are n few k m h small)
      ∙ ap (λ (r : Reading Caps). r >>= λ caps. Ok (started code 0 (made_args k m) caps)) (caps_are n few k m h small)

  threads_from : (a m : ℕ) → a + m ≤ n → threads_of code (names n) [] (items_of (nth_made seed) (range_with_len a m)) ≡ Ok (made_threads code seed a m)
  threads_from a zero h = refl
  threads_from a (suc m) h =
      let rest : Reading (List Thread) = threads_of code (names n) [] (items_of (nth_made seed) (range_with_len (a + 1) m)) in
      ap (λ (r : Reading Thread). r >>= λ th. rest >>= λ ths. Ok (th ∷ ths)) (thread_is a (drawn seed a) (omega arith) (drawn_below seed a))
      ∙ ap (λ (r : Reading (List Thread)). r >>= λ ths. Ok (started code 0 (made_args a (drawn seed a)) (made_caps a) ∷ ths)) (threads_from (a + 1) m (omega arith))

  module _ (some : 1 ≤ n) where
    enough : (nat_lt 0 (items_len (items_of (nth_made seed) (range_with_len 0 n))) && nat_le (items_len (items_of (nth_made seed) (range_with_len 0 n))) 64) ≡ true
    enough = rw (count (nth_made seed) 0 n, lt-ltb 0 n (omega arith), le-leb n 64 few) refl

    threads_are : threads_in code (names n) [] (made_members seed n) ≡ Ok (made_threads code seed 0 n)
    threads_are =
        let items : Items = items_of (nth_made seed) (range_with_len 0 n) in
        ap (λ (b : Bool). formed (codes "threads") (only_if b items) >>= λ items. threads_of code (names n) [] items) enough
        ∙ threads_from 0 n (omega arith)

    -- ---- the start

    abbrev pub made_start : World
    made_start = record { names = names n; public = public_of (kinds n); next_tag = length (names n); heap = no_things; monitors = empty; files = root_alone; pipes = no_pipes; threads = made_threads code seed 0 n }

    world_is : world_in code (made_members seed n) ≡ Ok made_start
    world_is =
        let ms : Members = made_members seed n in
        ap (λ (r : Reading FirstTags). r >>= λ tags. tree_in tags.names ms >>= λ files. pipes_in tags.names ms >>= λ pipes. threads_in code tags.names pipes.called ms >>= λ threads. Ok (record { names = tags.names; public = public_of tags.kinds; next_tag = length tags.names; heap = no_things; monitors = empty; files = files; pipes = pipes.queues; threads = threads })) (tags_are seed n few)
        ∙ ap (λ (r : Reading (List Thread)). r >>= λ threads. Ok (record { names = names n; public = public_of (kinds n); next_tag = length (names n); heap = no_things; monitors = empty; files = root_alone; pipes = no_pipes; threads = threads })) threads_are

    pub start_is : start_of (world_text seed n) code ≡ Ok made_start
    start_is = ap (λ (o : Option Data). world_or o code) (data_is seed n few) ∙ world_is
