-- A saved text is read as the start of a run that goes on.
use Rattle.std.proofs.Common.{◌≡◌, ◌⊎◌, inl, inr, ◌≤◌, ◌<◌, ℕ, true, List, [], map, length, Option, Some, None, Ok, IsUtf8, refl, sym, ap, ◌∙◌, subst, arith, ⊎_elim}
use Rattle.std.specs.Prelude.{IsTrue, ◌&&◌, nat_le, nat_lt, codes, option_and_then, if◌then◌else◌}
use Rattle.std.specs.Str.{is_utf8}
use Rattle.std.proofs.lemmas.Str.{IsUtf8-from_is_utf8, is_utf8-from_IsUtf8}
use Rattle.std.proofs.lemmas.List.Elements.{All-contains}
use Rattle.std.proofs.lemmas.Bool.{cases_lt}
use Rattle.hex.specs.Hex.{IsBytes}
use Rattle.serde_json.specs.Data.{Data, Members, no_members, member, depth}
use Rattle.serde_json.specs.Events.{items_len}
use Rattle.serde_json.specs.Find.{get, get_member, as_array}
use Rattle.serde_json.specs.Read.{read}
use Rattle.serde_json.specs.View.{items_of as data_list}
use Rattle.serde_json.proofs.Nesting.{depth-read}
use Rattle.flow_labels.specs.TwoLists.{Text}
use Rattle.flow_labels.specs.declared.Label.{Label}
use Rattle.capabilities.specs.Kinds.{public_of}
use Rattle.lam_value.specs.declared.names.Name.{Name}
use Rattle.lam_value.specs.Homes.{Counts, home_of, count_in}
use Rattle.labelled_files.specs.declared.directory.EntryKind.{EntryKind}
use Rattle.labelled_files.specs.declared.directory.EntryKind.TheVariants.{File, Dir}
use Rattle.labelled_files.specs.Trees.{Tree, lives_as, bytes_at}
use Rattle.labelled_pipes.specs.Queues.{no_pipes}
use Rattle.lam_bytecode.specs.Codes.{CodeTree, IsCode}
use Rattle.lam_machine_terms.specs.Worlds.{World}
use Rattle.lam_machine_terms.specs.Turns.{replay}
use Rattle.world_doc_terms.specs.Breaks.{Reading, ◌>>=◌, only_if, formed, present}
use Rattle.world_doc_terms.specs.Stores.{with_pipes, pipes_in}
use Rattle.world_doc_terms.specs.Numbered.{root_counted}
use Rattle.world_doc_terms.specs.SavedItems.{SavedItem, with_saved_items, SaysItem, SayAll}
use Rattle.world_doc_terms.specs.Entries.{most_starting, threads_of, threads_in}
use Rattle.world_doc_terms.specs.Start.{world_of, world_or, data_of, start_of}
use Rattle.world_doc_laws.specs.Saved.{SaysStart}
use Rattle.world_doc_laws.proofs.SavedLemmas.{start_read}
use Rattle.world_doc_laws.proofs.DigitLemmas.{bytes_read}
use Rattle.world_doc_laws.proofs.StartLemmas.{text_start as start_valid}
use Rattle.world_doc_laws.proofs.StoreLemmas.{staged}
use Rattle.world_forest_laws.proofs.StartLemmas.{text_forest}
use Rattle.world_save_terms.specs.Items.{Item, items_of, HoldBytes}
use Rattle.world_save_terms.specs.Compact.{IsCompact}
use Rattle.world_save_terms.specs.Rows.{Row, AreRows}
use Rattle.world_save_terms.specs.Document.{Parts, Spells, list_data, version_data, document, parts_of}
use Rattle.world_save_terms.specs.Refusals.{AllNamed, IsTagOf, IsItemLabel, IsHomeLabel}
use Rattle.world_save_laws.specs.Plain.{IsReadable}
use Rattle.world_save_laws.proofs.TextLemmas.{text_read as spelled_read}
use Rattle.world_save_laws.specs.TreeLaws.{saved}
use Rattle.world_save_laws.specs.Next.{GoesOn}
use Rattle.world_save_laws.proofs.WholeLemmas.{trees_again}
use Rattle.world_save_laws.specs.Reached.{HoldsReached}
use Rattle.world_save_laws.specs.ListLaws.{IsFlatList, IsNamed, AreCountable, AreSaid, AreSayable}
use Rattle.world_save_laws.proofs.TagLemmas.{tags_read}
use Rattle.world_save_laws.proofs.CountLemmas.{counters_said}
use Rattle.world_save_laws.proofs.ItemLemmas.{items_said}
use Rattle.world_save_files.specs.Saved.{HaveText}
use Rattle.world_save_laws.proofs.EndLemmas.{ends_whole}
use Rattle.world_save_laws.proofs.StartLemmas.{text_small}
use Rattle.world_save_laws.specs.Saved.{AreSavable, SavedTextsAreRead, NextWorldsAreRead}
use Rattle.world_save_files.proofs.DocumentLengths.{member_deep}
use Rattle.world_save_laws.proofs.OldLemmas.{IsRead, read_of, member_of, object_deep}
use Rattle.world_save_laws.proofs.LiveLemmas.{item_lives}
use Rattle.world_save_laws.proofs.Utf8Lemmas.{text_utf8}

-- a text of the document of files and directories, each label and each path of which has a text
record IsSaid (w : World) (t : Tree) (pipes threads : Data) (text : Text) : Type 0 where
  have : HaveText w.names t
  rows : List Row
  rows_are : AreRows w.names t.counts rows
  spells : Spells (parts_of w.names w.public t rows pipes threads) text

compact_utf8 : (d : Data) (s : Text) → IsCompact d s → IsUtf8 s
compact_utf8 d s c = IsUtf8-from_is_utf8 s c.utf8

-- the members of a document
abbrev members_of : Parts → Members
members_of p =
    member (codes "counts") (list_data p.counts) (member (codes "pipes") p.pipes (member (codes "tags") (list_data p.tags) (member (codes "threads") p.threads (member (codes "tree") (list_data p.tree) (member (codes "version") version_data no_members)))))

module _ (names : List Text) (t : Tree) (can : AreSavable t) (all_named : AllNamed names t) where
  -- a tag in a label that is written has a name
  has_name : (l : Label) → IsItemLabel t l ⊎ IsHomeLabel t l → (tag : ℕ) → IsTagOf tag l → tag < length names
  has_name l which tag is = ⊎_elim (λ near. near) (λ far. absurd (all_named tag (far, (l, (which, is))))) (cases_lt tag (length names))

  named_label : (l : Label) → IsItemLabel t l ⊎ IsHomeLabel t l → IsNamed names l
  named_label l which = (λ tag c. has_name l which tag (inl c), λ tag c. has_name l which tag (inr c))

  countable : AreCountable names t.counts
  countable =
      record {
        above = can.above;
        within = (can.whole).sound.within;
        root = subst (λ (n : Name). n.n < count_in t.counts (home_of n.maker n.own)) (can.whole).root ((can.whole).sound.counted.1 t.root (can.whole).sound.rooted);
        named = λ h key. (named_label h.maker (inr (h, (key, inr refl))), named_label h.own (inr (h, (key, inl refl))));
      }

  numbered : (kind : EntryKind) (n : Name) → IsTrue (lives_as kind t n) → n.n < 65536
  numbered File n lives = let l = (can.whole).sound.counted.0 n lives in let m = (can.whole).sound.within (home_of n.maker n.own) in omega arith
  numbered Dir n lives = let l = (can.whole).sound.counted.1 n lives in let m = (can.whole).sound.within (home_of n.maker n.own) in omega arith

  sayable : AreSayable names t
  sayable =
      record {
        named = λ i c. (named_label i.target.name.own (inl (i, (c, inl refl))), named_label i.target.name.maker (inl (i, (c, inr refl))));
        few = λ i c. numbered i.target.kind i.target.name (item_lives t (can.whole).sound i c);
        spelled = λ i c. bytes_read (bytes_at t i.target.name) (All-contains (λ (j : Item). IsBytes (bytes_at t j.target.name)) (items_of t) i can.bytes c) ((can.whole).few i.target.name);
      }

-- ---- from the same members the same pipes and threads

same_pipes : (names : List Text) (a b : Members) → get_member (codes "pipes") a ≡ get_member (codes "pipes") b → pipes_in names a ≡ pipes_in names b
same_pipes names a b e = ap (λ (o : Option Data). (present (codes "pipes") o >>= λ d. formed (codes "pipes") (as_array d)) >>= λ items. with_pipes names (record { queues = no_pipes; called = [] }) items) e

same_threads : (code : CodeTree) (names : List Text) (called : List (Text × Name)) (a b : Members) → get_member (codes "threads") a ≡ get_member (codes "threads") b → threads_in code names called a ≡ threads_in code names called b
same_threads code names called a b e =
    ap (λ (o : Option Data). (present (codes "threads") o >>= λ d. formed (codes "threads") (option_and_then (λ items. only_if (nat_lt 0 (items_len items) && nat_le (items_len items) most_starting) items) (as_array d))) >>= λ items. threads_of code names called items) e

-- ---- the start

module _ (code : CodeTree) (text : Text) (d : Data) (w : World) (r : IsRead code d w) (shallow : depth d ≤ 127) (t : Tree) (pipes threads : Data) (pipes_are : get (codes "pipes") d ≡ Some pipes) (threads_are : get (codes "threads") d ≡ Some threads) where
  abbrev start : World
  start = staged r.tags r.files (r.pipes).queues r.threads

  module _ (can : AreSavable t) (x : IsSaid start t pipes threads text) where
    abbrev parts : Parts
    parts = parts_of (r.tags).names (public_of (r.tags).kinds) t x.rows pipes threads

    old_pipes : get_member (codes "pipes") r.ms ≡ Some pipes
    old_pipes = sym (member_of (codes "pipes") d r.ms r.object_is) ∙ pipes_are

    old_threads : get_member (codes "threads") r.ms ≡ Some threads
    old_threads = sym (member_of (codes "threads") d r.ms r.object_is) ∙ threads_are

    counters : AreSaid (r.tags).names t.counts x.rows
    counters = counters_said (r.tags).names t.counts x.rows (r.are).names (countable (r.tags).names t can (x.have).0) x.rows_are

    abbrev items : List SavedItem
    items = map (saved t) (items_of t)

    item_list : SayAll (SaysItem (r.tags).names) (data_list parts.tree) items × IsFlatList parts.tree
    item_list = items_said (r.tags).names t (r.are).names (sayable (r.tags).names t can (x.have).0)

    again : (u : Tree) × ((with_saved_items 0 (root_counted t.counts) items ≡ Ok u) × HoldsReached t u)
    again = trees_again t can.whole

    says : SaysStart code (document parts) r.tags again.0 r.pipes r.threads
    says =
        record {
          ms = members_of parts;
          is = refl;
          version = refl;
          tags_read = (tags_read r.tags r.are).0 (members_of parts) refl;
          counts = counters.homes;
          items = items;
          says = record { counts = (data_list parts.counts, refl, counters.say); tree = (data_list parts.tree, refl, item_list.0) };
          made = ap (λ (r : Reading Counts). r >>= λ counts. with_saved_items 0 (root_counted counts) items) counters.made ∙ again.1.0;
          pipes_read = same_pipes (r.tags).names (members_of parts) r.ms (sym old_pipes) ∙ r.pipes_read;
          threads_read = same_threads code (r.tags).names (r.pipes).called (members_of parts) r.ms (sym old_threads) ∙ r.threads_read;
        }

    readable : IsReadable parts
    readable =
        let whole = object_deep d r.ms r.object_is in
        let p = member_deep (codes "pipes") r.ms pipes old_pipes in
        let h = member_deep (codes "threads") r.ms threads old_threads in
        let a = counters.flat.flat in
        let b = (tags_read r.tags r.are).1.flat in
        let c = item_list.1.flat in
        record { counts = counters.flat.plain; tags = (tags_read r.tags r.are).1.plain; tree = item_list.1.plain; shallow = omega arith }

    abbrev next : World
    next = staged r.tags again.0 (r.pipes).queues r.threads

    utf8 : is_utf8 text ≡ true
    utf8 =
        let a = compact_utf8 pipes (x.spells).pipes (x.spells).pipes_are in
        let b = compact_utf8 threads (x.spells).threads (x.spells).threads_are in
        is_utf8-from_IsUtf8 text
        (subst IsUtf8 (sym (x.spells).text_is) (text_utf8 (r.tags).names (public_of (r.tags).kinds) t (x.rows_are).homes x.rows pipes threads (x.spells).pipes (x.spells).threads (r.are).names (x.rows_are).same (x.have).1 a b))

    text_start : start_of text code ≡ Ok next
    text_start =
        ap (λ b. world_or (if b then read text else None) code) utf8
        ∙ ap (λ (o : Option Data). world_or o code) (spelled_read parts text x.spells readable)
        ∙ start_read code (document parts) r.tags again.0 r.pipes r.threads says

    goes_on : (v : World) × ((start_of text code ≡ Ok v) × GoesOn start t v)
    goes_on = (next, (text_start, record { names = refl; public = refl; next_tag = refl; pipes = refl; threads = refl; heap = refl; monitors = refl; files = again.1.1 }))

  still : AreSavable t → IsSaid w t pipes threads text → (v : World) × ((start_of text code ≡ Ok v) × GoesOn w t v)
  still can x =
      let g = goes_on can (subst (λ (z : World). IsSaid z t pipes threads text) (sym r.is) x) in
      (g.0, (g.1.0, subst (λ (z : World). GoesOn z t g.0) r.is g.1.1))

pub text_read : (code : CodeTree) → SavedTextsAreRead code
text_read code old text w t starts can x =
    let a = x.parts_are in
    let k = a.kept in
    let of_text : data_of old ≡ Some k.document = ap (λ b. if b then read old else None) k.utf8 ∙ k.reads in
    let of_world : world_of k.document code ≡ Ok w = sym (ap (λ (r : Option Data). world_or r code) of_text) ∙ starts in
    still code text k.document w (read_of code k.document w of_world) (depth-read old k.document k.reads) t a.pipes a.threads k.pipes_are k.threads_are can
    (record { have = x.have; rows = a.rows; rows_are = a.counts; spells = subst (λ (p : Parts). Spells p text) a.are x.spells })

-- ---- the end of a run

pub end_savable : (code : CodeTree) → IsCode code → (old : Text) (w : World) (turns : List ℕ) → start_of old code ≡ Ok w → HoldBytes (replay code turns w).files → AreSavable (replay code turns w).files
end_savable code is old w turns starts bytes =
    let e = ends_whole code is w turns (start_valid code old w starts).valid (text_forest code old w starts) (text_small code old w starts) in
    record { whole = e.0; bytes = bytes; above = e.1.above }

pub next_read : (code : CodeTree) → NextWorldsAreRead code
next_read code is old text many w turns starts x = text_read code old text w (replay code turns w).files starts (end_savable code is old w turns starts x.bytes) x.text_is
