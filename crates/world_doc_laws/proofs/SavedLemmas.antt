-- What is read of the members that say counters and items.
use Rattle.std.proofs.Common.{◌≡◌, ℕ, suc, List, [], ◌∷◌, length, Option, Some, None, Ok, Err, refl, ap, ◌∙◌}
use Rattle.std.specs.Prelude.{codes, option_and_then}
use Rattle.std.specs.FinMap.{empty, insert}
use Rattle.serde_json.specs.Data.{Data, Items, no_items, item, Members}
use Rattle.serde_json.specs.Find.{get_member}
use Rattle.flow_labels.specs.declared.Label.{Label}
use Rattle.flow_labels.specs.TwoLists.{Text}
use Rattle.capabilities.specs.Kinds.{public_of}
use Rattle.lam_value.specs.declared.names.Name.{Name}
use Rattle.lam_value.specs.Homes.{Home, Counts, home_of, name_of}
use Rattle.labelled_heap.specs.Things.{no_things}
use Rattle.labelled_files.specs.Trees.{Tree, place_fault}
use Rattle.lam_bytecode.specs.Codes.{CodeTree}
use Rattle.thread_steps.specs.Threads.{Thread}
use Rattle.lam_machine_terms.specs.Worlds.{World}
use Rattle.world_doc_terms.specs.declared.version.Version.{Version}
use Rattle.world_doc_terms.specs.Breaks.{Reading, ◌>>=◌, only_if, formed, present, member_as}
use Rattle.world_doc_terms.specs.Tags.{FirstTags, tags_in, label_as, label_in}
use Rattle.world_doc_terms.specs.Stores.{Spot, Content, Pipes, spot_of, unless_full, pipes_in}
use Rattle.world_doc_terms.specs.Numbered.{whole, next_in, new_home, with_count_item, with_counts, with_root, root_counted, hex_content_of, is_open, name_in, with_named, with_numbered_item, with_numbered_items, numbered_tree_in, numbered_in}
use Rattle.world_doc_terms.specs.SavedItems.{counted_items, counts_of, SavedItem, item_name, with_saved_item, with_saved_items, SaysCount, SaysItem, SayAll}
use Rattle.world_doc_terms.specs.Entries.{threads_in}
use Rattle.world_doc_terms.specs.Start.{files_in, world_in}
use Rattle.world_doc_laws.specs.Saved.{FilesAreRead, StartsAreRead}

-- ---- readings

same_after : {A B : Type 0} (r : Reading A) (f g : A → Reading B) → ((x : A) → f x ≡ g x) → (r >>= f) ≡ (r >>= g)
same_after (Ok x) f g h = h x
same_after (Err e) f g h = refl

value_then : {A B C : Type 0} (r : Reading A) (f : A → B) (g : B → Reading C) → ((r >>= λ x. Ok (f x)) >>= g) ≡ (r >>= λ x. g (f x))
value_then (Ok x) f g = refl
value_then (Err e) f g = refl

pub inside : {X : Type 0} {x y : X} → ◌≡◌ {A = Reading X} (Ok x) (Ok y) → x ≡ y
inside e = cc

-- a member of a form, on which more is asked
module _ {A B : Type 0} (name : Text) (form : Data → Option A) (f : A → Option B) where
  formed_on : (o : Option A) (x : A) → formed name o ≡ Ok x → formed name (option_and_then f o) ≡ formed name (f x)
  formed_on None x e = absurd cc
  formed_on (Some y) x e = ap (λ (z : A). formed name (f z)) (inside e)

  present_on : (o : Option Data) (x : A) → (present name o >>= λ d. formed name (form d)) ≡ Ok x → (present name o >>= λ d. formed name (option_and_then f (form d))) ≡ formed name (f x)
  present_on None x e = absurd cc
  present_on (Some d) x e = formed_on (form d) x e

  member_on : (ms : Members) (x : A) → member_as name form ms ≡ Ok x → member_as name (λ d. option_and_then f (form d)) ms ≡ formed name (f x)
  member_on ms x e = present_on (get_member name ms) x e

module _ (names : List Text) where
  -- ---- counters

  count_read : (counts : Counts) (ms : Members) (e : Home × ℕ) → SaysCount names ms e → with_count_item names counts ms ≡ (new_home counts e.0 >>= λ home. Ok (insert counts home e.1))
  count_read counts ms e says =
      ap (λ (r : Reading Label). r >>= λ maker. label_as (codes "own") names ms >>= λ own. new_home counts (home_of maker own) >>= λ home. next_in ms >>= λ n. Ok (insert counts home n)) says.maker
      ∙ ap (λ (r : Reading Label). r >>= λ own. new_home counts (home_of e.0.maker own) >>= λ home. next_in ms >>= λ n. Ok (insert counts home n)) says.own
      ∙ ap (λ (r : Reading ℕ). new_home counts e.0 >>= λ home. r >>= λ n. Ok (insert counts home n)) says.number

  counts_read : (counts : Counts) (ds : Items) (es : List (Home × ℕ)) → SayAll (SaysCount names) ds es → with_counts names counts ds ≡ counted_items counts es
  counts_read counts no_items [] says = refl
  counts_read counts (item d ds) (e ∷ es) says =
      ap (λ (o : Option Members). formed (codes "counts") o >>= λ ms. with_count_item names counts ms >>= λ more. with_counts names more ds) says.0.1
      ∙ ap (λ (r : Reading Counts). r >>= λ more. with_counts names more ds) (count_read counts says.0.0 e says.0.2)
      ∙ value_then (new_home counts e.0) (λ home. insert counts home e.1) (λ more. with_counts names more ds)
      ∙ same_after (new_home counts e.0) (λ home. with_counts names (insert counts home e.1) ds) (λ home. counted_items (insert counts home e.1) es) (λ home. counts_read (insert counts home e.1) ds es says.1)
  counts_read counts ds es says = absurd says

  -- ---- items

  module _ (index : ℕ) (t : Tree) (ms : Members) (it : SavedItem) (says : SaysItem names ms it) where
    abbrev put : Spot → Name → Content → Reading Tree
    put s name content = unless_full index (place_fault t s.dir s.text) (with_named t s name content)

    abbrev at_home : Spot → Home → Reading Tree
    at_home s home = name_in t home ms >>= λ name. hex_content_of (get_member (codes "dir") ms) (get_member (codes "hex") ms) >>= λ content. put s name content

    spot_read : (s : Spot) →
        (label_in names ms >>= λ own. label_as (codes "maker") names ms >>= λ maker. at_home s (home_of maker own)) ≡ (formed (codes "number") (only_if (is_open t (item_name it)) (item_name it)) >>= λ name. put s name it.content)
    spot_read s =
        ap (λ (r : Reading Label). r >>= λ own. label_as (codes "maker") names ms >>= λ maker. at_home s (home_of maker own)) says.own
        ∙ ap (λ (r : Reading Label). r >>= λ maker. at_home s (home_of maker it.own)) says.maker
        ∙ ap (λ (r : Reading Content). name_in t (home_of it.maker it.own) ms >>= λ name. r >>= λ content. put s name content) says.content
        ∙ ap (λ (r : Reading Name). r >>= λ name. put s name it.content) (member_on (codes "number") whole (λ n. only_if (is_open t (name_of (home_of it.maker it.own) n)) (name_of (home_of it.maker it.own) n)) ms it.number says.number)

    item_read : with_numbered_item names index t ms ≡ with_saved_item index t it
    item_read =
        ap (λ (r : Reading Text). r >>= λ path. spot_of index t path >>= λ s. label_in names ms >>= λ own. label_as (codes "maker") names ms >>= λ maker. at_home s (home_of maker own)) says.path
        ∙ same_after (spot_of index t it.path) (λ s. label_in names ms >>= λ own. label_as (codes "maker") names ms >>= λ maker. at_home s (home_of maker own))
        (λ s. formed (codes "number") (only_if (is_open t (item_name it)) (item_name it)) >>= λ name. put s name it.content) spot_read

  items_read : (index : ℕ) (t : Tree) (ds : Items) (its : List SavedItem) → SayAll (SaysItem names) ds its → with_numbered_items names index t ds ≡ with_saved_items index t its
  items_read index t no_items [] says = refl
  items_read index t (item d ds) (it ∷ its) says =
      ap (λ (o : Option Members). formed (codes "tree") o >>= λ ms. with_numbered_item names index t ms >>= λ u. with_numbered_items names (suc index) u ds) says.0.1
      ∙ ap (λ (r : Reading Tree). r >>= λ u. with_numbered_items names (suc index) u ds) (item_read index t says.0.0 it says.0.2)
      ∙ same_after (with_saved_item index t it) (λ u. with_numbered_items names (suc index) u ds) (λ u. with_saved_items (suc index) u its) (λ u. items_read (suc index) u ds its says.1)
  items_read index t ds its says = absurd says

-- ---- both

pub files_read : FilesAreRead
files_read names ms es its says =
    let c = says.counts in
    let i = says.tree in
    ap (λ (r : Reading Items). r >>= with_counts names empty >>= with_root >>= λ counts. numbered_tree_in names counts ms) c.1
    ∙ ap (λ (r : Reading Counts). r >>= with_root >>= λ counts. numbered_tree_in names counts ms) (counts_read names empty c.0 es c.2)
    ∙ ap (λ (r : Reading Items). counts_of es >>= λ counts. r >>= with_numbered_items names 0 (root_counted counts)) i.1
    ∙ same_after (counts_of es) (λ counts. with_numbered_items names 0 (root_counted counts) i.0) (λ counts. with_saved_items 0 (root_counted counts) its) (λ counts. items_read names 0 (root_counted counts) i.0 its i.2)

-- ---- the start

module _ (code : CodeTree) (tags : FirstTags) (ms : Members) where
  abbrev whole_world : Tree → Pipes → List Thread → Reading World
  whole_world files pipes threads = Ok (record { names = tags.names; public = public_of tags.kinds; next_tag = length tags.names; heap = no_things; monitors = empty; files = files; pipes = pipes.queues; threads = threads })

  abbrev with_pipes : Tree → Pipes → Reading World
  with_pipes files pipes = threads_in code tags.names pipes.called ms >>= λ threads. whole_world files pipes threads

  abbrev with_files : Tree → Reading World
  with_files files = pipes_in tags.names ms >>= λ pipes. with_pipes files pipes

pub start_read : (code : CodeTree) → StartsAreRead code
start_read code d tags files pipes threads s =
    ap (λ (o : Option Members). formed (codes "version") o >>= λ ms. world_in code ms) s.is
    ∙ ap (λ (r : Reading Version). r >>= λ version. tags_in version s.ms >>= λ tags. files_in version tags.names s.ms >>= λ files. with_files code tags s.ms files) s.version
    ∙ ap (λ (r : Reading FirstTags). r >>= λ tags. numbered_in tags.names s.ms >>= λ files. with_files code tags s.ms files) s.tags_read
    ∙ ap (λ (r : Reading Tree). r >>= λ files. with_files code tags s.ms files) (files_read tags.names s.ms s.counts s.items s.says ∙ s.made)
    ∙ ap (λ (r : Reading Pipes). r >>= λ pipes. with_pipes code tags s.ms files pipes) s.pipes_read
    ∙ ap (λ (r : Reading (List Thread)). r >>= λ threads. whole_world code tags s.ms files pipes threads) s.threads_read
