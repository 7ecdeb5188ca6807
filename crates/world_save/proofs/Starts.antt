-- A document that gives a start is a text of an object that has the members `pipes` and `threads`.
use Rattle.std.proofs.Common.{◌≡◌, ℕ, Bool, true, false, cond, List, [], length, Option, Some, None, refl}
use Rattle.std.specs.Prelude.{Result, Ok, Err, codes, option_and_then, nat_lt, nat_le, ◌&&◌}
use Rattle.std.specs.Str.{is_utf8}
use Rattle.serde_json.specs.Data.{Data, null, boolean, number, string, array, object, Items, Members}
use Rattle.serde_json.specs.Find.{get_member, as_object, as_array}
use Rattle.serde_json.specs.Read.{read}
use Rattle.serde_json.specs.Events.{items_len}
use Rattle.flow_labels.specs.TwoLists.{Text}
use Rattle.capabilities.specs.Kinds.{public_of}
use Rattle.lam_bytecode.specs.Codes.{CodeTree}
use Rattle.lam_machine_terms.specs.Worlds.{World}
use Rattle.std.specs.FinMap.{empty}
use Rattle.labelled_heap.specs.Things.{no_things}
use Rattle.labelled_files.specs.Trees.{Tree}
use Rattle.labelled_pipes.specs.Queues.{no_pipes}
use Rattle.world_doc_terms.specs.declared.version.Version.{Version}
use Rattle.world_doc_terms.specs.Breaks.{Break, Reading, ◌>>=◌, only_if, present, formed, member_as}
use Rattle.world_doc_terms.specs.Tags.{FirstTags, tags_in}
use Rattle.world_doc_terms.specs.Stores.{Pipes, with_pipes, pipes_in}
use Rattle.world_doc_terms.specs.Entries.{most_starting, threads_of, threads_in}
use Rattle.world_doc_terms.specs.Start.{version_in, files_in, world_in, world_of, world_or, start_of}
use Rattle.world_save_files.specs.Saved.{HasKept, CanBeKept}

-- what was read before what was read after it
bound : {A B : Type 0} (r : Reading A) (f : A → Reading B) (b : B) → (r >>= f) ≡ Ok b → (a : A) × ((r ≡ Ok a) × (f a ≡ Ok b))
bound (Ok a) f b e = (a, (refl, e))
bound (Err x) f b e = absurd cc

is_present : (name : Text) (o : Option Data) (d : Data) → present name o ≡ Ok d → o ≡ Some d
is_present name None d e = absurd cc
is_present name (Some x) d e = let same : x ≡ d = cc in λ i. Some (same i)

-- a member that has a form is there
has_member : {A : Type 0} (name : Text) (form : Data → Option A) (ms : Members) (a : A) → member_as name form ms ≡ Ok a → (d : Data) × (get_member name ms ≡ Some d)
has_member name form ms a e =
    let p = bound (present name (get_member name ms)) (λ d. formed name (form d)) a e in
    (p.0, is_present name (get_member name ms) p.0 p.1.0)

abbrev few_threads : Data → Option Items
few_threads d = option_and_then (λ items. only_if (nat_lt 0 (items_len items) && nat_le (items_len items) most_starting) items) (as_array d)

has_pipes : (names : List Text) (ms : Members) (p : Pipes) → pipes_in names ms ≡ Ok p → (d : Data) × (get_member (codes "pipes") ms ≡ Some d)
has_pipes names ms p e =
    let q = bound (member_as (codes "pipes") as_array ms) (λ items. with_pipes names (record { queues = no_pipes; called = [] }) items) p e in
    has_member (codes "pipes") as_array ms q.0 q.1.0

module _ (code : CodeTree) (ms : Members) where
  abbrev by_threads : FirstTags → Tree → Pipes → Reading World
  by_threads tags files pipes =
      threads_in code tags.names pipes.called ms
      >>= λ threads. Ok (record { names = tags.names; public = public_of tags.kinds; next_tag = length tags.names; heap = no_things; monitors = empty; files = files; pipes = pipes.queues; threads = threads })

  abbrev by_pipes : FirstTags → Tree → Reading World
  by_pipes tags files = pipes_in tags.names ms >>= by_threads tags files

  abbrev by_files : Version → FirstTags → Reading World
  by_files version tags = files_in version tags.names ms >>= by_pipes tags

  abbrev by_tags : Version → Reading World
  by_tags version = tags_in version ms >>= by_files version

  has_threads : (tags : FirstTags) (files : Tree) (pipes : Pipes) (w : World) → by_threads tags files pipes ≡ Ok w → (d : Data) × (get_member (codes "threads") ms ≡ Some d)
  has_threads tags files pipes w e =
      let p = bound (threads_in code tags.names pipes.called ms) (λ threads. Ok (record { names = tags.names; public = public_of tags.kinds; next_tag = length tags.names; heap = no_things; monitors = empty; files = files; pipes = pipes.queues; threads = threads })) w e in
      let q = bound (member_as (codes "threads") few_threads ms) (threads_of code tags.names pipes.called) p.0 p.1.0 in
      has_member (codes "threads") few_threads ms q.0 q.1.0

  keeps : (w : World) → world_in code ms ≡ Ok w → ((d : Data) × (get_member (codes "pipes") ms ≡ Some d)) × ((d : Data) × (get_member (codes "threads") ms ≡ Some d))
  keeps w e =
      let version = bound (version_in ms) by_tags w e in
      let tags = bound (tags_in version.0 ms) (by_files version.0) w version.1.1 in
      let files = bound (files_in version.0 tags.0.names ms) (by_pipes tags.0) w tags.1.1 in
      let pipes = bound (pipes_in tags.0.names ms) (by_threads tags.0 files.0) w files.1.1 in
      (has_pipes tags.0.names ms pipes.0 pipes.1.0, has_threads tags.0 files.0 pipes.0 w pipes.1.1)

by_data : (text : Text) (code : CodeTree) (w : World) (d : Data) → is_utf8 text ≡ true → read text ≡ Some d → world_of d code ≡ Ok w → CanBeKept text
by_data text code w null u r e = absurd cc
by_data text code w (boolean b) u r e = absurd cc
by_data text code w (number n) u r e = absurd cc
by_data text code w (string s) u r e = absurd cc
by_data text code w (array ds) u r e = absurd cc
by_data text code w (object ms) u r e =
    let p = keeps code ms w e in
    (p.0.0, p.1.0, record { utf8 = u; document = object ms; reads = r; pipes_are = p.0.1; threads_are = p.1.1 })

by_text : (text : Text) (code : CodeTree) (w : World) (b : Bool) (o : Option Data) → is_utf8 text ≡ b → read text ≡ o → world_or (cond b o None) code ≡ Ok w → CanBeKept text
by_text text code w false o u r e = absurd cc
by_text text code w true None u r e = absurd cc
by_text text code w true (Some d) u r e = by_data text code w d u r e

pub kept : (text : Text) (code : CodeTree) (w : World) → start_of text code ≡ Ok w → CanBeKept text
kept text code w e = by_text text code w (is_utf8 text) (read text) refl refl e
