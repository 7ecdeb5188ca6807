-- A document's members, one after another.
use Rattle.std.proofs.Common.{◌≡◌, List, [], length, Result, Ok, Err, refl, sym, ap, ◌∙◌}
use Rattle.std.specs.Prelude.{codes}
use Rattle.std.specs.FinMap.{empty}
use Rattle.std.specs.Borrow.{Bor}
use Rattle.serde_json.specs.Data.{Data, Members}
use Rattle.serde_json.specs.Find.{as_array, as_object}
use Rattle.flow_labels.specs.TwoLists.{Text}
use Rattle.capabilities.specs.Kinds.{public_of}
use Rattle.lam_value.specs.declared.names.Name.{Name}
use Rattle.labelled_heap.specs.Things.{no_things}
use Rattle.labelled_files.specs.Trees.{Tree, root_alone}
use Rattle.labelled_pipes.specs.Queues.{Queues}
use Rattle.lam_bytecode.specs.Codes.{CodeTree}
use Rattle.lam_machine_terms.specs.Worlds.{World}
use Rattle.lam_machine_effects.specs.declared.stores.Stores.{Stores}
use Rattle.lam_machine_effects.specs.Parts.{first_stores}
use Rattle.world_doc_terms.specs.Breaks.{Reading, ◌>>=◌, formed, member_as}
use Rattle.world_doc_terms.specs.declared.version.Version.{Version}
use Rattle.world_doc_terms.specs.Tags.{FirstTags, tags_in}
use Rattle.world_doc_terms.specs.declared.version.Version.TheVariants.{One, Two, Three}
use Rattle.world_doc_terms.specs.Stores.{Pipes, pipes_in}
use Rattle.world_doc_terms.specs.Numbered.{counts_in, root_counted, with_numbered_items}
use Rattle.world_doc_terms.specs.Entries.{threads_in}
use Rattle.world_doc_terms.specs.Start.{version_in, files_in, world_in, world_of}
use Rattle.world_doc_stores.specs.declared.fault.WorldFault.{WorldFault}
use Rattle.world_doc_stores.specs.Meaning.{Fails, GivesOnto}
use Rattle.world_doc_stores.proofs.Steps.{fails_here, fails_same}
use Rattle.world_doc_stores.specs.Contents.{files_onto}
use Rattle.world_doc.specs.Called.{called_of, pipes_of, pipes_onto}
use Rattle.world_doc.specs.Document.{filled, with_threads, world_onto, after_tags}

-- ---- the stores

abbrev more_pipes : Stores → Tree → Pipes → Stores × List (Text × Name)
more_pipes s files pipes = (record s { files = files; pipes = pipes.queues }, pipes.called)

abbrev after_tree : Stores → List (Text × Name) → Members → Tree → Reading (Stores × List (Text × Name))
after_tree s called ms files = pipes_onto s.names (record { queues = s.pipes; called = called }) ms >>= λ pipes. Ok (more_pipes s files pipes)

module _ (version : Version) where
  pub not_filled : (e : WorldFault) (s : Stores) (called : List (Text × Name)) (ms : Members) → Fails e (files_onto version s.names s.files ms) → Fails e (filled version s called ms)
  not_filled e s called ms h = fails_here e (files_onto version s.names s.files ms) (after_tree s called ms) h

  pub filled_by : (s : Stores) (es : List (Bor Text × Name)) (ms : Members) (files : Tree) (queues : Queues) (fs : List (Bor Text × Name)) (r : Result (Unit {0}) WorldFault) → files_onto version s.names s.files ms ≡ Ok files →
      GivesOnto r (pipes_of queues fs) (pipes_onto s.names (pipes_of s.pipes es) ms) → GivesOnto r (record s { files = files; pipes = queues }, called_of fs) (filled version s (called_of es) ms)
  filled_by s es ms files queues fs (Ok u) f h = ap (λ r. r >>= after_tree s (called_of es) ms) f ∙ ap (λ r. r >>= λ pipes. Ok (more_pipes s files pipes)) h
  filled_by s es ms files queues fs (Err e) f h =
      fails_same (sym (ap (λ r. r >>= after_tree s (called_of es) ms) f)) (fails_here e (pipes_onto s.names (pipes_of s.pipes es) ms) (λ pipes. Ok (more_pipes s files pipes)) h)

-- ---- from stores on

module _ (code : CodeTree) (version : Version) (ms : Members) (s : Stores) (es : List (Bor Text × Name)) where
  pub not_onto : (e : WorldFault) → Fails e (filled version s (called_of es) ms) → Fails e (world_onto code version ms s (called_of es))
  not_onto e h = fails_here e (filled version s (called_of es) ms) (with_threads code ms) h

  pub onto : (p : Stores × List (Text × Name)) → filled version s (called_of es) ms ≡ Ok p → with_threads code ms p ≡ world_onto code version ms s (called_of es)
  onto p h = sym (ap (λ r. r >>= with_threads code ms) h)

module _ (code : CodeTree) (version : Version) (ms : Members) (tags : FirstTags) (s : Stores) (es : List (Bor Text × Name)) (first : s ≡ first_stores tags.names (public_of tags.kinds)) (none : es ≡ []) where
  first_filled : filled version (first_stores tags.names (public_of tags.kinds)) [] ms ≡ filled version s (called_of es) ms
  first_filled = ap (λ (s : Stores). filled version s [] ms) (sym first) ∙ ap (λ (es : List (Bor Text × Name)). filled version s (called_of es) ms) (sym none)

  pub from_first : world_onto code version ms s (called_of es) ≡ after_tags code version ms tags
  from_first = ap (λ r. r >>= with_threads code ms) (sym first_filled)

-- ---- from the version on

value_then : {A B C : Type 0} (r : Reading A) (f : A → B) (g : B → Reading C) → (r >>= λ x. g (f x)) ≡ ((r >>= λ x. Ok (f x)) >>= g)
value_then (Ok x) f g = refl
value_then (Err e) f g = refl

-- the files of a document, put into those that are there at first
files_first : (version : Version) (names : List Text) (ms : Members) → files_in version names ms ≡ files_onto version names root_alone ms
files_first One names ms = refl
files_first Two names ms = refl
files_first Three names ms = value_then (counts_in names ms) root_counted (λ u. member_as (codes "tree") as_array ms >>= with_numbered_items names 0 u)

abbrev then_files : CodeTree → Members → FirstTags → Tree → Reading World
then_files code ms tags files =
    pipes_in tags.names ms
    >>= λ pipes. threads_in code tags.names pipes.called ms
    >>= λ threads. Ok (record { names = tags.names; public = public_of tags.kinds; next_tag = length tags.names; heap = no_things; monitors = empty; files = files; pipes = pipes.queues; threads = threads })

abbrev then_tags : CodeTree → Version → Members → FirstTags → Reading World
then_tags code version ms tags = files_in version tags.names ms >>= then_files code ms tags

joined : {A B C D : Type 0} (r : Reading A) (p : Reading B) (make : A → B → C) (f : C → Reading D) → (r >>= λ a. p >>= λ b. f (make a b)) ≡ ((r >>= λ a. p >>= λ b. Ok (make a b)) >>= f)
joined (Ok a) (Ok b) make f = refl
joined (Ok a) (Err e) make f = refl
joined (Err e) p make f = refl

tags_then : (code : CodeTree) (version : Version) (ms : Members) (tags : FirstTags) → then_tags code version ms tags ≡ after_tags code version ms tags
tags_then code version ms tags =
    ap (λ r. r >>= then_files code ms tags) (files_first version tags.names ms)
    ∙ joined (files_onto version tags.names root_alone ms) (pipes_in tags.names ms) (λ files pipes. more_pipes (first_stores tags.names (public_of tags.kinds)) files pipes) (with_threads code ms)

module _ (d : Data) (code : CodeTree) (ms : Members) (is : formed (codes "version") (as_object d) ≡ Ok ms) where
  pub no_version : (e : WorldFault) → Fails e (version_in ms) → Fails e (world_of d code)
  no_version e h = fails_same (sym (ap (λ r. r >>= world_in code) is)) (fails_here e (version_in ms) (λ version. tags_in version ms >>= then_tags code version ms) h)

  module _ (version : Version) (v : version_in ms ≡ Ok version) where
    to_tags : world_of d code ≡ (tags_in version ms >>= then_tags code version ms)
    to_tags = ap (λ r. r >>= world_in code) is ∙ ap (λ r. r >>= λ version. tags_in version ms >>= then_tags code version ms) v

    pub tags_broken : (e : WorldFault) → Fails e (tags_in version ms) → Fails e (world_of d code)
    tags_broken e h = fails_same (sym to_tags) (fails_here e (tags_in version ms) (then_tags code version ms) h)

    pub of_tags : (tags : FirstTags) → tags_in version ms ≡ Ok tags → after_tags code version ms tags ≡ world_of d code
    of_tags tags t = sym (to_tags ∙ ap (λ r. r >>= then_tags code version ms) t ∙ tags_then code version ms tags)
