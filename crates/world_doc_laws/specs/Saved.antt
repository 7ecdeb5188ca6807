-- What is read of a document of version 3, by the counters and items that it says.
--
-- Who writes such a document knows which homes have made how many files and directories, and where each stands under which
-- name. Where the document's members say so much, the files and directories that are read are exactly those that these
-- counters and items make, one after another (`files_of_items`), or their first break.
use Rattle.std.specs.Prelude.{◌≡◌, ◌≤◌, ℕ, List, length, Some, Ok}
use Rattle.std.specs.FinMap.{empty}
use Rattle.serde_json.specs.Data.{Data, string, Members}
use Rattle.serde_json.specs.Find.{as_object}
use Rattle.hex.specs.Hex.{encode_lower, IsBytes}
use Rattle.flow_labels.specs.TwoLists.{Text}
use Rattle.capabilities.specs.Kinds.{public_of}
use Rattle.lam_value.specs.Homes.{Home}
use Rattle.labelled_heap.specs.Things.{no_things}
use Rattle.labelled_files.specs.Trees.{Tree, most_bytes}
use Rattle.lam_bytecode.specs.Codes.{CodeTree}
use Rattle.thread_steps.specs.Threads.{Thread}
use Rattle.world_doc_terms.specs.declared.version.Version.TheVariants.{Three}
use Rattle.world_doc_terms.specs.Tags.{FirstTags, tags_in}
use Rattle.world_doc_terms.specs.Stores.{a_text, Pipes, pipes_in}
use Rattle.world_doc_terms.specs.Numbered.{as_hex, numbered_in}
use Rattle.world_doc_terms.specs.SavedItems.{SavedItem, files_of_items, SaysFiles}
use Rattle.world_doc_terms.specs.Entries.{threads_in}
use Rattle.world_doc_terms.specs.Start.{version_in, world_of}

-- the files and directories of such a document are those of its counters and items
abbrev pub FilesAreRead : Type 0
FilesAreRead = (names : List Text) (ms : Members) (es : List (Home × ℕ)) (its : List SavedItem) → SaysFiles names ms es its → numbered_in names ms ≡ files_of_items es its

-- a document of version 3 that says tags, counters, items, pipes and threads
pub record SaysStart (code : CodeTree) (d : Data) (tags : FirstTags) (files : Tree) (pipes : Pipes) (threads : List Thread) : Type 0 where
  pub ms : Members
  pub is : as_object d ≡ Some ms
  pub version : version_in ms ≡ Ok Three
  pub tags_read : tags_in Three ms ≡ Ok tags
  pub counts : List (Home × ℕ)
  pub items : List SavedItem
  pub says : SaysFiles tags.names ms counts items
  pub made : files_of_items counts items ≡ Ok files
  pub pipes_read : pipes_in tags.names ms ≡ Ok pipes
  pub threads_read : threads_in code tags.names pipes.called ms ≡ Ok threads

-- gives the start that has them
abbrev pub StartsAreRead : CodeTree → Type 0
StartsAreRead code =
    (d : Data) (tags : FirstTags) (files : Tree) (pipes : Pipes) (threads : List Thread) → SaysStart code d tags files pipes threads →
    world_of d code ≡ Ok (record { names = tags.names; public = public_of tags.kinds; next_tag = length tags.names; heap = no_things; monitors = empty; files = files; pipes = pipes.queues; threads = threads })

-- the digits of the bytes of a file are read as these bytes
abbrev pub BytesAreRead : Type 0
BytesAreRead = (bytes : List ℕ) → IsBytes bytes → length bytes ≤ most_bytes → as_hex (string (encode_lower bytes)) ≡ Some (a_text bytes)
