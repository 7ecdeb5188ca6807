-- The files and directories of the world of a document are a forest, in each version.
use Rattle.std.proofs.Common.{◌≡◌, List, length, Option, Some, None, Ok, subst}
use Rattle.std.specs.Prelude.{IfOk, codes}
use Rattle.std.specs.FinMap.{empty}
use Rattle.serde_json.specs.Data.{Data, Members}
use Rattle.serde_json.specs.Find.{as_object}
use Rattle.flow_labels.specs.TwoLists.{Text}
use Rattle.capabilities.specs.Kinds.{public_of}
use Rattle.labelled_heap.specs.Things.{no_things}
use Rattle.labelled_files.specs.Trees.{Tree}
use Rattle.lam_bytecode.specs.Codes.{CodeTree}
use Rattle.thread_steps.specs.Threads.{Thread}
use Rattle.lam_machine_terms.specs.Worlds.{World}
use Rattle.world_doc_terms.specs.declared.version.Version.{Version}
use Rattle.world_doc_terms.specs.declared.version.Version.TheVariants.{One, Two, Three}
use Rattle.world_doc_terms.specs.Breaks.{Reading, ◌>>=◌, formed}
use Rattle.world_doc_terms.specs.Tags.{FirstTags, tags_in}
use Rattle.world_doc_terms.specs.Stores.{Pipes, pipes_in}
use Rattle.world_doc_terms.specs.Entries.{threads_in}
use Rattle.world_doc_terms.specs.Start.{version_in, files_in, world_in, world_or}
use Rattle.world_forest.specs.Forest.{IsForest}
use Rattle.world_forest_laws.specs.FirstWorlds.{WorldsAreForests, TextsAreForests}
use Rattle.world_forest_laws.proofs.Readings.{after, onward}
use Rattle.world_forest_laws.proofs.TreeLemmas.{IsSoundForest, tree_stands, numbered_stands}

abbrev Planted : World → Type 0
Planted w = IsForest w.files

files_stand : (version : Version) (names : List Text) (ms : Members) → IfOk (files_in version names ms) IsSoundForest
files_stand One names ms = tree_stands names ms
files_stand Two names ms = tree_stands names ms
files_stand Three names ms = numbered_stands names ms

module _ (code : CodeTree) (ms : Members) where
  abbrev whole : FirstTags → Tree → Pipes → List Thread → Reading World
  whole tags files pipes threads = Ok (record { names = tags.names; public = public_of tags.kinds; next_tag = length tags.names; heap = no_things; monitors = empty; files = files; pipes = pipes.queues; threads = threads })

  abbrev with_pipes : FirstTags → Tree → Pipes → Reading World
  with_pipes tags files pipes = threads_in code tags.names pipes.called ms >>= λ threads. whole tags files pipes threads

  abbrev with_files : FirstTags → Tree → Reading World
  with_files tags files = pipes_in tags.names ms >>= λ pipes. with_pipes tags files pipes

  abbrev with_names : Version → FirstTags → Reading World
  with_names version tags = files_in version tags.names ms >>= λ files. with_files tags files

  files_planted : (tags : FirstTags) (files : Tree) → IsSoundForest files → IfOk (with_files tags files) Planted
  files_planted tags files f =
      after (pipes_in tags.names ms) (λ pipes. with_pipes tags files pipes) Planted
      (λ pipes. after (threads_in code tags.names pipes.called ms) (λ threads. whole tags files pipes threads) Planted (λ threads. f.forest))

  members_planted : IfOk (world_in code ms) Planted
  members_planted =
      after (version_in ms) (λ version. tags_in version ms >>= λ tags. with_names version tags) Planted
      (λ version. after (tags_in version ms) (λ tags. with_names version tags) Planted
      (λ tags. onward (files_in version tags.names ms) IsSoundForest (files_stand version tags.names ms) (λ files. with_files tags files) Planted (files_planted tags)))

module _ (code : CodeTree) where
  planted : (d : Data) → IfOk (formed (codes "version") (as_object d) >>= λ ms. world_in code ms) Planted
  planted d = after (formed (codes "version") (as_object d)) (λ ms. world_in code ms) Planted (members_planted code)

  pub world_forest : WorldsAreForests code
  world_forest d w e = subst (λ (r : Reading World). IfOk r Planted) e (planted d)

  reading : (o : Option Data) (w : World) → world_or o code ≡ Ok w → IsForest w.files
  reading None w e = cc
  reading (Some d) w e = world_forest d w e

  pub text_forest : TextsAreForests code
  text_forest text w e = search (reading, e)
