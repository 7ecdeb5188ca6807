-- What a document makes of the stores, and with the stores of the threads.
use Rattle.std.specs.Prelude.{List, [], Option, Some, None, Ok, Err}
use Rattle.serde_json.specs.Data.{Data, Members}
use Rattle.flow_labels.specs.TwoLists.{Text}
use Rattle.lam_value.specs.declared.names.Name.{Name}
use Rattle.lam_bytecode.specs.Codes.{CodeTree}
use Rattle.capabilities.specs.Kinds.{public_of}
use Rattle.lam_machine_terms.specs.Worlds.{World}
use Rattle.lam_machine_effects.specs.declared.stores.Stores.{Stores}
use Rattle.lam_machine_effects.specs.Parts.{first_stores, world_of}
use Rattle.world_doc_terms.specs.declared.version.Version.{Version}
use Rattle.world_doc_terms.specs.Breaks.{NotJson, Reading, ◌>>=◌}
use Rattle.world_doc_terms.specs.Tags.{FirstTags}
use Rattle.world_doc_terms.specs.Entries.{threads_in}
use Rattle.world_doc_stores.specs.Contents.{files_onto}
use Rattle.world_doc.specs.Called.{pipes_onto}

-- a document that was read
abbrev pub document_or : Option Data → Reading Data
document_or None = Err NotJson
document_or (Some d) = Ok d

-- stores with the files and the pipes of a document of a version, and what it calls the pipes
abbrev pub filled : Version → Stores → List (Text × Name) → Members → Reading (Stores × List (Text × Name))
filled version s called ms =
    files_onto version s.names s.files ms
    >>= λ files. pipes_onto s.names (record { queues = s.pipes; called = called }) ms
    >>= λ pipes. Ok (record s { files = files; pipes = pipes.queues }, pipes.called)

-- the world of these stores and the threads of a document
abbrev pub with_threads : CodeTree → Members → Stores × List (Text × Name) → Reading World
with_threads code ms p = threads_in code p.0.names p.1 ms >>= λ threads. Ok (world_of p.0 threads)

-- the world of these stores, what is called so far, and a document
abbrev pub world_onto : CodeTree → Version → Members → Stores → List (Text × Name) → Reading World
world_onto code version ms s called = filled version s called ms >>= with_threads code ms

-- the members that are looked at after the tags
abbrev pub after_tags : CodeTree → Version → Members → FirstTags → Reading World
after_tags code version ms tags = world_onto code version ms (first_stores tags.names (public_of tags.kinds)) []
