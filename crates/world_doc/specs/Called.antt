-- The pipes of a document, by what it calls them.
use Rattle.std.specs.Prelude.{List, map, codes}
use Rattle.std.specs.Borrow.{Bor}
use Rattle.lam_value.specs.declared.names.Name.{Name}
use Rattle.labelled_pipes.specs.Queues.{Queues}
use Rattle.flow_labels.specs.TwoLists.{Text}
use Rattle.serde_json.specs.Data.{Data, Members}
use Rattle.serde_json.specs.Find.{as_array, as_object}
use Rattle.world_doc_terms.specs.Breaks.{Reading, ◌>>=◌, formed, member_as}
use Rattle.world_doc_terms.specs.Stores.{Pipes, with_pipe_item, with_pipes}

abbrev pub called_of : List (Bor Text × Name) → List (Text × Name)
called_of es = map (λ e. (e.0.now, e.1)) es

abbrev pub pipes_of : Queues → List (Bor Text × Name) → Pipes
pipes_of queues es = record { queues = queues; called = called_of es }

-- a pipe of a list
abbrev pub pipe_in : List Text → Pipes → Data → Reading Pipes
pipe_in names p d = formed (codes "pipes") (as_object d) >>= with_pipe_item names p

-- the pipes of a document, beside those that are there
abbrev pub pipes_onto : List Text → Pipes → Members → Reading Pipes
pipes_onto names p ms = member_as (codes "pipes") as_array ms >>= with_pipes names p
