-- What the readers of threads see of what they found.
use Rattle.std.specs.Prelude.{◌≡◌, codes, List, [], ◌∷◌}
use Rattle.std.specs.Borrow.{Bor}
use Rattle.serde_json.specs.Data.{Data}
use Rattle.serde_json.specs.Find.{as_object}
use Rattle.serde_json.specs.View.{view}
use Rattle.serde_json.specs.declared.value.Value.{Value as Json}
use Rattle.flow_labels.specs.TwoLists.{Text}
use Rattle.lam_value.specs.declared.names.Name.{Name}
use Rattle.lam_value.specs.declared.values.Value.{Value}
use Rattle.world_doc_terms.specs.Breaks.{Reading, ◌>>=◌, formed}
use Rattle.world_doc_terms.specs.Entries as entries
use Rattle.world_doc_terms.specs.Entries.{int_of, bool_of, text_of, tag_value, pipe_of, argument, fitting, thread_in}
use Rattle.lam_bytecode.specs.Codes.{CodeTree}
use Rattle.lam_bytecode.specs.declared.unit.ArgKind.{ArgKind}
use Rattle.thread_steps.specs.Threads.{Thread}
use Rattle.world_doc.specs.declared.args.ContentKind.{ContentKind}
use Rattle.world_doc.specs.declared.args.ContentKind.TheVariants.{Int, Bool, Text as Bytes, Tag, Pipe}
use Rattle.world_doc.specs.declared.args.Contents.{Contents}
use Rattle.world_doc.specs.declared.args.Contents.TheVariants.{Nothing, One, More}
use Rattle.world_doc.specs.declared.entry.Entry.{Entry}

-- what a content of a kind is read as
abbrev pub read_as : List Text → List (Text × Name) → ContentKind → Data → Reading Value
read_as names called Int d = int_of d
read_as names called Bool d = bool_of d
read_as names called Bytes d = text_of d
read_as names called Tag d = tag_value names d
read_as names called Pipe d = pipe_of called d

-- one content more
abbrev pub one_more : ContentKind → Bor Json → Contents → Contents
one_more kind value Nothing = One kind value
one_more kind value (One other found) = More
one_more kind value More = More

-- what was found is as many as there are readings, and the one is read so
abbrev pub IsFound : List Text → List (Text × Name) → Contents → List (Reading Value) → Type 0
IsFound names called Nothing rs = rs ≡ []
IsFound names called (One kind value) rs = rs ≡ read_as names called kind (view value.now) ∷ []
IsFound names called More rs = (x : Reading Value) × (y : Reading Value) × (rest : List (Reading Value)) × (rs ≡ x ∷ y ∷ rest)

abbrev pub entry_seen : Entry → entries.Entry
entry_seen e = record { unit = e.unit; takes = e.takes.now }

-- an argument of a list, of its parameter's kind
abbrev pub argument_of : List Text → List (Text × Name) → ArgKind → Data → Reading Value
argument_of names called kind d = formed (codes "args") (as_object d) >>= λ ms. argument names called ms >>= fitting kind

-- a thread of a list
abbrev pub thread_of : CodeTree → List Text → List (Text × Name) → Data → Reading Thread
thread_of code names called d = formed (codes "threads") (as_object d) >>= thread_in code names called
