-- The text of the contents of a document, with rows for its counters.
use Rattle.std.specs.Prelude.{List}
use Rattle.serde_json.specs.Data.{Data}
use Rattle.flow_labels.specs.TwoLists.{Text}
use Rattle.world_save_terms.specs.Rows.{Row}
use Rattle.world_save_terms.specs.Document.{Parts, parts_of, text_of}
use Rattle.world_save_text.specs.declared.document.Contents.{Contents}

abbrev pub parts_with : Contents → List Row → Data → Data → Parts
parts_with c rows pipes threads = parts_of c.names.now c.public.now c.files.now rows pipes threads

abbrev pub text_with : Contents → List Row → Data → Data → Text
text_with c rows pipes threads = text_of (parts_with c rows pipes threads) c.pipes.now c.threads.now
